-- The two runs go together over a whole timeline.
use Rattle.std.specs.Prelude.{◌≡◌, refl, Bool, ℕ, suc, ◌<◌, eqb, if◌then◌else◌}
use Rattle.std.proofs.Math.Path.{ap, sym}
use Rattle.std.proofs.Common.{◌∙◌, subst, arith, ne_eqb}
use mathlib.Core.List.{List, [], ◌∷◌, ◌++◌, Memᴰ}
use Rattle.std.proofs.Math.Option.{Option, none}
use Rattle.std.proofs.Math.Bool.{true, false}
use Rattle.machine.specs.Slots.{Contains, contains_none}
use Rattle.machine.specs.Timeline.{Item, ByteItem, CallItem, item_bytes, Scan, ScanHeader, scan_next, is_own, is_own_call, purge_from, purge}
use Rattle.machine.specs.Machine.{Machine, Reading, AtHeader, Slots, Connection, Open, Closed, fresh, Observation, RequestEvent, on_item, state_after, as_list, observations, Ran, ran, ran_fresh, observed}
use Rattle.machine.proofs.RunLaws.{closed_stays, observed_append}
use Rattle.machine.proofs.SimulationRelation.{alone_slots, Readings, LifeStep, StepTogether, between_records_lem, LeftOpen, NotOverloaded, when_own}
use Rattle.machine.proofs.SimulationContent.{byte_together}
use Rattle.machine.proofs.SimulationCalls.{call_together}

module _ (M : Machine) (R : ℕ) where
  open M use {clean, Request, overloaded}

  -- The life of R: the steps of its machine one after another, with all that is observed of it.
  pub data Lifetime : Option Request → List (Observation M) → Option Request → Type 0 where
    LifeEnds : {v : Option Request} → Lifetime v [] v
    LifeGoesOn : {v w x : Option Request} {o : Option (Observation M)} {os : List (Observation M)} → LifeStep M R v o w → Lifetime w os x
        → Lifetime v (as_list M o ++ os) x

  -- Both runs at their ends: as after each item, with all that was observed.
  pub record RunTogether (v₀ : Option Request) (n : ℕ) (A B : Ran M) : Type 0 where
    pub slots : Slots M
    pub reading : Reading M
    pub request : Option Request
    pub alone_reading : Reading M
    pub scan : Scan
    pub is_whole : A.state ≡ Open slots reading
    pub is_alone : B.state ≡ Open (alone_slots M R n request) alone_reading
    pub contains : Contains clean R slots request
    pub readings : Readings M R slots [] request scan reading alone_reading
    pub same_observed : observed M R A.seen ≡ observed M R B.seen
    pub life : Lifetime v₀ B.seen request

  -- one item and the rest
  observed_joined : (xs ys xs' ys' : List (Observation M)) → observed M R xs ≡ observed M R xs' → observed M R ys ≡ observed M R ys'
      → observed M R (xs ++ ys) ≡ observed M R (xs' ++ ys')
  observed_joined xs ys xs' ys' e d = cc (observed_append M R xs ys, observed_append M R xs' ys')

  item_then_rest : {v : Option Request} {l : List ℕ} {m : Scan} (n : ℕ) (t u : List (Item M.Argument)) (x : Item M.Argument) (k : Bool) (A B : Connection M)
      → (g : StepTogether M R v n l m (on_item M A x) (when_own M R k (on_item M B x) B))
      → RunTogether g.request n (ran M (Open g.slots g.reading) t) (ran M (Open (alone_slots M R n g.request) g.alone_reading) u)
      → RunTogether v n (ran M A (x ∷ t)) (ran M B (if k then x ∷ u else u))
  unfolding state_after observations as_list
  item_then_rest n t u x true A B g e = record {
    slots = e.slots;
    reading = e.reading;
    request = e.request;
    alone_reading = e.alone_reading;
    scan = e.scan;
    is_whole = ap (λ w. state_after M w t) g.is_whole ∙ e.is_whole;
    is_alone = ap (λ w. state_after M w u) g.is_alone ∙ e.is_alone;
    contains = e.contains;
    readings = e.readings;
    same_observed =
        observed_joined (as_list M (on_item M A x).1) (observations M (on_item M A x).0 t) (as_list M (on_item M B x).1) (observations M (on_item M B x).0 u) g.same_observed
        (ap (λ w. observed M R (observations M w t)) g.is_whole ∙ e.same_observed ∙ sym (ap (λ w. observed M R (observations M w u)) g.is_alone));
    life = LifeGoesOn g.life (subst (λ w. Lifetime g.request (observations M w u) e.request) (sym g.is_alone) e.life);
  }
  item_then_rest n t u x false A B g e = record {
    slots = e.slots;
    reading = e.reading;
    request = e.request;
    alone_reading = e.alone_reading;
    scan = e.scan;
    is_whole = ap (λ w. state_after M w t) g.is_whole ∙ e.is_whole;
    is_alone = ap (λ w. state_after M w u) g.is_alone ∙ e.is_alone;
    contains = e.contains;
    readings = e.readings;
    same_observed = observed_joined (as_list M (on_item M A x).1) (observations M (on_item M A x).0 t) [] (observations M B u) g.same_observed
        (ap (λ w. observed M R (observations M w t)) g.is_whole ∙ e.same_observed ∙ sym (ap (λ w. observed M R (observations M w u)) g.is_alone));
    life = LifeGoesOn g.life (subst (λ w. Lifetime g.request (observations M w u) e.request) (sym g.is_alone) e.life);
  }

  -- ---- the premises on the whole run
  -- it ends open
  abbrev pub EndsOpen : Ran M → Type 0
  EndsOpen A = A.state ≡ Closed → ⊥

  -- R is nowhere refused for want of a slot
  abbrev pub NeverOverloaded : Ran M → Type 0
  NeverOverloaded A = Memᴰ (RequestEvent R overloaded) A.seen → ⊥

  -- where they hold of a run, they hold of its first item and of the rest
  pub open_here : (A : Connection M) (x : Item M.Argument) (t : List (Item M.Argument)) → EndsOpen (ran M A (x ∷ t)) → LeftOpen M R (on_item M A x)
  unfolding state_after
  open_here A x t a e = a (ap (λ w. state_after M w t) e ∙ closed_stays M t)

  pub open_next : (A A' : Connection M) (x : Item M.Argument) (t : List (Item M.Argument)) → (on_item M A x).0 ≡ A' → EndsOpen (ran M A (x ∷ t)) → EndsOpen (ran M A' t)
  unfolding state_after
  open_next A A' x t e a d = a (ap (λ w. state_after M w t) e ∙ d)

  pub room_here : (A : Connection M) (x : Item M.Argument) (t : List (Item M.Argument)) → NeverOverloaded (ran M A (x ∷ t)) → NotOverloaded M R (on_item M A x)
  unfolding observations as_list
  room_here A x t r h =
      let m : Memᴰ (RequestEvent R overloaded) (as_list M (on_item M A x).1) = rw h (mathlib.Core.List.Memᴰ.head refl) in
      r (mathlib.Core.List.Memᴰ.append_left _ m)

  pub room_next : (A A' : Connection M) (x : Item M.Argument) (t : List (Item M.Argument)) → (on_item M A x).0 ≡ A' → NeverOverloaded (ran M A (x ∷ t)) → NeverOverloaded (ran M A' t)
  unfolding observations
  room_next A A' x t e r h =
      let h' : Memᴰ (RequestEvent R overloaded) (observations M (on_item M A x).0 t) = rw e h in
      r (mathlib.Core.List.Memᴰ.append_right (as_list M (on_item M A x).1) h')

  -- From states that go together, with any timeline in the whole run and the purged one in the other.
  pub simulation : {T : Slots M} {v : Option Request} {m : Scan} {F F' : Reading M} (n : ℕ) (t : List (Item M.Argument)) → eqb R 0 ≡ false → Contains clean R T v
      → Readings M R T (item_bytes t) v m F F' → EndsOpen (ran M (Open T F) t) → NeverOverloaded (ran M (Open T F) t)
      → RunTogether v n (ran M (Open T F) t) (ran M (Open (alone_slots M R n v) F') (purge_from R m t))
  unfolding state_after observations item_bytes purge_from on_item
  simulation {T} {v} {m} n [] z s f a r =
      record { slots = T; reading = _; request = v; alone_reading = _; scan = m; is_whole = refl; is_alone = refl; contains = s; readings = f; same_observed = refl; life = LifeEnds }
  simulation {T} {v} {m} {F} {F'} n (ByteItem b ∷ t) z s f a r =
      let g = byte_together M R n (item_bytes t) b z s f (open_here (Open T F) (ByteItem b) t a) (room_here (Open T F) (ByteItem b) t r) in
      item_then_rest n t (purge_from R (scan_next R m b) t) (ByteItem b) (is_own R m (b ∷ item_bytes t)) (Open T F) (Open (alone_slots M R n v) F') g
      (simulation {T = g.slots} {v = g.request} {m = scan_next R m b} {F = g.reading} {F' = g.alone_reading} n t z g.contains g.readings (open_next (Open T F) _ (ByteItem b) t g.is_whole a) (room_next (Open T F) _ (ByteItem b) t g.is_whole r))
  simulation {T} {v} {m} {F} {F'} n (CallItem c ∷ t) z s f a r =
      let g = call_together M R n (item_bytes t) c s f (open_here (Open T F) (CallItem c) t a) in
      item_then_rest n t (purge_from R m t) (CallItem c) (is_own_call R c) (Open T F) (Open (alone_slots M R n v) F') g
      (simulation {T = g.slots} {v = g.request} {m = m} {F = g.reading} {F' = g.alone_reading} n t z g.contains g.readings (open_next (Open T F) _ (CallItem c) t g.is_whole a) (room_next (Open T F) _ (CallItem c) t g.is_whole r))

  -- From a fresh start: the purged run begins between two records too.
  pub simulation_from_fresh : (n : ℕ) (t : List (Item M.Argument)) → 0 < R → EndsOpen (ran_fresh M n t) → NeverOverloaded (ran_fresh M n t)
      → RunTogether none n (ran_fresh M n t) (ran_fresh M n (purge R t))
  unfolding fresh
  simulation_from_fresh n t z a r =
      simulation {v = none} {m = ScanHeader []} {F = AtHeader []} {F' = AtHeader []} n t (ne_eqb R 0 (omega arith)) (contains_none clean R (suc n)) (between_records_lem M R) a r
