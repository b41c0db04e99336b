-- Two runs with the same items of R go together, each with serves of its own.
use Rattle.std.specs.Prelude.{◌≡◌, List, [], ◌∷◌, ◌++◌, Bool, true, false, ℕ}
use Rattle.std.proofs.Math.Path.{refl}
use Rattle.std.proofs.Common.{ap, sym, ◌∙◌}
use Rattle.std.proofs.Math.Option.{Option, none}
use Rattle.machine.specs.Slots.{Contains}
use Rattle.machine.specs.Timeline.{Call, RequestCall, Item, ByteItem, CallItem, item_bytes, Scan, scan_next, is_own, is_own_call}
use Rattle.machine.specs.Machine.{Machine, Reading, Slots, Connection, Open, Closed, Observation, RequestEvent, NoticeEvent, CloseEvent, CountAnswer, CallAnswer, Effect, on_item, state_after, as_list, observations, Ran, ran, observed, request_in}
use Rattle.machine.proofs.RunLaws.{observed_append}
use Rattle.machine.proofs.SimulationRelation.{alone_slots, Readings}
use Rattle.machine.proofs.Simulation.{EndsOpen, NeverOverloaded, open_next, room_next}
use Rattle.machine_queue.specs.Waiting.{Queue, waits_in, heard_all, written_all, SameSave, Quiet, QuietAlone, NoneHeldUp}
use Rattle.machine_queue.proofs.Appends.{heard_all_append, written_all_append, accounts_joined}
use Rattle.machine_queue.proofs.AlikeRelation.{Alike, heard, written, StepAlike, save_append}

module _ (M : Machine) (Q : Queue M) (R : ℕ) where
  open M use {clean, Request, Argument}
  open Q use {Atom, core, leaving, waits, keeps, is_serve}

  -- ---- the items of two runs
  -- R's items in both, others' items in the first only, serves in either. Whole: the second has all of R's items; else
  -- it ends before.
  pub data Along (whole : Bool) : Scan → List (Item Argument) → List (Item Argument) → Type 0 where
    AlongDone : {m : Scan} → whole ≡ true → Along whole m [] []
    AlongStop : {m : Scan} {t : List (Item Argument)} → whole ≡ false → Along whole m t []
    AlongByte : {m : Scan} {b : ℕ} {t u : List (Item Argument)} → is_own R m (b ∷ item_bytes t) ≡ true → Along whole (scan_next R m b) t u
        → Along whole m (ByteItem b ∷ t) (ByteItem b ∷ u)
    AlongOthersByte : {m : Scan} {b : ℕ} {t u : List (Item Argument)} → is_own R m (b ∷ item_bytes t) ≡ false → Along whole (scan_next R m b) t u
        → Along whole m (ByteItem b ∷ t) u
    AlongCall : {m : Scan} {a : Argument} {t u : List (Item Argument)} → is_serve a ≡ false → Along whole m t u
        → Along whole m (CallItem (RequestCall R a) ∷ t) (CallItem (RequestCall R a) ∷ u)
    AlongOthersCall : {m : Scan} {c : Call Argument} {t u : List (Item Argument)} → is_own_call R c ≡ false → Along whole m t u → Along whole m (CallItem c ∷ t) u
    AlongServe : {m : Scan} {a : Argument} {t u : List (Item Argument)} → is_serve a ≡ true → Along whole m t u → Along whole m (CallItem (RequestCall R a) ∷ t) u
    AlongServeAlone : {m : Scan} {id : ℕ} {a : Argument} {t u : List (Item Argument)} → is_serve a ≡ true → Along whole m t u → Along whole m t (CallItem (RequestCall id a) ∷ u)

  -- ---- the premises
  -- on the whole run
  pub record Premises (s : Connection M) (m : Scan) (t : List (Item Argument)) : Type 0 where
    pub ends_open : EndsOpen M R (ran M s t)
    pub room : NeverOverloaded M R (ran M s t)
    pub quiet : Quiet M Q R s m t
    pub unheld : NoneHeldUp M Q (observed M R (observations M s t))
    pub nothing_waits : waits_in M Q (request_in M R (state_after M s t)) ≡ []

  -- on the run of R alone
  pub record PremisesAlone (s : Connection M) (u : List (Item Argument)) : Type 0 where
    pub quiet : QuietAlone M Q R s u
    pub unheld : NoneHeldUp M Q (observed M R (observations M s u))

  -- what holds of two lists of observations, holds of each
  unheld_left : (xs ys : List (Observation M)) → NoneHeldUp M Q (xs ++ ys) → NoneHeldUp M Q xs
  unheld_left [] ys h = tt
  unheld_left (RequestEvent id e ∷ xs) ys h = unheld_left xs ys h
  unheld_left (CallAnswer id a x v w ∷ xs) ys h = (h.0, unheld_left xs ys h.1)
  unheld_left (NoticeEvent w ∷ xs) ys h = unheld_left xs ys h
  unheld_left (CloseEvent x ∷ xs) ys h = unheld_left xs ys h
  unheld_left (CountAnswer x ∷ xs) ys h = unheld_left xs ys h

  unheld_right : (xs ys : List (Observation M)) → NoneHeldUp M Q (xs ++ ys) → NoneHeldUp M Q ys
  unheld_right [] ys h = h
  unheld_right (RequestEvent id e ∷ xs) ys h = unheld_right xs ys h
  unheld_right (CallAnswer id a x v w ∷ xs) ys h = unheld_right xs ys h.1
  unheld_right (NoticeEvent w ∷ xs) ys h = unheld_right xs ys h
  unheld_right (CloseEvent x ∷ xs) ys h = unheld_right xs ys h
  unheld_right (CountAnswer x ∷ xs) ys h = unheld_right xs ys h

  pub unheld_here : (s : Connection M) (x : Item Argument) (t : List (Item Argument)) → NoneHeldUp M Q (observed M R (observations M s (x ∷ t)))
      → NoneHeldUp M Q (observed M R (as_list M (on_item M s x).1))
  unfolding observations
  unheld_here s x t h =
      unheld_left (observed M R (as_list M (on_item M s x).1)) (observed M R (observations M (on_item M s x).0 t)) (rw (observed_append M R (as_list M (on_item M s x).1) (observations M (on_item M s x).0 t)) at h)

  unheld_next : (s : Connection M) (x : Item Argument) (t : List (Item Argument)) → NoneHeldUp M Q (observed M R (observations M s (x ∷ t)))
      → NoneHeldUp M Q (observed M R (observations M (on_item M s x).0 t))
  unfolding observations
  unheld_next s x t h =
      unheld_right (observed M R (as_list M (on_item M s x).1)) (observed M R (observations M (on_item M s x).0 t)) (rw (observed_append M R (as_list M (on_item M s x).1) (observations M (on_item M s x).0 t)) at h)

  -- the premises on the rest of a run
  pub byte_premises : (s s' : Connection M) (m : Scan) (b : ℕ) (t : List (Item Argument)) → (on_item M s (ByteItem b)).0 ≡ s' → Premises s m (ByteItem b ∷ t)
      → Premises s' (scan_next R m b) t
  unfolding state_after
  byte_premises s s' m b t e p = record {
    ends_open = open_next M R s s' (ByteItem b) t e p.ends_open;
    room = room_next M R s s' (ByteItem b) t e p.room;
    quiet = rw (← e) p.quiet.1;
    unheld = rw (← e) (unheld_next s (ByteItem b) t p.unheld);
    nothing_waits = rw (← e) p.nothing_waits;
  }

  pub call_premises : (s s' : Connection M) (m : Scan) (c : Call Argument) (t : List (Item Argument)) → (on_item M s (CallItem c)).0 ≡ s' → Premises s m (CallItem c ∷ t)
      → Premises s' m t
  unfolding state_after
  call_premises s s' m c t e p = record {
    ends_open = open_next M R s s' (CallItem c) t e p.ends_open;
    room = room_next M R s s' (CallItem c) t e p.room;
    quiet = rw (← e) p.quiet;
    unheld = rw (← e) (unheld_next s (CallItem c) t p.unheld);
    nothing_waits = rw (← e) p.nothing_waits;
  }

  pub byte_premises_alone : (s s' : Connection M) (b : ℕ) (u : List (Item Argument)) → (on_item M s (ByteItem b)).0 ≡ s' → PremisesAlone s (ByteItem b ∷ u) → PremisesAlone s' u
  byte_premises_alone s s' b u e p = record { quiet = rw (← e) p.quiet.1; unheld = rw (← e) (unheld_next s (ByteItem b) u p.unheld) }

  pub call_premises_alone : (s s' : Connection M) (c : Call Argument) (u : List (Item Argument)) → (on_item M s (CallItem c)).0 ≡ s' → PremisesAlone s (CallItem c ∷ u) → PremisesAlone s' u
  call_premises_alone s s' c u e p = record { quiet = rw (← e) p.quiet; unheld = rw (← e) (unheld_next s (CallItem c) u p.unheld) }

  -- ---- the result
  -- Both runs at their ends, if the second has all of R's items.
  pub record RunsEnd (v w : Option Request) (n : ℕ) (A B : Ran M) : Type 0 where
    pub slots : Slots M
    pub reading : Reading M
    pub request : Option Request
    pub alone_reading : Reading M
    pub scan : Scan
    pub is_whole : A.state ≡ Open slots reading
    pub contains : Contains clean R slots request
    pub readings : Readings M R slots [] request scan reading alone_reading
    pub other : Option Request
    pub is_alone : B.state ≡ Open (alone_slots M R n other) alone_reading
    pub alike : Alike M Q R alone_reading request other
    pub same_heard : SameSave M Q (heard M Q R A.seen) (heard M Q R B.seen)
    pub said : List Atom
    pub accounts : waits_in M Q v ++ said ≡ written M Q R A.seen ++ waits_in M Q request
    pub accounts_alone : waits_in M Q w ++ said ≡ written M Q R B.seen ++ waits_in M Q other

  -- Both runs at their ends.
  pub record RunsAlike (whole : Bool) (v w : Option Request) (n : ℕ) (A B : Ran M) : Type 0 where
    pub is_open : B.state ≡ Closed → ⊥
    pub ends : whole ≡ true → RunsEnd v w n A B

  -- ---- one item and the rest
  heard_append : (xs ys : List (Observation M)) → heard M Q R (xs ++ ys) ≡ heard M Q R xs ++ heard M Q R ys
  heard_append xs ys = ap (heard_all M Q) (observed_append M R xs ys) ∙ heard_all_append M Q (observed M R xs) (observed M R ys)

  written_append : (xs ys : List (Observation M)) → written M Q R (xs ++ ys) ≡ written M Q R xs ++ written M Q R ys
  written_append xs ys = ap (written_all M Q) (observed_append M R xs ys) ∙ written_all_append M Q (observed M R xs) (observed M R ys)

  -- a run begins with an effect, and goes on with these items
  pub record BeginsWith (E : Effect M) (t : List (Item Argument)) (A : Ran M) : Type 0 where
    pub same_state : A.state ≡ state_after M E.0 t
    pub same_seen : A.seen ≡ as_list M E.1 ++ observations M E.0 t

  -- an item, and then the rest
  pub joined : {whole : Bool} {v w : Option Request} {n : ℕ} {l : List ℕ} {m : Scan} {EA EB : Effect M} {A B : Ran M} (t u : List (Item Argument))
      → (g : StepAlike M Q R v w n l m EA EB) → BeginsWith EA t A → BeginsWith EB u B
      → RunsAlike whole g.request g.other n (ran M (Open g.slots g.reading) t) (ran M (Open (alone_slots M R n g.other) g.alone_reading) u)
      → RunsAlike whole v w n A B
  joined {v = v} {w = w} {n = n} {EA = EA} {EB = EB} {A = A} {B = B} t u g p q e = record {
    is_open = λ d. e.is_open (sym (p_b) ∙ d);
    ends = λ k. let x = e.ends k in record {
      slots = x.slots;
      reading = x.reading;
      request = x.request;
      alone_reading = x.alone_reading;
      scan = x.scan;
      is_whole = p.same_state ∙ ap (λ s. state_after M s t) g.is_whole ∙ x.is_whole;
      contains = x.contains;
      readings = x.readings;
      other = x.other;
      is_alone = p_b ∙ x.is_alone;
      alike = x.alike;
      same_heard = rw (seen_a, seen_b, heard_append (as_list M EA.1) _, heard_append (as_list M EB.1) _) (save_append M Q R g.same_heard x.same_heard);
      said = g.said ++ x.said;
      accounts = rw (seen_a, written_append (as_list M EA.1) (observations M (Open g.slots g.reading) t)) (accounts_joined M Q (waits_in M Q v) g.said x.said (written M Q R (as_list M EA.1)) (written M Q R (observations M (Open g.slots g.reading) t)) (waits_in M Q g.request) (waits_in M Q x.request) g.accounts x.accounts);
      accounts_alone = rw (seen_b, written_append (as_list M EB.1) (observations M (Open (alone_slots M R n g.other) g.alone_reading) u)) (accounts_joined M Q (waits_in M Q w) g.said x.said (written M Q R (as_list M EB.1)) (written M Q R (observations M (Open (alone_slots M R n g.other) g.alone_reading) u)) (waits_in M Q g.other) (waits_in M Q x.other) g.accounts_alone x.accounts_alone);
    };
  }
    where
      p_b : B.state ≡ state_after M (Open (alone_slots M R n g.other) g.alone_reading) u
      p_b = q.same_state ∙ ap (λ s. state_after M s u) g.is_alone

      seen_a : A.seen ≡ as_list M EA.1 ++ observations M (Open g.slots g.reading) t
      seen_a = p.same_seen ∙ ap (λ s. as_list M EA.1 ++ observations M s t) g.is_whole

      seen_b : B.seen ≡ as_list M EB.1 ++ observations M (Open (alone_slots M R n g.other) g.alone_reading) u
      seen_b = q.same_seen ∙ ap (λ s. as_list M EB.1 ++ observations M s u) g.is_alone

  -- with an item, and without
  pub with_item_lem : (s : Connection M) (x : Item Argument) (t : List (Item Argument)) → BeginsWith (on_item M s x) t (ran M s (x ∷ t))
  unfolding state_after observations
  with_item_lem s x t = record { same_state = refl; same_seen = refl }

  pub without_item : (s : Connection M) (t : List (Item Argument)) → BeginsWith (s, none) t (ran M s t)
  unfolding as_list
  without_item s t = record { same_state = refl; same_seen = refl }
