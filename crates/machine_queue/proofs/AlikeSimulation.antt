-- Two runs with the same items of R, each with serves of its own: item by item, and from a fresh start.
use Rattle.std.proofs.Math.Path.{◌≡◌, refl, ap, sym}
use Rattle.std.proofs.Common.{◌∙◌, arith}
use mathlib.Core.List.{List, [], ◌∷◌}
use Rattle.std.proofs.Math.Option.{Option, none, some}
use Rattle.std.specs.Prelude.{Bool, ◌⊎◌, ℕ, eqb}
use Rattle.std.proofs.Math.Bool.{true, false}
use Rattle.std.proofs.Math.Logic.{inl, inr}
use borrow.Author.Tests.{eqb-true, eqb-false, eq-eqb}
use Rattle.machine.specs.Slots.{Absent, lookup, Contains, ContainsVacant, ContainsOther, contains_none, contains_absent}
use Rattle.machine.specs.Timeline.{Call, RequestCall, CountCall, Item, ByteItem, CallItem, item_bytes, Scan, scan_next, is_own, is_own_call}
use Rattle.machine.specs.Machine.{CallOutcome, Stays, Retires, Leaves, Closes, Machine, Reading, Slots, Connection, Open, Effect, call_decided, request_called, record_byte, on_item, state_after, as_list, observations, ran, concerns, observed}
use Rattle.machine.proofs.SimulationRelation.{alone_slots, Readings, StepTogether, contains_request, alone_request, alone_found}
use Rattle.machine.proofs.SimulationContent.{byte_together}
use Rattle.machine.proofs.SimulationCalls.{call_together}
use Rattle.machine.proofs.Simulation.{open_here, room_here}
use Rattle.machine_queue.specs.Waiting.{Queue, CallLeaving, ServeLeaving, Waiting, is_leaving, waits_in, heard_all, written_all, SaveNone, NoneHeldUp}
use Rattle.machine_queue.proofs.AlikeRelation.{Alike, StepAlike, StepOfR, alone_inj, nothing_said, step_alike}
use Rattle.machine_queue.proofs.AlikeBytes.{true_not_false, byte_of_r}
use Rattle.machine_queue.proofs.AlikeCalls.{called_in, call_of_r, serve_first, serve_second}
use Rattle.machine_queue.proofs.AlikeRuns.{Along, AlongDone, AlongStop, AlongByte, AlongOthersByte, AlongCall, AlongOthersCall, AlongServe, AlongServeAlone, Premises, PremisesAlone, unheld_here, byte_premises, call_premises, byte_premises_alone, call_premises_alone, RunsAlike, BeginsWith, joined, with_item_lem, without_item}

module _ (M : Machine) (Q : Queue M) (L : Waiting M Q) (R : ℕ) where
  open M use {clean, Request, Argument, Answer, on_call, when_inactive}
  open Q use {Atom, core, leaving, waits, Sound, keeps, is_serve}

  -- ---- one item of the whole run, beside a run of R alone that serves R when it does
  -- a byte of R's records
  own_byte : {T : Slots M} {v : Option Request} {m : Scan} {F F' : Reading M} (n b : ℕ) (t : List (Item Argument)) → eqb R 0 ≡ false → Contains clean R T v
      → Readings M R T (item_bytes (ByteItem b ∷ t)) v m F F' → is_own R m (b ∷ item_bytes t) ≡ true → Premises M Q R (Open T F) m (ByteItem b ∷ t)
      → StepTogether M R v n (item_bytes t) (scan_next R m b) (on_item M (Open T F) (ByteItem b)) (record_byte M (alone_slots M R n v) F' b)
  unfolding on_item item_bytes
  own_byte {T} {F = F} n b t z s f o p = rw o at (byte_together M R n (item_bytes t) b z s f (open_here M R (Open T F) (ByteItem b) t p.ends_open) (room_here M R (Open T F) (ByteItem b) t p.room))

  -- a byte of others
  others_byte : {T : Slots M} {v : Option Request} {m : Scan} {F F' : Reading M} (n b : ℕ) (t : List (Item Argument)) → eqb R 0 ≡ false → Contains clean R T v
      → Readings M R T (item_bytes (ByteItem b ∷ t)) v m F F' → is_own R m (b ∷ item_bytes t) ≡ false → Premises M Q R (Open T F) m (ByteItem b ∷ t)
      → StepTogether M R v n (item_bytes t) (scan_next R m b) (on_item M (Open T F) (ByteItem b)) (Open (alone_slots M R n v) F', none)
  unfolding on_item item_bytes
  others_byte {T} {F = F} n b t z s f o p = rw o at (byte_together M R n (item_bytes t) b z s f (open_here M R (Open T F) (ByteItem b) t p.ends_open) (room_here M R (Open T F) (ByteItem b) t p.room))

  -- a call that names R
  own_call : {T : Slots M} {v : Option Request} {m : Scan} {F F' : Reading M} (n : ℕ) (a : Argument) (t : List (Item Argument)) → Contains clean R T v
      → Readings M R T (item_bytes t) v m F F' → Premises M Q R (Open T F) m (CallItem (RequestCall R a) ∷ t)
      → StepTogether M R v n (item_bytes t) m (on_item M (Open T F) (CallItem (RequestCall R a))) (called_in M Q L R n a v F')
  unfolding on_item is_own_call
  own_call {T} {F = F} n a t s f p = rw (eq-eqb R R refl) at (call_together M R n (item_bytes t) (RequestCall R a) s f (open_here M R (Open T F) (CallItem (RequestCall R a)) t p.ends_open))

  -- any other call
  others_call : {T : Slots M} {v : Option Request} {m : Scan} {F F' : Reading M} (n : ℕ) (c : Call Argument) (t : List (Item Argument)) → Contains clean R T v
      → Readings M R T (item_bytes t) v m F F' → is_own_call R c ≡ false → Premises M Q R (Open T F) m (CallItem c ∷ t)
      → StepTogether M R v n (item_bytes t) m (on_item M (Open T F) (CallItem c)) (Open (alone_slots M R n v) F', none)
  others_call {T} {F = F} n c t s f o p = rw o at (call_together M R n (item_bytes t) c s f (open_here M R (Open T F) (CallItem c) t p.ends_open))

  -- ---- neither run has an item of R
  stays_alike : {v w : Option Request} (n : ℕ) (F : Reading M) → Alike M Q R F v w → StepOfR M Q R v w n (Open (alone_slots M R n v) F, none) (Open (alone_slots M R n w) F, none)
  unfolding observed as_list heard_all written_all
  stays_alike {v} {w} n F h = record {
    request = v;
    other = w;
    reading = F;
    is_first = refl;
    is_second = refl;
    alike = h;
    same_heard = SaveNone;
    said = [];
    accounts = nothing_said M Q R (waits_in M Q v);
    accounts_alone = nothing_said M Q R (waits_in M Q w);
  }

  -- the whole run serves R
  serves_first : {v w : Option Request} (n : ℕ) (a : Argument) (F : Reading M) → is_serve a ≡ true → Alike M Q R F v w
      → StepOfR M Q R v w n (called_in M Q L R n a v F) (Open (alone_slots M R n w) F, none)
  unfolding observed as_list heard_all written_all
  serves_first {v} {w} n a F s h =
      let o = serve_first M Q L R n a F s h in
      record {
        request = o.request;
        other = w;
        reading = F;
        is_first = o.is_served_lem;
        is_second = refl;
        alike = o.first_alike w h;
        same_heard = rw o.unheard SaveNone;
        said = [];
        accounts = o.accounts;
        accounts_alone = nothing_said M Q R (waits_in M Q w);
      }

  -- the run of R alone serves R, or nobody
  absent_alone : (n id : ℕ) (w : Option Request) → (id ≡ R → ⊥) → lookup id (alone_slots M R n w) ≡ Absent
  absent_alone n id none d = contains_absent clean (ContainsVacant refl (contains_none clean id n))
  absent_alone n id (some r) d = contains_absent clean (ContainsOther (λ e. d (sym e)) (contains_none clean id n))

  serves_second : {T : Slots M} {v w : Option Request} {m : Scan} {l : List ℕ} {F F' : Reading M} (n id : ℕ) (a : Argument) (own : Bool) → eqb id R ≡ own → is_serve a ≡ true → Contains clean R T v
      → Readings M R T l v m F F' → Alike M Q R F' v w
      → StepAlike M Q R v w n l m (Open T F, none) (on_item M (Open (alone_slots M R n w) F') (CallItem (RequestCall id a)))
  unfolding on_item observed as_list heard_all written_all request_called concerns
  serves_second {T} {v} {w} {F = F} {F' = F'} n id a true e s c f h =
      let o = serve_second M Q L R n a F' s h in
      rw (eqb-true id R e) (record {
        slots = T;
        reading = F;
        request = v;
        alone_reading = F';
        is_whole = refl;
        contains = c;
        readings = f;
        other = o.request;
        is_alone = o.is_served_lem;
        alike = o.second_alike v h;
        same_heard = rw o.unheard SaveNone;
        said = [];
        accounts = nothing_said M Q R (waits_in M Q v);
        accounts_alone = o.accounts;
      })
  serves_second {T} {v} {w} {F = F} {F' = F'} n id a false e s c f h =
      rw (absent_alone n id w (eqb-false id R e)) (record {
        slots = T;
        reading = F;
        request = v;
        alone_reading = F';
        is_whole = refl;
        contains = c;
        readings = f;
        other = w;
        is_alone = refl;
        alike = h;
        same_heard = rw e SaveNone;
        said = [];
        accounts = nothing_said M Q R (waits_in M Q v);
        accounts_alone = rw e (nothing_said M Q R (waits_in M Q w));
      })

  -- ---- the END of a request that is leaving does not close a run that ends open and with nothing waiting
  same_request : {v : Option Request} {n : ℕ} {l : List ℕ} {m : Scan} {A : Effect M} (F' : Reading M) → (g : StepTogether M R v n l m A (Open (alone_slots M R n v) F', none)) → g.request ≡ v
  same_request {v = v} {n = n} F' g = sym (alone_inj M Q R n v g.request F' g.alone_reading g.is_alone).0

  -- What a call leaves of a request that is leaving: the connection does not close at its END, or it is still there
  -- with the same core.
  after_call : (n : ℕ) (a : Argument) (r : Request) (F : Reading M) (v : Option Request) (G : Reading M) (x : CallOutcome Request Answer) → CallLeaving M Q a r x
      → (call_decided M x 0 r R a (alone_slots M R n (some r)) F).0 ≡ Open (alone_slots M R n v) G → v ≡ some r
  unfolding call_decided
  after_call n a r F v G (Stays q z) h e = sym (alone_inj M Q R n (some q) v F G e).0 ∙ ap some h.0
  after_call n a r F v G (Retires q z) h e = absurd h
  after_call n a r F v G (Leaves z) h e = absurd h
  after_call n a r F v G (Closes z) h e = absurd h

  record StillLeaving (r : Request) (v : Option Request) : Type 0 where
    request : Request
    is_there : v ≡ some request
    same_core : core request ≡ core r
    is_sound : Sound request
    is_leaving_lem : leaving request ≡ true

  after_serve : (n : ℕ) (a : Argument) (r : Request) (F : Reading M) (v : Option Request) (G : Reading M) (x : CallOutcome Request Answer) → ServeLeaving M Q a r x
      → (call_decided M x 0 r R a (alone_slots M R n (some r)) F).0 ≡ Open (alone_slots M R n v) G → (keeps (core r) ≡ true) ⊎ StillLeaving r v
  unfolding call_decided
  after_serve n a r F v G (Stays q z) h e = inr (record { request = q; is_there = sym (alone_inj M Q R n (some q) v F G e).0; same_core = h.0; is_sound = h.3; is_leaving_lem = h.1 })
  after_serve n a r F v G (Retires q z) h e = absurd h
  after_serve n a r F v G (Leaves z) h e = inl h.0
  after_serve n a r F v G (Closes z) h e = let k : ◌≡◌ {A = ℕ} 0 1 = cc in absurd (omega arith)

  -- from a state with R leaving, over these items
  abbrev KeepsOver : List (Item Argument) → Type 0
  KeepsOver t =
      (T : Slots M) (m : Scan) (F F' : Reading M) (v : Option Request) (r : Request) → v ≡ some r → Contains clean R T v → Readings M R T (item_bytes t) v m F F'
      → Premises M Q R (Open T F) m t → Sound r → leaving r ≡ true → keeps (core r) ≡ true

  keeps_byte : (n b : ℕ) (t : List (Item Argument)) (own : Bool) → eqb R 0 ≡ false → KeepsOver t → (T : Slots M) (m : Scan) (F F' : Reading M) (v : Option Request) (r : Request)
      → is_own R m (b ∷ item_bytes t) ≡ own → v ≡ some r → Contains clean R T v → Readings M R T (item_bytes (ByteItem b ∷ t)) v m F F'
      → Premises M Q R (Open T F) m (ByteItem b ∷ t) → Sound r → leaving r ≡ true → keeps (core r) ≡ true
  unfolding is_leaving
  keeps_byte n b t true z k T m F F' v r o e s f p sr x =
      let y : is_leaving M Q (some r) ≡ false = rw (contains_request M R v F s, e) at (p.quiet.0 o) in
      absurd (true_not_false M Q L R (sym x ∙ y))
  keeps_byte n b t false z k T m F F' v r o e s f p sr x =
      let g = others_byte n b t z s f o p in
      k g.slots _ g.reading g.alone_reading g.request r (same_request F' g ∙ e) g.contains g.readings (byte_premises M Q R (Open T F) _ m b t g.is_whole p) sr x

  keeps_own : (n : ℕ) (a : Argument) (t : List (Item Argument)) (serve : Bool) → KeepsOver t → (T : Slots M) (m : Scan) (F F' : Reading M) (r : Request)
      → is_serve a ≡ serve → Contains clean R T (some r) → Readings M R T (item_bytes t) (some r) m F F'
      → Premises M Q R (Open T F) m (CallItem (RequestCall R a) ∷ t) → Sound r → leaving r ≡ true → keeps (core r) ≡ true
  unfolding request_called
  keeps_own n a t false k T m F F' r o s f p sr x =
      let g = own_call n a t s f p in
      let e : (call_decided M (on_call a r) 0 r R a (alone_slots M R n (some r)) F').0 ≡ Open (alone_slots M R n g.request) g.alone_reading = rw (alone_found M R n r) at g.is_alone in
      let d = after_call n a r F' g.request g.alone_reading (on_call a r) (L.call_leaving a r o sr x) e in
      k g.slots m g.reading g.alone_reading g.request r d g.contains g.readings (call_premises M Q R (Open T F) _ m (RequestCall R a) t g.is_whole p) sr x
  keeps_own n a t true k T m F F' r o s f p sr x = go (after_serve n a r F' g.request g.alone_reading (on_call a r) (L.serve_leaving a r o sr x) e)
    where
      g : StepTogether M R (some r) n (item_bytes t) m (on_item M (Open T F) (CallItem (RequestCall R a))) (called_in M Q L R n a (some r) F')
      g = own_call n a t s f p

      e : (call_decided M (on_call a r) 0 r R a (alone_slots M R n (some r)) F').0 ≡ Open (alone_slots M R n g.request) g.alone_reading
      e = rw (alone_found M R n r) at g.is_alone

      go : (keeps (core r) ≡ true) ⊎ StillLeaving r g.request → keeps (core r) ≡ true
      go (inl y) = y
      go (inr y) =
          let i = k g.slots m g.reading g.alone_reading g.request y.request y.is_there g.contains g.readings (call_premises M Q R (Open T F) _ m (RequestCall R a) t g.is_whole p) y.is_sound y.is_leaving_lem in
          rw (← y.same_core) i

  keeps_call : (n : ℕ) (c : Call Argument) (t : List (Item Argument)) (own : Bool) → KeepsOver t → (T : Slots M) (m : Scan) (F F' : Reading M) (v : Option Request) (r : Request)
      → is_own_call R c ≡ own → v ≡ some r → Contains clean R T v → Readings M R T (item_bytes t) v m F F'
      → Premises M Q R (Open T F) m (CallItem c ∷ t) → Sound r → leaving r ≡ true → keeps (core r) ≡ true
  unfolding is_own_call
  keeps_call n c t false k T m F F' v r o e s f p sr x =
      let g = others_call n c t s f o p in
      k g.slots m g.reading g.alone_reading g.request r (same_request F' g ∙ e) g.contains g.readings (call_premises M Q R (Open T F) _ m c t g.is_whole p) sr x
  keeps_call n (RequestCall id a) t true k T m F F' v r o e s f p sr x =
      let i : id ≡ R = eqb-true id R o in
      keeps_own n a t (is_serve a) k T m F F' r refl (rw e at s) (rw e at f) (rw i at p) sr x
  keeps_call n CountCall t true k T m F F' v r o e s f p sr x = absurd (true_not_false M Q L R (sym o))

  -- Where the run ends open, the END of a request that is leaving will not close it.
  pub leaving_keeps : (n : ℕ) (t : List (Item Argument)) → eqb R 0 ≡ false → KeepsOver t
  unfolding state_after item_bytes waits_in
  leaving_keeps n [] z T m F F' v r e s f p sr x =
      let y : waits_in M Q (some r) ≡ [] = rw (contains_request M R v F s, e) at p.nothing_waits in absurd (L.leaving_waits r sr x y)
  leaving_keeps n (ByteItem b ∷ t) z T m F F' v r e s f p sr x = keeps_byte n b t (is_own R m (b ∷ item_bytes t)) z (leaving_keeps n t z) T m F F' v r refl e s f p sr x
  leaving_keeps n (CallItem c ∷ t) z T m F F' v r e s f p sr x = keeps_call n c t (is_own_call R c) (leaving_keeps n t z) T m F F' v r refl e s f p sr x

  -- ---- a call of R in the run of R alone
  alone_unheld : (n : ℕ) (a : Argument) (u : List (Item Argument)) (w : Option Request) (F : Reading M)
      → NoneHeldUp M Q (observed M R (observations M (Open (alone_slots M R n w) F) (CallItem (RequestCall R a) ∷ u)))
      → NoneHeldUp M Q (observed M R (as_list M (called_in M Q L R n a w F).1))
  unfolding on_item
  alone_unheld n a u w F h = unheld_here M Q R (Open (alone_slots M R n w) F) (CallItem (RequestCall R a)) u h

  alone_begins : (n : ℕ) (a : Argument) (u : List (Item Argument)) (w : Option Request) (F : Reading M)
      → BeginsWith M Q R (called_in M Q L R n a w F) u (ran M (Open (alone_slots M R n w) F) (CallItem (RequestCall R a) ∷ u))
  unfolding on_item
  alone_begins n a u w F = with_item_lem M Q R (Open (alone_slots M R n w) F) (CallItem (RequestCall R a)) u

  alone_next : (n : ℕ) (a : Argument) (u : List (Item Argument)) (w : Option Request) (F : Reading M) {s : Connection M} → (called_in M Q L R n a w F).0 ≡ s
      → PremisesAlone M Q R (Open (alone_slots M R n w) F) (CallItem (RequestCall R a) ∷ u) → PremisesAlone M Q R s u
  unfolding on_item
  alone_next n a u w F {s} e q = call_premises_alone M Q R (Open (alone_slots M R n w) F) s (RequestCall R a) u e q

  -- ---- two runs
  pub simulated : {whole : Bool} {m : Scan} {t u : List (Item Argument)} → Along M Q R whole m t u → (n : ℕ) (T : Slots M) (v w : Option Request) (F F' : Reading M) → eqb R 0 ≡ false
      → Contains clean R T v → Readings M R T (item_bytes t) v m F F' → Alike M Q R F' v w
      → Premises M Q R (Open T F) m t → PremisesAlone M Q R (Open (alone_slots M R n w) F') u
      → RunsAlike M Q R whole v w n (ran M (Open T F) t) (ran M (Open (alone_slots M R n w) F') u)
  unfolding state_after observations item_bytes observed heard_all written_all on_item
  simulated {m = m} (AlongDone e) n T v w F F' z s f h p q = record {
    is_open = λ d. let k : ◌≡◌ {A = ℕ} 0 1 = cc in omega arith;
    ends = λ k. record {
      slots = T;
      reading = F;
      request = v;
      alone_reading = F';
      scan = m;
      is_whole = refl;
      contains = s;
      readings = f;
      other = w;
      is_alone = refl;
      alike = h;
      same_heard = SaveNone;
      said = [];
      accounts = nothing_said M Q R (waits_in M Q v);
      accounts_alone = nothing_said M Q R (waits_in M Q w);
    };
  }
  simulated (AlongStop e) n T v w F F' z s f h p q = record {
    is_open = λ d. let k : ◌≡◌ {A = ℕ} 0 1 = cc in omega arith;
    ends = λ k. absurd (true_not_false M Q L R (sym k ∙ e));
  }
  simulated {m = m} (AlongByte {b = b} {t = t} {u = u} o x) n T v w F F' z s f h p q =
      let g = own_byte n b t z s f o p in
      let lv : is_leaving M Q v ≡ false = rw (contains_request M R v F s) at (p.quiet.0 o) in
      let lw : is_leaving M Q w ≡ false = rw (alone_request M R n w F') at q.quiet.0 in
      let a = step_alike M Q R g (byte_of_r M Q L R n (item_bytes t) b z f o lv lw h g) in
      joined M Q R t u a (with_item_lem M Q R (Open T F) (ByteItem b) t) (with_item_lem M Q R (Open (alone_slots M R n w) F') (ByteItem b) u)
      (simulated x n a.slots a.request a.other a.reading a.alone_reading z a.contains a.readings a.alike
      (byte_premises M Q R (Open T F) _ m b t a.is_whole p) (byte_premises_alone M Q R (Open (alone_slots M R n w) F') _ b u a.is_alone q))
  simulated {m = m} (AlongOthersByte {b = b} {t = t} {u = u} o x) n T v w F F' z s f h p q =
      let g = others_byte n b t z s f o p in
      let a = step_alike M Q R g (stays_alike n F' h) in
      joined M Q R t u a (with_item_lem M Q R (Open T F) (ByteItem b) t) (without_item M Q R (Open (alone_slots M R n w) F') u)
      (simulated x n a.slots a.request a.other a.reading a.alone_reading z a.contains a.readings a.alike
      (byte_premises M Q R (Open T F) _ m b t a.is_whole p) (rw (← a.is_alone) q))
  simulated {m = m} (AlongCall {a = c} {t = t} {u = u} o x) n T v w F F' z s f h p q =
      let g = own_call n c t s f p in
      let next = call_premises M Q R (Open T F) _ m (RequestCall R c) t g.is_whole p in
      let hv : NoneHeldUp M Q (observed M R (as_list M (called_in M Q L R n c v F').1)) = rw (← g.same_observed) (unheld_here M Q R (Open T F) (CallItem (RequestCall R c)) t p.unheld) in
      let hw : NoneHeldUp M Q (observed M R (as_list M (called_in M Q L R n c w F').1)) = alone_unheld n c u w F' q.unheld in
      let k : (r : Request) → g.request ≡ some r → Sound r → leaving r ≡ true → keeps (core r) ≡ true =
      λ r e y₀ y. leaving_keeps n t z g.slots m g.reading g.alone_reading g.request r e g.contains g.readings next y₀ y in
      let a = step_alike M Q R g (call_of_r M Q L R n c o f h hv hw g k) in
      joined M Q R t u a (with_item_lem M Q R (Open T F) (CallItem (RequestCall R c)) t) (alone_begins n c u w F')
      (simulated x n a.slots a.request a.other a.reading a.alone_reading z a.contains a.readings a.alike
      (call_premises M Q R (Open T F) _ m (RequestCall R c) t a.is_whole p) (alone_next n c u w F' a.is_alone q))
  simulated {m = m} (AlongOthersCall {c = c} {t = t} {u = u} o x) n T v w F F' z s f h p q =
      let g = others_call n c t s f o p in
      let a = step_alike M Q R g (stays_alike n F' h) in
      joined M Q R t u a (with_item_lem M Q R (Open T F) (CallItem c) t) (without_item M Q R (Open (alone_slots M R n w) F') u)
      (simulated x n a.slots a.request a.other a.reading a.alone_reading z a.contains a.readings a.alike
      (call_premises M Q R (Open T F) _ m c t a.is_whole p) (rw (← a.is_alone) q))
  simulated {m = m} (AlongServe {a = c} {t = t} {u = u} o x) n T v w F F' z s f h p q =
      let g = own_call n c t s f p in
      let a = step_alike M Q R g (serves_first n c F' o h) in
      joined M Q R t u a (with_item_lem M Q R (Open T F) (CallItem (RequestCall R c)) t) (without_item M Q R (Open (alone_slots M R n w) F') u)
      (simulated x n a.slots a.request a.other a.reading a.alone_reading z a.contains a.readings a.alike
      (call_premises M Q R (Open T F) _ m (RequestCall R c) t a.is_whole p) (rw (← a.is_alone) q))
  simulated {m = m} (AlongServeAlone {id = id} {a = c} {t = t} {u = u} o x) n T v w F F' z s f h p q =
      let a = serves_second n id c (eqb id R) refl o s f h in
      joined M Q R t u a (without_item M Q R (Open T F) t) (with_item_lem M Q R (Open (alone_slots M R n w) F') (CallItem (RequestCall id c)) u)
      (simulated x n a.slots a.request a.other a.reading a.alone_reading z a.contains a.readings a.alike
      (rw (← a.is_whole) p) (call_premises_alone M Q R (Open (alone_slots M R n w) F') _ (RequestCall id c) u a.is_alone q))
