-- A byte of R's records in two runs of R alone that serve it at different times.
use Rattle.std.proofs.Math.Path.{◌≡◌, refl, sym}
use Rattle.std.proofs.Common.{◌∙◌, arith}
use mathlib.Core.List.{List, [], ◌∷◌, ◌++◌, append_assoc, append-nil}
use Rattle.std.proofs.Math.Option.{Option, none, some}
use Rattle.std.specs.Prelude.{Bool, length, eqb, ltb}
use Rattle.std.proofs.Math.Bool.{true, false}
use Prim.Native.Nat.{ℕ, zero, suc}
use borrow.Author.Tests.{eqb-true, eq-eqb, ltb-false}
use Rattle.machine.specs.Timeline.{header_version, header_type, header_id, header_content, Scan, is_own}
use Rattle.machine.specs.Machine.{HeaderOutcome, Decided, Accepted, Machine, Target, Reading, AtHeader, Slots, Open, Closed, Observation, Effect, event_from, header_decided, header_found, header_routed, header_versioned, header_byte, stream_byte, content_byte, record_byte, as_list, concerns, observed}
use Rattle.machine.proofs.Purge.{header_id_known}
use Rattle.machine.proofs.SimulationRelation.{alone_slots, SameTargets, SameSkip, SameSlot, Readings, BothInHeader, InOwnRecord, InOthersRecord, LifeStep, NothingHappens, IsDeclined, IsAccepted, CallInactive, StepTogether, alone_found}
use Rattle.machine_queue.specs.Waiting.{Queue, HeaderAlike, BeginWaits, Waiting, is_leaving, waits_in, heard_all, written_all, written_in, SameSave}
use Rattle.machine_queue.proofs.AlikeRelation.{Gone, GoneQuite, GoneSoon, Alike, BothNone, BothLive, BothGone, heard, written, StepOfR, save_same, nothing_said}

module _ (M : Machine) (Q : Queue M) (L : Waiting M Q) (R : ℕ) where
  open M use {clean, Request, Stream, Event, on_header, on_byte, on_begin}
  open Q use {Atom, core, leaving, waits, Sound}

  pub true_not_false : ◌≡◌ {A = Bool} true false → ⊥
  true_not_false e = let z : ◌≡◌ {A = ℕ} 0 1 = cc in omega arith

  -- both effects are plain
  pub step_of : {v w v' w' : Option Request} {n : ℕ} {G : Reading M} {oA oB : Option (Observation M)} → Alike M Q R G v' w' → SameSave M Q (heard M Q R (as_list M oA)) (heard M Q R (as_list M oB))
      → (s : List Atom) → waits_in M Q v ++ s ≡ written M Q R (as_list M oA) ++ waits_in M Q v' → waits_in M Q w ++ s ≡ written M Q R (as_list M oB) ++ waits_in M Q w'
      → StepOfR M Q R v w n (Open (alone_slots M R n v') G, oA) (Open (alone_slots M R n w') G, oB)
  step_of {v' = v'} {w' = w'} {G = G} a h s x y =
      record { request = v'; other = w'; reading = G; is_first = refl; is_second = refl; alike = a; same_heard = h; said = s; accounts = x; accounts_alone = y }

  -- ---- what is told writes nothing
  pub event_writes : (e : Option Event) → written M Q R (as_list M (event_from M R e)) ≡ []
  unfolding observed concerns as_list event_from written_all written_in
  event_writes none = refl
  event_writes (some e) = rw (eq-eqb R R refl)

  -- ---- R is not active in either run: they do the same
  -- what an item does where R is not active
  pub record FromNone (F : Reading M) (o : Option (Observation M)) (x : Option Request) : Type 0 where
    pub alike : Alike M Q R F x x
    pub silent : written M Q R (as_list M o) ≡ []
    pub empty : waits_in M Q x ≡ []

  pub from_none : (F : Reading M) {o : Option (Observation M)} {x : Option Request} → LifeStep M R none o x → FromNone F o x
  unfolding observed concerns as_list written_all written_in waits_in
  from_none F NothingHappens = record { alike = BothNone; silent = refl; empty = refl }
  from_none F (IsDeclined g d) = record { alike = BothNone; silent = rw (eq-eqb R R refl); empty = refl }
  from_none F (IsAccepted {f = f} {e = e} g d) =
      let b : BeginWaits M Q (Accepted f e) = rw d at (L.begin_waits R g) in
      record { alike = BothLive b.2 b.2 refl b.0 b.0; silent = rw (eq-eqb R R refl); empty = b.1 }
  from_none F (CallInactive a) = record { alike = BothNone; silent = rw (eq-eqb R R refl) (append-nil _ ∙ L.inactive_writes a); empty = refl }

  pub both_none : {n : ℕ} {l : List ℕ} {m : Scan} {A A' : Effect M} → StepTogether M R none n l m A A' → StepOfR M Q R none none n A' A'
  unfolding waits_in
  both_none {A' = A'} g =
      let f = from_none g.alone_reading g.life in
      let x : waits_in M Q none ++ [] ≡ written M Q R (as_list M A'.1) ++ waits_in M Q g.request = rw (f.silent, f.empty) in
      record {
        request = g.request;
        other = g.request;
        reading = g.alone_reading;
        is_first = g.is_alone;
        is_second = g.is_alone;
        alike = f.alike;
        same_heard = save_same M Q R refl;
        said = [];
        accounts = x;
        accounts_alone = x;
      }

  -- ---- R is not leaving in either run
  module _ (n : ℕ) where
    abbrev alone_with : Request → Slots M
    alone_with r = alone_slots M R n (some r)

    -- nothing happens to R
    live_waits : {r q : Request} (G : Reading M) → Sound r → Sound q → core r ≡ core q → leaving r ≡ false → leaving q ≡ false
        → StepOfR M Q R (some r) (some q) n (Open (alone_with r) G, none) (Open (alone_with q) G, none)
    unfolding observed as_list heard_all written_all
    live_waits G sr sq e x y = step_of (BothLive sr sq e x y) (save_same M Q R refl) [] (nothing_said M Q R _) (nothing_said M Q R _)

    -- R has one core still, and the same is told
    live_told : {r q r' q' : Request} {eA eB : Option Event} (G : Reading M) → Sound r' → Sound q' → core r' ≡ core q' → eA ≡ eB → leaving r' ≡ false → leaving q' ≡ false → waits r' ≡ waits r → waits q' ≡ waits q
        → StepOfR M Q R (some r) (some q) n (Open (alone_with r') G, event_from M R eA) (Open (alone_with q') G, event_from M R eB)
    unfolding waits_in
    live_told {eA = eA} {eB = eB} G sr sq e t x y a b =
        step_of (BothLive sr sq e x y) (save_same M Q R (rw t)) [] (rw (event_writes eA, a) (nothing_said M Q R _)) (rw (event_writes eB, b) (nothing_said M Q R _))

    -- the eighth byte of a header
    live_decided : {r q : Request} (h : List ℕ) (x y : HeaderOutcome Request Stream Event) → header_id h ≡ R → HeaderAlike M Q r q x y
        → StepOfR M Q R (some r) (some q) n (header_decided M x 0 (alone_with r) h) (header_decided M y 0 (alone_with q) h)
    unfolding header_decided
    live_decided h (Decided r' e k) (Decided q' e' k') i a = rw (i, a.2) (live_told _ a.7 a.8 a.0 a.1 a.3 a.4 a.5 a.6)

    live_versioned : {r q : Request} (h : List ℕ) (o : Bool) → header_id h ≡ R → eqb R 0 ≡ false → Sound r → Sound q → core r ≡ core q → leaving r ≡ false → leaving q ≡ false
        → ((header_versioned M o (alone_with r) h).0 ≡ Closed → ⊥)
        → StepOfR M Q R (some r) (some q) n (header_versioned M o (alone_with r) h) (header_versioned M o (alone_with q) h)
    unfolding header_versioned header_routed header_found
    live_versioned h false i z sr sq e x y a = absurd (a refl)
    live_versioned {r} {q} h true i z sr sq e x y a =
        rw (i, z, i, alone_found M R n r, alone_found M R n q)
        (live_decided h (on_header (header_type h) (header_content h) r) (on_header (header_type h) (header_content h) q) i (L.header_alike (header_type h) (header_content h) r q sr sq e x y))

    live_header : {r q : Request} (h l : List ℕ) (o : Bool) → ltb (length h) 8 ≡ o → eqb (header_id (h ++ l)) R ≡ true → eqb R 0 ≡ false → Sound r → Sound q → core r ≡ core q
        → leaving r ≡ false → leaving q ≡ false
        → ((header_byte M o (alone_with r) h).0 ≡ Closed → ⊥)
        → StepOfR M Q R (some r) (some q) n (header_byte M o (alone_with r) h) (header_byte M o (alone_with q) h)
    unfolding header_byte
    live_header h l true w i z sr sq e x y a = live_waits (AtHeader h) sr sq e x y
    live_header h l false w i z sr sq e x y a =
        let j : header_id h ≡ R = sym (header_id_known h l (ltb-false (length h) 8 w)) ∙ eqb-true _ _ i in
        live_versioned h (eqb (header_version h) 1) j z sr sq e x y a

    -- a content byte
    live_content : {T : Slots M} {r q : Request} {s s' : Target M} (c p b : ℕ) → SameTargets M R T (some r) s s' → Sound r → Sound q → core r ≡ core q → leaving r ≡ false → leaving q ≡ false
        → StepOfR M Q R (some r) (some q) n (content_byte M s' c p b (alone_with r)) (content_byte M s' c p b (alone_with q))
    unfolding content_byte stream_byte
    live_content c p b SameSkip sr sq e x y = live_waits _ sr sq e x y
    live_content {r = r} {q = q} c p b (SameSlot {k = k} d) sr sq e x y =
        let a = L.byte_alike k b r q sr sq e x y in live_told _ a.6 a.7 a.0 a.1 a.2 a.3 a.4 a.5

    -- any byte of R's records
    live_byte : {T : Slots M} {r q : Request} {m : Scan} {F F' : Reading M} (l : List ℕ) (b : ℕ) → eqb R 0 ≡ false → Readings M R T (b ∷ l) (some r) m F F'
        → is_own R m (b ∷ l) ≡ true → Sound r → Sound q → core r ≡ core q → leaving r ≡ false → leaving q ≡ false
        → ((record_byte M (alone_with r) F' b).0 ≡ Closed → ⊥)
        → StepOfR M Q R (some r) (some q) n (record_byte M (alone_with r) F' b) (record_byte M (alone_with q) F' b)
    unfolding record_byte is_own
    live_byte l b z (BothInHeader {h = h} true i) o sr sq e x y a = live_header (h ++ b ∷ []) l (ltb (length (h ++ b ∷ [])) 8) refl (rw (append_assoc h (b ∷ []) l) i) z sr sq e x y a
    live_byte l b z (BothInHeader {h = h} false i) o sr sq e x y a = let w : ◌≡◌ {A = Bool} true false = cc in absurd (true_not_false w)
    live_byte l b z (InOwnRecord {c = suc c} {p = p} h) o sr sq e x y a = live_content c p b h sr sq e x y
    live_byte l b z (InOwnRecord {c = zero} {p = suc p} h) o sr sq e x y a = live_waits _ sr sq e x y
    live_byte l b z (InOwnRecord {c = zero} {p = zero} h) o sr sq e x y a = live_waits _ sr sq e x y
    live_byte l b z (InOthersRecord h) o sr sq e x y a = absurd (true_not_false (sym o))

  -- ---- R in any way, but not leaving
  gone_none : {v : Option Request} → Gone M Q R v → is_leaving M Q v ≡ false → v ≡ none
  unfolding is_leaving
  gone_none GoneQuite e = refl
  gone_none (GoneSoon sr x k) e = absurd (true_not_false (sym x ∙ e))

  -- A byte in both runs: what is shown of R is the same, and nothing waits more or less.
  pub byte_of_r : {T : Slots M} {v w : Option Request} {m m' : Scan} {F F' : Reading M} {A : Effect M} (n : ℕ) (l : List ℕ) (b : ℕ) → eqb R 0 ≡ false → Readings M R T (b ∷ l) v m F F'
      → is_own R m (b ∷ l) ≡ true → is_leaving M Q v ≡ false → is_leaving M Q w ≡ false → Alike M Q R F' v w
      → StepTogether M R v n l m' A (record_byte M (alone_slots M R n v) F' b)
      → StepOfR M Q R v w n (record_byte M (alone_slots M R n v) F' b) (record_byte M (alone_slots M R n w) F' b)
  byte_of_r n l b z f o x y BothNone g = both_none g
  byte_of_r {F' = F'} n l b z f o x y (BothLive {r = r} sr sq e i j) g =
      live_byte n l b z f o sr sq e i j (λ d. let k : ◌≡◌ {A = ℕ} 0 1 = cc g.is_alone in omega arith)
  byte_of_r {T} {v} {w} {m} {m'} {F} {F'} {A} n l b z f o x y (BothGone a c i) g = go v w (gone_none a x) (gone_none c y) g
    where
      go : (v w : Option Request) → v ≡ none → w ≡ none → StepTogether M R v n l m' A (record_byte M (alone_slots M R n v) F' b)
          → StepOfR M Q R v w n (record_byte M (alone_slots M R n v) F' b) (record_byte M (alone_slots M R n w) F' b)
      go none none d e g = both_none g
      go none (some w) d e g = let k : ◌≡◌ {A = ℕ} 0 1 = cc in absurd (omega arith)
      go (some v) w d e g = let k : ◌≡◌ {A = ℕ} 0 1 = cc in absurd (omega arith)
