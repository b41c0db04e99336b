-- How two runs go together that have the same items of R but serve it at different times: a whole run, with all
-- requests, and a run of R alone. What holds of their states after each item.
use Rattle.std.specs.Prelude.{◌≡◌, List, [], ◌∷◌, ◌++◌, true, false, ℕ}
use Rattle.std.proofs.Math.Path.{refl}
use Rattle.std.proofs.Common.{ap, sym, ◌∙◌, append-nil}
use Rattle.std.proofs.Math.Option.{Option, none, some}
use Rattle.machine.specs.Slots.{Contains}
use Rattle.machine.specs.Timeline.{Scan}
use Rattle.machine.specs.Machine.{Machine, Skip, ToBegin, ToQuery, ToSlot, Reading, AtHeader, PastHeader, Slots, Open, Observation, Effect, as_list, observed, request_in, reading_without, target_without}
use Rattle.machine.proofs.SimulationRelation.{alone_slots, Readings, StepTogether, alone_request}
use Rattle.machine_queue.specs.Waiting.{Queue, waits_in, Heard, heard_all, written_all, SameSave, SaveNone, SaveSame, SaveFirst, SaveSecond}

module _ (M : Machine) (Q : Queue M) (R : ℕ) where
  open M use {clean, Request}
  open Q use {Atom, core, leaving, waits, Sound, keeps}

  -- no content is for a slot or for a BEGIN body
  abbrev pub Idle : Reading M → Type 0
  Idle (AtHeader h) = Unit {0}
  Idle (PastHeader Skip c p) = Unit {0}
  Idle (PastHeader (ToBegin id g) c p) = ⊥
  Idle (PastHeader (ToQuery g) c p) = ⊥
  Idle (PastHeader (ToSlot i k) c p) = ⊥

  -- R is not active, or leaving and its END will not close the connection
  pub data Gone : Option Request → Type 0 where
    GoneQuite : Gone none
    GoneSoon : {r : Request} → Sound r → leaving r ≡ true → keeps (core r) ≡ true → Gone (some r)

  -- R in both runs, with where the run of R alone reads: not active in both; not leaving in both, with one core; gone
  -- from both, perhaps not at the same time.
  pub data Alike (F : Reading M) : Option Request → Option Request → Type 0 where
    BothNone : Alike F none none
    BothLive : {r q : Request} → Sound r → Sound q → core r ≡ core q → leaving r ≡ false → leaving q ≡ false → Alike F (some r) (some q)
    BothGone : {v w : Option Request} → Gone v → Gone w → Idle F → Alike F v w

  -- what is observed of R, as what is compared
  abbrev pub heard : List (Observation M) → List (Heard M Q)
  heard os = heard_all M Q (observed M R os)

  -- and what was written of R
  abbrev pub written : List (Observation M) → List Atom
  written os = written_all M Q (observed M R os)

  -- The effects A in the whole run and B in the run of R alone: the states still go together. v and w are R before, in
  -- the one and in the other.
  pub record StepAlike (v w : Option Request) (n : ℕ) (l : List ℕ) (m : Scan) (A B : Effect M) : Type 0 where
    pub slots : Slots M
    pub reading : Reading M
    pub request : Option Request
    pub alone_reading : Reading M
    pub is_whole : A.0 ≡ Open slots reading
    pub contains : Contains clean R slots request
    pub readings : Readings M R slots l request m reading alone_reading
    pub other : Option Request
    pub is_alone : B.0 ≡ Open (alone_slots M R n other) alone_reading
    pub alike : Alike alone_reading request other
    pub same_heard : SameSave M Q (heard (as_list M A.1)) (heard (as_list M B.1))
    pub said : List Atom
    pub accounts : waits_in M Q v ++ said ≡ written (as_list M A.1) ++ waits_in M Q request
    pub accounts_alone : waits_in M Q w ++ said ≡ written (as_list M B.1) ++ waits_in M Q other

  -- What the run of R alone would do that serves it when the whole run does (A), and what the run does that is looked
  -- at (B): R's requests and where they read then.
  pub record StepOfR (v w : Option Request) (n : ℕ) (A B : Effect M) : Type 0 where
    pub request : Option Request
    pub other : Option Request
    pub reading : Reading M
    pub is_first : A.0 ≡ Open (alone_slots M R n request) reading
    pub is_second : B.0 ≡ Open (alone_slots M R n other) reading
    pub alike : Alike reading request other
    pub same_heard : SameSave M Q (heard (as_list M A.1)) (heard (as_list M B.1))
    pub said : List Atom
    pub accounts : waits_in M Q v ++ said ≡ written (as_list M A.1) ++ waits_in M Q request
    pub accounts_alone : waits_in M Q w ++ said ≡ written (as_list M B.1) ++ waits_in M Q other

  -- ---- first facts
  some_inj : {A : Type 0} {x y : A} → some x ≡ some y → x ≡ y
  some_inj e = cc

  -- the state of a run of R alone tells its request and where it reads
  pub alone_inj : (n : ℕ) (v w : Option Request) (F G : Reading M) → Open (alone_slots M R n v) F ≡ Open (alone_slots M R n w) G → (v ≡ w) × (F ≡ G)
  alone_inj n v w F G e = (sym (alone_request M R n v F) ∙ ap (request_in M R) e ∙ alone_request M R n w G, cc)

  -- the same list, twice
  pub save_refl : (xs : List (Heard M Q)) → SameSave M Q xs xs
  save_refl [] = SaveNone
  save_refl (x ∷ xs) = SaveSame (save_refl xs)

  -- equal lists are the same
  pub save_same : {xs ys : List (Heard M Q)} → xs ≡ ys → SameSave M Q xs ys
  save_same {xs} e = rw (← e) (save_refl xs)

  -- one after another
  pub save_append : {xs ys xs' ys' : List (Heard M Q)} → SameSave M Q xs ys → SameSave M Q xs' ys' → SameSave M Q (xs ++ xs') (ys ++ ys')
  save_append SaveNone s = s
  save_append (SaveSame r) s = SaveSame (save_append r s)
  save_append (SaveFirst r) s = SaveFirst (save_append r s)
  save_append (SaveSecond r) s = SaveSecond (save_append r s)

  -- with nothing for a slot, leaving it changes nothing
  pub idle_without : (i : ℕ) (F : Reading M) → Idle F → reading_without M i F ≡ F
  unfolding reading_without target_without
  idle_without i (AtHeader h) f = refl
  idle_without i (PastHeader Skip c p) f = refl
  idle_without i (PastHeader (ToBegin _ _) c p) f = elim f [ ]
  idle_without i (PastHeader (ToQuery _) c p) f = elim f [ ]
  idle_without i (PastHeader (ToSlot _ _) c p) f = elim f [ ]

  -- nothing said, nothing written
  pub nothing_said : (w : List Atom) → w ++ [] ≡ [] ++ w
  nothing_said w = append-nil w

  -- Both runs, from what R alone would do: the whole run shows the same of R.
  pub step_alike : {v w : Option Request} {n : ℕ} {l : List ℕ} {m : Scan} {A A' B : Effect M} → (g : StepTogether M R v n l m A A') → StepOfR v w n A' B
      → StepAlike v w n l m A B
  step_alike {v} {w} {n} {l} {m} {A} {A'} {B} g h =
      let e = alone_inj n h.request g.request h.reading g.alone_reading (sym h.is_first ∙ g.is_alone) in
      let o = g.same_observed in
      record {
        slots = g.slots;
        reading = g.reading;
        request = g.request;
        alone_reading = g.alone_reading;
        is_whole = g.is_whole;
        contains = g.contains;
        readings = g.readings;
        other = h.other;
        is_alone = h.is_second ∙ ap (λ f. Open (alone_slots M R n h.other) f) e.1;
        alike = rw (← e.0, ← e.1) h.alike;
        same_heard = rw o h.same_heard;
        said = h.said;
        accounts = rw (← e.0, o) h.accounts;
        accounts_alone = h.accounts_alone;
      }
