-- Isolation where output may wait: each run serves when it likes.
use Rattle.std.specs.Prelude.{◌≡◌, List, [], ◌∷◌, ◌++◌, Bool, true, false, ◌⊎◌, ℕ, suc, ◌<◌}
use Rattle.std.proofs.Math.Path.{refl}
use Rattle.std.proofs.Common.{ap, sym, ◌∙◌, append-nil, inl, inr, arith, ne_eqb}
use Rattle.std.proofs.Math.Option.{Option, none}
use Rattle.machine.specs.Slots.{contains_none}
use Rattle.machine.specs.Timeline.{Item, ScanHeader, purge}
use Rattle.machine.specs.Machine.{Machine, Reading, AtHeader, Connection, Open, Closed, fresh, Ran, ran_fresh, observed, request_in}
use Rattle.machine.proofs.SimulationRelation.{alone_slots, between_records_lem, contains_request, alone_request}
use Rattle.machine.proofs.Simulation.{NeverOverloaded}
use Rattle.machine.proofs.Isolation.{BetweenRecords, both_between}
use Rattle.machine_queue.specs.Waiting.{Queue, Waiting, waits_in, core_of, Heard, HeardEvent, HeardAnswer, HeardLeaving, SameSave, SaveNone, SaveSame, SaveFirst, SaveSecond, unserved, Quiet, QuietAlone, NoneHeldUp}
use Rattle.machine_queue.proofs.AlikeRelation.{GoneQuite, GoneSoon, Alike, BothNone, BothLive, BothGone, heard, written}
use Rattle.machine_queue.proofs.AlikeRuns.{RunsAlike}
use Rattle.machine_queue.proofs.AlikeItems.{Aligned, aligned}
use Rattle.machine_queue.proofs.AlikeSimulation.{simulated}

module _ (M : Machine) (Q : Queue M) (R : ℕ) where
  open M use {Request, Argument}

  -- B is for R's items of A: without serves its timeline begins what purging leaves of A's, and is all of that, or B is
  -- closed at its end.
  pub record RunsForServed (t u : List (Item Argument)) (s : Connection M) : Type 0 where
    pub rest : List (Item Argument)
    pub prefix : unserved M Q u ++ rest ≡ unserved M Q (purge R t)
    pub all_or_closed : (rest ≡ []) ⊎ (s ≡ Closed)

  -- What is asked of a run because output may wait: no call of R is refused because of what waits, and nothing of R
  -- waits at the end.
  pub record Settled (A : Ran M) : Type 0 where
    pub none_held_up : NoneHeldUp M Q (observed M R A.seen)
    pub nothing_waits : waits_in M Q (request_in M R A.state) ≡ []

  -- What B has in common with A.
  pub record IsolatedServed (t u : List (Item Argument)) (A B : Ran M) : Type 0 where
    pub all_items_lem : unserved M Q u ≡ unserved M Q (purge R t)
    pub ends_between : BetweenRecords M B.state
    -- events and answers, with R's core before and after each call, save for calls between finish and END in either run
    pub same_heard : SameSave M Q (heard M Q R A.seen) (heard M Q R B.seen)
    -- what was written of what R said, in its order
    pub same_written : written M Q R B.seen ≡ written M Q R A.seen
    pub same_core : core_of M Q (request_in M R B.state) ≡ core_of M Q (request_in M R A.state)

  -- ---- without a call between finish and END
  -- no answer is left out
  abbrev pub Plain : List (Heard M Q) → Type 0
  Plain [] = Unit {0}
  Plain (HeardEvent e ∷ l) = Plain l
  Plain (HeardAnswer a n v w ∷ l) = Plain l
  Plain (HeardLeaving a ∷ l) = ⊥

  plain_rest : (x : Heard M Q) (l : List (Heard M Q)) → Plain (x ∷ l) → Plain l
  plain_rest (HeardEvent e) l h = h
  plain_rest (HeardAnswer a n v w) l h = h
  plain_rest (HeardLeaving a) l h = absurd h

  -- Then what is heard is the same list, as in the theorem without a queue.
  pub plain_same : {xs ys : List (Heard M Q)} → SameSave M Q xs ys → Plain xs → Plain ys → xs ≡ ys
  plain_same SaveNone p q = refl
  plain_same (SaveSame {x = x} {xs = xs} {ys = ys} s) p q = ap (λ l. x ∷ l) (plain_same s (plain_rest x xs p) (plain_rest x ys q))
  plain_same (SaveFirst s) p q = absurd p
  plain_same (SaveSecond s) p q = absurd q

module _ (M : Machine) (Q : Queue M) (L : Waiting M Q) (R : ℕ) where
  open M use {Request, Argument}
  open Q use {Atom, leaving, core}

  -- at the end nothing waits, so R is not leaving
  settled_core : {F : Reading M} {v w : Option Request} → Alike M Q R F v w → waits_in M Q v ≡ [] → waits_in M Q w ≡ [] → core_of M Q w ≡ core_of M Q v
  unfolding core_of waits_in
  settled_core BothNone x y = refl
  settled_core (BothLive sr sq e i j) x y = rw e
  settled_core (BothGone GoneQuite GoneQuite i) x y = refl
  settled_core (BothGone GoneQuite (GoneSoon {r = q} sq k l) i) x y = absurd (L.leaving_waits q sq k y)
  settled_core (BothGone (GoneSoon {r = r} sr k l) g i) x y = absurd (L.leaving_waits r sr k x)

  same_written_of : (s w₁ w₂ a b : List Atom) → s ≡ w₁ ++ a → s ≡ w₂ ++ b → a ≡ [] → b ≡ [] → w₂ ≡ w₁
  same_written_of s w₁ w₂ a b e d x y = sym (append-nil w₂) ∙ ap (λ l. w₂ ++ l) (sym y) ∙ sym d ∙ e ∙ ap (λ l. w₁ ++ l) x ∙ append-nil w₁

  -- The theorem. A is the whole run of t, B a run of u; both from a fresh start with the same number of slots; t and u
  -- may serve any id at any place.
  pub isolation_served : (n : ℕ) (t u : List (Item Argument)) → 0 < R → BetweenRecords M (ran_fresh M n t).state → NeverOverloaded M R (ran_fresh M n t)
      → RunsForServed M Q R t u (ran_fresh M n u).state
      → Settled M Q R (ran_fresh M n t) → Settled M Q R (ran_fresh M n u)
      → Quiet M Q R (fresh M (suc n)) (ScanHeader []) t → QuietAlone M Q R (fresh M (suc n)) u
      → IsolatedServed M Q R t u (ran_fresh M n t) (ran_fresh M n u)
  unfolding fresh waits_in
  isolation_served n t u z a room f sa sb qa qb = go f.all_or_closed g.whole refl
    where
      g : Aligned M Q R (ScanHeader []) t u f.rest
      g = aligned M Q R t (ScanHeader []) u f.rest f.prefix

      x : RunsAlike M Q R g.whole none none n (ran_fresh M n t) (ran_fresh M n u)
      x =
          simulated M Q L R g.along n _ none none (AtHeader []) (AtHeader []) (ne_eqb R 0 (omega arith)) (contains_none M.clean R (suc n)) (between_records_lem M R) BothNone
          (record {
            ends_open = λ d. let y : ◌≡◌ {A = ℕ} 0 1 = cc a.is_open in omega arith;
            room = room;
            quiet = qa;
            unheld = sa.none_held_up;
            nothing_waits = sa.nothing_waits;
          })
          (record { quiet = qb; unheld = sb.none_held_up })

      all : f.rest ≡ [] → g.whole ≡ true → IsolatedServed M Q R t u (ran_fresh M n t) (ran_fresh M n u)
      all r w =
          let e = x.ends w in
          let b : e.reading ≡ AtHeader [] = cc (e.is_whole, a.is_open) in
          let c : e.alone_reading ≡ AtHeader [] = both_between M R e.readings b in
          let va : request_in M R (ran_fresh M n t).state ≡ e.request = ap (request_in M R) e.is_whole ∙ contains_request M R e.request e.reading e.contains in
          let vb : request_in M R (ran_fresh M n u).state ≡ e.other = ap (request_in M R) e.is_alone ∙ alone_request M R n e.other e.alone_reading in
          let wa : waits_in M Q e.request ≡ [] = rw va at sa.nothing_waits in
          let wb : waits_in M Q e.other ≡ [] = rw vb at sb.nothing_waits in
          record {
            all_items_lem = sym (append-nil _) ∙ ap (λ l. unserved M Q u ++ l) (sym r) ∙ f.prefix;
            ends_between = record { slots = alone_slots M R n e.other; is_open = e.is_alone ∙ ap (λ y. Open (alone_slots M R n e.other) y) c };
            same_heard = e.same_heard;
            same_written = same_written_of e.said (written M Q R (ran_fresh M n t).seen) (written M Q R (ran_fresh M n u).seen) (waits_in M Q e.request) (waits_in M Q e.other) e.accounts e.accounts_alone wa wb;
            same_core = ap (core_of M Q) vb ∙ settled_core e.alike wa wb ∙ ap (core_of M Q) (sym va);
          }

      go : (f.rest ≡ []) ⊎ ((ran_fresh M n u).state ≡ Closed) → (w : Bool) → g.whole ≡ w → IsolatedServed M Q R t u (ran_fresh M n t) (ran_fresh M n u)
      go y true w = all (g.all w) w
      go (inl r) false w = absurd (g.some_left w r)
      go (inr c) false w = absurd (x.is_open c)
