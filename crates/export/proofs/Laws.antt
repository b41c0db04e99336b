-- What a feed comes to from a place on: a turn of the loop, and its two ends.
use Rattle.std.specs.Prelude.{ℕ, zero, suc, ◌+◌, ◌-◌, ◌≤◌, ◌<◌, ◌≡◌, refl, List, length, take, drop, eqb, leb}
use Rattle.std.proofs.Common.{sym, ap, ◌∙◌, subst, arith, length-take, leb-false, eq-eqb, ne_eqb, le-leb}
use Rattle.std.proofs.lemmas.Bool.{eqb-false, lt-leb}
use Rattle.wire.specs.Test.{by_test}
use Rattle.connection.specs.Step.{State, Stepped, stepped}
use Rattle.connection.proofs.Laws.Progress.{step_uses_no_more}
use Rattle.digest.specs.Digest.{mixed, next_end}
use Rattle.export.specs.Fed.{Fed, fed_in, fed_all}

-- any sufficient bound gives the same
enough : (k j : ℕ) (st : State) (store input : List ℕ) (piece at end sum : ℕ) → length input - at ≤ k → length input - at ≤ j
    → fed_in k st store input piece at end sum ≡ fed_in j st store input piece at end sum
unfolding fed_in
enough zero zero st store input piece at end sum h g = refl
enough zero (suc j) st store input piece at end sum h g = simp (le-leb (length input) at (omega arith))
enough (suc k) zero st store input piece at end sum h g = simp (le-leb (length input) at (omega arith))
enough (suc k) (suc j) st store input piece at end sum h g =
    by_test (leb (length input) at)
    (λ t. simp t)
    (λ t.
    let l = leb-false (length input) at t in
    let e = next_end at end piece (length input) in
    let s = stepped st store (take (e - at) (drop at input)) in
    by_test (eqb s.used 0)
    (λ u. simp (t, u))
    (λ u.
    let some = eqb-false s.used 0 u in
    simp (t, u) (enough k j s.state s.store input piece (at + s.used) e (mixed sum s.refusal s.event) (omega arith) (omega arith))))

-- the feed from a place on
abbrev pub rest_of : State → List ℕ → List ℕ → ℕ → ℕ → ℕ → ℕ → Fed
rest_of st store input piece at end sum = fed_in (length input - at) st store input piece at end sum

pub from_start : (st : State) (store input : List ℕ) (piece : ℕ) → fed_all st store input piece ≡ rest_of st store input piece 0 0 0
unfolding fed_all
from_start st store input piece =
    let n : length input - 0 ≡ length input = omega arith in
    ap (λ (k : ℕ). fed_in k st store input piece 0 0 0) (sym n)

pub at_end : (st : State) (store input : List ℕ) (piece at end sum : ℕ) → length input ≤ at
    → rest_of st store input piece at end sum ≡ record { state = st; store = store; sum = sum }
unfolding fed_in
at_end st store input piece at end sum h =
    let n : length input - at ≡ 0 = omega arith in
    rw n

-- A step over what is left of a piece: it stays within the input; if it read some, the rest from here is the rest
-- from there; if it read nothing, all ends here.
pub record LoopTurn (st : State) (store input : List ℕ) (piece at end sum next : ℕ) (s : Stepped) : Type 0 where
  pub inside : at + s.used ≤ next
  pub onward : (s.used ≡ 0 → ⊥) → rest_of st store input piece at end sum ≡ rest_of s.state s.store input piece (at + s.used) next (mixed sum s.refusal s.event)
  pub halted : s.used ≡ 0 → rest_of st store input piece at end sum ≡ record { state = s.state; store = s.store; sum = sum }

turn_at : (st : State) (store input : List ℕ) (piece at end sum : ℕ) → at < length input → at ≤ next_end at end piece (length input)
    → LoopTurn st store input piece at end sum (next_end at end piece (length input)) (stepped st store (take (next_end at end piece (length input) - at) (drop at input)))
unfolding fed_in
turn_at st store input piece at end sum l a =
    let next = next_end at end piece (length input) in
    let x = take (next - at) (drop at input) in
    let s = stepped st store x in
    let n : length input - at ≡ suc (length input - at - 1) = omega arith in
    let q = lt-leb (length input) at l in
    record {
      inside = omega (arith, length-take (next - at) (drop at input), step_uses_no_more st store x);
      onward =
          λ some.
          ap (λ (k : ℕ). fed_in k st store input piece at end sum) n
          ∙ simp (q, ne_eqb s.used 0 some) (enough (length input - at - 1) (length input - (at + s.used)) s.state s.store input piece (at + s.used) next (mixed sum s.refusal s.event) (omega arith) (omega arith));
      halted = λ z. ap (λ (k : ℕ). fed_in k st store input piece at end sum) n ∙ simp (q, eq-eqb s.used 0 z);
    }

pub turn : (st : State) (store input : List ℕ) (piece at end sum next : ℕ) (s : Stepped) → at < length input → at ≤ next
    → next ≡ next_end at end piece (length input) → s ≡ stepped st store (take (next - at) (drop at input))
    → LoopTurn st store input piece at end sum next s
turn st store input piece at end sum next s l a en es =
    subst (λ (y : Stepped). LoopTurn st store input piece at end sum next y) (sym es)
    (subst (λ (e : ℕ). LoopTurn st store input piece at end sum e (stepped st store (take (e - at) (drop at input)))) (sym en)
    (turn_at st store input piece at end sum l (rw (← en) a)))
