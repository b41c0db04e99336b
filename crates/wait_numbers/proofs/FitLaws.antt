-- The quick test of what waits tells what its part of row 9 tells: both say the same record of facts.
use Prim.Native.Nat.{ℕ, zero, suc, ◌+◌, ◌-◌, ◌≤◌, ◌<◌}
use Rattle.std.specs.Prelude.{◌≡◌, Bool, true, false, not, ◌||◌, List, get_or, leb, ltb, eqb, if◌then◌else◌}
use Rattle.std.proofs.Math.Path.{refl}
use Rattle.std.proofs.Common.{sym, ap, ◌∙◌, arith}
use Rattle.std.specs.Int.Bits.{bit_and}
use borrow.Author.Tests.{leb-true, leb-false, le-leb, ltb-true, ltb-false, le-ltb, eqb-true, eqb-false, ne_eqb, not-true}
use Rattle.wire.specs.Test.{by_test}
use Rattle.slot_word.specs.Word.{taken}
use Rattle.slot_word.proofs.WordLaws.{taken_out}
use Rattle.slot_word.proofs.WordOps.{taken_or, within, apart}
use Rattle.connection.specs.Sizes.{SLOTS}
use Rattle.connection.proofs.Laws.ShapeLaws.{true_and, and_true}
use Rattle.slot_check.specs.Quick.{any_of, TakenBelow}
use Rattle.slot_check.proofs.QuickLaws.{none_of, of_none}
use Rattle.queue_slot.specs.Wait.{ROOM, some_waits}
use Rattle.queue.specs.Numbers.{HOLDING, OUT_ENDS, ERR_ENDS, ERR_FIRST, LEAVING, nobody_waits}
use Rattle.queue.specs.Numbers.{bit_at, count_at, ends_by, front_at, last_at}
use Rattle.queue.specs.Calls.{wait_fits, waits_fit}
use Rattle.wait_numbers.specs.Slot.{waits_in, some_word, is_long, is_over}
use Rattle.wait_numbers.proofs.SlotLaws.{count_none, count_short}

-- anything waits where data does, or the end of a stream, or END
waits_by : (holds out err first last : Bool) (n : ℕ)
    → (((holds || out) || err) || last) ≡ some_waits (if holds then suc n else 0) (ends_by out err first) last
waits_by true out err first last n = simp (ne_eqb (suc n) 0 (λ e. omega arith))
waits_by false true true true last n = refl
waits_by false true true false last n = refl
waits_by false true false first last n = refl
waits_by false false true first last n = refl
waits_by false false false first last n = refl

-- the word of all that waits has the bit of a slot where anything waits in it
pub some_taken : (waits : List ℕ) (i : ℕ) → taken i (some_word waits) ≡ waits_in waits i
unfolding count_at front_at last_at
some_taken waits i =
    rw (
      taken_or i _ (get_or waits LEAVING 0),
      taken_or i _ (get_or waits ERR_ENDS 0),
      taken_or i (get_or waits HOLDING 0) (get_or waits OUT_ENDS 0),
    )
    (waits_by
    (bit_at waits HOLDING i)
    (bit_at waits OUT_ENDS i)
    (bit_at waits ERR_ENDS i)
    (bit_at waits ERR_FIRST i)
    (bit_at waits LEAVING i)
    (get_or waits i 0))

-- so that bit tells it
pub waits_told : (waits : List ℕ) (i some : ℕ) {b : Bool} → some ≡ some_word waits → b ≡ taken i some
    → b ≡ waits_in waits i
waits_told waits i some e t = t ∙ ap (taken i) e ∙ some_taken waits i

-- ---- what row 9 says of what waits
-- nothing waits in a free slot
pub record Housed (waits : List ℕ) (occupied : ℕ) : Type 0 where
  pub homes : (i : ℕ) → i < SLOTS → taken i occupied ≡ false → waits_in waits i ≡ false

-- and in each slot at most ROOM data bytes
record Fit (waits : List ℕ) (occupied : ℕ) : Type 0 where
  counts : (i : ℕ) → i < SLOTS → count_at waits i ≤ ROOM
  housing : Housed waits occupied

module _ (waits : List ℕ) (occupied : ℕ) where
  -- a slot of which this holds fits
  one_fits : (i : ℕ) → count_at waits i ≤ ROOM → (taken i occupied ≡ false → waits_in waits i ≡ false)
      → wait_fits waits occupied i ≡ true
  unfolding wait_fits
  one_fits i count home =
      by_test (taken i occupied)
      (λ t. simp (le-leb (count_at waits i) ROOM count, t))
      (λ t. simp (le-leb (count_at waits i) ROOM count, t, home t))

  -- and it holds of a slot that fits
  fits_one : (i : ℕ) → wait_fits waits occupied i ≡ true
      → (count_at waits i ≤ ROOM) × (taken i occupied ≡ false → waits_in waits i ≡ false)
  unfolding wait_fits
  fits_one i e =
      let b = and_true (leb (count_at waits i) ROOM) _ e in
      (leb-true (count_at waits i) ROOM b.0, λ t. not-true (waits_in waits i) (simp t at b.1))

  -- where each of n slots fits, they all do
  all_fit : (n i : ℕ) → ((k : ℕ) → i ≤ k → k < i + n → wait_fits waits occupied k ≡ true)
      → waits_fit n waits occupied i ≡ true
  unfolding waits_fit
  all_fit zero i f = refl
  all_fit (suc n) i f =
      true_and (wait_fits waits occupied i) (waits_fit n waits occupied (i + 1))
      (f i (omega arith) (omega arith))
      (all_fit n (i + 1) (λ k a b. f k (omega arith) (omega arith)))

  -- where they all do, each does
  fit_all : (n i : ℕ) → waits_fit n waits occupied i ≡ true → (k : ℕ) → i ≤ k → k < i + n
      → wait_fits waits occupied k ≡ true
  unfolding waits_fit
  fit_all zero i e k a b = absurd (omega arith)
  fit_all (suc n) i e k a b =
      let p = and_true (wait_fits waits occupied i) (waits_fit n waits occupied (i + 1)) e in
      by_test (eqb i k)
      (λ t. rw (← eqb-true i k t) p.0)
      (λ t. let d = eqb-false i k t in fit_all n (i + 1) p.1 k (omega arith) (omega arith))

  -- A test that says that what waits fits is its part of row 9.
  row : (b : Bool) → (b ≡ true → Fit waits occupied) → (Fit waits occupied → b ≡ true)
      → b ≡ waits_fit SLOTS waits occupied 0
  row b says holds =
      by_test (waits_fit SLOTS waits occupied 0)
      (λ t. holds (fit t) ∙ sym t)
      (λ t. by_test b
      (λ u. let f = fits (says u) in let z : ◌≡◌ {A = ℕ} 0 1 = cc (t, f) in absurd (omega arith))
      (λ u. u ∙ sym t))
    where
      fit : waits_fit SLOTS waits occupied 0 ≡ true → Fit waits occupied
      fit e =
          record { counts = λ i h. (each i h).0; housing = record { homes = λ i h. (each i h).1 } }
        where
          each : (i : ℕ) → i < SLOTS
              → (count_at waits i ≤ ROOM) × (taken i occupied ≡ false → waits_in waits i ≡ false)
          each i h = fits_one i (fit_all SLOTS 0 e i (omega arith) (omega arith))

      fits : Fit waits occupied → waits_fit SLOTS waits occupied 0 ≡ true
      fits f = all_fit SLOTS 0 (λ i a b. one_fits i (f.counts i (omega arith)) (f.housing.homes i (omega arith)))

  -- ---- the ways of the quick test
  -- The word of all that waits has a slot that is free: what waits does not fit.
  pub stray_row : occupied < 65536 → (some : ℕ) → some ≡ some_word waits → (bit_and some (65535 - occupied) ≡ 0 → ⊥)
      → false ≡ waits_fit SLOTS waits occupied 0
  stray_row small some is stray =
      row false
      (λ u. let z : ◌≡◌ {A = ℕ} 0 1 = cc in absurd (omega arith))
      (λ f.
      let free = f.housing.homes in
      absurd (stray (apart 16 some occupied small (λ i h t. rw is (some_taken waits i ∙ free i h t)))))

  -- It has none: nothing waits in a free slot.
  pub housed : occupied < 65536 → (some : ℕ) → some ≡ some_word waits → bit_and some (65535 - occupied) ≡ 0
      → Housed waits occupied
  housed small some is none =
      record { homes = λ i h t. sym (some_taken waits i) ∙ rw (← is) (within 16 some occupied i small none h t) }

  -- Then what is left are the counts.
  module _ (at_home : Housed waits occupied) where
    -- at most ROOM in each slot, and all is well
    fit : ((i : ℕ) → i < SLOTS → count_at waits i ≤ ROOM) → Fit waits occupied
    fit counts = record { counts = counts; housing = at_home }

    -- where no data waits, what waits fits
    pub empty_row : get_or waits HOLDING 0 ≡ 0 → true ≡ waits_fit SLOTS waits occupied 0
    empty_row e =
        row true (λ _. fit (λ i h. omega (arith, count_none waits i (free i)))) (λ _. refl)
      where
        free : (i : ℕ) → bit_at waits HOLDING i ≡ false
        free i = ap (taken i) e ∙ taken_out 0 i 0 (omega arith) (omega arith)

    -- where data waits in the first n slots alone and none of their numbers is over ROOM - 1, too
    pub short_row : (n : ℕ) → TakenBelow (get_or waits HOLDING 0) n → any_of n (is_long waits) 0 ≡ false
        → true ≡ waits_fit SLOTS waits occupied 0
    short_row n below e =
        row true (λ _. fit count) (λ _. refl)
      where
        count : (i : ℕ) → i < SLOTS → count_at waits i ≤ ROOM
        count i h =
            by_test (ltb i n)
            (λ t.
            let short = none_of n (is_long waits) 0 e i (omega arith) (omega (arith, ltb-true i n t)) in
            count_short waits i (leb-false ROOM (get_or waits i 0) short))
            (λ t. omega (arith, count_none waits i (below.free i (ltb-false i n t))))

    -- elsewhere the counts tell
    pub over_row : not (any_of SLOTS (is_over waits) 0) ≡ waits_fit SLOTS waits occupied 0
    over_row =
        row (not (any_of SLOTS (is_over waits) 0))
        (λ u. fit (λ i h.
        let none = not-true (any_of SLOTS (is_over waits) 0) u in
        ltb-false ROOM (count_at waits i) (none_of SLOTS (is_over waits) 0 none i (omega arith) (omega arith))))
        (λ f. ap not
        (of_none SLOTS (is_over waits) 0 (λ i a b. le-ltb ROOM (count_at waits i) (f.counts i (omega arith)))))

-- Where nothing waits, that fits.
no_bit : (i : ℕ) → taken i 0 ≡ false
no_bit i = taken_out 0 i 0 (omega arith) (omega arith)

pub nobody_fits : (occupied : ℕ) → waits_fit SLOTS nobody_waits occupied 0 ≡ true
nobody_fits occupied =
    sym (empty_row nobody_waits occupied (record { homes = λ i h t. sym (some_taken nobody_waits i) ∙ no_bit i }) refl)
