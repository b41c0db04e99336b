-- What is kept is found again.
use Rattle.std.specs.Prelude.{ℕ, suc, ◌+◌, ◌-◌, ◌*◌, ◌%◌, ◌≤◌, ◌<◌, ◌≡◌, refl, List, length}
use Rattle.std.proofs.Common.{sym, ap, ◌∙◌, arith, get_or-set_same, get_or-set_other, lt-ltb, eq-eqb, ne_eqb}
use Rattle.std.proofs.lemmas.Bool.{lt-leb}
use Rattle.connection.specs.declared.event.Fault.{Fault}
use Rattle.connection.specs.declared.event.Measure.{Measure}
use Rattle.connection.specs.Codes.{fault_number}
use Rattle.station_kept.specs.Kept.{number_of, with_number, id_of, entry_from, measure_number, measure_by, place_number, fault_by}

-- A number that is kept is the one that is asked for, and every other one stays.
pub number_back : (kept : List ℕ) (field i n : ℕ) → length kept ≡ 160 → field < 10 → i < 16 → number_of (with_number kept field i n) field i ≡ n
unfolding number_of with_number
number_back kept field i n long f h =
    simp (lt-ltb _ _ h, lt-ltb _ _ f, lt-leb _ _ h, lt-leb _ _ f) (get_or-set_same kept (field * 16 + i) n 0 (omega (arith, long)))

pub number_other : (kept : List ℕ) (field i n other j : ℕ) → field < 10 → i < 16 → other < 10 → j < 16 → (field * 16 + i ≡ other * 16 + j → ⊥)
    → number_of (with_number kept field i n) other j ≡ number_of kept other j
unfolding number_of with_number
number_other kept field i n other j f h g l apart =
    simp (lt-ltb _ _ h, lt-ltb _ _ f, lt-leb _ _ l, lt-leb _ _ g) (get_or-set_other kept (field * 16 + i) (other * 16 + j) n 0 (λ e. apart (sym e)))

-- A measure and a fault come back as they were.
pub measure_back : (m : Measure) → measure_by (measure_number m) ≡ m
unfolding measure_by
measure_back Measure.Unstated = refl
measure_back Measure.Exact = refl
measure_back Measure.Short = refl
measure_back Measure.Over = refl

-- the place of a fault has two bytes
abbrev pub PlaceFits : Fault → Type 0
PlaceFits (Fault.Malformed at) = at < 65536
PlaceFits Fault.BeginAgain = Unit {0}
PlaceFits Fault.OutOfTurn = Unit {0}
PlaceFits Fault.WrongType = Unit {0}
PlaceFits Fault.TooLong = Unit {0}
PlaceFits Fault.Repeated = Unit {0}

pub fault_back_lem : (f : Fault) → PlaceFits f → fault_by (fault_number f) (place_number f) ≡ f
unfolding fault_by
fault_back_lem (Fault.Malformed at) h =
    let same : at % 65536 ≡ at = omega arith in
    ap Fault.Malformed same
fault_back_lem Fault.BeginAgain h = refl
fault_back_lem Fault.OutOfTurn h = refl
fault_back_lem Fault.WrongType h = refl
fault_back_lem Fault.TooLong h = refl
fault_back_lem Fault.Repeated h = refl

-- ---- an entry by its id
-- The next entry is looked at where there is one.
pub entry_here : (kept : List ℕ) (id i : ℕ) → i < 16 → id_of kept i ≡ id → entry_from (16 - i) kept id i ≡ i
unfolding entry_from
entry_here kept id i h e =
    let one : 16 - i ≡ suc (15 - i) = omega arith in
    ap (λ (k : ℕ). entry_from k kept id i) one ∙ simp (eq-eqb _ _ e)

pub entry_next : (kept : List ℕ) (id i : ℕ) → i < 16 → (id_of kept i ≡ id → ⊥) → entry_from (16 - i) kept id i ≡ entry_from (16 - (i + 1)) kept id (i + 1)
unfolding entry_from
entry_next kept id i h e =
    let one : 16 - i ≡ suc (15 - i) = omega arith in
    let less : 15 - i ≡ 16 - (i + 1) = omega arith in
    ap (λ (k : ℕ). entry_from k kept id i) one ∙ simp (ne_eqb _ _ e) (ap (λ (k : ℕ). entry_from k kept id (i + 1)) less)

pub entry_none : (kept : List ℕ) (id i : ℕ) → 16 ≤ i → entry_from (16 - i) kept id i ≡ i
unfolding entry_from
entry_none kept id i h =
    let none : 16 - i ≡ 0 = omega arith in
    ap (λ (k : ℕ). entry_from k kept id i) none
