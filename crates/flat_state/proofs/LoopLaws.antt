-- The loops over the slots, turn by turn.
use Rattle.std.specs.Prelude.{ℕ, zero, suc, ◌+◌, ◌≤◌, ◌<◌, ◌≡◌, refl, Bool, ◌&&◌, List, [], ◌∷◌, ◌++◌, length, take, drop, get_or, set}
use Rattle.std.proofs.Common.{sym, ap, ◌∙◌, arith, add-one, length-set, drop_of_length-le, take_all, take-suc, take-suc-set, drop-cons}
use Rattle.std.proofs.Math.Bool.{and-true, and_assoc}
use Rattle.connection.specs.declared.request.Standing.{Standing}
use Rattle.connection.specs.Sizes.{SLOTS}
use Rattle.flat_state.specs.Flat.{standing_of, standings_of, every}

-- ---- an array made slot by slot
-- The first i of an array that is made are as they are to be.
pub record Made {A : Type 0} (made whole : List A) (i : ℕ) : Type 0 where
  pub size : length made ≡ SLOTS
  pub whole_size : length whole ≡ SLOTS
  pub same : take i made ≡ take i whole

-- before the first, one more, and after the last
pub made_none : {A : Type 0} {made whole : List A} → length made ≡ SLOTS → length whole ≡ SLOTS → Made made whole 0
made_none m w = record { size = m; whole_size = w; same = refl }

pub made_next : {A : Type 0} {made whole : List A} {i : ℕ} (d v : A) → Made made whole i → i < SLOTS
    → v ≡ get_or whole i d → Made (set made i v) whole (i + 1)
made_next {A} {made} {whole} {i} d v m h e =
    let a : i < length made = omega arith in
    let b : i < length whole = omega arith in
    let one : take i made ++ (v ∷ []) ≡ take i whole ++ (get_or whole i d ∷ []) = rw (m.same, e) in
    record {
      size = length-set made i v ∙ m.size;
      whole_size = m.whole_size;
      same = rw (add-one) (take-suc-set made i v a ∙ one ∙ sym (take-suc whole i d b));
    }

pub made_all : {A : Type 0} {made whole : List A} {i : ℕ} → Made made whole i → SLOTS ≤ i → made ≡ whole
made_all {A} {made} {whole} {i} m h = sym (take_all i made (omega arith)) ∙ m.same ∙ take_all i whole (omega arith)

-- ---- how the requests stand, read from three arrays of numbers
pub standings_length : (roles turns lives : List ℕ) → length turns ≡ length roles → length lives ≡ length roles
    → length (standings_of roles turns lives) ≡ length roles
unfolding standings_of
standings_length [] turns lives t l = refl
standings_length (role ∷ roles) [] lives t l = absurd (omega arith)
standings_length (role ∷ roles) (turn ∷ turns) [] t l = absurd (omega arith)
standings_length (role ∷ roles) (turn ∷ turns) (life ∷ lives) t l =
    ap suc (standings_length roles turns lives (omega arith) (omega arith))

pub standing_at_lem : (roles turns lives : List ℕ) (i : ℕ) (d : Standing)
    → i < length roles → i < length turns → i < length lives
    → get_or (standings_of roles turns lives) i d ≡ standing_of (get_or roles i 0) (get_or turns i 0) (get_or lives i 0)
unfolding standings_of
standing_at_lem [] turns lives i d r t l = absurd (omega arith)
standing_at_lem (role ∷ roles) [] lives i d r t l = absurd (omega arith)
standing_at_lem (role ∷ roles) (turn ∷ turns) [] i d r t l = absurd (omega arith)
standing_at_lem (role ∷ roles) (turn ∷ turns) (life ∷ lives) zero d r t l = refl
standing_at_lem (role ∷ roles) (turn ∷ turns) (life ∷ lives) (suc i) d r t l =
    standing_at_lem roles turns lives i d (omega arith) (omega arith) (omega arith)

-- ---- a test of all numbers: what came out up to place i, and what comes out from there on, is what comes out of all
pub every_next : (test : ℕ → Bool) (numbers : List ℕ) (all : Bool) (i : ℕ) → i < length numbers
    → (all && every test (drop i numbers)) ≡ every test numbers
    → (all && test (get_or numbers i 0) && every test (drop (i + 1) numbers)) ≡ every test numbers
every_next test numbers all i h e =
    let d : drop i numbers ≡ get_or numbers i 0 ∷ drop (i + 1) numbers = rw (add-one) (drop-cons numbers i 0 h) in
    and_assoc all (test (get_or numbers i 0)) (every test (drop (i + 1) numbers)) ∙ rw d at e

pub every_end : (test : ℕ → Bool) (numbers : List ℕ) (all : Bool) (i : ℕ) → length numbers ≤ i
    → (all && every test (drop i numbers)) ≡ every test numbers → all ≡ every test numbers
every_end test numbers all i h e = sym (and-true all) ∙ rw (drop_of_length-le numbers h) at e
