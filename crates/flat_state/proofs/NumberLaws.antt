-- What has a number is read back from it, and what is known is the number of what it is read as.
use Rattle.std.specs.Prelude.{ℕ, ◌%◌, ◌≤◌, ◌<◌, ◌≡◌, refl, Bool, true, false, List, [], ◌∷◌, map, length, eqb, leb, ltb}
use Rattle.std.proofs.Common.{sym, ap, ap₂, arith, mod-eq_of_lt, eqb-true, leb-true, ltb-true, lt-ltb}
use Rattle.std.proofs.Math.Bool.{and-eq-true_iff}
use Rattle.std.proofs.lemmas.Bool.{eqb-false}
use Rattle.wire.specs.Test.{by_test, ◌=?◌}
use Rattle.connection.specs.declared.request.Role.{Role}
use Rattle.connection.specs.declared.request.Turn.{Turn}
use Rattle.connection.specs.declared.request.Life.{Life}
use Rattle.connection.specs.declared.request.Standing.{Standing}
use Rattle.connection.specs.declared.state.Target.{Target}
use Rattle.connection.specs.Codes.{role_number}
use Rattle.flat_state.specs.Flat.{turn_number, life_number, open_number, target_kind, target_number}
use Rattle.flat_state.specs.Flat.{role_of, turn_of, life_of, target_of}
use Rattle.flat_state.specs.Flat.{standing_of, standings_of, roles_of, turns_of, lives_of}
use Rattle.flat_state.specs.Flat.{every, within, known_target}

-- ---- the numbers, one by one
pub role_back_lem : (r : Role) → role_of (role_number r) ≡ r
unfolding role_of
role_back_lem Role.Responder = refl
role_back_lem Role.Authorizer = refl
role_back_lem Role.Filter = refl

pub turn_back : (t : Turn) → turn_of (turn_number t) ≡ t
unfolding turn_of
turn_back Turn.Params = refl
turn_back Turn.Stdin = refl
turn_back Turn.Data = refl
turn_back Turn.Done = refl

pub life_back : (l : Life) → life_of (life_number l) ≡ l
unfolding life_of
life_back Life.Live = refl
life_back Life.Faulted = refl
life_back Life.Aborted = refl

pub open_back : (b : Bool) → (open_number b =? open_number true) ≡ b
open_back true = refl
open_back false = refl

pub role_known : (r : Role) → within 1 3 (role_number r) ≡ true
role_known Role.Responder = refl
role_known Role.Authorizer = refl
role_known Role.Filter = refl

pub turn_known : (t : Turn) → within 0 3 (turn_number t) ≡ true
turn_known Turn.Params = refl
turn_known Turn.Stdin = refl
turn_known Turn.Data = refl
turn_known Turn.Done = refl

pub life_known : (l : Life) → within 0 2 (life_number l) ≡ true
life_known Life.Live = refl
life_known Life.Faulted = refl
life_known Life.Aborted = refl

-- ---- the slot that content is for, 0 where it is for none; in the code it is a byte
abbrev pub target_slot : Target → ℕ
target_slot Target.Skip = 0
target_slot (Target.Begin id) = 0
target_slot Target.Query = 0
target_slot (Target.Params slot) = slot
target_slot (Target.Stdin slot) = slot
target_slot (Target.Data slot) = slot

pub target_back : (t : Target) → target_slot t < 256 → target_of (target_kind t) (target_number t) ≡ t
unfolding target_of
target_back Target.Skip h = refl
target_back (Target.Begin id) h = refl
target_back Target.Query h = refl
target_back (Target.Params slot) h = ap Target.Params (mod-eq_of_lt h)
target_back (Target.Stdin slot) h = ap Target.Stdin (mod-eq_of_lt h)
target_back (Target.Data slot) h = ap Target.Data (mod-eq_of_lt h)

pub target_known : (t : Target) → target_slot t < 256 → known_target (target_kind t) (target_number t) ≡ true
unfolding known_target
target_known Target.Skip h = refl
target_known (Target.Begin id) h = refl
target_known Target.Query h = refl
target_known (Target.Params slot) h = lt-ltb slot 256 h
target_known (Target.Stdin slot) h = lt-ltb slot 256 h
target_known (Target.Data slot) h = lt-ltb slot 256 h

-- ---- the same for what is known: it is the number of what it is read as
between : (low high n : ℕ) → within low high n ≡ true → (low ≤ n) × (n ≤ high)
between low high n e =
    let both = (and-eq-true_iff (leb low n) (leb n high)).0 e in
    (leb-true low n both.0, leb-true n high both.1)

role_same : (n : ℕ) → within 1 3 n ≡ true → role_number (role_of n) ≡ n
unfolding role_of
role_same n e =
    let w = between 1 3 n e in
    by_test (eqb n 1)
    (λ one. simp one (sym (eqb-true n 1 one)))
    (λ notOne. by_test (eqb n 2)
    (λ two. simp (notOne, two) (sym (eqb-true n 2 two)))
    (λ notTwo. simp (notOne, notTwo) (omega (arith, eqb-false n 1 notOne, eqb-false n 2 notTwo))))

turn_same : (n : ℕ) → within 0 3 n ≡ true → turn_number (turn_of n) ≡ n
unfolding turn_of
turn_same n e =
    let w = between 0 3 n e in
    by_test (eqb n 0)
    (λ none. simp none (sym (eqb-true n 0 none)))
    (λ notNone. by_test (eqb n 1)
    (λ one. simp (notNone, one) (sym (eqb-true n 1 one)))
    (λ notOne. by_test (eqb n 2)
    (λ two. simp (notNone, notOne, two) (sym (eqb-true n 2 two)))
    (λ notTwo.
    let last : 3 ≡ n = omega (arith, eqb-false n 0 notNone, eqb-false n 1 notOne, eqb-false n 2 notTwo) in
    simp (notNone, notOne, notTwo) last)))

life_same : (n : ℕ) → within 0 2 n ≡ true → life_number (life_of n) ≡ n
unfolding life_of
life_same n e =
    let w = between 0 2 n e in
    by_test (eqb n 0)
    (λ none. simp none (sym (eqb-true n 0 none)))
    (λ notNone. by_test (eqb n 1)
    (λ one. simp (notNone, one) (sym (eqb-true n 1 one)))
    (λ notOne. simp (notNone, notOne) (omega (arith, eqb-false n 0 notNone, eqb-false n 1 notOne))))

pub open_same : (n : ℕ) → leb n 1 ≡ true → open_number (n =? open_number true) ≡ n
open_same n e =
    by_test (eqb n 1)
    (λ one. simp one (sym (eqb-true n 1 one)))
    (λ notOne. simp notOne (omega (arith, eqb-false n 1 notOne, leb-true n 1 e)))

pub record SameTarget (kind number : ℕ) : Type 0 where
  pub same_kind : target_kind (target_of kind number) ≡ kind
  pub same_number : target_number (target_of kind number) ≡ number

pub target_same : (kind number : ℕ) → known_target kind number ≡ true → SameTarget kind number
unfolding target_of known_target
target_same kind number e =
    by_test (eqb kind 0)
    (λ skip. record {
      same_kind = simp skip (sym (eqb-true kind 0 skip));
      same_number = simp skip (sym (eqb-true number 0 (simp skip at e)));
    })
    (λ a. by_test (eqb kind 1)
    (λ begin. record { same_kind = simp (a, begin) (sym (eqb-true kind 1 begin)); same_number = simp (a, begin) })
    (λ b. by_test (eqb kind 2)
    (λ query. record {
      same_kind = simp (a, b, query) (sym (eqb-true kind 2 query));
      same_number = simp (a, b, query) (sym (eqb-true number 0 (simp (a, b, query) at e)));
    })
    (λ c.
    let both = (and-eq-true_iff (leb kind 5) (ltb number 256)).0 (simp (a, b, c) at e) in
    let slot : number % 256 ≡ number = mod-eq_of_lt (ltb-true number 256 both.1) in
    by_test (eqb kind 3)
    (λ params. record {
      same_kind = simp (a, b, c, params) (sym (eqb-true kind 3 params));
      same_number = simp (a, b, c, params) slot;
    })
    (λ d. by_test (eqb kind 4)
    (λ stdin. record {
      same_kind = simp (a, b, c, d, stdin) (sym (eqb-true kind 4 stdin));
      same_number = simp (a, b, c, d, stdin) slot;
    })
    (λ f.
    let high : 3 ≤ kind = omega (arith, eqb-false kind 0 a, eqb-false kind 1 b, eqb-false kind 2 c) in
    let last : 5 ≡ kind = omega (arith, eqb-false kind 3 d, eqb-false kind 4 f, leb-true kind 5 both.0) in
    record { same_kind = simp (a, b, c, d, f) last; same_number = simp (a, b, c, d, f) slot })))))

-- ---- how the requests stand, slot by slot
pub standings_back : (standings : List Standing)
    → standings_of (roles_of standings) (turns_of standings) (lives_of standings) ≡ standings
unfolding standings_of standing_of
standings_back [] = refl
standings_back (s ∷ standings) =
    let rest = standings_back standings in
    rw (role_back_lem s.role, turn_back s.turn, life_back s.life) (ap (λ (r : List Standing). s ∷ r) rest)

pub all_known_lem : (test : ℕ → Bool) (number : Standing → ℕ) → ((s : Standing) → test (number s) ≡ true)
    → (standings : List Standing) → every test (map number standings) ≡ true
all_known_lem test number each [] = refl
all_known_lem test number each (s ∷ standings) = simp (each s) (all_known_lem test number each standings)

pub record SameNumbers (roles turns lives : List ℕ) : Type 0 where
  pub same_roles : roles_of (standings_of roles turns lives) ≡ roles
  pub same_turns : turns_of (standings_of roles turns lives) ≡ turns
  pub same_lives : lives_of (standings_of roles turns lives) ≡ lives

pub numbers_same : (roles turns lives : List ℕ) → length turns ≡ length roles → length lives ≡ length roles
    → every (within 1 3) roles ≡ true → every (within 0 3) turns ≡ true → every (within 0 2) lives ≡ true
    → SameNumbers roles turns lives
unfolding standings_of standing_of
numbers_same [] [] [] t l r e f = record { same_roles = refl; same_turns = refl; same_lives = refl }
numbers_same [] (turn ∷ turns) lives t l r e f = absurd (omega arith)
numbers_same [] [] (life ∷ lives) t l r e f = absurd (omega arith)
numbers_same (role ∷ roles) [] lives t l r e f = absurd (omega arith)
numbers_same (role ∷ roles) (turn ∷ turns) [] t l r e f = absurd (omega arith)
numbers_same (role ∷ roles) (turn ∷ turns) (life ∷ lives) t l r e f =
    let r' = (and-eq-true_iff (within 1 3 role) (every (within 1 3) roles)).0 r in
    let e' = (and-eq-true_iff (within 0 3 turn) (every (within 0 3) turns)).0 e in
    let f' = (and-eq-true_iff (within 0 2 life) (every (within 0 2) lives)).0 f in
    let rest = numbers_same roles turns lives (omega arith) (omega arith) r'.1 e'.1 f'.1 in
    record {
      same_roles = ap₂ (λ (n : ℕ) (ns : List ℕ). n ∷ ns) (role_same role r'.0) rest.same_roles;
      same_turns = ap₂ (λ (n : ℕ) (ns : List ℕ). n ∷ ns) (turn_same turn e'.0) rest.same_turns;
      same_lives = ap₂ (λ (n : ℕ) (ns : List ℕ). n ∷ ns) (life_same life f'.0) rest.same_lives;
    }
