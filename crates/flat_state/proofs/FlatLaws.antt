-- The flat form of a state tells all of it: it is known, and it is read back as the state. What is known is the flat
-- form of the state that it is read as.
use Rattle.std.specs.Prelude.{◌%◌, ◌<◌, ◌≡◌, refl, Bool, true, false, ◌&&◌, length, eqb, leb}
use Rattle.std.proofs.Common.{sym, ◌∙◌, arith}
use Rattle.std.proofs.Math.Bool.{and-eq-true_iff}
use Rattle.wire.specs.Test.{by_test}
use Rattle.connection.specs.declared.request.Standing.{Standing}
use Rattle.connection.specs.declared.state.Target.{Target}
use Rattle.connection.specs.declared.state.Conn.{Conn}
use Rattle.connection.specs.Codes.{role_number}
use Rattle.connection.specs.Sizes.{SLOTS}
use Rattle.connection.specs.Shape.{in_shape}
use Rattle.connection.specs.Fits.{Aimed}
use Rattle.connection.proofs.Laws.ShapeLaws.{shaped}
use Rattle.flat_state.specs.declared.FlatState.{FlatState}
use Rattle.flat_state.specs.Flat.{turn_number, life_number, open_number, target_of}
use Rattle.flat_state.specs.Flat.{every, within, known_target, flat_of, table_of, frame_of, conn_of, known}
use Rattle.flat_state.proofs.NumberLaws.{target_slot, target_back, target_known, open_back, open_same, target_same}
use Rattle.flat_state.proofs.NumberLaws.{role_known, turn_known, life_known, all_known_lem}
use Rattle.flat_state.proofs.NumberLaws.{standings_back, numbers_same}

-- In a state in shape the slot that content is for is a byte.
pub slot_in_shape : (c : Conn) → in_shape c ≡ true → target_slot c.frame.target < 256
slot_in_shape c e = low c.frame.target (shaped c e).target
  where
    low : (t : Target) → Aimed t c.table c.frame.gathered c.frame.position.content → target_slot t < 256
    low Target.Skip a = omega arith
    low (Target.Begin id) a = omega arith
    low Target.Query a = omega arith
    low (Target.Params slot) a = omega (arith, a.slot.low)
    low (Target.Stdin slot) a = omega (arith, a.low)
    low (Target.Data slot) a = omega (arith, a.low)

-- In a state that is read from numbers it is one too.
pub slot_of_back : (f : FlatState) → target_slot (conn_of f).frame.target < 256
unfolding conn_of frame_of target_of
slot_of_back f =
    let kind = f.target in
    let slot = f.target_number % 256 in
    let low : slot < 256 = omega arith in
    by_test (eqb kind 0)
    (λ skip. simp skip (omega arith))
    (λ a. by_test (eqb kind 1)
    (λ begin. simp (a, begin) (omega arith))
    (λ b. by_test (eqb kind 2)
    (λ query. simp (a, b, query) (omega arith))
    (λ c. by_test (eqb kind 3)
    (λ params. simp (a, b, c, params) low)
    (λ d. by_test (eqb kind 4) (λ stdin. simp (a, b, c, d, stdin) low) (λ e. simp (a, b, c, d, e) low)))))

-- A state is read back.
pub back_of_flat : (c : Conn) → target_slot c.frame.target < 256 → conn_of (flat_of c) ≡ c
unfolding conn_of table_of frame_of flat_of
back_of_flat c slot =
    rw (standings_back c.table.standings, target_back c.frame.target slot, open_back c.«open»)

-- Its flat form is known.
pub known_flat : (c : Conn) → target_slot c.frame.target < 256 → known (flat_of c) ≡ true
unfolding known flat_of
known_flat c slot =
    let s = c.table.standings in
    let roles = all_known_lem (within 1 3) (λ (x : Standing). role_number x.role) (λ x. role_known x.role) s in
    let turns = all_known_lem (within 0 3) (λ (x : Standing). turn_number x.turn) (λ x. turn_known x.turn) s in
    let lives = all_known_lem (within 0 2) (λ (x : Standing). life_number x.life) (λ x. life_known x.life) s in
    simp (roles, turns, lives, target_known c.frame.target slot) (open_known c.«open»)
  where
    open_known : (b : Bool) → leb (open_number b) 1 ≡ true
    open_known true = refl
    open_known false = refl

-- The arrays of numbers have a place for each slot.
pub record SlotArrays (f : FlatState) : Type 0 where
  pub roles : length f.roles ≡ SLOTS
  pub turns : length f.turns ≡ SLOTS
  pub lives : length f.lives ≡ SLOTS

-- What is known comes back as it was.
pub flat_of_back : (f : FlatState) → SlotArrays f → known f ≡ true → flat_of (conn_of f) ≡ f
unfolding conn_of table_of frame_of flat_of known
flat_of_back f sizes e =
    let roles = every (within 1 3) f.roles in
    let turns = every (within 0 3) f.turns in
    let lives = every (within 0 2) f.lives in
    let target = known_target f.target f.target_number in
    let last = (and-eq-true_iff (roles && turns && lives && target) (leb f.«open» 1)).0 e in
    let fourth = (and-eq-true_iff (roles && turns && lives) target).0 last.0 in
    let third = (and-eq-true_iff (roles && turns) lives).0 fourth.0 in
    let two = (and-eq-true_iff roles turns).0 third.0 in
    let as-turns : length f.turns ≡ length f.roles = sizes.turns ∙ sym sizes.roles in
    let as-lives : length f.lives ≡ length f.roles = sizes.lives ∙ sym sizes.roles in
    let n = numbers_same f.roles f.turns f.lives as-turns as-lives two.0 two.1 third.1 in
    let t = target_same f.target f.target_number fourth.1 in
    rw (n.same_roles, n.same_turns, n.same_lives, t.same_kind, t.same_number, open_same f.«open» last.1)
