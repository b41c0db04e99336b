-- What the proofs of this crate share, and what a shape depends on.
use Rattle.std.specs.Prelude.{ℕ, ◌+◌, ◌-◌, ◌≤◌, ◌<◌, ◌≡◌, refl, Bool, true, false, ltb, eqb}
use Rattle.std.proofs.Common.{ap, arith, ltb-true, eq-eqb, ne_eqb}
use Rattle.wire.specs.Test.{by_test}
use Rattle.connection.specs.Sizes.{SLOTS}
use Rattle.connection.specs.declared.state.Target.{Target}
use Rattle.connection.specs.declared.state.Conn.{Conn}
use Rattle.connection.specs.Shape.{◌and◌, slots_fit, position_fits, target_fits, in_shape}
use Rattle.conn_check.specs.Fits.{due_of, target_of, shape_of}

-- content that fits is due to one of the slots
pub due_slot : (occupied i : ℕ) → due_of occupied i ≡ true → i < SLOTS
due_slot occupied i e =
    by_test (ltb i SLOTS) (λ t. ltb-true i SLOTS t) (λ t. let z : ◌≡◌ {A = ℕ} 0 1 = cc (simp t at e) in absurd (omega arith))

-- eight bytes, some of them gathered and some left
pub eight : (gathered left : ℕ) → gathered ≤ 8 → left ≡ 8 - gathered → eqb (gathered + left) 8 ≡ true
eight gathered left h e = eq-eqb (gathered + left) 8 (omega arith)

pub not_eight : (gathered left : ℕ) → (left ≡ 8 - gathered → ⊥) → eqb (gathered + left) 8 ≡ false
not_eight gathered left h = ne_eqb (gathered + left) 8 (λ e. h (omega arith))

pub over_eight : (gathered left : ℕ) → 8 < gathered → eqb (gathered + left) 8 ≡ false
over_eight gathered left h = ne_eqb (gathered + left) 8 (λ e. omega arith)

-- the shape of a state depends on these parts of it alone
pub shape_of_lem : (c : Conn) → shape_of c.table.ids c.table.lengths c.table.occupied c.frame ≡ in_shape c
unfolding in_shape
shape_of_lem c =
    ap (λ (b : Bool). slots_fit SLOTS c.table.ids c.table.lengths c.table.occupied 0 and (position_fits c.frame.position and b)) (target_same c.frame.target)
  where
    target_same : (target : Target) → target_of target c.table.ids c.table.lengths c.table.occupied c.frame.gathered c.frame.position.content
        ≡ target_fits target c.table c.frame.gathered c.frame.position.content
    target_same Target.Skip = refl
    target_same (Target.Begin id) = refl
    target_same Target.Query = refl
    target_same (Target.Params i) = refl
    target_same (Target.Stdin i) = refl
    target_same (Target.Data i) = refl
