-- What the proofs of this crate share, and what a shape depends on.
use Rattle.std.specs.Prelude.{ℕ, ◌+◌, ◌-◌, ◌≤◌, ◌<◌, ◌≡◌, refl, Bool, false, eqb}
use Rattle.std.proofs.Common.{sym, ap, ◌∙◌, arith, eqb-true, eq-eqb, ne_eqb}
use Rattle.std.proofs.lemmas.Bool.{eqb-false}
use Rattle.wire.specs.Test.{by_test}
use Rattle.connection.specs.declared.state.Table.{Table}
use Rattle.connection.specs.Sizes.{SLOTS}
use Rattle.connection.specs.Shape.{◌and◌, slots_fit, position_fits}
use Rattle.server.specs.declared.state.Target.{Target}
use Rattle.server.specs.declared.state.Server.{Server}
use Rattle.server.specs.Shape.{target_fits, in_shape}
use Rattle.conn_check.specs.Fits.{table_of}
use Rattle.server_check.specs.Fits.{target_of, shape_of}

-- eight bytes, some of them gathered and some left
pub eight_left : (gathered left : ℕ) → gathered ≤ 8 → eqb left (8 - gathered) ≡ eqb (gathered + left) 8
eight_left gathered left h =
    by_test (eqb left (8 - gathered))
    (λ t. t ∙ sym (eq-eqb (gathered + left) 8 (omega (arith, eqb-true left (8 - gathered) t))))
    (λ t. t ∙ sym (ne_eqb (gathered + left) 8 (λ z. eqb-false left (8 - gathered) t (omega arith))))

pub eight_over : (gathered left : ℕ) → 8 < gathered → false ≡ eqb (gathered + left) 8
eight_over gathered left h = sym (ne_eqb (gathered + left) 8 (λ z. omega arith))

-- of the table a target needs only which slots are taken
pub target_of_lem : (target : Target) (t : Table) (gathered left : ℕ) → target_of target t.occupied gathered left ≡ target_fits target t gathered left
target_of_lem Target.Skip t gathered left = refl
target_of_lem (Target.Stdout i) t gathered left = refl
target_of_lem (Target.Stderr i) t gathered left = refl
target_of_lem (Target.End i) t gathered left = refl
target_of_lem Target.Values t gathered left = refl
target_of_lem Target.Unknown t gathered left = refl

-- The shape of a state depends on these parts of it alone.
pub shape_of_lem : (c : Server) → shape_of c.table.ids c.table.lengths c.table.occupied c.frame ≡ in_shape c
unfolding in_shape
shape_of_lem c = ap fits (sym (target_of_lem c.frame.target (table_of c.table.ids c.table.lengths c.table.occupied) c.frame.gathered c.frame.position.content) ∙ target_of_lem c.frame.target c.table c.frame.gathered c.frame.position.content)
  where
    fits : Bool → Bool
    fits b = slots_fit SLOTS c.table.ids c.table.lengths c.table.occupied 0 and (position_fits c.frame.position and b)
