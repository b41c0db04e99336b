use mathlib.Core.Path.{◌≡◌, sym, ap, ◌∙◌}
use mathlib.Core.Bool.{true}
use Prim.Native.Nat.{ℕ}
use Rattle.plain.specs.Plain.{is_role, two}
use Rattle.plain.specs.Code.{requests_of}
use Rattle.plain.proofs.RuleLaws.{opening_known, opening_unknown, stays}
use Rattle.plain.proofs.rules.opening.Goals as goal

pub returns-in-1 : goal.returns-in-1
returns-in-1 c =
    λ store.
    let known : is_role (two c.args.x.now 0) ≡ true = ap (λ (n : ℕ). is_role n) (sym c.number_of_two-role.ensures ∙ c.in-1.is) in
    rw (opening_known (requests_of c.args.table store) c.args.id c.args.x.now known, ← c.number_of_two-role.ensures) (c.opens.ensures store _)

pub returns-in-2 : goal.returns-in-2
returns-in-2 c =
    λ store.
    let known : is_role (two c.args.x.now 0) ≡ true = ap (λ (n : ℕ). is_role n) (sym c.number_of_two-role.ensures ∙ c.in-2.is) in
    rw (opening_known (requests_of c.args.table store) c.args.id c.args.x.now known, ← c.number_of_two-role.ensures) (c.opens-in-2.ensures store _)

pub returns-in-3 : goal.returns-in-3
returns-in-3 c =
    λ store.
    let known : is_role (two c.args.x.now 0) ≡ true = ap (λ (n : ℕ). is_role n) (sym c.number_of_two-role.ensures ∙ c.in-3.is) in
    rw (opening_known (requests_of c.args.table store) c.args.id c.args.x.now known, ← c.number_of_two-role.ensures) (c.opens-in-3.ensures store _)

pub returns-in_default : goal.returns-in_default
returns-in_default c =
    λ store.
    rw c.refuses.ensures
    (stays c.args.table _ store _ _
    (sym (opening_unknown (requests_of c.args.table store) c.args.id c.args.x.now
    (λ e. c.in_default.in_default-own.rest.0.0.1 (c.number_of_two-role.ensures ∙ e)) (λ e. c.in_default.in_default-own.rest.0.1 (c.number_of_two-role.ensures ∙ e)) (λ e. c.in_default.in_default-own.rest.1 (c.number_of_two-role.ensures ∙ e)))))
