use borrow.Author.Tests.{not-true, not-false}
use Rattle.std.specs.Prelude.{◌≡◌, ℕ, Bool, true, false, not, Some, None, Option, ok_or, if◌then◌else◌}
use Rattle.std.proofs.Common.{refl, sym, ◌∙◌}
use Rattle.connection.specs.declared.answer.Refusal.{Refusal}
use Rattle.connection.specs.declared.state.Conn.{Conn}
use Rattle.connection.specs.Sizes.{SLOTS}
use Rattle.connection.specs.Slots.{is_found, on_slot}
use Rattle.connection.specs.Shape.{in_shape}
use Rattle.connection.specs.Calls.{call_refusal}
use Rattle.conn_check.proofs.Laws.{shape_of_lem}
use Rattle.call_admit.specs.Admission.{admission, admitted_by, call_admission}
use Rattle.call_admit.proofs.admit.Goals as goal

-- row 3
by_slot : (slot : Option ℕ) → admitted_by (ok_or slot Refusal.NotActive) ≡ admission (if not (is_found slot) then 3 else 0) (on_slot slot (λ i. i) SLOTS)
by_slot (Some i) = refl
by_slot None = refl

pub returns-then-not-in_shape : goal.returns-then-not-in_shape
unfolding call_admission call_refusal
returns-then-not-in_shape c =
    let unfit : in_shape c.args.c ≡ false =
    sym (shape_of_lem c.args.c) ∙ sym c.in_shape.ensures ∙ c.if-not-in_shape.true in
    simp (unfit)

pub returns-then-not-c : goal.returns-then-not-c
unfolding call_admission call_refusal
returns-then-not-c c =
    let fits : in_shape c.args.c ≡ true =
    sym (shape_of_lem c.args.c) ∙ sym c.in_shape.ensures ∙ c.if-not-in_shape.false in
    simp (fits, not-true c.args.c.«open» c.if-not-c.true)

pub returns : goal.returns
unfolding call_admission call_refusal
returns c =
    let fits : in_shape c.args.c ≡ true =
    sym (shape_of_lem c.args.c) ∙ sym c.in_shape.ensures ∙ c.if-not-in_shape.false in
    simp (c.ok_or.ensures.value, fits, not-false c.args.c.«open» c.if-not-c.false, ← c.find_from.ensures) (by_slot c.find_from.result)
