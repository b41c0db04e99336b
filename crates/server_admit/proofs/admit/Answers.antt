use Rattle.std.proofs.Common.{ℕ, Option, ok_or, [], ◌∷◌, not, ap, ◌∙◌}
use Rattle.std.proofs.lemmas.Result.{err_from_is_err_and}
use Rattle.connection.specs.Slots.{find, is_found}
use Rattle.connection.specs.Refusal.{◌when◌}
use Rattle.server.specs.Calls.{call_refusal, slot_of}
use Rattle.server.specs.declared.answer.ServerRefusal.{ServerRefusal}
use Rattle.server_admit.specs.Admission.{admitted_by, call_admission}
use Rattle.server_admit.proofs.AdmissionLaws.{passed, refused_first, by_refusal, by_slot}
use Rattle.server_admit.proofs.admit.Goals as goal

pub returns-in_err-check_state : goal.returns-in_err-check_state
unfolding call_admission call_refusal
returns-in_err-check_state c =
    let p = err_from_is_err_and c.from_residual.result c.from_residual.ensures.1 in
    let why = c.in_err-check_state.field-0.0 in
    rw (p.1, p.2)
    (by_refusal (call_refusal c.args.c c.args.id) (slot_of c.args.c c.args.id) why
    (refused_first c.args.c why ((3 when not (is_found (find c.args.c.table c.args.id))) ∷ []) c.in_err-check_state.ensures))

pub returns : goal.returns
returns c =
    ap admitted_by (c.ok_or.ensures.value ∙ ap (λ (s : Option ℕ). ok_or s ServerRefusal.NotOpen) c.find_from.ensures)
    ∙ by_slot c.args.c c.args.id (passed c.args.c c.in_ok-check_state.ensures)
