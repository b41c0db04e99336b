use Rattle.std.specs.Prelude.{◌≡◌, Option, Some, None, ok_or}
use mathlib.Core.Path.{refl, sym, ◌∙◌}
use Rattle.connection.specs.declared.answer.Refusal.{Refusal}
use Rattle.connection.specs.RequestCalls.{on_found, PairIs, PairRefused}
use Rattle.pairs.specs.declared.pair.Pair.{Pair}
use Rattle.call_list.proofs.Laws.{pair_listed}
use Rattle.std.proofs.lemmas.Result.{err_from_is_err_and}
use Rattle.codes.proofs.Laws.{refusal_some}
use Rattle.call_value.specs.Answer.{numbered_by}
use Rattle.call_value.proofs.pair_at.Goals as goal

-- row 7
by_pair : (pair : Option Pair) → numbered_by (ok_or pair Refusal.NoPair) ≡ on_found pair PairIs (PairRefused 7)
by_pair (Some p) = refl
by_pair None = refl

pub returns-in_err-list_in : goal.returns-in_err-list_in
returns-in_err-list_in c =
    let p = err_from_is_err_and c.from_residual.result c.from_residual.ensures.1 in
    rw (p.1, p.2) (sym (pair_listed _ _ _ _ ∙ simp (c.in_err-list_in.ensures, refusal_some)))

pub returns : goal.returns
returns c =
    let l = c.in_ok-list_in.ensures in
    sym (pair_listed _ _ _ _ ∙ simp (l.0, ← l.1, ← c.pair_number.ensures, c.ok_or.ensures.value) (sym (by_pair c.pair_number.result)))
