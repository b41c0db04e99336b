use mathlib.Core.Path.{◌≡◌}
use Rattle.std.proofs.lemmas.Result.{err_from_is_err_and}
use Rattle.connection.specs.Calls.{walk}
use Rattle.codes.proofs.Laws.{refusal_some}
use Rattle.call_list.proofs.Laws.{walk_listed}
use Rattle.call_walk.specs.Place.{read_from}
use Rattle.call_walk.proofs.pair_from.Goals as goal

pub returns-in_err-list_at : goal.returns-in_err-list_at
unfolding read_from
returns-in_err-list_at c =
    let p = err_from_is_err_and c.from_residual.result c.from_residual.ensures.1 in
    rw (p.1, p.2) (simp (walk_listed, ← c.in_err-list_at.ensures, refusal_some))

pub returns : goal.returns
unfolding read_from
returns c =
    let open-walk : (walk c.args.c c.args.store.now c.args.id).refusal ≡ 0 =
    simp (walk_listed, ← c.in_ok-list_at.ensures) in
    simp (open-walk, c.read_on.ensures)
