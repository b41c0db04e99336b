use mathlib.Core.Path.{sym, ◌∙◌}
use native.Mathlib.Omega.{arith}
use Rattle.pair_list.proofs.ListLaws.{ending_place}
use Rattle.conn_management.proofs.on_query.Goals as goal

pub overflow_cast-place : goal.overflow_cast-place
overflow_cast-place c = let e = ending_place _ _ (sym c.list_ending.ensures ∙ c.in-Malformed.is) in omega arith
