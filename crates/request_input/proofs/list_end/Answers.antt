use mathlib.Core.Path.{sym, ◌∙◌}
use native.Mathlib.Omega.{arith}
use Rattle.pair_list.proofs.ListLaws.{ending_place}
use Rattle.request_input.proofs.list_end.Goals as goal

pub overflow_cast-result : goal.overflow_cast-result
overflow_cast-result c = let e = ending_place _ _ (sym c.list_ending.ensures ∙ c.in-Malformed.is) in omega arith
