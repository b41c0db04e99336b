use mathlib.Core.Path.{sym, ◌∙◌}
use native.Mathlib.Omega.{arith}
use Rattle.pair_list.proofs.ListLaws.{first_within}
use Rattle.stated_length.proofs.stated_in.Goals as goal

pub overflow_add-end : goal.overflow_add-end
overflow_add-end c = omega (arith, first_within _ _ _ (sym c.first_named.ensures ∙ c.in_ok-pair.was))

pub slice_bounds-read_decimal-end : goal.slice_bounds-read_decimal-end
slice_bounds-read_decimal-end c = omega (arith, first_within _ _ _ (sym c.first_named.ensures ∙ c.in_ok-pair.was))
