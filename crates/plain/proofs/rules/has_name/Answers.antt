use Rattle.std.specs.Prelude.{Option, Some, None, is_some}
use mathlib.Core.Path.{◌≡◌, refl, ap, ◌∙◌}
use Rattle.pair_list.specs.List.{is_named}
use Rattle.pairs.specs.declared.pair.Pair.{Pair}
use Rattle.plain.proofs.rules.has_name.Goals as goal

some_is_named : (o : Option Pair) → is_some o ≡ is_named o
some_is_named (Some p) = refl
some_is_named None = refl

pub returns : goal.returns
returns c = c.is_some.ensures ∙ some_is_named _ ∙ ap is_named c.first_named.ensures
