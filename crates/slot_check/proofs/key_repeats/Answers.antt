use mathlib.Core.Path.{refl}
use Rattle.slot_check.specs.Quick.{repeats}
use Rattle.slot_check.proofs.key_repeats.Goals as goal

pub returns : goal.returns
unfolding repeats
returns c = refl
