use native.Mathlib.Omega.{arith}
use Rattle.digest.specs.Digest.{mixed}
use Rattle.digest.proofs.mix.Goals as goal

pub returns : goal.returns
unfolding mixed
returns c = (simp c.told_weight.ensures.0, omega arith)
