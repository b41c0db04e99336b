use mathlib.Core.Path.{◌≡◌}
use lib.ListN.{length}
use Rattle.wire.specs.Compare.{compared}
use Rattle.wire.proofs.CompareLaws.{compared_from}
use Rattle.wire.proofs.compare.Given as goal

abbrev pub invariant-loop-i : goal.invariant-loop-i
invariant-loop-i l = (length l.a ≡ length l.b) × (compared l.a l.b ≡ compared_from l.a l.b l.i)
