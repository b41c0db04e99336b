use mathlib.Core.Path.{◌≡◌}
use Prim.Native.Nat.{◌≤◌, ◌<◌}
use Rattle.queue_slot.specs.Atoms.{RUN}
use Rattle.queue_slot.specs.Wait.{run_length}
use Rattle.wait_mark.specs.Joins.{run_from}
use Rattle.wait_mark.proofs.run_length.Given as goal

abbrev pub invariant-loop-k : goal.invariant-loop-k
invariant-loop-k l = (0 < l.k) × (l.k ≤ l.n) × (run_length RUN l.marks ≡ run_from l.marks l.k)
