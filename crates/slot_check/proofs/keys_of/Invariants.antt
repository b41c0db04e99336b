use Prim.Native.Nat.{◌-◌, ◌≤◌}
use Rattle.slot_check.specs.Quick.{Gathers, KeysOf, is_nameless}
use Rattle.slot_check.proofs.keys_of.Given as goal

abbrev pub invariant-loop-i : goal.invariant-loop-i
invariant-loop-i l = (l.i ≤ l.n) × (KeysOf l.ids l.occupied l.i l.keys × Gathers l.n (is_nameless l.ids l.occupied) l.nameless l.i)

abbrev pub decreases-loop-i : goal.decreases-loop-i
decreases-loop-i l = l.n - l.i
