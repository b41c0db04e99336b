use Prim.Native.Nat.{ℕ, ◌+◌}
use mathlib.Core.Path.{◌≡◌}
use mathlib.Core.List.{List}
use lib.ListN.{drop}
use Rattle.plain.specs.Plain.{place_of}
use Rattle.plain.specs.Code.{requests_of}
use Rattle.plain.proofs.table.place_of.Given as goal

abbrev pub invariant-loop-i : goal.invariant-loop-i
invariant-loop-i l = (store : List ℕ)
    → place_of (requests_of l.table store) l.id ≡ l.i + place_of (drop l.i (requests_of l.table store)) l.id
