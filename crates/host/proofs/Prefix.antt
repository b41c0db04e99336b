-- A count that is within a list is that of a first part of it.
use Rattle.std.specs.Prelude.{ℕ, ◌≤◌, List, length}
use mathlib.Core.Path.{sym}
use lib.Seq.{length-take-le}
use Rattle.host.specs.Count.{IsPrefix}

pub prefix_within : (n : ℕ) (xs : List ℕ) → n ≤ length xs → IsPrefix n xs
prefix_within n xs h = (h, sym (length-take-le n xs h))
