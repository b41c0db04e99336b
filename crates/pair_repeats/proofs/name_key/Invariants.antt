use mathlib.Core.Path.{◌≡◌}
use lib.ListN.{length, drop}
use Rattle.pair_repeats.specs.Keys.{key_from}
use Rattle.pair_repeats.proofs.name_key.Given as goal

abbrev pub invariant-loop-byte : goal.invariant-loop-byte
invariant-loop-byte l = key_from (length l.name) l.name ≡ key_from l.key (drop l.byte-index l.name)
