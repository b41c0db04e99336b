use Rattle.std.proofs.Common.{◌≡◌, ◌+◌, drop}
use Rattle.station_cards.specs.Cards.{index_of}
use Rattle.station_cards.proofs.find.Given as goal

abbrev pub invariant-loop-i : goal.invariant-loop-i
invariant-loop-i l = index_of l.byte l.text ≡ l.i + index_of l.byte (drop l.i l.text)
