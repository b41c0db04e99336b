use Rattle.station_number.proofs.line.+add_decimal.Given as goal

abbrev pub decreases-add_decimal : goal.decreases-add_decimal
decreases-add_decimal l = l.n
