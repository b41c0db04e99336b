use Rattle.std.specs.Prelude.{◌+◌, ◌/◌, ◌%◌, ◌≤◌, [], ◌∷◌, ◌++◌, length}
use Rattle.std.proofs.Common.{ap, arith, length-append}
use Rattle.event_text.specs.Line.{decimal}
use Rattle.event_text.proofs.LineLaws.{decimal_one, decimal_more, decimal_size}
use Rattle.station_number.proofs.PutsLaws.{puts_both}
use Rattle.station_number.proofs.line.+add_decimal.Goals as goal

pub add_digit-requires : goal.add_digit-requires
add_digit-requires t c =
    (omega arith, omega (arith, ap length (decimal_one c.args.n (omega arith)), c.requires))

pub returns-then-n-lt10 : goal.returns-then-n-lt10
returns-then-n-lt10 t c = rw (decimal_one c.args.n (omega arith)) c.add_digit.ensures

pub add_decimal-last-requires : goal.add_decimal-last-requires
add_decimal-last-requires t c =
    (omega (arith, c.decreases), omega (arith, decimal_size c.args.n (omega arith), c.requires))

pub add_digit-requires-2 : goal.add_digit-requires-2
add_digit-requires-2 t c =
    let e = c.add_decimal-last.ensures in
    (omega arith, omega (arith, decimal_size c.args.n (omega arith), c.requires, e.upto, e.size))

pub returns : goal.returns
returns t c =
    let h : 10 ≤ c.args.n = omega arith in
    let e = decimal_size c.args.n h in
    rw (decimal_more c.args.n h) (puts_both (length (decimal (c.args.n / 10) ++ ((48 + c.args.n % 10) ∷ []))) c.add_decimal-last.ensures c.add_digit-2.ensures (simp length-append (omega arith)) (omega (arith, e, c.requires)))
