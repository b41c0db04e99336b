-- What an event is, by number. The code has the same names in src/kinds.rt.
use Rattle.std.specs.Prelude.{ℕ}

abbrev pub NOTHING : ℕ
NOTHING = 0

abbrev pub OPEN : ℕ
OPEN = 1

abbrev pub READY : ℕ
READY = 2

abbrev pub DATA : ℕ
DATA = 3

abbrev pub END : ℕ
END = 4

abbrev pub ABORT : ℕ
ABORT = 5

abbrev pub REFUSE : ℕ
REFUSE = 6

abbrev pub FAULT : ℕ
FAULT = 7

abbrev pub QUERY : ℕ
QUERY = 8

abbrev pub UNKNOWN : ℕ
UNKNOWN = 9

abbrev pub CLOSED : ℕ
CLOSED = 10
