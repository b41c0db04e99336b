-- What waits, by numbers: 54 numbers of two bytes, lent beside the state as the gathered bytes are. Definitions only.
--
-- Five of them are words that have a bit for each slot: data waits there; the end of STDOUT waits before all data; that
-- of STDERR; where both wait, STDERR's is first; END waits. So the words alone say whether anything waits in a slot.
-- Whatever the numbers are, they say something.
use Rattle.std.specs.Prelude.{ℕ, suc, ◌+◌, ◌-◌, ◌*◌, ◌/◌, ◌%◌, Bool, true, false, not, List, get_or, set, replicate, if◌then◌else◌}
use Rattle.wire.specs.Test.{◌=?◌}
use Rattle.slot_word.specs.Word.{taken, marked}
use Rattle.queue_slot.specs.declared.Ends.{Ends}
use Rattle.queue_slot.specs.Wait.{Wait}

-- Places. From 0 on: of each slot where data waits, one less than how many bytes wait. From HIGH and LOW on: the upper
-- and the lower half of each slot's application status. Then the words, and the slot that the pump looks at first.
abbrev pub HIGH : ℕ
HIGH = 16

abbrev pub LOW : ℕ
LOW = 32

abbrev pub HOLDING : ℕ
HOLDING = 48

abbrev pub OUT_ENDS : ℕ
OUT_ENDS = 49

abbrev pub ERR_ENDS : ℕ
ERR_ENDS = 50

abbrev pub ERR_FIRST : ℕ
ERR_FIRST = 51

abbrev pub LEAVING : ℕ
LEAVING = 52

abbrev pub NEXT : ℕ
NEXT = 53

-- how many numbers there are
abbrev pub WAITS : ℕ
WAITS = 54

-- nothing waits anywhere, and the pump begins with slot 0
abbrev pub nobody_waits : List ℕ
nobody_waits = replicate WAITS 0

-- What waits after a call, by whether the connection was open before it and is open after it: a close drops it.
abbrev pub kept_waits : Bool → Bool → List ℕ → List ℕ
kept_waits true true waits = waits
kept_waits true false waits = nobody_waits
kept_waits false after waits = waits

-- ---- read
-- the bit of slot i in the word at a place
abbrev pub bit_at : List ℕ → ℕ → ℕ → Bool
bit_at waits place i = taken i (get_or waits place 0)

-- how many data bytes wait in slot i
unfoldable pub count_at : List ℕ → ℕ → ℕ
count_at waits i = if bit_at waits HOLDING i then suc (get_or waits i 0) else 0

-- ends, by whether STDOUT's and STDERR's are among them, and whether STDERR's is first where both are
abbrev pub ends_by : Bool → Bool → Bool → Ends
ends_by true true false = Ends.OutErr
ends_by true true true = Ends.ErrOut
ends_by true false err_first = Ends.Out
ends_by false true err_first = Ends.Err
ends_by false false err_first = Ends.None

-- the ends that wait before all data of slot i
unfoldable pub front_at : List ℕ → ℕ → Ends
front_at waits i = ends_by (bit_at waits OUT_ENDS i) (bit_at waits ERR_ENDS i) (bit_at waits ERR_FIRST i)

-- END waits in slot i
unfoldable pub last_at : List ℕ → ℕ → Bool
last_at waits i = bit_at waits LEAVING i

-- its application status
unfoldable pub status_at : List ℕ → ℕ → ℕ
status_at waits i = get_or waits (HIGH + i) 0 * 65536 + get_or waits (LOW + i) 0

-- ---- put
-- the word at a place with the bit of slot i set or cleared
abbrev pub put_bit : List ℕ → ℕ → ℕ → Bool → List ℕ
put_bit waits place i b = set waits place (marked i b (get_or waits place 0))

-- so many data bytes; where there are none, the slot's number is 0
unfoldable pub put_count : List ℕ → ℕ → ℕ → List ℕ
put_count waits i n = put_bit (set waits i (n - 1)) HOLDING i (not (n =? 0))

-- is STDOUT's end among them?
abbrev pub has_out : Ends → Bool
has_out Ends.None = false
has_out Ends.Out = true
has_out Ends.Err = false
has_out Ends.OutErr = true
has_out Ends.ErrOut = true

-- is STDERR's?
abbrev pub has_err : Ends → Bool
has_err Ends.None = false
has_err Ends.Out = false
has_err Ends.Err = true
has_err Ends.OutErr = true
has_err Ends.ErrOut = true

-- are both, and STDERR's first?
abbrev pub err_first : Ends → Bool
err_first Ends.None = false
err_first Ends.Out = false
err_first Ends.Err = false
err_first Ends.OutErr = false
err_first Ends.ErrOut = true

-- these ends before all data
unfoldable pub put_front : List ℕ → ℕ → Ends → List ℕ
put_front waits i e = put_bit (put_bit (put_bit waits OUT_ENDS i (has_out e)) ERR_ENDS i (has_err e)) ERR_FIRST i (err_first e)

-- END waits, or not, with that status
unfoldable pub put_last : List ℕ → ℕ → Bool → ℕ → List ℕ
put_last waits i last status = put_bit (set (set waits (HIGH + i) (status / 65536)) (LOW + i) (status % 65536)) LEAVING i last

-- the numbers of slot i are those of what waits there
unfoldable pub numbers_at : List ℕ → ℕ → Wait → List ℕ
numbers_at waits i w = put_last (put_front (put_count waits i w.count) i w.front) i w.last w.status
