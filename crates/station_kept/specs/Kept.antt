-- What a station keeps of its requests: ten numbers in each of 16 entries, first all ids, then all roles, and so on.
use Rattle.std.specs.Prelude.{ℕ, zero, suc, ◌+◌, ◌*◌, ◌%◌, List, get_or, set, if◌then◌else◌}
use Rattle.wire.specs.Test.{◌<?◌, ◌≤?◌, ◌=?◌}
use Rattle.connection.specs.declared.event.Fault.{Fault}
use Rattle.connection.specs.declared.event.Measure.{Measure}
use Rattle.connection.specs.Codes.{fault_number}

-- A number of entry i; 0 where there is none.
unfoldable pub number_of : List ℕ → ℕ → ℕ → ℕ
number_of kept field i =
    if 16 ≤? i then 0
    else if 10 ≤? field then 0
    else get_or kept (field * 16 + i) 0

-- The same with n as that number.
unfoldable pub with_number : List ℕ → ℕ → ℕ → ℕ → List ℕ
with_number kept field i n =
    if i <? 16 then (if field <? 10 then set kept (field * 16 + i) n else kept)
    else kept

-- The id of entry i is its first number.
abbrev pub id_of : List ℕ → ℕ → ℕ
id_of kept i = number_of kept 0 i % 65536

-- The first entry with that id, from entry i on; 16 where there is none. (The first argument is how many are left.)
unfoldable pub entry_from : ℕ → List ℕ → ℕ → ℕ → ℕ
entry_from zero kept id i = i
entry_from (suc k) kept id i = if id_of kept i =? id then i else entry_from k kept id (i + 1)

abbrev pub entry_of : List ℕ → ℕ → ℕ
entry_of kept id = entry_from 16 kept id 0

-- What the end of STDIN said, as a number and back.
abbrev pub measure_number : Measure → ℕ
measure_number Measure.Unstated = 0
measure_number Measure.Exact = 1
measure_number Measure.Short = 2
measure_number Measure.Over = 3

unfoldable pub measure_by : ℕ → Measure
measure_by n =
    if n =? 1 then Measure.Exact
    else if n =? 2 then Measure.Short
    else if n =? 3 then Measure.Over
    else Measure.Unstated

-- A fault by its number and its place, which is 0 where it has none.
abbrev pub place_number : Fault → ℕ
place_number Fault.BeginAgain = 0
place_number Fault.OutOfTurn = 0
place_number Fault.WrongType = 0
place_number Fault.TooLong = 0
place_number (Fault.Malformed at) = at
place_number Fault.Repeated = 0

unfoldable pub fault_by : ℕ → ℕ → Fault
fault_by n place =
    if n =? 21 then Fault.BeginAgain
    else if n =? 22 then Fault.OutOfTurn
    else if n =? 23 then Fault.WrongType
    else if n =? 24 then Fault.TooLong
    else if n =? 25 then Fault.Malformed (place % 65536)
    else Fault.Repeated

-- A request that was opened: its id, its role, no body yet, nothing said.
abbrev pub noted : List ℕ → ℕ → ℕ → ℕ → ℕ → List ℕ
noted kept i id role none =
    with_number (with_number (with_number (with_number (with_number (with_number (with_number (with_number kept
    0 i id) 1 i role) 2 i 0) 3 i none) 4 i none) 5 i 0) 6 i 0) 7 i 0

-- A request with a fault: its number and its place.
abbrev pub with_fault : List ℕ → ℕ → Fault → List ℕ
with_fault kept i fault = with_number (with_number kept 9 i (fault_number fault)) 7 i (place_number fault)
