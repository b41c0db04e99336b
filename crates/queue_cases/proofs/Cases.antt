-- More rules of section 20, computed from the definitions: mostly numbers, orders and answers that stand on both
-- sides of every theorem, so that only a computed case sees them.
use Rattle.std.specs.Prelude.{◌≡◌, refl, true, false, List, [], ◌∷◌, ◌++◌, ℕ, ◌+◌, set, take}
use Rattle.wire.specs.Buffer.{zeros}
use Rattle.slot_word.specs.Word.{taken_count}
use Rattle.record_writer.specs.Written.{record_bytes}
use Rattle.connection.specs.declared.request.Life.{Life}
use Rattle.connection.specs.declared.request.RequestState.{RequestState}
use Rattle.connection.specs.declared.answer.Output.{Output}
use Rattle.connection.specs.Sizes.{STORE}
use Rattle.connection.specs.RequestCalls as Of
use Rattle.connection.specs.Slots.{request_at, take_slot}
use Rattle.connection.specs.Step.{closes}
use Rattle.connection.specs.Calls as C
use Rattle.connection.specs.Arguments.{WalkOf, WalkIs, ForRead, ForSay, ForEnd, ForFinish, RepliedWith}
use Rattle.queue.specs.Numbers.{LOW, HOLDING, OUT_ENDS, ERR_ENDS, ERR_FIRST, LEAVING, NEXT, nobody_waits, count_at}
use Rattle.queue.specs.Calls as T
use Rattle.queue.specs.Calls.{QueueMemory, conn_of, with_conn, queue_step_refusal, queue_count, pump}
use Rattle.queue.specs.Run.{QueueOperation, StepOver, CallFor, TurnWith, Straight, ToSay, ToEnd, ToFinish, Straightly, queue_called, queue_after, final_queue, bytes_in}
use Rattle.queue.proofs.PumpTests.{begins, opening, refusal_of, computing}

-- ---- memories
-- after these operations from the start
abbrev after : List QueueOperation → QueueMemory
after os = final_queue begins os

-- 5 is open, its PARAMS ended; or 5, 9 and 7 are
abbrev five : QueueMemory
five = after (opening 5)

abbrev three : QueueMemory
three = after (opening 5 ++ (opening 9 ++ opening 7))

-- with other numbers of what waits
abbrev with_numbers : QueueMemory → List ℕ → QueueMemory
with_numbers m waits = record { memory = m.memory; waits = waits; marks = m.marks; queue = m.queue }

-- with one number of what waits set
abbrev poked : QueueMemory → ℕ → ℕ → QueueMemory
poked m place n = with_numbers m (set m.waits place n)

-- with another store and queue
abbrev resized : QueueMemory → List ℕ → List ℕ → QueueMemory
resized m store queue = record { memory = record { state = m.memory.state; store = store }; waits = m.waits; marks = m.marks; queue = queue }

-- the bytes that a turn of so many records writes into that buffer
abbrev turn : QueueMemory → ℕ → List ℕ → List ℕ
turn m allowance buffer = bytes_in m (TurnWith allowance buffer)

-- ---- a record
-- 511 bytes and two more on one stream: a record of 512, without padding, and one of the last byte, with 7 bytes of it
pub run_of_512 : turn (final_queue five (CallFor 5 (ToSay Output.Stdout (zeros 511)) ∷ CallFor 5 (ToSay Output.Stdout (1 ∷ 2 ∷ [])) ∷ [])) 2 (zeros 1040)
    ≡ (1 ∷ 6 ∷ 0 ∷ 5 ∷ 2 ∷ 0 ∷ 0 ∷ 0 ∷ []) ++ (zeros 511 ++ (1 ∷ 1 ∷ 6 ∷ 0 ∷ 5 ∷ 0 ∷ 1 ∷ 7 ∷ 0 ∷ 2 ∷ 0 ∷ 0 ∷ 0 ∷ 0 ∷ 0 ∷ 0 ∷ 0 ∷ []))
unfolding computing
run_of_512 = refl

-- A finish with STDERR used: data, the end of STDOUT, then that of STDERR, then END with the four bytes of its status.
pub last_words_lem : turn (final_queue five (CallFor 5 (ToSay Output.Stderr (99 ∷ [])) ∷ CallFor 5 (ToFinish 16909060) ∷ [])) 4 (zeros 2080)
    ≡ record_bytes 7 5 (99 ∷ []) ++ (record_bytes 6 5 [] ++ (record_bytes 7 5 [] ++ (1 ∷ 3 ∷ 0 ∷ 5 ∷ 0 ∷ 8 ∷ 0 ∷ 0 ∷ 1 ∷ 2 ∷ 3 ∷ 4 ∷ 0 ∷ 0 ∷ 0 ∷ 0 ∷ [])))
unfolding computing
last_words_lem = refl

-- Empty data waits for nothing and does not make STDERR used: the finish owes STDOUT's end alone. The end of a STDERR
-- that was not used is written all the same.
pub stderr_unused : (turn (final_queue five (CallFor 5 (ToSay Output.Stderr []) ∷ [])) 1 (zeros 520) ≡ [])
    × (turn (final_queue five (CallFor 5 (ToSay Output.Stderr []) ∷ CallFor 5 (ToFinish 0) ∷ [])) 4 (zeros 2080) ≡ record_bytes 6 5 [] ++ record_bytes 3 5 (zeros 8))
    × (turn (final_queue five (CallFor 5 (ToEnd Output.Stderr) ∷ CallFor 5 (ToFinish 0) ∷ [])) 4 (zeros 2080) ≡ record_bytes 7 5 [] ++ (record_bytes 6 5 [] ++ record_bytes 3 5 (zeros 8)))
unfolding computing
stderr_unused = (refl, refl, refl)

-- ---- going round
-- 5, 9 and 7 are in slots 0, 1 and 2, and each says a byte, 5 a second one later
abbrev busy : QueueMemory
busy = final_queue three (CallFor 7 (ToSay Output.Stdout (3 ∷ [])) ∷ CallFor 9 (ToSay Output.Stdout (2 ∷ [])) ∷ CallFor 5 (ToSay Output.Stdout (1 ∷ [])) ∷ CallFor 5 (ToSay Output.Stderr (4 ∷ [])) ∷ [])

-- a record of a byte on STDOUT
abbrev byte_of : ℕ → ℕ → List ℕ
byte_of id b = record_bytes 6 id (b ∷ [])

-- After start from slot 0 on, upwards, and round again. From slot 2 on: 7, then 5, then 9. From slot 3 or 15 on, where
-- nobody waits: 5 first. A number over 15 stands for slot 0.
pub going_round : (turn busy 5 (zeros 2600) ≡ byte_of 5 1 ++ (byte_of 9 2 ++ (byte_of 7 3 ++ record_bytes 7 5 (4 ∷ []))))
    × (turn (poked busy NEXT 2) 3 (zeros 1560) ≡ byte_of 7 3 ++ (byte_of 5 1 ++ byte_of 9 2))
    × (turn (poked busy NEXT 15) 2 (zeros 1040) ≡ byte_of 5 1 ++ byte_of 9 2)
    × (turn (poked busy NEXT 17) 1 (zeros 520) ≡ byte_of 5 1)
    × (turn (final_queue busy (TurnWith 1 (zeros 520) ∷ [])) 2 (zeros 1040) ≡ byte_of 9 2 ++ byte_of 7 3)
unfolding computing
going_round = (refl, refl, refl, refl, refl)

-- 5 is in slot 0, and 16, which is as 5 is, in slot 15; both end STDOUT
abbrev apart : QueueMemory
apart =
    let c = conn_of five in
    final_queue (with_conn five (record { table = take_slot c.table 15 (record { id = 16; length = 0; state = (request_at c.table 0).state }); frame = c.frame; «open» = true }))
    (CallFor 5 (ToEnd Output.Stdout) ∷ CallFor 16 (ToEnd Output.Stdout) ∷ [])

-- After slot 15 comes slot 0. A number over 15 stands for 0.
pub last_slot : (turn (poked apart NEXT 15) 2 (zeros 1040) ≡ record_bytes 6 16 [] ++ record_bytes 6 5 []) × (turn (poked apart NEXT 14) 2 (zeros 1040) ≡ record_bytes 6 16 [] ++ record_bytes 6 5 [])
    × (turn (poked apart NEXT 16) 2 (zeros 1040) ≡ record_bytes 6 5 [] ++ record_bytes 6 16 []) × (turn (poked apart NEXT 65535) 1 (zeros 520) ≡ record_bytes 6 5 [])
unfolding computing
last_slot = (refl, refl, refl, refl)

-- A turn that may write nothing is not refused, needs no buffer, and changes nothing.
pub no_allowance : ((pump busy 0 []).refusal ≡ 0) × ((pump busy 0 []).records ≡ 0) × ((pump (poked five NEXT 3) 0 []).left.waits ≡ set nobody_waits NEXT 3)
unfolding computing
no_allowance = (refl, refl, refl)

-- ---- room
-- the end of STDERR waits, and then 1,024 bytes
abbrev full : QueueMemory
full = final_queue five (CallFor 5 (ToEnd Output.Stderr) ∷ CallFor 5 (ToSay Output.Stdout (zeros 1024)) ∷ [])

-- Ends take no room: all 1,024 bytes came to wait. No byte more does; empty data does. Once the end and one record are
-- written, 512 bytes do and 513 do not. A straight call is refused by 10 while anything waits, an end too, even with
-- nothing to say.
pub room : (count_at full.waits 0 ≡ 1024) × (refusal_of full 5 (ToSay Output.Stdout (1 ∷ [])) ≡ 10) × (refusal_of full 5 (ToSay Output.Stdout []) ≡ 0)
    × (refusal_of (final_queue full (TurnWith 2 (zeros 1040) ∷ [])) 5 (ToSay Output.Stdout (zeros 512)) ≡ 0)
    × (refusal_of (final_queue full (TurnWith 2 (zeros 1040) ∷ [])) 5 (ToSay Output.Stdout (zeros 513)) ≡ 10)
    × (refusal_of (final_queue five (CallFor 5 (ToEnd Output.Stderr) ∷ [])) 5 (Straight (ForSay Output.Stdout [] [])) ≡ 10)
    × (refusal_of (final_queue five (CallFor 5 (ToEnd Output.Stderr) ∷ [])) 5 (Straight (ForEnd Output.Stdout (zeros 8))) ≡ 10)
    × (refusal_of (final_queue five (CallFor 5 (ToEnd Output.Stderr) ∷ [])) 5 (Straight (ForFinish 0 (zeros 64))) ≡ 10)
unfolding computing
room = (refl, refl, refl, refl, refl, refl, refl, refl)

-- ---- rows 4 and 5
-- 5 is open, and its PARAMS are not ended
abbrev unready : QueueMemory
unready = after (take 2 (opening 5))

-- Before the end of PARAMS nothing may be said (4), but it may finish; once it did, 5. On a stream whose end waits: 5,
-- before 10; the other stream is not ended.
pub rows_4_and_5 : (refusal_of unready 5 (ToSay Output.Stdout []) ≡ 4) × (refusal_of unready 5 (ToEnd Output.Stderr) ≡ 4) × (refusal_of unready 5 (ToFinish 0) ≡ 0)
    × (refusal_of (final_queue unready (CallFor 5 (ToFinish 0) ∷ [])) 5 (ToSay Output.Stdout []) ≡ 5)
    × (refusal_of (final_queue five (CallFor 5 (ToEnd Output.Stdout) ∷ [])) 5 (ToSay Output.Stdout (zeros 1025)) ≡ 5)
    × (refusal_of (final_queue five (CallFor 5 (ToEnd Output.Stdout) ∷ [])) 5 (ToEnd Output.Stdout) ≡ 5)
    × (refusal_of (final_queue five (CallFor 5 (ToEnd Output.Stdout) ∷ [])) 5 (Straight (ForSay Output.Stdout (1 ∷ []) (zeros 16))) ≡ 5)
    × (refusal_of (final_queue five (CallFor 5 (ToEnd Output.Stdout) ∷ [])) 5 (ToEnd Output.Stderr) ≡ 0)
unfolding computing
rows_4_and_5 = (refl, refl, refl, refl, refl, refl, refl, refl)

-- ---- between finish and END
-- 5 has said a byte on STDERR and finishes
abbrev leaving : QueueMemory
leaving = final_queue five (CallFor 5 (ToSay Output.Stderr (99 ∷ [])) ∷ CallFor 5 (ToFinish 7) ∷ [])

-- the same with STDERR not used, so that nothing ended it
abbrev parted : QueueMemory
parted = final_queue five (CallFor 5 (ToFinish 7) ∷ [])

-- Every call that writes is refused by 5, before 6 and 10. Those that read answer as before, and it is counted.
pub while_leaving : (refusal_of parted 5 (ToSay Output.Stderr []) ≡ 5) × (refusal_of parted 5 (ToEnd Output.Stderr) ≡ 5)
    × (refusal_of parted 5 (Straight (ForSay Output.Stderr (1 ∷ []) [])) ≡ 5) × (refusal_of parted 5 (Straight (ForSay Output.Stderr (1 ∷ []) (zeros 16))) ≡ 5)
    × (refusal_of parted 5 (Straight (ForEnd Output.Stderr (zeros 8))) ≡ 5) × (refusal_of parted 5 (Straight (ForFinish 0 [])) ≡ 5)
    × ((queue_called leaving 5 (Straight (ForRead WalkOf))).answer ≡ Straightly (RepliedWith (WalkIs (record { list = []; place = 0; refusal = 0 }))))
    × (queue_count leaving ≡ record { refusal = 0; count = 1 })
unfolding computing T.queue_walk T.lent_refusal C.walk Of.walk_in queue_count C.active_count C.count_refusal taken_count
while_leaving = (refl, refl, refl, refl, refl, refl, refl, refl)

-- the request in slot 0
abbrev state_of : QueueMemory → RequestState
state_of m = (request_at (conn_of m).table 0).state

-- a record of STDIN without content, for 5
abbrev no_stdin : List ℕ
no_stdin = 1 ∷ 5 ∷ 0 ∷ 5 ∷ 0 ∷ 0 ∷ 0 ∷ 0 ∷ []

-- It is spent, and STDOUT is ended, and STDERR if it was used. A fault stays one (here STDIN out of turn).
pub spent : ((state_of leaving).life ≡ Life.Aborted) × ((state_of leaving).out_ended ≡ true) × ((state_of leaving).err_ended ≡ true) × ((state_of parted).err_ended ≡ false)
    × ((state_of (final_queue unready (StepOver no_stdin ∷ CallFor 5 (ToFinish 0) ∷ []))).life ≡ Life.Faulted)
unfolding computing
spent = (refl, refl, refl, refl, refl)

-- ---- shape
-- More than 1,024 bytes in a slot: 9. So is anything in a free slot: data, an end at the front, END; here in slots 1
-- and 15. The other numbers say nothing there.
pub out_of_shape : (refusal_of (poked (poked five HOLDING 1) 0 1023) 5 (ToEnd Output.Stdout) ≡ 0) × (refusal_of (poked (poked five HOLDING 1) 0 1024) 5 (ToEnd Output.Stdout) ≡ 9)
    × (refusal_of (poked five HOLDING 2) 5 (ToEnd Output.Stdout) ≡ 9) × (refusal_of (poked five OUT_ENDS 2) 5 (ToEnd Output.Stdout) ≡ 9)
    × (refusal_of (poked five ERR_ENDS 2) 5 (ToEnd Output.Stdout) ≡ 9) × (refusal_of (poked five LEAVING 32768) 5 (ToEnd Output.Stdout) ≡ 9)
    × (refusal_of (poked (poked (poked five ERR_FIRST 2) 1 1024) (LOW + 1) 7) 5 (ToEnd Output.Stdout) ≡ 0)
    × (queue_step_refusal (poked five LEAVING 32768) ≡ 9) × (queue_count (poked five LEAVING 32768) ≡ record { refusal = 9; count = 0 })
unfolding computing queue_count
out_of_shape = (refl, refl, refl, refl, refl, refl, refl, refl, refl)

-- Sizes: 2 for a wrong queue where it is lent, and for a wrong store in the pump, before 9. A queued end is lent
-- neither.
pub sizes : ((pump (resized five (zeros STORE) []) 0 []).refusal ≡ 2) × ((pump (resized (poked five LEAVING 2) [] five.queue) 0 []).refusal ≡ 2)
    × (refusal_of (resized five (zeros STORE) []) 5 (ToSay Output.Stdout []) ≡ 2) × (refusal_of (resized five [] []) 5 (ToEnd Output.Stdout) ≡ 0)
unfolding computing
sizes = (refl, refl, refl, refl)

-- ---- numbers
-- Three bytes and END are written: the numbers of the slot are 0 again, but for the slot that is next. Empty data
-- writes odd numbers anew in one form.
pub numbers_anew : ((final_queue five (CallFor 5 (ToSay Output.Stdout (1 ∷ 2 ∷ 3 ∷ [])) ∷ TurnWith 1 (zeros 520) ∷ [])).waits ≡ set nobody_waits NEXT 1)
    × ((final_queue five (CallFor 5 (ToSay Output.Stdout (1 ∷ 2 ∷ 3 ∷ [])) ∷ CallFor 5 (ToFinish 16909060) ∷ TurnWith 9 (zeros 4680) ∷ [])).waits ≡ set nobody_waits NEXT 1)
    × ((final_queue (poked (poked five ERR_FIRST 1) 0 9) (CallFor 5 (ToSay Output.Stdout []) ∷ [])).waits ≡ nobody_waits)
unfolding computing
numbers_anew = (refl, refl, refl)

-- Every byte is a mark: odd is STDERR, and ends over 4 are none. So bytes with marks 1, 11 and 255 are one run.
pub odd_marks : turn (record { memory = five.memory; waits = set (set nobody_waits HOLDING 1) 0 2; marks = set (set (set five.marks 0 1) 1 11) 2 255; queue = five.queue }) 2 (zeros 1040)
    ≡ record_bytes 7 5 (zeros 3)
unfolding computing
odd_marks = refl

-- ---- a close
-- 5 keeps the connection, 9 does not; both have something waiting
abbrev parting : QueueMemory
parting =
    final_queue five
    (StepOver (1 ∷ 1 ∷ 0 ∷ 9 ∷ 0 ∷ 8 ∷ 0 ∷ 0 ∷ [])
    ∷ StepOver (0 ∷ 1 ∷ 0 ∷ 0 ∷ 0 ∷ 0 ∷ 0 ∷ 0 ∷ [])
    ∷ CallFor 5 (ToSay Output.Stdout (1 ∷ []))
    ∷ CallFor 5 (ToSay Output.Stderr (2 ∷ []))
    ∷ CallFor 9 (ToFinish 0)
    ∷ [])

-- The END of 9 closes the connection: the turn answers so, with four records of 56 bytes, and after it all is
-- refused by 1, before 6. A step that closes drops what waits too (a record of version 2).
pub closing : ((pump parting 9 (zeros 4680)).closed ≡ true) × ((pump parting 9 (zeros 4680)).records ≡ 4) × ((pump parting 9 (zeros 4680)).written ≡ 56)
    × ((pump (pump parting 9 (zeros 4680)).left 1 []).refusal ≡ 1) × (refusal_of (pump parting 9 (zeros 4680)).left 5 (ToEnd Output.Stdout) ≡ 1)
    × ((queue_after parting (StepOver (2 ∷ 1 ∷ 0 ∷ 9 ∷ 0 ∷ 8 ∷ 0 ∷ 0 ∷ []))).waits ≡ nobody_waits)
unfolding computing closes
closing = (refl, refl, refl, refl, refl, refl)

-- What is there on a closed connection stays as it is.
pub closed_stays : (queue_after (poked (pump parting 9 (zeros 4680)).left NEXT 3) (StepOver (zeros 8))).waits ≡ set nobody_waits NEXT 3
unfolding computing
closed_stays = refl
