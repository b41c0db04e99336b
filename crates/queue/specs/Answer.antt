-- What the calls with a queue answer, read in the rules' numbers and values.
use Rattle.std.specs.Prelude.{ℕ, Bool, true, false, List, Ok, Err, Result, ⊤}
use Rattle.connection.specs.Codes.{refusal_number}
use Rattle.queue.specs.declared.answer.Queueing.{Queueing as QueueCall}
use Rattle.queue.specs.declared.answer.PumpResult.{PumpResult}
use Rattle.queue.specs.declared.answer.Pumped.{Pumped as PumpCall}
use Rattle.queue.specs.Calls.{lent, Queueing, Pumped}
use Rattle.connection.specs.declared.answer.Refusal.{Refusal}

-- the refusal of a queued call, 0 for none
abbrev pub queued_number : Result ⊤ Refusal → ℕ
queued_number (Ok tt) = 0
queued_number (Err why) = refusal_number why

-- a queued call, with what is lent as it left it
abbrev pub queued_by : QueueCall → List ℕ → List ℕ → List ℕ → List ℕ → List ℕ → Queueing
queued_by r gathered store waits marks queue = record { refusal = queued_number r.result; left = lent r.conn gathered store waits marks queue }

-- the refusal of a turn, the records and the bytes that it wrote, and whether the connection closed
abbrev pub pump_refused : PumpResult → ℕ
pump_refused (PumpResult.Open records bytes) = 0
pump_refused (PumpResult.Closed records bytes) = 0
pump_refused (PumpResult.Refused why) = refusal_number why

abbrev pub pump_records : PumpResult → ℕ
pump_records (PumpResult.Open records bytes) = records
pump_records (PumpResult.Closed records bytes) = records
pump_records (PumpResult.Refused why) = 0

abbrev pub pump_bytes : PumpResult → ℕ
pump_bytes (PumpResult.Open records bytes) = bytes
pump_bytes (PumpResult.Closed records bytes) = bytes
pump_bytes (PumpResult.Refused why) = 0

abbrev pub pump_closes : PumpResult → Bool
pump_closes (PumpResult.Open records bytes) = false
pump_closes (PumpResult.Closed records bytes) = true
pump_closes (PumpResult.Refused why) = false

-- a turn of the pump
abbrev pub pumped_by : PumpCall → List ℕ → List ℕ → List ℕ → List ℕ → List ℕ → List ℕ → Pumped
pumped_by r gathered store waits marks queue buffer =
    record {
      refusal = pump_refused r.result;
      records = pump_records r.result;
      written = pump_bytes r.result;
      closed = pump_closes r.result;
      left = lent r.conn gathered store waits marks queue;
      buffer = buffer;
    }
