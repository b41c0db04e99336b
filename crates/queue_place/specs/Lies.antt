-- Where the value of a name, and a request's list, lie in the store: for callers that cannot be handed a part of it.
use Rattle.std.specs.Prelude.{ℕ, Bool, true, false, List, [], length, if◌then◌else◌, Some, None, Ok, Err, Result, Option}
use Rattle.wire.specs.Test.{◌=?◌}
use Rattle.connection.specs.Codes.{refusal_number}
use Rattle.connection.specs.RequestCalls as Of
use Rattle.queue.specs.Calls.{QueueMemory, conn_of, queue_value, queue_source, queue_walk}
use Rattle.queue_list.specs.Places.{queue_value_place, queue_list_place}
use Rattle.connection.specs.declared.answer.Refusal.{Refusal}

-- The refusal, 0 for none; whether there is what was asked for; from which byte of the store on, and how many bytes.
pub record Lies : Type 0 where
  pub refusal : ℕ
  pub found : Bool
  pub offset : ℕ
  pub size : ℕ

abbrev pub lies_at : ℕ → ℕ → Lies
lies_at offset size = record { refusal = 0; found = true; offset = offset; size = size }

abbrev pub nowhere : ℕ → Lies
nowhere refusal = record { refusal = refusal; found = false; offset = 0; size = 0 }

abbrev pub lies_by : (Result (Option (ℕ × ℕ)) Refusal) → Lies
lies_by (Ok (Some (offset, size))) = lies_at offset size
lies_by (Ok None) = nowhere 0
lies_by (Err r) = nowhere (refusal_number r)

-- a place that there is
abbrev pub placed : Option ℕ → ℕ
placed (Some place) = place
placed None = 0

-- what was found in the store, in the fallback, or not at all
abbrev pub by_source : Of.Source → Lies → Lies
by_source Of.FromStore lies = lies
by_source Of.FromFallback lies = nowhere 0
by_source (Of.SourceRefused n) lies = nowhere n

-- The value of a name: where `value` finds it in the store, as long as it answers it.
unfoldable pub value_lies : QueueMemory → ℕ → List ℕ → Lies
value_lies m id name =
    by_source (queue_source m id name)
    (lies_at (placed (queue_value_place (conn_of m) m.waits m.memory.store id name))
    (length (queue_value m id name [])))

-- A request's list: where the walk's bytes lie.
unfoldable pub list_lies : QueueMemory → ℕ → Lies
list_lies m id =
    let w = queue_walk m id in
    if w.refusal =? 0
    then lies_at (queue_list_place (conn_of m) m.waits m.memory.store id) (length w.list)
    else nowhere w.refusal
