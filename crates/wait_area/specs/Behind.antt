-- The marks with one more end behind the last of so many bytes.
use Rattle.std.specs.Prelude.{ℕ, ◌-◌, List, set, if◌then◌else◌}
use Rattle.wire.specs.Test.{◌=?◌}
use Rattle.wire.specs.Buffer.{byte_at}
use Rattle.connection.specs.declared.answer.Output.{Output}
use Rattle.queue_slot.specs.Wait.{mark_ended}

-- without a byte there is no mark
abbrev pub end_behind : List ℕ → ℕ → Output → List ℕ
end_behind marks count o = if count =? 0 then marks else set marks (count - 1) (mark_ended (byte_at marks (count - 1)) o)
