-- What serving one slot comes to, function by function. Definitions only.
use Rattle.std.specs.Prelude.{◌≡◌, ℕ, ◌+◌, ◌*◌, ◌≤◌, ◌<◌, Bool, false, not, List, [], ◌∷◌, length, take, if◌then◌else◌}
use Rattle.wire.specs.Test.{◌<?◌, ◌=?◌}
use Rattle.wire.specs.Buffer.{put_at}
use Rattle.connection.specs.declared.request.Request.{Request}
use Rattle.connection.specs.declared.answer.Output.{Output}
use Rattle.connection.specs.Sizes.{SLOTS, STORE}
use Rattle.connection.specs.Refusal.{◌when◌, refusal}
use Rattle.connection.specs.Run.{Memory}
use Rattle.queue_slot.specs.declared.Ends.{Ends}
use Rattle.queue_slot.specs.Atoms.{RUN}
use Rattle.queue.specs.Numbers.{count_at}
use Rattle.queue_slot.specs.Wait.{ROOM, Wait, no_ends, run_length, Served, ServesEnd, with_front, serve_run}
use Rattle.queue.specs.Calls.{QUEUE, PUMPED, QueueMemory, wait_at, PumpedRecord, write_served, or}

-- the rows of a turn, by sizes and tests
unfoldable pub pump_rows : ℕ → ℕ → Bool → Bool → ℕ → ℕ → ℕ
pump_rows store queue fits is_open out allowance =
    refusal ((2 when or (not (store =? STORE)) (not (queue =? QUEUE))) ∷ (9 when not fits) ∷ (1 when not is_open) ∷ (6 when (out <? PUMPED * allowance)) ∷ [])

-- END alone waits: no end, no data
unfoldable pub only_end : Ends → ℕ → Bool → Bool
only_end front count last = if count =? 0 then (if no_ends front then last else false) else false

-- A record can be written: the slot is one of the 16, and there is room for it.
pub record Servable (i : ℕ) (out : List ℕ) (at : ℕ) : Type 0 where
  pub low : i < SLOTS
  pub room : at + 520 ≤ length out

-- That record was written from a place on, and this is left.
pub record Wrote (p : PumpedRecord) (left : QueueMemory) (out after : List ℕ) (at next : ℕ) : Type 0 where
  pub leaves : left ≡ p.left
  pub place : next ≡ at + length p.bytes
  pub buffer : after ≡ put_at out at p.bytes

-- What is next in slot i was written, whatever the connection is.
abbrev pub Serves : (Wait → Served) → ℕ → ℕ → (Memory → QueueMemory) → (Memory → QueueMemory) → List ℕ → List ℕ → ℕ → ℕ → Type 0
Serves what i id m left out after at next =
    (memory : Memory) (r : Request) → r.id ≡ id → Wrote (write_served (m memory) i r (what (wait_at (m memory) i))) (left memory) out after at next

-- the end of a stream, with these ends left at the front
abbrev pub serve_end : Output → Ends → Wait → Served
serve_end o e w = ServesEnd o (with_front w e)

-- the longest run of one stream
abbrev pub serve_longest : Wait → Served
serve_longest w = serve_run w (run_length RUN (take w.count w.marks))

-- So many data bytes wait in slot i, and they fit: numbers, marks and queue have their sizes.
pub record Filled (waits marks queue : List ℕ) (i count : ℕ) : Type 0 where
  pub marks_size : length marks ≡ QUEUE
  pub queue_size : length queue ≡ QUEUE
  pub counted : count ≡ count_at waits i
  pub fits : count ≤ ROOM
