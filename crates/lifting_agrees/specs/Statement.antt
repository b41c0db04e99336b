-- What is promised of lifting one request out of a capture (request [13]), the statement. `Theorem.lift_theorem` is its
-- proof.
--
-- Start a lift of request R, and make any number of calls, each with a piece of the capture and a buffer of any length;
-- what a call does not use is handed to a later call first. After any of them, the bytes that were written, and then
-- those that wait for room, are the copy of R's records in all that was used; and the verdict is that of all that was
-- used (`any_calls`). Copy and verdict are defined of a whole capture (`lifting/Lift`), so neither the cutting nor the
-- sizes of the buffers matter. A record that closes ends a capture: what comes after it is not used, and changes
-- neither the copy nor the verdict (`close_is_final`). A call that may go on does: where bytes wait, or bytes are left
-- to use and the capture is not closed, and the buffer has room for one byte, at least one is used or written
-- (`goes_on_lem`).
--
-- And the copy is as good as the capture, for R: what a replay of the copy tells of R is what a replay of the capture
-- tells of R, unless an opening of R was refused there for want of a slot (`same_events`). This holds of cut captures
-- and of those that close, too.
use Rattle.std.specs.Prelude.{ℕ, ◌+◌, ◌<◌, ◌≡◌, true, false, ◌⊎◌, length, take, if◌then◌else◌}
use mathlib.Core.List.{List, [], ◌∷◌, ◌++◌, Memᴰ}
use Rattle.wire.specs.Test.{◌=?◌}
use Rattle.machine.specs.Cause.{Cause}
use Rattle.connection.specs.Sizes.{STORE, QUERY}
use Rattle.connection.specs.Event.{Event}
use Rattle.connection.specs.Bytewise.{Note, Told, Shown}
use Rattle.connection.specs.Run.{event_id}
use Rattle.wire.proofs.Bytes.{AllBytes}
use Rattle.plain.specs.Plain.{Word, heard}
use Rattle.plain.specs.Plain as P
use Rattle.lifting.specs.Lift.{Verdict, Clean, Cut, ClosedAt, copy_of, verdict_of}
use Rattle.lifting.specs.Call.{Lifting, lift_started, lift_refusal, lifted, waiting_bytes, verdict_now}

-- ---- calls one after another
pub record Call : Type 0 where
  pub piece : List ℕ
  pub buffer : List ℕ

-- where they lead: what was used and what was written, in order, and the lift and the store afterwards
pub record Outcome : Type 0 where
  pub used : List ℕ
  pub written : List ℕ
  pub lifting : Lifting
  pub store : List ℕ

unfoldable pub all_lifted : Outcome → List Call → Outcome
all_lifted o [] = o
all_lifted o (c ∷ cs) =
    let r = lifted o.lifting o.store c.piece c.buffer in
    all_lifted
    (record {
      used = o.used ++ take r.used c.piece;
      written = o.written ++ take r.written r.buffer;
      lifting = r.lifting;
      store = r.store;
    })
    cs

abbrev pub PiecesAreBytes : List Call → Type 0
PiecesAreBytes [] = Unit {0}
PiecesAreBytes (c ∷ cs) = AllBytes c.piece × PiecesAreBytes cs

-- from a start
abbrev pub lift_run : List ℕ → List ℕ → ℕ → List Call → Outcome
lift_run gathered store R cs =
    all_lifted
    (record {
      used = [];
      written = [];
      lifting = (lift_started gathered store R).lifting;
      store = (lift_started gathered store R).store;
    })
    cs

-- ---- the last word of a replay that a verdict stands for
abbrev pub word_of : Verdict → Word
word_of Clean = P.Open
word_of Cut = P.Cut
word_of (ClosedAt cause at) = P.Closed cause

-- ---- what is told of R
abbrev pub note_id : Note → ℕ
note_id (Told e) = event_id e
note_id (Shown id stream b) = id

unfoldable pub notes_of : ℕ → List Note → List Note
notes_of R [] = []
notes_of R (n ∷ ns) = if note_id n =? R then n ∷ notes_of R ns else notes_of R ns

-- no opening of R is refused for want of a slot
abbrev pub NeverOverloaded : ℕ → List Note → Type 0
NeverOverloaded R ns = Memᴰ (Told (Event.Refuse R 2)) ns → ⊥

-- ---- the statement
pub record LiftTheorem : Type 0 where
  pub any_calls : (gathered store : List ℕ) (R : ℕ) (cs : List Call) → length gathered ≡ QUERY
      → length store ≡ STORE → 0 < R → PiecesAreBytes cs
      → ((lift_run gathered store R cs).written ++ waiting_bytes (lift_run gathered store R cs).lifting
      ≡ copy_of R (lift_run gathered store R cs).used)
      × (verdict_now (lift_run gathered store R cs).lifting ≡ verdict_of (lift_run gathered store R cs).used)
  pub last_word_lem : (b : List ℕ) → word_of (verdict_of b) ≡ (heard b).word
  pub closed_uses_none : (l : Lifting) (store piece buffer : List ℕ) → l.state.conn.«open» ≡ false
      → (lifted l store piece buffer).used ≡ 0
  pub close_is_final : (R : ℕ) (b more : List ℕ) (cause : Cause) (at : ℕ) → verdict_of b ≡ ClosedAt cause at
      → (copy_of R (b ++ more) ≡ copy_of R b) × (verdict_of (b ++ more) ≡ ClosedAt cause at)
  pub goes_on_lem : (l : Lifting) (store piece buffer : List ℕ) → length l.header ≡ 8 → lift_refusal l store ≡ 0
      → 0 < length buffer → (0 < length (waiting_bytes l)) ⊎ ((l.state.conn.«open» ≡ true) × (0 < length piece))
      → 0 < (lifted l store piece buffer).used + (lifted l store piece buffer).written
  pub same_events : (R : ℕ) (b : List ℕ) → 0 < R → NeverOverloaded R (heard b).events
      → notes_of R (heard (copy_of R b)).events ≡ notes_of R (heard b).events
