-- What the calls of the web server's end answer, read in the rules' numbers and values.
use Rattle.std.specs.Prelude.{ℕ, ◌≡◌, refl, false, List, length, eqb, Ok, Err, Result}
use Rattle.wire.specs.Buffer.{put_at}
use Rattle.server.specs.declared.state.Server.{Server}
use Rattle.server.specs.declared.answer.ServerRefusal.{ServerRefusal}
use Rattle.server.specs.declared.answer.ServerWritten.{ServerWritten}
use Rattle.server.specs.Codes.{refusal_number, wrote_refusal, wrote_bytes}
use Rattle.server.specs.Calls.{Written, writes, Counted}

-- a call that writes, with the buffer as it left it
abbrev pub written_by : ServerWritten → List ℕ → Written
written_by r buffer =
    record { refusal = wrote_refusal r.wrote; written = wrote_bytes r.wrote; server = r.server; buffer = buffer }

-- the number of open requests
abbrev pub counted_by : Result ℕ ServerRefusal → Counted
counted_by (Ok n) = record { refusal = 0; count = n }
counted_by (Err r) = record { refusal = refusal_number r; count = 0 }

-- no refusal has the number 0
pub refusal_some : (why : ServerRefusal) → eqb (refusal_number why) 0 ≡ false
refusal_some ServerRefusal.OutOfShape = refl
refusal_some ServerRefusal.Closed = refl
refusal_some ServerRefusal.NotOpen = refl
refusal_some ServerRefusal.IdZero = refl
refusal_some ServerRefusal.IdOpen = refl
refusal_some ServerRefusal.NoSlot = refl
refusal_some ServerRefusal.UnknownRole = refl
refusal_some ServerRefusal.OutOfTurn = refl
refusal_some ServerRefusal.BadQuery = refl
refusal_some ServerRefusal.TooLong = refl
refusal_some ServerRefusal.NoRoom = refl

-- a refused call changes nothing
pub call_refused : (why : ServerRefusal) (n : ℕ) (c after : Server) (bytes buffer : List ℕ) → n ≡ refusal_number why
    → written_by (record { wrote = Err why; server = c }) buffer ≡ writes n c after bytes buffer
call_refused why n c after bytes buffer e = rw e (simp (refusal_some why))

-- one that is let through fills the buffer's start
pub call_wrote : (n : ℕ) (c after : Server) (bytes buffer : List ℕ) → n ≡ 0
    → written_by (record { wrote = Ok (length bytes); server = after }) (put_at buffer 0 bytes) ≡ writes n c after bytes buffer
call_wrote n c after bytes buffer e = rw e
