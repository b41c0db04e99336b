-- What one request writes, and what its part of a call comes to, read in the rules' numbers and values.
use Rattle.std.specs.Prelude.{ℕ, Bool, true, not, List, length, if◌then◌else◌, Ok, Err, Result}
use Rattle.connection.specs.declared.request.RequestState.{RequestState}
use Rattle.connection.specs.declared.request.Request.{Request}
use Rattle.connection.specs.Request.{is_spent, with_state}
use Rattle.connection.specs.RequestCalls.{Writing, writes}
use Rattle.server.specs.declared.state.Input.{Input}
use Rattle.server.specs.declared.answer.ServerRefusal.{ServerRefusal}
use Rattle.server.specs.Codes.{wrote_refusal, wrote_bytes}
use Rattle.server.specs.Calls.{Part, is_turn, in_turn, part_bytes, state_after, own_refusal}
use Rattle.server_part.specs.declared.Said.{Said}
use Rattle.pair_writer.specs.declared.PairRefusal.{PairRefusal}

-- the condition of row 61, of a part of that stream
abbrev pub out_of_turn : RequestState → Input → Bool
out_of_turn m input = if is_spent m.life then true else not (is_turn m.turn input)

-- the condition of row 61, of a part
abbrev pub late : Request → Part → Bool
late r part = if is_spent r.state.life then true else not (in_turn r.state.turn part)

-- what writing a pair answers
abbrev pub wrote_of : Result ℕ PairRefusal → Result ℕ ServerRefusal
wrote_of (Ok n) = Ok n
wrote_of (Err PairRefusal.TooLong) = Err ServerRefusal.TooLong
wrote_of (Err PairRefusal.NoRoom) = Err ServerRefusal.NoRoom

abbrev pub said_by : Said → List ℕ → Writing
said_by r buffer =
    record { refusal = wrote_refusal r.wrote; written = wrote_bytes r.wrote; request = r.request; buffer = buffer }

-- a part that one request writes: rows 61, 8 and 6, its bytes, and the request afterwards
unfoldable pub part_in : Request → Part → List ℕ → Writing
part_in r part buffer =
    writes (own_refusal r part (length buffer)) (part_bytes r.id part) (with_state r (state_after r.state part)) r buffer
