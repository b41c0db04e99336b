-- A small slot, computed: what was said waits in its order, and a written record reads back as its atoms.
use Rattle.std.specs.Prelude.{◌≡◌, refl}
use mathlib.Core.List.{[], ◌∷◌, flatten}
use Rattle.wire.specs.Buffer.{zeros}
use Rattle.record.specs.Header.{header_of, header_bytes}
use Rattle.record.specs.Split.{front_length, whole_front, front, split_in, split}
use Rattle.record_writer.specs.Written.{padding_of, record_bytes}
use Rattle.connection.specs.declared.answer.Output.{Output}
use Rattle.queue_slot.specs.Atoms.{ByteOn, EndOf, record_atoms, atoms_of}
use Rattle.queue_slot.specs.Wait.{Wait, nothing_in, mark_of, mark_stream, ends_of, mark_ends, mark_ended, wait_data, wait_end, byte_atoms, atoms_in}

-- an empty slot
abbrev start : Wait
start = nothing_in (zeros 1024) (zeros 1024)

-- two bytes on STDOUT, one on STDERR, the end of STDERR, one byte on STDOUT, the end of STDOUT
abbrev said : Wait
said = wait_end (wait_data (wait_end (wait_data (wait_data start Output.Stdout (1 ∷ 2 ∷ [])) Output.Stderr (3 ∷ [])) Output.Stderr) Output.Stdout (4 ∷ [])) Output.Stdout

pub said_waits : atoms_in said ≡ ByteOn Output.Stdout 1 ∷ ByteOn Output.Stdout 2 ∷ ByteOn Output.Stderr 3 ∷ EndOf Output.Stderr ∷ ByteOn Output.Stdout 4 ∷ EndOf Output.Stdout ∷ []
unfolding wait_data wait_end mark_of mark_stream ends_of mark_ends mark_ended byte_atoms atoms_in
said_waits = refl

-- the record of the first two bytes, read back
pub first_record : atoms_of (record_bytes 6 1 (1 ∷ 2 ∷ [])) ≡ ByteOn Output.Stdout 1 ∷ ByteOn Output.Stdout 2 ∷ []
unfolding atoms_of record_atoms record_bytes padding_of header_bytes header_of front_length whole_front front split_in split flatten
first_record = refl
