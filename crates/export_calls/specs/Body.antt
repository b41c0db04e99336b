-- The exported calls of readings in a body and of their correction. A reader with an unknown code is refused by 9, and
-- stays as it came; a card of an unknown kind is refused by 43.
use Rattle.std.specs.Prelude.{ℕ, List, ℤ, if◌then◌else◌}
use Rattle.reading_reader.specs.Reader.{fresh_reader, read_on, body_end}
use Rattle.reading_writer.specs.Written.{Written, reading_written}
use Rattle.ice_correction.specs.Correction.{corrected}
use Rattle.flat_answer.specs.declared.answer.FlatWrote.{FlatWrote}
use Rattle.flat_reading.specs.declared.FlatReader.{FlatReader}
use Rattle.flat_reading.specs.declared.FlatRead.{FlatRead}
use Rattle.flat_reading.specs.declared.FlatEnded.{FlatEnded}
use Rattle.flat_reading.specs.declared.FlatCard.{FlatCard}
use Rattle.flat_reading.specs.declared.FlatCorrected.{FlatCorrected}
use Rattle.flat_reading.specs.Reader.{flat_reader, reader_of, known_reader}
use Rattle.flat_reading.specs.Answers.{flatRead, unread, flatEnded, unended, flatCorrected}
use Rattle.flat_reading.specs.Cards.{calibration_of}
use Rattle.export_calls.specs.Say.{Filled}

-- yot_new_reader
abbrev pub exported_new_reader : FlatReader
exported_new_reader = flat_reader fresh_reader

-- yot_read_reading
unfoldable pub exported_read : FlatReader → List ℕ → FlatRead
exported_read f bytes = if known_reader f then flatRead (read_on (reader_of f) bytes) else unread f

-- yot_end_body
unfoldable pub exported_end_body : FlatReader → FlatEnded
exported_end_body f = if known_reader f then flatEnded (body_end (reader_of f)) else unended f

-- yot_write_reading
abbrev pub reading_left : Written → Filled FlatWrote
reading_left w = record { answer = record { written = w.bytes; refusal = w.refusal }; out = w.buffer }

abbrev pub exported_reading : List ℕ → ℕ → ℤ → ℕ → Filled FlatWrote
exported_reading out log tenths raw = reading_left (reading_written (record { log = log; tenths = tenths; raw = raw }) out)

-- yot_correct
unfoldable pub exported_correct : FlatCard → FlatCard → ℤ → ℕ → FlatCorrected
exported_correct thawed frozen tenths raw = flatCorrected (corrected (calibration_of thawed frozen) tenths raw)
