-- The answers of the calls that write, as numbers, and the number of an output stream.
use Rattle.std.specs.Prelude.{ℕ, Bool, ◌||◌, if◌then◌else◌}
use Rattle.wire.specs.Test.{◌=?◌}
use Rattle.record.specs.Names.{STDOUT, STDERR}
use Rattle.pair_writer.specs.Write as Pair
use Rattle.connection.specs.declared.answer.Output.{Output}
use Rattle.connection.specs.Calls.{Written, Finished, Replied}
use Rattle.queue.specs.Calls.{Queueing, Pumped, conn_of}
use Rattle.flat_state.specs.declared.FlatState.{FlatState}
use Rattle.flat_state.specs.Flat.{flat_of}
use Rattle.flat_answer.specs.declared.answer.FlatQueued.{FlatQueued}
use Rattle.flat_answer.specs.declared.answer.FlatPumped.{FlatPumped}
use Rattle.flat_answer.specs.declared.answer.FlatWritten.{FlatWritten}
use Rattle.flat_answer.specs.declared.answer.FlatFinished.{FlatFinished}
use Rattle.flat_answer.specs.declared.answer.FlatWrote.{FlatWrote}
use Rattle.flat_answer.specs.ReadAnswers.{flag_number}

-- ---- output streams: the type of their records
abbrev pub known_output : ℕ → Bool
known_output n = (n =? STDOUT) || (n =? STDERR)

unfoldable pub output_of : ℕ → Output
output_of n = if n =? STDOUT then Output.Stdout else Output.Stderr

-- ---- the calls by which output comes to wait
unfoldable pub flat_queued : Queueing → FlatQueued
flat_queued q = record { state = flat_of (conn_of q.left); refusal = q.refusal }

abbrev pub unqueued : FlatState → ℕ → FlatQueued
unqueued f refusal = record { state = f; refusal = refusal }

-- ---- the pump
unfoldable pub flat_pumped : Pumped → FlatPumped
flat_pumped p =
    record {
      records = p.records;
      written = p.written;
      state = flat_of (conn_of p.left);
      refusal = p.refusal;
      closed = flag_number p.closed;
    }

abbrev pub unpumped : FlatState → ℕ → FlatPumped
unpumped f refusal = record { records = 0; written = 0; state = f; refusal = refusal; closed = 0 }

-- ---- output straight out
unfoldable pub flat_written : Written → FlatWritten
flat_written w = record { written = w.written; state = flat_of w.conn; refusal = w.refusal }

abbrev pub unwritten : FlatState → ℕ → FlatWritten
unwritten f refusal = record { written = 0; state = f; refusal = refusal }

-- ---- the end of a request straight out
unfoldable pub flat_finished : Finished → FlatFinished
flat_finished x =
    record { written = x.written; state = flat_of x.conn; refusal = x.refusal; closed = flag_number x.closed }

abbrev pub unfinished : FlatState → ℕ → FlatFinished
unfinished f refusal = record { written = 0; state = f; refusal = refusal; closed = 0 }

-- ---- replies and pairs
unfoldable pub flat_replied : Replied → FlatWrote
flat_replied r = record { written = r.written; refusal = r.refusal }

unfoldable pub flat_pair_written : Pair.Written → FlatWrote
flat_pair_written w = record { written = w.bytes; refusal = w.refusal }

abbrev pub wrote_nothing : ℕ → FlatWrote
wrote_nothing refusal = record { written = 0; refusal = refusal }
