use mathlib.Core.Path.{◌≡◌}
use Prim.Native.Nat.{◌+◌, ◌-◌, ◌≤◌}
use lib.ListN.{length, drop}
use Rattle.wire.specs.Buffer.{put_at}
use Rattle.record_writer.specs.Written.{stream_bytes}
use Rattle.record_writer.proofs.write_stream.Given as goal

abbrev pub invariant-loop-from : goal.invariant-loop-from
invariant-loop-from l = (l.from ≤ length l.bytes)
    × (length l.out ≡ length l.initial.out)
    × (l.place + length (stream_bytes l.size l.kind l.id (drop l.from l.bytes)) ≡ l.at + length (stream_bytes l.size l.kind l.id l.bytes))
    × (put_at l.initial.out l.at (stream_bytes l.size l.kind l.id l.bytes) ≡ put_at l.out l.place (stream_bytes l.size l.kind l.id (drop l.from l.bytes)))

abbrev pub decreases-loop-from : goal.decreases-loop-from
decreases-loop-from l = length l.bytes - l.from
