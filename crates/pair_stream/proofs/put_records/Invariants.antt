use mathlib.Core.Path.{◌≡◌}
use mathlib.Core.List.{◌++◌}
use Prim.Native.Nat.{◌+◌, ◌-◌, ◌≤◌}
use lib.ListN.{length, drop}
use Rattle.wire.specs.Buffer.{put_at}
use Rattle.record_writer.specs.Written.{stream_bytes}
use Rattle.pair_stream.proofs.put_records.Given as goal

abbrev pub invariant-loop-from : goal.invariant-loop-from
invariant-loop-from l = (l.from ≤ length (l.a ++ l.b ++ l.c))
    × (length l.out ≡ length l.initial.out)
    × (l.place + length (stream_bytes l.size l.kind l.id (drop l.from (l.a ++ l.b ++ l.c))) ≡ 0 + length (stream_bytes l.size l.kind l.id (l.a ++ l.b ++ l.c)))
    × (put_at l.initial.out 0 (stream_bytes l.size l.kind l.id (l.a ++ l.b ++ l.c)) ≡ put_at l.out l.place (stream_bytes l.size l.kind l.id (drop l.from (l.a ++ l.b ++ l.c))))

abbrev pub decreases-loop-from : goal.decreases-loop-from
decreases-loop-from l = length (l.a ++ l.b ++ l.c) - l.from
