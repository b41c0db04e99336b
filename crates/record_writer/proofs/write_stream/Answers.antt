use mathlib.Core.Path.{◌≡◌, refl, sym, ap, ◌∙◌}
use Prim.Native.Nat.{◌+◌, ◌≤◌, ◌<◌}
use native.Mathlib.Omega.{arith}
use mathlib.Core.List.{[]}
use lib.ListN.{length, drop, drop_of_length-le}
use Rattle.wire.specs.Buffer.{put_at}
use Rattle.wire.proofs.BufferLaws.{put_none}
use Rattle.record_writer.specs.Written.{stream_bytes}
use Rattle.record_writer.proofs.StreamLaws.{stream_fits_lem, stream_length_lem, stream_none, LoopTurn, stream_turn, stream_placed_lem, stream_unplaced}
use Rattle.record_writer.proofs.write_stream.Goals as goal

pub returns-then-not-stream_fits : goal.returns-then-not-stream_fits
returns-then-not-stream_fits c =
    let a = c.args in
    stream_unplaced a.out.now a.at a.kind a.id a.bytes.now a.size (sym c.stream_fits.ensures ∙ c.if-not-stream_fits.true)

pub loop-from-init : goal.loop-from-init
loop-from-init c = (omega arith, refl, refl, refl)

pub overflow_add-next : goal.overflow_add-next
overflow_add-next c = omega (arith, c.least-n.ensures)

pub slice_bounds-write_record-count : goal.slice_bounds-write_record-count
slice_bounds-write_record-count c = omega (arith, c.least-n.ensures)

pub slice_bounds-write_record-start : goal.slice_bounds-write_record-start
slice_bounds-write_record-start c = omega (arith, c.least-n.ensures)

pub slice_bounds-write_record-end : goal.slice_bounds-write_record-end
slice_bounds-write_record-end c = omega (arith, c.least-n.ensures)

pub loop-from-smaller : goal.loop-from-smaller
loop-from-smaller c =
    let fits : (0 < c.args.size) × (c.args.at + length (stream_bytes c.args.size c.args.kind c.args.id c.args.bytes.now) ≤ length c.args.out.now) =
    let a = c.args in
    let f = stream_fits_lem a.size (length a.bytes.now) a.at (length a.out.now) (sym c.stream_fits.ensures ∙ c.if-not-stream_fits.false) in
    (f.0, omega (arith, f.1, stream_length_lem a.size a.kind a.id f.0 a.bytes.now)) in
    let turn : LoopTurn c.args.size c.args.kind c.args.id c.args.bytes.now c.loop-from.out c.write_record-place.new.out c.loop-from.place c.write_record-place.result c.loop-from.from c.least-n.result =
    let a = c.args in
    let f = fits in
    stream_turn a.size a.kind a.id a.bytes.now c.loop-from.out c.write_record-place.new.out c.loop-from.place c.write_record-place.result c.loop-from.from c.least-n.result f.0 (omega arith)
    c.loop-from-test.true c.least-n.ensures (omega (arith, f.1)) c.write_record-place.ensures in
    omega (arith, turn)

pub loop-from-preserved : goal.loop-from-preserved
loop-from-preserved c =
    let fits : (0 < c.args.size) × (c.args.at + length (stream_bytes c.args.size c.args.kind c.args.id c.args.bytes.now) ≤ length c.args.out.now) =
    let a = c.args in
    let f = stream_fits_lem a.size (length a.bytes.now) a.at (length a.out.now) (sym c.stream_fits.ensures ∙ c.if-not-stream_fits.false) in
    (f.0, omega (arith, f.1, stream_length_lem a.size a.kind a.id f.0 a.bytes.now)) in
    let turn : LoopTurn c.args.size c.args.kind c.args.id c.args.bytes.now c.loop-from.out c.write_record-place.new.out c.loop-from.place c.write_record-place.result c.loop-from.from c.least-n.result =
    let a = c.args in
    let f = fits in
    stream_turn a.size a.kind a.id a.bytes.now c.loop-from.out c.write_record-place.new.out c.loop-from.place c.write_record-place.result c.loop-from.from c.least-n.result f.0 (omega arith)
    c.loop-from-test.true c.least-n.ensures (omega (arith, f.1)) c.write_record-place.ensures in
    let t = turn in
    (t.inside, t.kept ∙ c.loop-from.invariant.1, t.left ∙ c.loop-from.invariant.2, c.loop-from.invariant.3 ∙ t.put)

pub returns : goal.returns
returns c =
    let a = c.args in
    let stream = stream_bytes a.size a.kind a.id in
    let none : stream (drop c.loop-from.from a.bytes.now) ≡ [] = ap stream (drop_of_length-le a.bytes.now {i = c.loop-from.from} c.loop-from-test.false) ∙ stream_none a.size a.kind a.id in
    stream_placed_lem a.out.now a.at a.kind a.id a.bytes.now a.size (sym c.stream_fits.ensures ∙ c.if-not-stream_fits.false) (omega (arith, ap length none))
    (sym (c.loop-from.invariant.3 ∙ ap (put_at c.loop-from.out c.loop-from.place) none ∙ put_none c.loop-from.out c.loop-from.place))
