use mathlib.Core.Path.{◌≡◌, refl, sym, ap, ◌∙◌}
use mathlib.Core.List.{[], ◌++◌}
use Prim.Native.Nat.{ℕ, ◌+◌, ◌-◌, ◌≤◌, ◌<◌, min}
use native.Mathlib.Omega.{arith}
use lib.ListN.{length, drop, drop_of_length-le}
use Rattle.wire.specs.Buffer.{put_at}
use Rattle.wire.proofs.BufferLaws.{put_none}
use Rattle.record_writer.specs.Written.{stream_bytes}
use Rattle.record_writer.proofs.StreamLaws.{stream_fits_lem, stream_length_lem, stream_none, LoopTurn, stream_placed_lem}
use Rattle.pair_stream.proofs.StreamLaws.{three_length, piece_room, piece_turn}
use Rattle.pair_stream.proofs.put_records.Goals as goal

pub loop-from-init : goal.loop-from-init
loop-from-init c = (omega arith, refl, refl, refl)

pub put_piece-place-requires : goal.put_piece-place-requires
put_piece-place-requires c =
    let fits : (0 < c.args.size) × (c.loop-from.place + length (stream_bytes c.args.size c.args.kind c.args.id (drop c.loop-from.from (c.args.a.now ++ c.args.b.now ++ c.args.c.now))) ≤ length c.loop-from.out) =
    let a = c.args in
    let x = a.a.now ++ a.b.now ++ a.c.now in
    let f = stream_fits_lem a.size (length x) 0 (length a.out.now) c.requires.1 in
    let i = c.loop-from.invariant in
    (f.0, omega (arith, f.1, i.1, i.2, stream_length_lem a.size a.kind a.id f.0 x)) in
    let chunk : (c.loop-from.from < length (c.args.a.now ++ c.args.b.now ++ c.args.c.now)) × (c.least-n.result ≡ min c.args.size (length (c.args.a.now ++ c.args.b.now ++ c.args.c.now) - c.loop-from.from)) =
    let a = c.args in
    let n = three_length a.a.now a.b.now a.c.now in
    (omega (arith, n, c.loop-from-test.true), c.least-n.ensures ∙ ap (λ (k : ℕ). min a.size (k - c.loop-from.from)) (sym n)) in
    let a = c.args in
    let x = a.a.now ++ a.b.now ++ a.c.now in
    let k = chunk in
    let f = fits in
    (omega (arith, k.1), omega (arith, k.0, k.1), piece_room a.size a.kind a.id x c.loop-from.from c.least-n.result c.loop-from.place (length c.loop-from.out) f.0 k.0 k.1 f.1)

pub overflow_add-from : goal.overflow_add-from
overflow_add-from c =
    let chunk : (c.loop-from.from < length (c.args.a.now ++ c.args.b.now ++ c.args.c.now)) × (c.least-n.result ≡ min c.args.size (length (c.args.a.now ++ c.args.b.now ++ c.args.c.now) - c.loop-from.from)) =
    let a = c.args in
    let n = three_length a.a.now a.b.now a.c.now in
    (omega (arith, n, c.loop-from-test.true), c.least-n.ensures ∙ ap (λ (k : ℕ). min a.size (k - c.loop-from.from)) (sym n)) in
    omega (arith, chunk)

pub loop-from-smaller : goal.loop-from-smaller
loop-from-smaller c =
    let fits : (0 < c.args.size) × (c.loop-from.place + length (stream_bytes c.args.size c.args.kind c.args.id (drop c.loop-from.from (c.args.a.now ++ c.args.b.now ++ c.args.c.now))) ≤ length c.loop-from.out) =
    let a = c.args in
    let x = a.a.now ++ a.b.now ++ a.c.now in
    let f = stream_fits_lem a.size (length x) 0 (length a.out.now) c.requires.1 in
    let i = c.loop-from.invariant in
    (f.0, omega (arith, f.1, i.1, i.2, stream_length_lem a.size a.kind a.id f.0 x)) in
    let chunk : (c.loop-from.from < length (c.args.a.now ++ c.args.b.now ++ c.args.c.now)) × (c.least-n.result ≡ min c.args.size (length (c.args.a.now ++ c.args.b.now ++ c.args.c.now) - c.loop-from.from)) =
    let a = c.args in
    let n = three_length a.a.now a.b.now a.c.now in
    (omega (arith, n, c.loop-from-test.true), c.least-n.ensures ∙ ap (λ (k : ℕ). min a.size (k - c.loop-from.from)) (sym n)) in
    let turn : LoopTurn c.args.size c.args.kind c.args.id (c.args.a.now ++ c.args.b.now ++ c.args.c.now) c.loop-from.out c.put_piece-place.new.out c.loop-from.place c.put_piece-place.result c.loop-from.from c.least-n.result =
    let a = c.args in
    let k = chunk in
    let f = fits in
    piece_turn a.size a.kind a.id (a.a.now ++ a.b.now ++ a.c.now) c.loop-from.out c.put_piece-place.new.out c.loop-from.place c.put_piece-place.result c.loop-from.from c.least-n.result
    f.0 (omega arith) k.0 k.1 f.1 c.put_piece-place.ensures in
    omega (arith, turn)

pub loop-from-preserved : goal.loop-from-preserved
loop-from-preserved c =
    let fits : (0 < c.args.size) × (c.loop-from.place + length (stream_bytes c.args.size c.args.kind c.args.id (drop c.loop-from.from (c.args.a.now ++ c.args.b.now ++ c.args.c.now))) ≤ length c.loop-from.out) =
    let a = c.args in
    let x = a.a.now ++ a.b.now ++ a.c.now in
    let f = stream_fits_lem a.size (length x) 0 (length a.out.now) c.requires.1 in
    let i = c.loop-from.invariant in
    (f.0, omega (arith, f.1, i.1, i.2, stream_length_lem a.size a.kind a.id f.0 x)) in
    let chunk : (c.loop-from.from < length (c.args.a.now ++ c.args.b.now ++ c.args.c.now)) × (c.least-n.result ≡ min c.args.size (length (c.args.a.now ++ c.args.b.now ++ c.args.c.now) - c.loop-from.from)) =
    let a = c.args in
    let n = three_length a.a.now a.b.now a.c.now in
    (omega (arith, n, c.loop-from-test.true), c.least-n.ensures ∙ ap (λ (k : ℕ). min a.size (k - c.loop-from.from)) (sym n)) in
    let turn : LoopTurn c.args.size c.args.kind c.args.id (c.args.a.now ++ c.args.b.now ++ c.args.c.now) c.loop-from.out c.put_piece-place.new.out c.loop-from.place c.put_piece-place.result c.loop-from.from c.least-n.result =
    let a = c.args in
    let k = chunk in
    let f = fits in
    piece_turn a.size a.kind a.id (a.a.now ++ a.b.now ++ a.c.now) c.loop-from.out c.put_piece-place.new.out c.loop-from.place c.put_piece-place.result c.loop-from.from c.least-n.result
    f.0 (omega arith) k.0 k.1 f.1 c.put_piece-place.ensures in
    let i = c.loop-from.invariant in
    let t = turn in
    (t.inside, t.kept ∙ i.1, t.left ∙ i.2, i.3 ∙ t.put)

pub returns : goal.returns
returns c =
    let a = c.args in
    let x = a.a.now ++ a.b.now ++ a.c.now in
    let stream = stream_bytes a.size a.kind a.id in
    let over : length x ≤ c.loop-from.from = omega (arith, three_length a.a.now a.b.now a.c.now, c.loop-from-test.false) in
    let none : stream (drop c.loop-from.from x) ≡ [] = ap stream (drop_of_length-le x {i = c.loop-from.from} over) ∙ stream_none a.size a.kind a.id in
    stream_placed_lem a.out.now 0 a.kind a.id x a.size c.requires.1 (omega (arith, ap length none))
    (sym (c.loop-from.invariant.3 ∙ ap (put_at c.loop-from.out c.loop-from.place) none ∙ put_none c.loop-from.out c.loop-from.place))
