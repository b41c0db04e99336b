use mathlib.Core.Path.{◌≡◌, ◌∙◌}
use mathlib.Core.List.{◌++◌}
use Prim.Native.Nat.{◌+◌, ◌-◌, ◌<◌}
use native.Mathlib.Omega.{arith}
use Rattle.record_writer.specs.Written.{padding_of}
use Rattle.record_writer.proofs.WrittenLaws.{padding_small}
use Rattle.pair_stream.proofs.StreamLaws.{padding_is, piece_placed}
use Rattle.pair_stream.proofs.put_piece.Goals as goal

pub overflow_sub-padding : goal.overflow_sub-padding
overflow_sub-padding c =
    let size : (c.record_length.result ≡ 8 + c.args.n + padding_of c.args.n) × (padding_of c.args.n < 8) =
    (c.record_length.ensures ∙ padding_is c.args.n, padding_small c.args.n) in
    omega (arith, size)

pub overflow_sub-padding-2 : goal.overflow_sub-padding-2
overflow_sub-padding-2 c =
    let size : (c.record_length.result ≡ 8 + c.args.n + padding_of c.args.n) × (padding_of c.args.n < 8) =
    (c.record_length.ensures ∙ padding_is c.args.n, padding_small c.args.n) in
    omega (arith, size)

pub overflow_cast-padding : goal.overflow_cast-padding
overflow_cast-padding c =
    let size : (c.record_length.result ≡ 8 + c.args.n + padding_of c.args.n) × (padding_of c.args.n < 8) =
    (c.record_length.ensures ∙ padding_is c.args.n, padding_small c.args.n) in
    omega (arith, size)

pub copy_part-requires : goal.copy_part-requires
copy_part-requires c = omega (arith, c.requires.2, padding_is c.args.n)

pub slice_bounds-copy_into-end-2 : goal.slice_bounds-copy_into-end-2
slice_bounds-copy_into-end-2 c =
    let size : (c.record_length.result ≡ 8 + c.args.n + padding_of c.args.n) × (padding_of c.args.n < 8) =
    (c.record_length.ensures ∙ padding_is c.args.n, padding_small c.args.n) in
    omega (arith, size)

pub returns : goal.returns
returns c =
    let size : (c.record_length.result ≡ 8 + c.args.n + padding_of c.args.n) × (padding_of c.args.n < 8) =
    (c.record_length.ensures ∙ padding_is c.args.n, padding_small c.args.n) in
    let a = c.args in
    piece_placed a.out.now a.at a.kind a.id a.from a.n (a.a.now ++ a.b.now ++ a.c.now) (c.record_length.result - 8 - a.n) c.requires.0 c.requires.1 c.requires.2 (omega (arith, size))
    c.header_bytes-header.ensures c.copy_into.ensures c.copy_part.ensures c.copy_into-2.ensures
