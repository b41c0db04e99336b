use Rattle.pairs.specs.Pair.{pair_bytes}
use mathlib.Core.Path.{refl}
use Prim.Native.Nat.{◌+◌, ◌<◌}
use native.Mathlib.Omega.{arith}
use lib.ListN.{length}
use borrow.Author.Tests.{lt-ltb, le-ltb}
use Rattle.pair_writer.specs.Write.{pair_written}
use Rattle.pair_writer.proofs.WriteLaws.{pair_size, pair_put, pair_written_lem}
use Rattle.pair_writer.proofs.write_pair.Goals as goal

pub returns-then-out-size : goal.returns-then-out-size
unfolding pair_written
returns-then-out-size c =
    let a = c.args in
    let h : length a.out.now < length (pair_bytes a.name.now a.value.now) = omega (arith, pair_size a.name.now a.value.now, c.length_size.ensures, c.length_size-2.ensures) in
    simp (le-ltb 65535 (length a.name.now) (omega arith), le-ltb 65535 (length a.value.now) (omega arith), lt-ltb _ _ h)

pub returns : goal.returns
returns c =
    let a = c.args in
    let size = pair_size a.name.now a.value.now in
    pair_written_lem a.out.now a.name.now a.value.now (omega arith) (omega arith) (omega arith) c.if-out-size.false
    (pair_put a.out.now a.name.now a.value.now c.put_length-next.result c.put_length-start.result (c.put_length-start.result + length a.name.now)
    c.put_length-next.ensures.0 c.put_length-start.ensures.0 refl (omega arith) c.put_length-next.ensures.1 c.put_length-start.ensures.1 c.copy_into.ensures c.copy_into-2.ensures)
