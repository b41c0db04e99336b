use mathlib.Core.List.{◌++◌}
use Rattle.wire.specs.Buffer.{zeros}
use Rattle.pairs.specs.Length.{length_bytes}
use Rattle.pair_writer.proofs.WriteLaws.{front_put}
use Rattle.pair_writer.proofs.length_fields.Goals as goal

pub returns : goal.returns
returns c =
    let a = c.args in
    let e = c.put_lengths-count.ensures in
    (e.0, front_put (zeros 8) (length_bytes a.n ++ length_bytes a.v) e.0 e.1)
