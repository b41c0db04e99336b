use native.Mathlib.Omega.{arith}
use Rattle.pair_writer.proofs.WriteLaws.{length_takes, lengths_put}
use Rattle.pair_writer.proofs.put_lengths.Goals as goal

pub put_length-middle-requires : goal.put_length-middle-requires
put_length-middle-requires c = (c.requires.0, omega (arith, length_takes c.args.n))

pub put_length-requires : goal.put_length-requires
put_length-requires c = (c.requires.1, omega (arith, length_takes c.args.n, length_takes c.args.v))

pub returns : goal.returns
returns c =
    lengths_put c.args.out.now c.args.n c.args.v c.put_length-middle.result c.put_length.result c.requires.2
    c.put_length-middle.ensures.0 c.put_length.ensures.0 c.put_length-middle.ensures.1 c.put_length.ensures.1
