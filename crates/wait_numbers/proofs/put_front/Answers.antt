use Rattle.queue.specs.Numbers.{put_front}
use Rattle.wait_numbers.proofs.put_front.Goals as goal

pub returns : goal.returns
unfolding put_front
returns c =
    simp (
      c.put_bit-3.ensures,
      c.err_first.ensures,
      c.put_bit-2.ensures,
      c.has_err.ensures,
      c.put_bit.ensures,
      c.has_out.ensures,
    )
