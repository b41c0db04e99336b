-- A mark as the code adds it up.
use Rattle.std.specs.Prelude.{◌≡◌, ◌+◌, ◌≤◌}
use Rattle.std.proofs.Common.{arith}
use Rattle.connection.specs.declared.answer.Output.{Output}
use Rattle.queue_slot.specs.declared.Ends.{Ends}
use Rattle.queue_slot.specs.Wait.{stream_number, mark_of}
use Rattle.wait_mark.specs.Joins.{doubled}

-- the stream's part is 0 or 1
stream_small : (o : Output) → stream_number o ≤ 1
stream_small Output.Stdout = omega arith
stream_small Output.Stderr = omega arith

-- the part of ends goes up to 8
ends_small : (e : Ends) → doubled e ≤ 8
ends_small Ends.None = omega arith
ends_small Ends.Out = omega arith
ends_small Ends.Err = omega arith
ends_small Ends.OutErr = omega arith
ends_small Ends.ErrOut = omega arith

-- a mark is a byte
pub mark_small : (o : Output) (e : Ends) → doubled e + stream_number o ≤ 9
mark_small o e = omega (arith, stream_small o, ends_small e)

-- the sum in the code's order
pub mark_sum : (o : Output) (e : Ends) → doubled e + stream_number o ≡ mark_of o e
unfolding mark_of
mark_sum o e = omega arith
