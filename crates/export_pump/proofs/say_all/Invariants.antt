use Rattle.std.proofs.Common.{◌≡◌, length}
use Rattle.export_pump.proofs.say_all.Given as goal

abbrev pub invariant-loop-id : goal.invariant-loop-id
invariant-loop-id l = length l.queue ≡ length l.initial.queue
