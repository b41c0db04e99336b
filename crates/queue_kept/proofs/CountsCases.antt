-- The counts that are told of request 5 in a worked run of `TwoRuns`, computed from the definitions alone: one byte
-- of its STDIN is shown, it is finished with the queue, and its counts stay until the turn of the pump that writes
-- its END.
use Rattle.std.specs.Prelude.{◌≡◌, refl, take}
use Rattle.std.proofs.Math.Option.{none, some}
use Rattle.connection.specs.Counts.{shown_in}
use Rattle.queue_slot.specs.Atoms.{end_waits}
use Rattle.queue.specs.Run.{beginning}
use Rattle.queue_runs.proofs.Premises.{judging}
use Rattle.queue_runs.proofs.TwoRuns.{alone, B}
use Rattle.queue_kept.specs.QueueCounts.{counts_from}

-- The 11th operation is its queued finish: the one byte is counted still.
pub before_end : counts_from 5 (beginning B) none (take 11 alone) ≡ some (record { stdin = 1; «data» = 0 })
unfolding judging counts_from shown_in end_waits
before_end = refl

-- The 12th is a turn of six records, the last of which is its END: its counts are gone.
pub after_end : counts_from 5 (beginning B) none alone ≡ none
unfolding judging counts_from shown_in end_waits
after_end = refl
