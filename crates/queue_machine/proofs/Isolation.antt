-- Demand 3 with output that waits, for the receiver's rules, on the machine: each run serves when it likes.
use Rattle.std.specs.Prelude.{List, [], ℕ, ◌<◌}
use Rattle.machine.specs.Timeline.{Item, ScanHeader}
use Rattle.machine.specs.Machine.{fresh, ran_fresh}
use Rattle.machine.proofs.Simulation.{NeverOverloaded}
use Rattle.machine.proofs.Isolation.{BetweenRecords}
use Rattle.machine_queue.specs.Waiting.{Quiet, QuietAlone}
use Rattle.machine_queue.proofs.IsolationWaiting.{RunsForServed, Settled, IsolatedServed, isolation_served}
use Rattle.queue_machine.specs.Queued.{Asked, queueing_receiver, waiting_queue}
use Rattle.queue_machine.proofs.QueuedServes.{waiting_laws}

-- Isolation with serves anywhere, for 16 slots.
pub isolation : (R : ℕ) (t u : List (Item Asked)) → 0 < R
    → BetweenRecords queueing_receiver (ran_fresh queueing_receiver 15 t).state → NeverOverloaded queueing_receiver R (ran_fresh queueing_receiver 15 t)
    → RunsForServed queueing_receiver waiting_queue R t u (ran_fresh queueing_receiver 15 u).state
    → Settled queueing_receiver waiting_queue R (ran_fresh queueing_receiver 15 t) → Settled queueing_receiver waiting_queue R (ran_fresh queueing_receiver 15 u)
    → Quiet queueing_receiver waiting_queue R (fresh queueing_receiver 16) (ScanHeader []) t → QuietAlone queueing_receiver waiting_queue R (fresh queueing_receiver 16) u
    → IsolatedServed queueing_receiver waiting_queue R t u (ran_fresh queueing_receiver 15 t) (ran_fresh queueing_receiver 15 u)
isolation R t u = isolation_served queueing_receiver waiting_queue waiting_laws R 15 t u
