-- The proof of Isolation, from its two halves.
use Rattle.connection.specs.Isolation.{Isolation}
use Rattle.connection.proofs.Runs.Theorem.{any_run}
use Rattle.connection.proofs.Runs.SecondRun.{any_cutting}

-- Demand 3.
pub isolation : Isolation
isolation = record { any_run = any_run; any_cutting = any_cutting }
