-- A closed connection is final: whatever is done on it changes nothing.
use Rattle.std.specs.Prelude.{◌≡◌, refl, List, [], ◌∷◌, false, ℕ}
use Rattle.std.proofs.Common.{ap, ◌∙◌, arith}
use Rattle.connection.proofs.Laws.Progress.{admitted_fits, step_refused}
use Rattle.connection.specs.Run.{Memory, Operation, StepOver, CallFor, CountActive, memory_of, memory_after, final_memory}
use Rattle.connection.proofs.Runs.LinkingStep.{Steady}
use Rattle.connection.proofs.Runs.LinkingCalls.{lent_closed, call_closed, refused_call}

closed_operation : (m : Memory) (o : Operation) → Steady m → m.state.conn.«open» ≡ false → memory_after m o ≡ m
unfolding memory_after
closed_operation m (StepOver piece) z e =
    ap memory_of
    (step_refused m.state m.store piece
    (λ a. let y : ◌≡◌ {A = ℕ} 0 1 = cc ((admitted_fits m.state.conn m.store a).is_open, e) in omega arith))
closed_operation m (CallFor id a) z e = ap (λ r. r.memory) (refused_call m id 0 a (lent_closed m z id e) (call_closed m z id e))
closed_operation m CountActive z e = refl

-- Whatever is done on a closed connection changes nothing.
pub closed_final : (os : List Operation) (m : Memory) → Steady m → m.state.conn.«open» ≡ false → final_memory m os ≡ m
unfolding final_memory
closed_final [] m z e = refl
closed_final (o ∷ os) m z e =
    let k = closed_operation m o z e in
    ap (λ w. final_memory w os) k ∙ closed_final os m z e
