-- A caller that hands on the state that it was answered runs the very connection of the definitions: the flat form of a
-- state in shape is known, and the next call reads it back as that state.
use Rattle.std.specs.Prelude.{ℕ, ◌≡◌, true, List, []}
use Rattle.std.proofs.Common.{ap}
use Rattle.connection.specs.declared.state.Conn.{Conn}
use Rattle.connection.specs.Shape.{in_shape}
use Rattle.connection.specs.Step.{Stepped}
use Rattle.queue.specs.Calls.{QueueMemory, lent}
use Rattle.flat_state.specs.Flat.{flat_of, conn_of, known}
use Rattle.flat_state.proofs.FlatLaws.{slot_in_shape, back_of_flat, known_flat}
use Rattle.export_calls.specs.Feed.{fed, fed_by}

pub handed_on : (c : Conn) → in_shape c ≡ true → (known (flat_of c) ≡ true) × (conn_of (flat_of c) ≡ c)
handed_on c e = let slot = slot_in_shape c e in (known_flat c slot, back_of_flat c slot)

-- So a step, and all steps up to the next event, of the flat state are those of the state.
pub fed_on : (call : QueueMemory → List ℕ → Stepped) (c : Conn) (store gathered waits piece : List ℕ) → in_shape c ≡ true
    → fed_by call (flat_of c) store gathered waits piece ≡ fed c waits (call (lent c gathered store waits [] []) piece)
unfolding fed_by
fed_on call c store gathered waits piece e =
    let h = handed_on c e in
    simp h.0 (ap (λ (x : Conn). fed x waits (call (lent x gathered store waits [] []) piece)) h.1)
