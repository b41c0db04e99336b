-- What the code leaves is what the exported call leaves, by the equations of what it calls.
use Rattle.std.specs.Prelude.{ℕ, ◌≡◌, true, false, List, [], length, if◌then◌else◌}
use Rattle.std.proofs.Common.{sym, ap, ◌∙◌}
use Rattle.wire.specs.Test.{◌=?◌}
use Rattle.connection.specs.declared.state.Conn.{Conn}
use Rattle.connection.specs.declared.answer.Started.{Started as Began}
use Rattle.connection.specs.declared.answer.Stepped.{Stepped as Step}
use Rattle.connection.specs.Sizes.{STORE}
use Rattle.connection.specs.Step.{Started, Stepped, started}
use Rattle.call_start.specs.Answer.{started_by}
use Rattle.conn_step.specs.Answer.{stepped_by}
use Rattle.queue.specs.Numbers.{nobody_waits, kept_waits}
use Rattle.queue.specs.Calls.{QueueMemory, lent}
use Rattle.flat_state.specs.declared.FlatState.{FlatState}
use Rattle.flat_state.specs.Flat.{conn_of, known}
use Rattle.flat_answer.specs.declared.answer.FlatStarted.{FlatStarted}
use Rattle.flat_answer.specs.declared.answer.FlatStepped.{FlatStepped}
use Rattle.flat_answer.specs.ReadAnswers.{flat_started, flat_stepped, unstepped}
use Rattle.export_calls.specs.Feed.{Left, exported_start, fed, fed_by}

-- Start.
pub starts : (store gathered waits : List ℕ) {store' gathered' waits' : List ℕ} (r : Began) {answer : FlatStarted}
    → started_by r gathered' store' ≡ started gathered store
    → waits' ≡ (if length store =? STORE then nobody_waits else waits)
    → answer ≡ flat_started (started_by r [] [])
    → ◌≡◌ {A = Left FlatStarted} (record { answer = answer; store = store'; gathered = gathered'; waits = waits' })
    (exported_start store gathered waits)
unfolding exported_start flat_started
starts store gathered waits r e w a = rw (a, w) (ap (λ (s : Started). leaves s) e)
  where
    leaves : Started → Left FlatStarted
    leaves s =
        record {
          answer = flat_started s;
          store = s.store;
          gathered = s.state.gathered;
          waits = if length store =? STORE then nobody_waits else waits;
        }

-- A call over a piece: with a state that is known.
pub feeds : (call : QueueMemory → List ℕ → Stepped) (f : FlatState) (store gathered waits piece : List ℕ)
    {store' gathered' waits' : List ℕ} {c : Conn} (r : Step) {answer : FlatStepped}
    → known f ≡ true → c ≡ conn_of f
    → stepped_by r gathered' store' ≡ call (lent c gathered store waits [] []) piece
    → waits' ≡ kept_waits c.«open» r.conn.«open» waits
    → answer ≡ flat_stepped (stepped_by r [] [])
    → ◌≡◌ {A = Left FlatStepped} (record { answer = answer; store = store'; gathered = gathered'; waits = waits' })
    (fed_by call f store gathered waits piece)
unfolding fed_by flat_stepped
feeds call f store gathered waits piece {c = c} r k from e w a =
    rw (a, w)
    (ap (λ (s : Stepped). fed c waits s) e
    ∙ ap (λ (x : Conn). fed x waits (call (lent x gathered store waits [] []) piece)) from
    ∙ sym (simp k))

-- And with one that is not.
pub not_fed : (call : QueueMemory → List ℕ → Stepped) (f : FlatState) (store gathered waits piece : List ℕ)
    {answer : FlatStepped}
    → known f ≡ false → answer ≡ unstepped f 9
    → ◌≡◌ {A = Left FlatStepped} (record { answer = answer; store = store; gathered = gathered; waits = waits })
    (fed_by call f store gathered waits piece)
unfolding fed_by
not_fed call f store gathered waits piece k a = rw a (sym (simp k))
