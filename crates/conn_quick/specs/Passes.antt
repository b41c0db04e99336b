-- What a quick way answers, read as what a step leaves.
use Rattle.std.specs.Prelude.{ℕ, ◌≡◌, List, set}
use Rattle.record_reader.specs.Position.{advanced}
use Rattle.connection.specs.declared.request.Due.{Due}
use Rattle.connection.specs.declared.request.Shown.{Shown}
use Rattle.connection.specs.declared.state.Table.{Table}
use Rattle.connection.specs.declared.state.Frame.{Frame}
use Rattle.connection.specs.Codes.{event_of}
use Rattle.connection.specs.Decision.{open_state}
use Rattle.connection.proofs.Laws.ShapeLaws.{Placed}
use Rattle.connection.specs.Fits.{Aimed}
use Rattle.connection.specs.Step.{Stepped, advances}
use Rattle.connection.specs.Request.{shown_more}
use Rattle.connection.specs.Slots.{shown_at}
use Rattle.conn_quick.specs.declared.Passed.{Passed}
use Rattle.conn_quick.specs.declared.Showing.{Showing}

-- the table, the gathered bytes and the store stay
abbrev pub passes : Passed → Table → List ℕ → List ℕ → Stepped
passes r t g s =
    record { refusal = 0; used = r.used; event = event_of r.event; state = open_state t r.frame g; store = s }

-- the table with other counts in slot i
abbrev pub with_shown_at : Table → ℕ → Shown → Table
with_shown_at t i c =
    record {
      ids = t.ids;
      lengths = t.lengths;
      standings = t.standings;
      keep = t.keep;
      out_ended = t.out_ended;
      err_used = t.err_used;
      err_ended = t.err_ended;
      stdin_shown = set t.stdin_shown i c.stdin;
      data_shown = set t.data_shown i c.«data»;
      occupied = t.occupied;
    }

-- n bytes more for slot i
abbrev pub counted_at : Table → ℕ → Due → ℕ → Table
counted_at t i due n = with_shown_at t i (shown_more due n (shown_at t i))

-- the bytes used are counted; the gathered bytes and the store stay
abbrev pub shows : Showing → Table → List ℕ → List ℕ → Stepped
shows r t g s =
    record { refusal = 0; used = r.used; event = event_of r.event; state = open_state (counted_at t r.slot r.due r.used) r.frame g; store = s }

-- It is the step, and it keeps the shape of the frame.
pub record Passes (r : Passed) (t : Table) (f : Frame) (piece : List ℕ) : Type 0 where
  pub same : (g s : List ℕ) → passes r t g s ≡ advances (open_state t f g) s piece (advanced f.position piece)
  pub position : Placed r.frame.position
  pub target : Aimed r.frame.target t r.frame.gathered r.frame.position.content
