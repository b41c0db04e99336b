-- What a queued finish comes to: the request is spent, and its last words wait. Definitions only.
use Rattle.std.specs.Prelude.{ℕ, Bool, true, false, ◌||◌, List, [], ◌∷◌, ◌++◌}
use Rattle.connection.specs.declared.request.Life.{Life}
use Rattle.connection.specs.declared.request.RequestState.{RequestState}
use Rattle.connection.specs.declared.request.Request.{Request}
use Rattle.connection.specs.declared.answer.Output.{Output}
use Rattle.connection.specs.Request.{with_state, with_life}
use Rattle.connection.specs.RequestCalls.{owes_out, owes_err}
use Rattle.queue_slot.specs.Atoms.{Atom, EndOf, finish_of}

-- spent as by an abort; a fault stays
abbrev pub spent_life : Life → Life
spent_life Life.Live = Life.Aborted
spent_life Life.Faulted = Life.Faulted
spent_life Life.Aborted = Life.Aborted

-- The ends that it owes wait, and a stream whose end waits is ended: STDOUT is, and STDERR if it was used.
abbrev pub with_owed_ended : RequestState → RequestState
with_owed_ended m =
    record {
      role = m.role;
      turn = m.turn;
      life = m.life;
      keep = m.keep;
      out_ended = true;
      err_used = m.err_used;
      err_ended = m.err_used || m.err_ended;
      shown = m.shown;
    }

-- the request after a queued finish: spent, and its streams ended as far as it owed their ends
unfoldable pub spent_by : Request → Request
spent_by r = with_state r (with_owed_ended (with_life r.state (spent_life r.state.life)))

-- the end of a stream, if it is owed
abbrev pub owed_end : Bool → Output → List Atom
owed_end true o = EndOf o ∷ []
owed_end false o = []

-- the ends that are owed, then END
unfoldable pub last_words : RequestState → ℕ → List Atom
last_words m status = owed_end (owes_out m) Output.Stdout ++ (owed_end (owes_err m) Output.Stderr ++ finish_of status ∷ [])
