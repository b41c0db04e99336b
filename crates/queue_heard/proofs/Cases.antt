-- Joint runs with a queue, computed by the definitions alone: what is meant by what was written, and what the server's end
-- hears.
use Rattle.std.specs.Prelude.{ℕ, zero, suc, ◌≡◌, refl, true, List, [], ◌∷◌, ◌++◌}
use Rattle.wire.specs.Buffer.{zeros}
use Rattle.connection.specs.declared.answer.Output.{Output}
use Rattle.connection.specs.Sizes.{QUERY, STORE}
use Rattle.connection.specs.Arguments.{ForSay}
use Rattle.server.specs.Event.{Event, Note}
use Rattle.queue.specs.Calls.{QUEUE}
use Rattle.queue.specs.Run.{Asking, Straight, ToSay, ToEnd, ToFinish, StepOver, CallFor, TurnWith}
use Rattle.queue.proofs.PumpTests as Pump
use Rattle.replies_heard.proofs.Cases as Heard
use Rattle.replies_heard.proofs.Cases.{header, begin, Outcome}
use Rattle.queue_heard.specs.Moves.{Does, turn_means}
use Rattle.queue_heard.specs.Joint.{Joint, JointMove, Station, Reads, Opens, after, ending, heard, meant, Lent, fresh}

-- ---- the moves
abbrev pub lent : Lent
lent = record {
  gathered = zeros QUERY;
  store = zeros STORE;
  queue = zeros QUEUE;
  marks = zeros QUEUE;
  values = zeros QUERY;
  gathered_size = refl;
  store_size = refl;
  queue_size = refl;
  marks_size = refl;
  values_size = refl;
}

abbrev pub start : Joint
start = fresh lent

-- the station steps over these bytes, calls, gives the pump a turn of so many records
abbrev pub steps : List ℕ → JointMove
steps bytes = Station (Does (StepOver bytes))

abbrev pub calls : ℕ → Asking → JointMove
calls id a = Station (Does (CallFor id a))

abbrev pub turn : ℕ → List ℕ → JointMove
turn allowance buffer = Station (Does (TurnWith allowance buffer))

-- so many steps of the server's end, each over all that is there
abbrev read_on : ℕ → List JointMove
read_on zero = []
read_on (suc n) = Reads 100 ∷ read_on n

-- 1 is opened at both ends, and its PARAMS end
abbrev pub opened : List JointMove
opened = Opens 1 1 true (zeros 16) ∷ steps (header 1 1 8) ∷ steps (begin 1) ∷ steps (header 4 1 0) ∷ []

-- It says "hi" on STDOUT and "!" on STDERR, which wait; a byte straight out is refused while they do. A turn of one record
-- writes "hi", and the server's end reads of it. Then it finishes with status 938, and a turn writes the rest.
abbrev pub whole : List JointMove
whole =
    opened
    ++ (calls 1 (ToSay Output.Stdout (104 ∷ 105 ∷ []))
    ∷ calls 1 (ToSay Output.Stderr (33 ∷ []))
    ∷ calls 1 (Straight (ForSay Output.Stdout (63 ∷ []) (zeros 16)))
    ∷ turn 1 (zeros 520)
    ∷ Reads 5
    ∷ Reads 100
    ∷ Reads 1
    ∷ calls 1 (ToFinish 938)
    ∷ turn 9 (zeros 4680)
    ∷ read_on 10)

-- The end of STDOUT waits behind "h", and only "h" was written; the server's end reads no more than its header.
abbrev partly : List JointMove
partly = opened ++ (calls 1 (ToSay Output.Stdout (104 ∷ [])) ∷ calls 1 (ToEnd Output.Stdout) ∷ turn 1 (zeros 520) ∷ Reads 8 ∷ [])

-- Nothing is written of what waits, so nothing is meant or heard.
abbrev waiting : List JointMove
waiting = opened ++ (calls 1 (ToSay Output.Stdout (104 ∷ [])) ∷ calls 1 (ToFinish 0) ∷ read_on 2)

-- one name for all that is computed
unfoldable pub computing : Unit {0}
unfolding Pump.computing Heard.computing turn_means after ending heard meant
computing = tt

abbrev outcome : List JointMove → Outcome
outcome xs = record { heard = heard start xs; meant = meant start xs; wire = (ending start xs).wire; waiting = (ending start xs).waiting; refused = (ending start xs).refused }

-- all that was meant is heard, and nothing is left
abbrev all : List Note → Outcome
all l = record { heard = l; meant = l; wire = []; waiting = []; refused = [] }

pub record Cases : Type 0 where
  whole_heard : outcome whole ≡ all (Note.Shown 1 6 104 ∷ Note.Shown 1 6 105 ∷ Note.Shown 1 7 33 ∷ Note.Told (Event.Ended 1 6) ∷ Note.Told (Event.Ended 1 7) ∷ Note.Told (Event.Finished 1 938 0) ∷ [])
  partly_heard : outcome partly ≡ record { heard = []; meant = Note.Shown 1 6 104 ∷ []; wire = 104 ∷ zeros 7; waiting = []; refused = [] }
  waiting_unheard : outcome waiting ≡ all []

pub cases : Cases
unfolding computing
cases = record { whole_heard = refl; partly_heard = refl; waiting_unheard = refl }
