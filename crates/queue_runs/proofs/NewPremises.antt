-- Why each premise that the queue adds to isolation: pairs of small runs, computed from the definitions.
--
-- In each pair 5 is alone, its bytes and its calls are the same, and only the turns of the pump stand elsewhere. Turns
-- are no items of a timeline, so the two timelines are the same; and yet 5 comes out differently.
use Rattle.std.specs.Prelude.{◌≡◌, refl, List, [], ◌∷◌, ◌++◌, true}
use Rattle.wire.specs.Buffer.{zeros}
use Rattle.connection.specs.declared.answer.Output.{Output}
use Rattle.connection.specs.Event.{Event}
use Rattle.connection.specs.Bytewise.{Note}
use Rattle.connection.specs.Arguments.{ForSay}
use Rattle.queue_slot.specs.Atoms.{ByteOn}
use Rattle.queue.specs.Run.{Asking, Straight, ToSay, ToFinish, QueueOperation, StepOver, CallFor, TurnWith, final_queue, queue_timeline, written_all, notes_all, waits_of}
use Rattle.queue.proofs.PumpTests.{begins, opening, refusal_of}
use Rattle.queue_runs.proofs.Premises.{judging}

-- 5 is open, and then comes this
abbrev with5 : List QueueOperation → List QueueOperation
with5 os = opening 5 ++ os

-- a turn of one record, and one of three
abbrev turn : QueueOperation
turn = TurnWith 1 (zeros 520)

abbrev turns : QueueOperation
turns = TurnWith 3 (zeros 1560)

-- BEGIN of 5 with KEEP_CONN
abbrev again : List QueueOperation
again = StepOver (1 ∷ 1 ∷ 0 ∷ 5 ∷ 0 ∷ 8 ∷ 0 ∷ 0 ∷ []) ∷ StepOver (0 ∷ 1 ∷ 1 ∷ 0 ∷ 0 ∷ 0 ∷ 0 ∷ 0 ∷ []) ∷ []

-- ---- no byte of R between its finish and its END
-- the BEGIN comes before END is written, or after it
abbrev begun_before : List QueueOperation
begun_before = with5 (CallFor 5 (ToFinish 0) ∷ (again ++ (turns ∷ [])))

abbrev begun_after : List QueueOperation
begun_after = with5 (CallFor 5 (ToFinish 0) ∷ turns ∷ again)

-- Before its END a BEGIN of 5 is skipped; after it 5 is opened.
pub begin_and_end : (queue_timeline begins begun_before ≡ queue_timeline begins begun_after)
    × (notes_all begins begun_before ≡ Note.Told (Event.Open 5 1 true) ∷ Note.Told (Event.Ready 5 0) ∷ [])
    × (notes_all begins begun_after ≡ Note.Told (Event.Open 5 1 true) ∷ Note.Told (Event.Ready 5 0) ∷ Note.Told (Event.Open 5 1 true) ∷ [])
unfolding judging
begin_and_end = (refl, refl, refl)

-- ---- no call of R is refused by 10
-- 600 bytes are queued
abbrev six : Asking
six = ToSay Output.Stdout (zeros 600)

-- 600 bytes and 600 more are too many (10), and are not where a record was written in between.
pub no_room_lem : (refusal_of (final_queue begins (with5 (CallFor 5 six ∷ []))) 5 six ≡ 10) × (refusal_of (final_queue begins (with5 (CallFor 5 six ∷ turn ∷ []))) 5 six ≡ 0)
unfolding judging
no_room_lem = (refl, refl)

-- a queued say
abbrev queued_say : QueueOperation
queued_say = CallFor 5 (ToSay Output.Stdout (97 ∷ []))

-- a straight one
abbrev straightly : Asking
straightly = Straight (ForSay Output.Stdout (98 ∷ []) (zeros 16))

-- A straight say is refused by 10 while a queued one waits, and is not where that was written before.
pub held_up_lem : (refusal_of (final_queue begins (with5 (queued_say ∷ []))) 5 straightly ≡ 10) × (refusal_of (final_queue begins (with5 (queued_say ∷ turn ∷ []))) 5 straightly ≡ 0)
    × (queue_timeline begins (with5 (queued_say ∷ CallFor 5 straightly ∷ turn ∷ [])) ≡ queue_timeline begins (with5 (queued_say ∷ turn ∷ CallFor 5 straightly ∷ [])))
    × (written_all 5 begins (with5 (queued_say ∷ CallFor 5 straightly ∷ turn ∷ [])) ≡ ByteOn Output.Stdout 97 ∷ [])
    × (written_all 5 begins (with5 (queued_say ∷ turn ∷ CallFor 5 straightly ∷ [])) ≡ ByteOn Output.Stdout 97 ∷ ByteOn Output.Stdout 98 ∷ [])
unfolding judging
held_up_lem = (refl, refl, refl, refl, refl)

-- ---- nothing of R waits at the end
-- A queued say that is never pumped is not written, and waits.
pub never_pumped : (written_all 5 begins (with5 (queued_say ∷ [])) ≡ []) × (waits_of 5 (final_queue begins (with5 (queued_say ∷ []))) ≡ ByteOn Output.Stdout 97 ∷ [])
    × (written_all 5 begins (with5 (queued_say ∷ turn ∷ [])) ≡ ByteOn Output.Stdout 97 ∷ [])
unfolding judging
never_pumped = (refl, refl, refl)
