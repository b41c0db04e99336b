-- What is shown at a queued finish and at a call after it, computed from the definitions.
--
-- In both runs 5 finishes through the queue and is then asked to say a byte straight out. In the first its END is
-- written after that, in the second before it.
use Rattle.std.specs.Prelude.{◌≡◌, refl, Bool, true, false, List, [], ◌∷◌}
use Rattle.std.proofs.Math.Option.{Option, none, some}
use Rattle.wire.specs.Buffer.{zeros}
use Rattle.connection.specs.declared.request.Role.{Role}
use Rattle.connection.specs.declared.request.Turn.{Turn}
use Rattle.connection.specs.declared.request.Life.{Life}
use Rattle.connection.specs.declared.answer.Output.{Output}
use Rattle.connection.specs.Sizes.{AREA}
use Rattle.connection.specs.Request.{Held, unshown}
use Rattle.connection.specs.Arguments.{ForSay, Wrote}
use Rattle.queue.specs.Calls.{QueueMemory}
use Rattle.queue.specs.Run.{Asking, Straight, ToFinish, QueueOperation, CallFor, TurnWith, Straightly, Queued, final_queue, Shown, ShownAnswer, ShownLeaving, shown_all}
use Rattle.queue.specs.Isolation.{SameSave, SaveNone, SaveSame, SaveFirst}
use Rattle.queue.proofs.PumpTests.{begins, opening}
use Rattle.queue_runs.proofs.Premises.{judging}

-- 5 is open
abbrev opened : QueueMemory
opened = final_queue begins (opening 5)

-- a byte, straight out, with a buffer that is not empty
abbrev straightly : Asking
straightly = Straight (ForSay Output.Stdout (98 ∷ []) (9 ∷ 8 ∷ 7 ∷ []))

-- a turn that writes all that waits
abbrev turn : QueueOperation
turn = TurnWith 3 (zeros 1560)

-- the call before END, and after it
abbrev before : List QueueOperation
before = CallFor 5 (ToFinish 7) ∷ CallFor 5 straightly ∷ turn ∷ []

abbrev after : List QueueOperation
after = CallFor 5 (ToFinish 7) ∷ turn ∷ CallFor 5 straightly ∷ []

-- request 5 with its area: as it is opened, and spent, with the end of STDOUT waiting
abbrev five : Life → Bool → Option Held
five life ended =
    some
    (record {
      request = record {
        id = 5;
        length = 0;
        state = record { role = Role.Responder; turn = Turn.Stdin; life = life; keep = true; out_ended = ended; err_used = false; err_ended = false; shown = unshown };
      };
      area = zeros AREA;
    })

-- what is shown at the finish: the request before and after it
abbrev finishing : Shown
finishing = ShownAnswer (ToFinish 7) (Queued 0) (five Life.Live false) (five Life.Aborted true)

-- Before END the call shows its buffer alone.
pub shown_before : shown_all 5 opened before ≡ finishing ∷ ShownLeaving straightly (9 ∷ 8 ∷ 7 ∷ []) ∷ []
unfolding judging
shown_before = refl

-- After END it is refused by 3, no request is there, and the buffer is the same.
pub shown_after_lem : shown_all 5 opened after ≡ finishing ∷ ShownAnswer straightly (Straightly (Wrote 3 0 (9 ∷ 8 ∷ 7 ∷ []))) none none ∷ []
unfolding judging
shown_after_lem = refl

-- So the two are the same, save for that answer.
pub same_but_for_that : SameSave (shown_all 5 opened before) (shown_all 5 opened after)
same_but_for_that = rw (shown_before, shown_after_lem) (SaveSame (SaveFirst SaveNone))
