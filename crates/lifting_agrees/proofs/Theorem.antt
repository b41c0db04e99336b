-- What is promised of lifting one request out of a capture (request [13]): the proof.
use Rattle.lifting_agrees.specs.Statement.{LiftTheorem}
use Rattle.lifting_agrees.proofs.LiftLaws.{verdict_word}
use Rattle.lifting_agrees.proofs.SameEvents.{same_events}
use Rattle.lifting_agrees.proofs.Final.{close_is_final}
use Rattle.lifting_agrees.proofs.CallLaws.{goes_on_lem, closed_uses_none}
use Rattle.lifting_agrees.proofs.AnyCalls.{any_calls}

pub lift_theorem : LiftTheorem
lift_theorem =
    record {
      any_calls = any_calls;
      last_word_lem = verdict_word;
      closed_uses_none = closed_uses_none;
      close_is_final = close_is_final;
      goes_on_lem = goes_on_lem;
      same_events = same_events;
    }
