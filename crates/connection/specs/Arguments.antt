-- The calls that name a request: what they ask and what they answer. Definitions only.
use Rattle.std.specs.Prelude.{Bool, false, List, ℕ}
use Rattle.connection.specs.declared.answer.Output.{Output}
use Rattle.connection.specs.RequestCalls.{Source, SourceRefused, Numbered, PairRefused, Walk, no_walk}

-- What a call that only reads asks.
pub data Question : Type 0 where
  -- the value of a name, or else the fallback
  ValueOf : List ℕ → List ℕ → Question
  -- where that value comes from
  SourceOf : List ℕ → Question
  -- the pair of a number
  PairOf : ℕ → Question
  -- the walk over all pairs
  WalkOf : Question

-- What it answers.
pub data Reply : Type 0 where
  ValueIs : List ℕ → Reply
  SourceIs : Source → Reply
  PairAnswer : Numbered → Reply
  WalkIs : Walk → Reply

-- What a call asks, with the bytes in the buffers that it is lent.
pub data Argument : Type 0 where
  -- something that is only read
  ForRead : Question → Argument
  -- data for an output stream, and the buffer
  ForSay : Output → List ℕ → List ℕ → Argument
  -- the end of an output stream, and the buffer
  ForEnd : Output → List ℕ → Argument
  -- the application status, and the buffer
  ForFinish : ℕ → List ℕ → Argument

-- What a call answers, with the bytes in the lent buffers afterwards.
pub data Answer : Type 0 where
  -- what was read
  RepliedWith : Reply → Answer
  -- the refusal, the bytes written, the buffer
  Wrote : ℕ → ℕ → List ℕ → Answer
  -- the same, and whether the connection is closed
  FinishedWith : ℕ → ℕ → Bool → List ℕ → Answer

-- the reply of a call that only reads and is refused by the number n
abbrev pub refused_reply : ℕ → Question → Reply
refused_reply n (ValueOf name fallback) = ValueIs fallback
refused_reply n (SourceOf name) = SourceIs (SourceRefused n)
refused_reply n (PairOf k) = PairAnswer (PairRefused n)
refused_reply n WalkOf = WalkIs (no_walk n)

-- the answer of a call that is refused by the number n
unfoldable pub refused : ℕ → Argument → Answer
refused n (ForRead q) = RepliedWith (refused_reply n q)
refused n (ForSay output bytes buffer) = Wrote n 0 buffer
refused n (ForEnd output buffer) = Wrote n 0 buffer
refused n (ForFinish status buffer) = FinishedWith n 0 false buffer
