-- A worked instance of isolation with a queue: two requests of full size, interleaved, with turns of the pump. R is 5.
--
-- In A 5 and 9 say on both streams, 5 ends a stream and finishes, all of it queued, and turns come in between; records
-- of 9 are read between the finish of 5 and its END. In B 5 is alone and says the same, and all turns come at the end.
-- Both are runs, they meet every premise, and so they are isolated. What is written of 5 is written out once.
use Rattle.std.specs.Prelude.{◌≡◌, refl, List, [], ◌∷◌, map, true, false, ℕ}
use Rattle.std.proofs.Common.{◌∙◌, append-nil, inl, arith}
use Rattle.wire.specs.Buffer.{zeros}
use Rattle.machine.specs.Timeline.{ScanHeader, purge}
use Rattle.connection.specs.declared.answer.Output.{Output}
use Rattle.connection.specs.Run.{Heard}
use Rattle.examples.proofs.RunTests.{all_below, refused_in}
use Rattle.queue_slot.specs.Atoms.{Atom, ByteOn, EndOf, finish_of}
use Rattle.queue.specs.Run.{ToSay, ToEnd, ToFinish, QueueOperation, StepOver, CallFor, CountActive, TurnWith, notes_all, QueueRun, beginning, timeline_of, shown, written}
use Rattle.queue.specs.Isolation.{EndsBetweenRecords, Isolated}
use Rattle.queue_theorem.proofs.Theorem.{isolation, plain_same}
use Rattle.queue_runs.proofs.Premises.{judging, pieces_below, from_zeros, never_overloaded, settled, settled_alone}
use Rattle.queue_runs.specs.Premises.{none_own, among_others, on_its_own, goes_well}

-- BEGIN of a responder with KEEP_CONN, and its end of PARAMS
abbrev begin : ℕ → List ℕ
begin id = 1 ∷ 1 ∷ 0 ∷ id ∷ 0 ∷ 8 ∷ 0 ∷ 0 ∷ []

abbrev begin_body : List ℕ
begin_body = 0 ∷ 1 ∷ 1 ∷ 0 ∷ 0 ∷ 0 ∷ 0 ∷ 0 ∷ []

abbrev no_more : ℕ → List ℕ
no_more id = 1 ∷ 4 ∷ 0 ∷ id ∷ 0 ∷ 0 ∷ 0 ∷ 0 ∷ []

-- a header of STDIN with one content byte
abbrev one_byte : ℕ → List ℕ
one_byte id = 1 ∷ 5 ∷ 0 ∷ id ∷ 0 ∷ 1 ∷ 0 ∷ 0 ∷ []

-- A: turns in the middle, until nothing waits.
abbrev pub mixed : List QueueOperation
mixed =
    StepOver (begin 9)
    ∷ StepOver begin_body
    ∷ StepOver (begin 5)
    ∷ StepOver begin_body
    ∷ StepOver (no_more 5)
    ∷ CallFor 5 (ToSay Output.Stdout (97 ∷ 98 ∷ []))
    ∷ StepOver (no_more 9)
    ∷ CallFor 9 (ToSay Output.Stderr (120 ∷ []))
    ∷ CallFor 5 (ToSay Output.Stderr (99 ∷ []))
    ∷ TurnWith 1 (zeros 520)
    ∷ CallFor 9 (ToSay Output.Stdout (121 ∷ 122 ∷ []))
    ∷ CallFor 5 (ToEnd Output.Stdout)
    ∷ CountActive
    ∷ TurnWith 2 (zeros 1040)
    ∷ StepOver (one_byte 5)
    ∷ StepOver (49 ∷ [])
    ∷ CallFor 5 (ToSay Output.Stderr (100 ∷ []))
    ∷ CallFor 5 (ToFinish 7)
    ∷ StepOver (one_byte 9)
    ∷ StepOver (50 ∷ [])
    ∷ TurnWith 3 (zeros 1560)
    ∷ CallFor 9 (ToFinish 0)
    ∷ TurnWith 9 (zeros 4680)
    ∷ []

-- B: 5 alone, and one turn at the end.
abbrev pub alone : List QueueOperation
alone =
    StepOver (1 ∷ 1 ∷ 0 ∷ [])
    ∷ StepOver (5 ∷ 0 ∷ 8 ∷ 0 ∷ 0 ∷ [])
    ∷ StepOver begin_body
    ∷ StepOver (no_more 5)
    ∷ CallFor 5 (ToSay Output.Stdout (97 ∷ 98 ∷ []))
    ∷ CallFor 5 (ToSay Output.Stderr (99 ∷ []))
    ∷ CallFor 5 (ToEnd Output.Stdout)
    ∷ StepOver (one_byte 5)
    ∷ StepOver (49 ∷ [])
    ∷ CallFor 5 (ToSay Output.Stderr (100 ∷ []))
    ∷ CallFor 5 (ToFinish 7)
    ∷ TurnWith 6 (zeros 3120)
    ∷ []

-- Both are runs.
pub mixed_bytes : pieces_below mixed ≡ true
unfolding pieces_below all_below
mixed_bytes = refl

pub alone_bytes : pieces_below alone ≡ true
unfolding pieces_below all_below
alone_bytes = refl

abbrev pub A : QueueRun
A = from_zeros mixed mixed_bytes

abbrev pub B : QueueRun
B = from_zeros alone alone_bytes

-- ---- what is written of 5
-- ab on STDOUT, c on STDERR, the end of STDOUT, d on STDERR, its end, END with status 7
abbrev pub of_five : List Atom
of_five =
    ByteOn Output.Stdout 97
    ∷ ByteOn Output.Stdout 98
    ∷ ByteOn Output.Stderr 99
    ∷ EndOf Output.Stdout
    ∷ ByteOn Output.Stderr 100
    ∷ EndOf Output.Stderr
    ∷ finish_of 7
    ∷ []

-- In A it is that.
pub written_mixed : written 5 A ≡ of_five
unfolding judging
written_mixed = refl

-- In B too, computed.
pub written_alone : written 5 B ≡ of_five
unfolding judging
written_alone = refl

-- ---- the premises
ends_between : EndsBetweenRecords A
unfolding judging
ends_between = record { is_open = refl; no_rest = refl }

not_refused : refused_in 5 (map Heard (notes_all (beginning A) mixed)) ≡ false
unfolding judging refused_in
not_refused = refl

mixed_well : goes_well (among_others 5) 5 (beginning A) (ScanHeader []) mixed ≡ true
unfolding judging goes_well none_own
mixed_well = refl

alone_well : goes_well on_its_own 5 (beginning B) (ScanHeader []) alone ≡ true
unfolding judging goes_well none_own
alone_well = refl

alone_is_purged : timeline_of B ≡ purge 5 (timeline_of A)
unfolding judging
alone_is_purged = refl

-- So the two are isolated.
pub example : Isolated 5 A B
example =
    isolation 5 A B (omega arith) ends_between (never_overloaded 5 A not_refused)
    (record { rest = []; prefix = append-nil (timeline_of B) ∙ alone_is_purged; all_or_closed = inl refl })
    (settled 5 A mixed_well) (settled_alone 5 B alone_well)

-- By the theorem, what is written of 5 is the same; it is what was computed.
pub written_same : written 5 B ≡ of_five
written_same = example.same_written ∙ written_mixed

-- Nothing is called of 5 between its finish and its END, so what is shown of 5 is one list.
pub shown_same : shown 5 A ≡ shown 5 B
unfolding judging
shown_same = plain_same example.same_shown tt tt
