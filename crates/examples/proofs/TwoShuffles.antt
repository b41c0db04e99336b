-- A worked instance of any shuffle of requests: the same records and calls of the requests 1, 2 and 3, shuffled in two
-- ways, with all that is observed of each written out.
use Rattle.connection.specs.Slots.{Slot}
use Rattle.std.specs.Prelude.{◌≡◌, refl, Bool, true, false, ℕ, ◌-◌, ◌<◌, eqb, replicate, Some}
use Rattle.std.proofs.Common.{ap, sym, ◌∙◌, subst, eqb-true}
use mathlib.Core.List.{List, [], ◌∷◌, ◌++◌, flatten}
use Rattle.std.proofs.Math.Option.{Option, none, some}
use Rattle.std.proofs.lemmas.List.{length-replicate}
use Rattle.wire.specs.Test.{by_test}
use Rattle.wire.specs.Number.{number4}
use Rattle.wire.specs.Buffer.{copied, zeros}
use Rattle.slot_word.specs.Word.{taken, lowest_free, with_bit, with_slot, without_bit, without_slot}
use Rattle.record.specs.Names.{STDIN}
use Rattle.record.specs.Header.{header_of, header_bytes}
use Rattle.record.specs.Body.{begin_body_of, end_body_bytes}
use Rattle.record.specs.Split.{front_length, whole_front, front}
use Rattle.record_reader.specs.Position.{between_records, advanced, in_header}
use Rattle.record_reader.specs.declared.Position.{Position}
use Rattle.pairs.specs.Length.{four_at, length_at}
use Rattle.wire.specs.Compare.{same_bytes}
use Rattle.pairs.specs.Pair.{pair_at}
use Rattle.pair_list.specs.List.{pairs_in, pairs_from, ending_of, well_formed, first_in, first_named, number_in, pair_number}
use Rattle.pair_repeats.specs.Repeats.{repeats_in, repeats}
use Rattle.record_writer.specs.Written.{padding_of, record_bytes, chunks_in, chunks, stream_bytes}
use Rattle.machine.specs.Timeline.{Item, RequestCall, CountCall, CallItem, byte_items, item_bytes, is_own_call}
use Rattle.machine.specs.Interleaving.{Part, RecordPart, CallPart, AllWhole, all_items, own_in, own_of}
use Rattle.connection.specs.declared.answer.Output.{Output}
use Rattle.connection.specs.declared.request.Role.{Role}
use Rattle.connection.specs.declared.request.Turn.{Turn}
use Rattle.connection.specs.declared.request.Life.{Life}
use Rattle.connection.specs.declared.request.RequestState.{RequestState}
use Rattle.connection.specs.Sizes.{STORE, QUERY, AREA}
use Rattle.connection.specs.Event.{Event}
use Rattle.connection.specs.Request.{Held, counted, with_turn, with_life, faulted, aborted, turned, params_fault, params_ended, on_params, on_stdin, on_data, on_input, on_live, on_header, grown, opened}
use Rattle.connection.specs.RequestCalls as Of
use Rattle.connection.specs.Slots.{request_at, area_at, put_request, put_area, take_slot, free_slot, holds_id, find_from, find}
use Rattle.connection.specs.Shape.{id_fits, slots_fit, position_fits, in_shape}
use Rattle.connection.specs.Step.{on_inactive, on_active, judged, opens, begun, of_begin, of_request, advances, step_refusal, stepped, started}
use Rattle.connection.specs.Calls as C
use Rattle.connection.specs.Bytewise.{Note, showing}
use Rattle.connection.specs.Arguments.{PairOf, PairAnswer, Argument, ForRead, ForSay, ForFinish, RepliedWith, Wrote, FinishedWith}
use Rattle.connection.specs.Run.{Memory, Operation, StepOver, CallFor, CountActive, Observed, Heard, Answered, request_of, called, memory_after, seen_in, items_of, final_memory, all_seen, timeline, start_of, WholeRun, ending, timeline_of, observed_in, seen_of}
use Rattle.connection.specs.Isolation.{EndsBetweenRecords}
use Rattle.connection.specs.Shuffle.{SameForEach, SameOf}
use Rattle.connection.proofs.Runs.Records.{between_whole}
use Rattle.connection.proofs.Runs.Shuffled.{shuffle}
use Rattle.examples.proofs.RunTests.{all_below, pieces_below, below_pieces, refused_in, never_refused, names_in, names, nothing_of, is_record, whole_parts, whole_parts_lem}

-- ---- the records and calls of each request
-- the buffer that is lent to the calls
abbrev buffer : List ℕ
buffer = zeros 40

-- a header with n content bytes, and p bytes of padding
abbrev header : ℕ → ℕ → ℕ → ℕ → List ℕ
header kind id n p = 1 ∷ kind ∷ 0 ∷ id ∷ 0 ∷ n ∷ p ∷ 0 ∷ []

-- the body of BEGIN, with KEEP_CONN
abbrev begin_body : ℕ → List ℕ
begin_body role = 0 ∷ role ∷ 1 ∷ 0 ∷ 0 ∷ 0 ∷ 0 ∷ 0 ∷ []

-- a pair: the name A with a value of one byte
abbrev pair : ℕ → List ℕ
pair b = 1 ∷ 1 ∷ 65 ∷ b ∷ []

-- the first pair of 1 is asked for; something is said for 1 on STDERR; 2 is finished with the status 938
abbrev first_pair : Argument
first_pair = ForRead (PairOf 0)

abbrev saying : Argument
saying = ForSay Output.Stderr (66 ∷ []) buffer

abbrev finishing : Argument
finishing = ForFinish 938 buffer

-- a record without calls in it
abbrev plain : ℕ → List ℕ → Part Argument
plain id bytes = RecordPart id (byte_items bytes)

abbrev begin : ℕ → ℕ → Part Argument
begin id role = plain id (header 1 id 8 0 ++ begin_body role)

abbrev params_end : ℕ → Part Argument
params_end id = plain id (header 4 id 0 0)

-- STDIN of 1, three bytes and one of padding; after its second byte something is said for 1
abbrev stdin : Part Argument
stdin =
    RecordPart 1
    (byte_items (header 5 1 3 1 ++ (45 ∷ 49 ∷ [])) ++ (CallItem (RequestCall 1 saying) ∷ byte_items (56 ∷ 0 ∷ [])))

-- ---- two shuffles
-- In A, 2 opens after 1 and is finished inside the PARAMS record of 1; 3 then opens in the slot that 2 had. The number
-- of active requests is asked for inside a record of 3.
abbrev pub parts_a : List (Part Argument)
parts_a =
    begin 1 1
    ∷ begin 2 2
    ∷ plain 2 (header 4 2 4 0 ++ pair 67)
    ∷ params_end 2
    ∷ RecordPart 1 (byte_items (header 4 1 4 0) ++ (CallItem (RequestCall 2 finishing) ∷ byte_items (pair 66)))
    ∷ params_end 1
    ∷ begin 3 3
    ∷ CallPart (RequestCall 1 first_pair)
    ∷ stdin
    ∷ RecordPart 3 (byte_items (header 4 3 1 0) ++ (CallItem CountCall ∷ byte_items (7 ∷ [])))
    ∷ plain 3 (header 2 3 0 0)
    ∷ []

-- In B, 3 opens first, then 1 and 2, and 2 is finished last.
abbrev pub parts_b : List (Part Argument)
parts_b =
    begin 3 3
    ∷ plain 3 (header 4 3 1 0 ++ (7 ∷ []))
    ∷ begin 1 1
    ∷ begin 2 2
    ∷ plain 1 (header 4 1 4 0 ++ pair 66)
    ∷ plain 3 (header 2 3 0 0)
    ∷ params_end 1
    ∷ CallPart (RequestCall 1 first_pair)
    ∷ plain 2 (header 4 2 4 0 ++ pair 67)
    ∷ stdin
    ∷ params_end 2
    ∷ CallPart (RequestCall 2 finishing)
    ∷ []

-- ---- two runs of them, cut differently
-- A steps over headers and contents.
abbrev pub operations_a : List Operation
operations_a =
    StepOver (header 1 1 8 0)
    ∷ StepOver (begin_body 1)
    ∷ StepOver (header 1 2 8 0)
    ∷ StepOver (begin_body 2)
    ∷ StepOver (header 4 2 4 0)
    ∷ StepOver (pair 67)
    ∷ StepOver (header 4 2 0 0)
    ∷ StepOver (header 4 1 4 0)
    ∷ CallFor 2 finishing
    ∷ StepOver (pair 66)
    ∷ StepOver (header 4 1 0 0)
    ∷ StepOver (header 1 3 8 0)
    ∷ StepOver (begin_body 3)
    ∷ CallFor 1 first_pair
    ∷ StepOver (header 5 1 3 1)
    ∷ StepOver (45 ∷ 49 ∷ [])
    ∷ CallFor 1 saying
    ∷ StepOver (56 ∷ [])
    ∷ StepOver (0 ∷ [])
    ∷ StepOver (header 4 3 1 0)
    ∷ CountActive
    ∷ StepOver (7 ∷ [])
    ∷ StepOver (header 2 3 0 0)
    ∷ []

-- B has pieces of other lengths, of which a step uses a part only, and an empty one.
abbrev pub operations_b : List Operation
operations_b =
    StepOver (1 ∷ 1 ∷ 0 ∷ [])
    ∷ StepOver (3 ∷ 0 ∷ 8 ∷ 0 ∷ 0 ∷ 0 ∷ [])
    ∷ StepOver (begin_body 3)
    ∷ StepOver []
    ∷ StepOver (header 4 3 1 0 ++ (7 ∷ []))
    ∷ StepOver (7 ∷ [])
    ∷ StepOver (header 1 1 8 0)
    ∷ StepOver (0 ∷ 1 ∷ 1 ∷ [])
    ∷ StepOver (0 ∷ 0 ∷ 0 ∷ 0 ∷ 0 ∷ [])
    ∷ StepOver (header 1 2 8 0)
    ∷ StepOver (begin_body 2)
    ∷ StepOver (header 4 1 4 0)
    ∷ StepOver (1 ∷ [])
    ∷ StepOver (1 ∷ 65 ∷ 66 ∷ [])
    ∷ StepOver (header 2 3 0 0)
    ∷ StepOver (header 4 1 0 0)
    ∷ CallFor 1 first_pair
    ∷ StepOver (header 4 2 4 0)
    ∷ StepOver (pair 67)
    ∷ StepOver (header 5 1 3 1)
    ∷ StepOver (45 ∷ [])
    ∷ StepOver (49 ∷ [])
    ∷ CallFor 1 saying
    ∷ StepOver (56 ∷ 0 ∷ [])
    ∷ StepOver (0 ∷ [])
    ∷ StepOver (header 4 2 0 0)
    ∷ CallFor 2 finishing
    ∷ []

-- A run from gathered bytes and a store that hold nothing but that number.
abbrev run_from : ℕ → (os : List Operation) → pieces_below os ≡ true → WholeRun
run_from n os e =
    record {
      gathered = replicate QUERY n;
      store = replicate STORE n;
      operations = os;
      gathered_size = length-replicate {A = ℕ} QUERY n;
      store_size = length-replicate {A = ℕ} STORE n;
      pieces = below_pieces os e;
    }

pub pieces_a : pieces_below operations_a ≡ true
unfolding pieces_below all_below
pieces_a = refl

pub pieces_b : pieces_below operations_b ≡ true
unfolding pieces_below all_below
pieces_b = refl

abbrev pub A : WholeRun
A = run_from 0 operations_a pieces_a

abbrev pub B : WholeRun
B = run_from 255 operations_b pieces_b

-- ---- what is observed, in both runs
-- a request with its area
abbrev held : ℕ → ℕ → RequestState → List ℕ → Held
held id n state area = record { request = record { id = id; length = n; state = state }; area = area }

-- its role, turn and life, whether STDERR was used, the STDIN bytes shown
abbrev state : Role → Turn → Life → Bool → ℕ → RequestState
state role turn life used shown =
    record {
      role = role;
      turn = turn;
      life = life;
      keep = true;
      out_ended = false;
      err_used = used;
      err_ended = false;
      shown = record { stdin = shown; «data» = 0 };
    }

-- 1 as a responder with its pair and nothing after it
abbrev one : Bool → ℕ → Held
one used shown = held 1 4 (state Role.Responder Turn.Stdin Life.Live used shown) (pair 66 ++ zeros (AREA - 4))

-- It opens and is ready with four bytes; its first pair has the name at 2 and the value at 3; two of its STDIN bytes
-- are shown, B goes out on STDERR, and the third is shown.
abbrev pub of_one : List Observed
of_one =
    Heard (Note.Told (Event.Open 1 1 true))
    ∷ Heard (Note.Told (Event.Ready 1 4))
    ∷ Answered 1 first_pair (RepliedWith (PairAnswer (Of.PairIs (record { name = 2; name_len = 1; value = 3; value_len = 1 }))))
    (some (one false 0)) (some (one false 0))
    ∷ Heard (Note.Shown 1 STDIN 45)
    ∷ Heard (Note.Shown 1 STDIN 49)
    ∷ Answered 1 saying
    (Wrote 0 16 (header 7 1 1 7 ++ (66 ∷ zeros 31)))
    (some (one false 2)) (some (one true 2))
    ∷ Heard (Note.Shown 1 STDIN 56)
    ∷ []

-- 2 opens as an authorizer and is ready; the finish ends STDOUT and writes the status 938, and 2 is gone.
abbrev pub of_two : List Observed
of_two =
    Heard (Note.Told (Event.Open 2 2 true))
    ∷ Heard (Note.Told (Event.Ready 2 4))
    ∷ Answered 2 finishing
    (FinishedWith 0 24 false (header 6 2 0 0 ++ (header 3 2 8 0 ++ (0 ∷ 0 ∷ 3 ∷ 170 ∷ 0 ∷ 0 ∷ 0 ∷ 0 ∷ zeros 16))))
    (some (held 2 4 (state Role.Authorizer Turn.Done Life.Live false 0) (pair 67 ++ zeros (AREA - 4)))) none
    ∷ []

-- 3 opens as a filter and is aborted.
abbrev pub of_three : List Observed
of_three = Heard (Note.Told (Event.Open 3 3 true)) ∷ Heard (Note.Told (Event.Abort 3)) ∷ []

-- 3 at the end: spent, with the one byte of its list and nothing after it
abbrev three : Held
three = held 3 1 (state Role.Filter Turn.Params Life.Aborted false 0) (7 ∷ zeros (AREA - 1))

-- ---- what is computed
-- Of a run: its items, what is observed of the three, their requests at its end and the slots of 1 and 3, where it
-- ends, and who is refused. Read from items, observations and the last memory, so that each is computed once.
pub record Outcome : Type 0 where
  pub items : List (Item Argument)
  pub of_one_lem : List Observed
  pub of_two_lem : List Observed
  pub of_three_lem : List Observed
  pub one_left : Option Held
  pub two_left : Option Held
  pub three_left : Option Held
  pub slot_of_one : Slot
  pub slot_of_three : Slot
  pub is_open : Bool
  pub position : Position
  pub refused : ℕ → Bool

abbrev outcome_from : List (Item Argument) → List Observed → Memory → Outcome
outcome_from items seen m =
    record {
      items = items;
      of_one_lem = seen_of 1 seen;
      of_two_lem = seen_of 2 seen;
      of_three_lem = seen_of 3 seen;
      one_left = request_of 1 m;
      two_left = request_of 2 m;
      three_left = request_of 3 m;
      slot_of_one = find m.state.conn.table 1;
      slot_of_three = find m.state.conn.table 3;
      is_open = m.state.conn.«open»;
      position = m.state.conn.frame.position;
      refused = λ R. refused_in R seen;
    }

abbrev pub outcome : WholeRun → Outcome
outcome r = outcome_from (timeline_of r) (observed_in r) (ending r)

-- The same in both runs but for the order of the parts and the slots: it ends open and between two records, and nobody
-- is refused.
abbrev pub expected : List (Part Argument) → Slot → Slot → Outcome
expected parts slotOfOne slotOfThree =
    record {
      items = all_items parts;
      of_one_lem = of_one;
      of_two_lem = of_two;
      of_three_lem = of_three;
      one_left = some (one true 3);
      two_left = none;
      three_left = some three;
      slot_of_one = slotOfOne;
      slot_of_three = slotOfThree;
      is_open = true;
      position = between_records;
      refused = λ R. false;
    }

-- All definitions that a run is computed by; unfolding this one unfolds them.
unfoldable computing : Unit {0}
unfolding all_items refused_in copied taken lowest_free with_bit with_slot without_bit without_slot header_of begin_body_of header_bytes end_body_bytes advanced in_header number4 four_at length_at pair_at same_bytes pairs_in pairs_from ending_of well_formed repeats_in repeats first_in first_named number_in pair_number padding_of record_bytes chunks_in chunks stream_bytes flatten counted with_turn with_life faulted aborted turned params_fault params_ended on_params on_stdin on_data on_input on_live on_header grown opened Of.pair_in Of.writes Of.said_on Of.say_in Of.owes_out Of.owes_err Of.finish_bytes Of.finish_in request_at area_at put_request put_area take_slot free_slot holds_id find_from id_fits slots_fit position_fits in_shape on_inactive on_active judged opens begun of_begin of_request advances step_refusal stepped started showing C.lent_refusal C.call_refusal C.pair_at_number C.say C.released C.finishes C.finish byte_items request_of called memory_after seen_in items_of final_memory all_seen timeline start_of seen_of
computing = tt

-- In A, 1 ends in slot 0 and 3 in slot 1, where 2 was; in B, 3 ends in slot 0 and 1 in slot 1.
pub outcome_of_a : outcome A ≡ expected parts_a (Some 0) (Some 1)
unfolding computing
outcome_of_a = refl

pub outcome_of_b : outcome B ≡ expected parts_b (Some 1) (Some 0)
unfolding computing
outcome_of_b = refl

-- ---- the theorem on them
-- Each record is whole.
whole_a : AllWhole parts_a
unfolding whole_parts is_record front front_length whole_front header_of item_bytes byte_items
whole_a = whole_parts_lem parts_a refl

whole_b : AllWhole parts_b
unfolding whole_parts is_record front front_length whole_front header_of item_bytes byte_items
whole_b = whole_parts_lem parts_b refl

-- What is R's is the same in both: of 1, 2 and 3 it is computed, and of others there is nothing.
same_own : (R : ℕ) → own_of R parts_a ≡ own_of R parts_b
unfolding own_of own_in byte_items is_own_call names names_in
same_own R =
    by_test (eqb 1 R) (λ e. same 1 e refl)
    (λ e. by_test (eqb 2 R) (λ f. same 2 f refl)
    (λ f. by_test (eqb 3 R) (λ g. same 3 g refl)
    (λ g. nothing_of R parts_a (simp (e, f, g)) ∙ sym (nothing_of R parts_b (simp (e, f, g))))))
  where
    same : (id : ℕ) → eqb id R ≡ true → own_of id parts_a ≡ own_of id parts_b → own_of R parts_a ≡ own_of R parts_b
    same id e = subst (λ n. own_of n parts_a ≡ own_of n parts_b) (eqb-true id R e)

same_for_each : SameForEach A B
same_for_each =
    shuffle.interleavings A B parts_a parts_b
    (ap (λ (o : Outcome). o.items) outcome_of_a) (ap (λ (o : Outcome). o.items) outcome_of_b)
    whole_a whole_b (λ R r. same_own R)

-- Both end between two records.
ends_between : (run : WholeRun) → (outcome run).is_open ≡ true → (outcome run).position ≡ between_records
    → EndsBetweenRecords run
ends_between run o p =
    between_whole run
    (record {
      is_open = o;
      no_content = ap (λ (q : Position). q.content) p;
      no_padding = ap (λ (q : Position). q.padding) p;
      no_header = ap (λ (q : Position). q.held) p;
    })

-- So no request can tell A from B, whatever its id.
pub example : (R : ℕ) → 0 < R → SameOf R A B
example =
    shuffle.any_shuffle A B same_for_each
    (ends_between A (ap (λ (o : Outcome). o.is_open) outcome_of_a) (ap (λ (o : Outcome). o.position) outcome_of_a))
    (ends_between B (ap (λ (o : Outcome). o.is_open) outcome_of_b) (ap (λ (o : Outcome). o.position) outcome_of_b))
    (λ R r. never_refused R (observed_in A) (ap (λ (o : Outcome). o.refused R) outcome_of_a))
    (λ R r. never_refused R (observed_in B) (ap (λ (o : Outcome). o.refused R) outcome_of_b))
