-- A worked instance of isolation: two requests, interleaved, with calls. R is 1.
use Rattle.std.specs.Prelude.{◌≡◌, refl, Bool, true, false, ℕ, ◌-◌}
use Rattle.std.proofs.Common.{◌∙◌, inl, arith}
use mathlib.Core.List.{List, [], ◌∷◌, ◌++◌, flatten, append-nil}
use Rattle.std.proofs.Math.Option.{none, some}
use Rattle.std.proofs.lemmas.List.{length-replicate}
use Rattle.wire.specs.Number.{number4}
use Rattle.wire.specs.Buffer.{copied, zeros}
use Rattle.slot_word.specs.Word.{taken, lowest_free, with_bit, with_slot, without_bit, without_slot}
use Rattle.record.specs.Names.{STDIN}
use Rattle.record.specs.Header.{header_of, header_bytes}
use Rattle.record.specs.Body.{begin_body_of, end_body_bytes}
use Rattle.record_reader.specs.Position.{advanced, in_header}
use Rattle.pairs.specs.Length.{four_at, length_at}
use Rattle.wire.specs.Compare.{same_bytes}
use Rattle.pairs.specs.Pair.{pair_at}
use Rattle.pair_list.specs.List.{pairs_in, pairs_from, ending_of, well_formed, first_in, first_named}
use Rattle.pair_repeats.specs.Repeats.{repeats_in, repeats}
use Rattle.record_writer.specs.Written.{padding_of, record_bytes, chunks_in, chunks, stream_bytes}
use Rattle.machine.specs.Timeline.{byte_items, item_bytes, header_id, header_content, header_padding, scan_left, scan_whole, scan_next, is_own, is_own_call, purge_from, purge}
use Rattle.connection.specs.declared.answer.Output.{Output}
use Rattle.connection.specs.declared.request.Role.{Role}
use Rattle.connection.specs.declared.request.Turn.{Turn}
use Rattle.connection.specs.declared.request.Life.{Life}
use Rattle.connection.specs.Sizes.{STORE, QUERY, AREA}
use Rattle.connection.specs.Event.{Event}
use Rattle.connection.specs.Request.{Held, counted, with_turn, with_life, faulted, aborted, turned, params_fault, params_ended, on_params, on_stdin, on_data, on_input, on_live, on_header, grown, opened}
use Rattle.connection.specs.RequestCalls as Of
use Rattle.connection.specs.Slots.{request_at, area_at, put_request, put_area, take_slot, free_slot, holds_id, find_from}
use Rattle.connection.specs.Shape.{id_fits, slots_fit, position_fits, in_shape}
use Rattle.connection.specs.Step.{on_inactive, on_active, judged, opens, begun, of_begin, of_request, advances, step_refusal, stepped, started}
use Rattle.connection.specs.Calls as C
use Rattle.connection.specs.Bytewise.{Note, showing}
use Rattle.connection.specs.Arguments.{ValueOf, ValueIs, ForRead, ForSay, ForFinish, RepliedWith, Wrote, FinishedWith}
use Rattle.connection.specs.Run.{Operation, StepOver, CallFor, CountActive, Heard, Answered, request_of, called, memory_after, seen_in, items_of, final_memory, all_seen, timeline, start_of, WholeRun, ending, timeline_of, observed_in, seen_of, observed}
use Rattle.connection.specs.Isolation.{EndsBetweenRecords, Isolated}
use Rattle.connection.proofs.Runs.Records.{between_whole}
use Rattle.connection.proofs.Runs.Whole.{isolation}
use Rattle.examples.proofs.RunTests.{all_below, pieces_below, below_pieces, refused_in, never_refused}

-- ---- two runs
-- the buffer that is lent to the calls
abbrev buffer : List ℕ
buffer = zeros 40

-- BEGIN of a responder with KEEP_CONN
abbrev begin_body : List ℕ
begin_body = 0 ∷ 1 ∷ 1 ∷ 0 ∷ 0 ∷ 0 ∷ 0 ∷ 0 ∷ []

-- A: 2 opens, 1 opens; 2 ends PARAMS; 1 gets a pair and ends PARAMS; a value of 1 is looked up and something said for
-- 2; of three STDIN bytes of 1 two come after the finish of 2; something is said for 1, and 1 is finished within its
-- record, of which the rest comes then; 1 is opened again.
abbrev pub both : List Operation
both =
    StepOver (1 ∷ 1 ∷ 0 ∷ 2 ∷ 0 ∷ 8 ∷ 0 ∷ 0 ∷ [])
    ∷ StepOver begin_body
    ∷ StepOver (1 ∷ 1 ∷ 0 ∷ 1 ∷ 0 ∷ 8 ∷ 0 ∷ 0 ∷ 0 ∷ 1 ∷ [])
    ∷ StepOver begin_body
    ∷ StepOver (1 ∷ 4 ∷ 0 ∷ 2 ∷ 0 ∷ 0 ∷ 0 ∷ 0 ∷ [])
    ∷ StepOver (1 ∷ 4 ∷ 0 ∷ 1 ∷ 0 ∷ 4 ∷ 0 ∷ 0 ∷ [])
    ∷ CountActive
    ∷ StepOver (1 ∷ 1 ∷ 65 ∷ [])
    ∷ StepOver (66 ∷ [])
    ∷ StepOver (1 ∷ 4 ∷ 0 ∷ 1 ∷ 0 ∷ 0 ∷ 0 ∷ 0 ∷ [])
    ∷ CallFor 1 (ForRead (ValueOf (65 ∷ []) (33 ∷ [])))
    ∷ CallFor 2 (ForSay Output.Stdout (65 ∷ []) buffer)
    ∷ StepOver (1 ∷ 5 ∷ 0 ∷ 1 ∷ 0 ∷ 3 ∷ 1 ∷ 0 ∷ [])
    ∷ CallFor 2 (ForFinish 0 buffer)
    ∷ StepOver (45 ∷ 49 ∷ [])
    ∷ CallFor 1 (ForSay Output.Stderr (66 ∷ []) buffer)
    ∷ CallFor 1 (ForFinish 938 buffer)
    ∷ StepOver (56 ∷ 0 ∷ [])
    ∷ StepOver (0 ∷ [])
    ∷ StepOver (1 ∷ 1 ∷ 0 ∷ 1 ∷ 0 ∷ 8 ∷ 0 ∷ 0 ∷ [])
    ∷ StepOver begin_body
    ∷ []

-- B: 1 alone, its bytes cut otherwise, an empty piece among them
abbrev pub alone : List Operation
alone =
    StepOver (1 ∷ 1 ∷ 0 ∷ [])
    ∷ StepOver (1 ∷ 0 ∷ 8 ∷ 0 ∷ 0 ∷ 0 ∷ [])
    ∷ StepOver []
    ∷ StepOver begin_body
    ∷ StepOver (1 ∷ 4 ∷ 0 ∷ 1 ∷ 0 ∷ 4 ∷ 0 ∷ 0 ∷ [])
    ∷ StepOver (1 ∷ 1 ∷ 65 ∷ 66 ∷ [])
    ∷ StepOver (1 ∷ 4 ∷ 0 ∷ 1 ∷ 0 ∷ 0 ∷ 0 ∷ 0 ∷ [])
    ∷ CallFor 1 (ForRead (ValueOf (65 ∷ []) (33 ∷ [])))
    ∷ StepOver (1 ∷ 5 ∷ 0 ∷ 1 ∷ 0 ∷ 3 ∷ 1 ∷ 0 ∷ [])
    ∷ StepOver (45 ∷ [])
    ∷ StepOver (49 ∷ [])
    ∷ CallFor 1 (ForSay Output.Stderr (66 ∷ []) buffer)
    ∷ CallFor 1 (ForFinish 938 buffer)
    ∷ StepOver (56 ∷ [])
    ∷ StepOver (0 ∷ [])
    ∷ StepOver (1 ∷ 1 ∷ 0 ∷ 1 ∷ 0 ∷ 8 ∷ 0 ∷ 0 ∷ [])
    ∷ StepOver (0 ∷ 1 ∷ 1 ∷ [])
    ∷ StepOver (0 ∷ 0 ∷ 0 ∷ 0 ∷ 0 ∷ [])
    ∷ []

-- from a store and gathered bytes of zeros
abbrev from_zeros : (os : List Operation) → pieces_below os ≡ true → WholeRun
from_zeros os e =
    record {
      gathered = zeros QUERY;
      store = zeros STORE;
      operations = os;
      gathered_size = length-replicate {A = ℕ} QUERY 0;
      store_size = length-replicate {A = ℕ} STORE 0;
      pieces = below_pieces os e;
    }

pub pieces_both : pieces_below both ≡ true
unfolding pieces_below all_below
pieces_both = refl

pub pieces_alone : pieces_below alone ≡ true
unfolding pieces_below all_below
pieces_alone = refl

abbrev pub A : WholeRun
A = from_zeros both pieces_both

abbrev pub B : WholeRun
B = from_zeros alone pieces_alone

-- ---- what is observed of 1 in A, written out
-- request 1 with its area: a list of so many bytes, the turn, whether STDERR was used, the STDIN bytes shown
abbrev one : ℕ → Turn → Bool → ℕ → List ℕ → Held
one n t used stdin area =
    record {
      request = record { id = 1; length = n; state = record { role = Role.Responder; turn = t; life = Life.Live; keep = true; out_ended = false; err_used = used; err_ended = false; shown = record { stdin = stdin; «data» = 0 } } };
      area = area;
    }

-- the pair of A and B, and nothing after it
abbrev pair_area : List ℕ
pair_area = 1 ∷ 1 ∷ 65 ∷ 66 ∷ zeros (AREA - 4)

-- It opens and is ready with four bytes; the value of A is B; two of its STDIN bytes are shown; B goes out on STDERR;
-- the finish ends both streams and writes the status 938; it opens again.
pub observed_of_one : observed 1 A
    ≡ Heard (Note.Told (Event.Open 1 1 true))
    ∷ Heard (Note.Told (Event.Ready 1 4))
    ∷ Answered 1 (ForRead (ValueOf (65 ∷ []) (33 ∷ []))) (RepliedWith (ValueIs (66 ∷ []))) (some (one 4 Turn.Stdin false 0 pair_area)) (some (one 4 Turn.Stdin false 0 pair_area))
    ∷ Heard (Note.Shown 1 STDIN 45)
    ∷ Heard (Note.Shown 1 STDIN 49)
    ∷ Answered 1 (ForSay Output.Stderr (66 ∷ []) buffer)
    (Wrote 0 16 ((1 ∷ 7 ∷ 0 ∷ 1 ∷ 0 ∷ 1 ∷ 7 ∷ 0 ∷ 66 ∷ 0 ∷ 0 ∷ 0 ∷ 0 ∷ 0 ∷ 0 ∷ 0 ∷ []) ++ zeros 24))
    (some (one 4 Turn.Stdin false 2 pair_area)) (some (one 4 Turn.Stdin true 2 pair_area))
    ∷ Answered 1 (ForFinish 938 buffer)
    (FinishedWith 0 32 false ((1 ∷ 6 ∷ 0 ∷ 1 ∷ 0 ∷ 0 ∷ 0 ∷ 0 ∷ 1 ∷ 7 ∷ 0 ∷ 1 ∷ 0 ∷ 0 ∷ 0 ∷ 0 ∷ 1 ∷ 3 ∷ 0 ∷ 1 ∷ 0 ∷ 8 ∷ 0 ∷ 0 ∷ 0 ∷ 0 ∷ 3 ∷ 170 ∷ 0 ∷ 0 ∷ 0 ∷ 0 ∷ []) ++ zeros 8))
    (some (one 4 Turn.Stdin true 2 pair_area)) none
    ∷ Heard (Note.Told (Event.Open 1 1 true))
    ∷ []
unfolding copied taken lowest_free with_bit with_slot without_bit without_slot header_of begin_body_of header_bytes end_body_bytes advanced in_header number4 four_at length_at pair_at same_bytes pairs_in pairs_from ending_of well_formed repeats_in repeats first_in first_named padding_of record_bytes chunks_in chunks stream_bytes flatten counted with_turn with_life faulted aborted turned params_fault params_ended on_params on_stdin on_data on_input on_live on_header grown opened Of.value_in Of.writes Of.said_on Of.say_in Of.owes_out Of.owes_err Of.finish_bytes Of.finish_in request_at area_at put_request put_area take_slot free_slot holds_id find_from id_fits slots_fit position_fits in_shape on_inactive on_active judged opens begun of_begin of_request advances step_refusal stepped started showing C.lent_refusal C.call_refusal C.value C.say C.released C.finishes C.finish byte_items request_of called memory_after seen_in items_of final_memory all_seen timeline start_of seen_of
observed_of_one = refl

-- At the end it is active anew, with an area of zeros.
pub one_at_the_end : request_of 1 (ending A) ≡ some (one 0 Turn.Params false 0 (zeros AREA))
unfolding copied taken lowest_free with_bit with_slot without_bit without_slot header_of begin_body_of header_bytes end_body_bytes advanced in_header number4 four_at length_at pair_at same_bytes pairs_in pairs_from ending_of well_formed repeats_in repeats first_in first_named padding_of record_bytes chunks_in chunks stream_bytes flatten counted with_turn with_life faulted aborted turned params_fault params_ended on_params on_stdin on_data on_input on_live on_header grown opened Of.value_in Of.writes Of.said_on Of.say_in Of.owes_out Of.owes_err Of.finish_bytes Of.finish_in request_at area_at put_request put_area take_slot free_slot holds_id find_from id_fits slots_fit position_fits in_shape on_inactive on_active judged opens begun of_begin of_request advances step_refusal stepped started showing C.lent_refusal C.call_refusal C.value C.say C.released C.finishes C.finish byte_items request_of called memory_after seen_in items_of final_memory all_seen timeline start_of seen_of
one_at_the_end = refl

-- ---- the premises
ends_between : EndsBetweenRecords A
unfolding copied taken lowest_free with_bit with_slot without_bit without_slot header_of begin_body_of header_bytes end_body_bytes advanced in_header number4 four_at length_at pair_at same_bytes pairs_in pairs_from ending_of well_formed repeats_in repeats first_in first_named padding_of record_bytes chunks_in chunks stream_bytes flatten counted with_turn with_life faulted aborted turned params_fault params_ended on_params on_stdin on_data on_input on_live on_header grown opened Of.value_in Of.writes Of.said_on Of.say_in Of.owes_out Of.owes_err Of.finish_bytes Of.finish_in request_at area_at put_request put_area take_slot free_slot holds_id find_from id_fits slots_fit position_fits in_shape on_inactive on_active judged opens begun of_begin of_request advances step_refusal stepped started showing C.lent_refusal C.call_refusal C.value C.say C.released C.finishes C.finish byte_items request_of called memory_after seen_in items_of final_memory all_seen timeline start_of seen_of
ends_between = between_whole A (record { is_open = refl; no_content = refl; no_padding = refl; no_header = refl })

never_overloaded : refused_in 1 (observed_in A) ≡ false
unfolding refused_in copied taken lowest_free with_bit with_slot without_bit without_slot header_of begin_body_of header_bytes end_body_bytes advanced in_header number4 four_at length_at pair_at same_bytes pairs_in pairs_from ending_of well_formed repeats_in repeats first_in first_named padding_of record_bytes chunks_in chunks stream_bytes flatten counted with_turn with_life faulted aborted turned params_fault params_ended on_params on_stdin on_data on_input on_live on_header grown opened Of.value_in Of.writes Of.said_on Of.say_in Of.owes_out Of.owes_err Of.finish_bytes Of.finish_in request_at area_at put_request put_area take_slot free_slot holds_id find_from id_fits slots_fit position_fits in_shape on_inactive on_active judged opens begun of_begin of_request advances step_refusal stepped started showing C.lent_refusal C.call_refusal C.value C.say C.released C.finishes C.finish byte_items request_of called memory_after seen_in items_of final_memory all_seen timeline start_of seen_of
never_overloaded = refl

alone_is_purged : timeline_of B ≡ purge 1 (timeline_of A)
unfolding purge_from scan_next scan_whole scan_left is_own is_own_call item_bytes header_id header_content header_padding copied taken lowest_free with_bit with_slot without_bit without_slot header_of begin_body_of header_bytes end_body_bytes advanced in_header number4 four_at length_at pair_at same_bytes pairs_in pairs_from ending_of well_formed repeats_in repeats first_in first_named padding_of record_bytes chunks_in chunks stream_bytes flatten counted with_turn with_life faulted aborted turned params_fault params_ended on_params on_stdin on_data on_input on_live on_header grown opened Of.value_in Of.writes Of.said_on Of.say_in Of.owes_out Of.owes_err Of.finish_bytes Of.finish_in request_at area_at put_request put_area take_slot free_slot holds_id find_from id_fits slots_fit position_fits in_shape on_inactive on_active judged opens begun of_begin of_request advances step_refusal stepped started showing C.lent_refusal C.call_refusal C.value C.say C.released C.finishes C.finish byte_items request_of called memory_after seen_in items_of final_memory all_seen timeline start_of seen_of
alone_is_purged = refl

-- So what is observed of 1 is the same in B.
pub example : Isolated 1 A B
example =
    isolation.any_run 1 A B (omega arith) ends_between (never_refused 1 (observed_in A) never_overloaded)
    (record { rest = []; prefix = append-nil (timeline_of B) ∙ alone_is_purged; all_or_closed = inl refl })
