-- A worked instance, computed: request 1 beside request 2, and request 1 alone; the same calls of 1, served at
-- different times.
use Rattle.std.specs.Prelude.{◌≡◌, refl, ℕ}
use mathlib.Core.List.{List, [], ◌∷◌, ◌++◌, flatten}
use Rattle.wire.specs.Buffer.{copied}
use Rattle.record.specs.Header.{header_of, header_bytes}
use Rattle.record.specs.Body.{begin_body_of, end_body_bytes}
use Rattle.record.specs.Split.{front_length, whole_front, front, split_in, split}
use Rattle.record_writer.specs.Written.{padding_of, record_bytes}
use Rattle.pair_list.specs.List.{pairs_in, pairs_from, ending_of, well_formed}
use Rattle.pair_repeats.specs.Repeats.{repeats_in, repeats}
use Rattle.machine.specs.Timeline.{RequestCall, Item, CallItem, byte_items, item_bytes, header_version, header_type, header_id, header_content, header_padding, scan_left, scan_whole, scan_next, is_own, is_own_call, purge_from, purge}
use Rattle.machine.specs.Slots.{lookup_further, vacancy_further, lookup, first_vacancy}
use Rattle.machine.specs.Machine.{ran_fresh, fresh, event_from, with_left, query_whole, query_header, management_header, inactive_header, target_at, header_decided, header_found, header_routed, header_versioned, header_byte, request_seated, begin_whole, stream_byte, content_byte, record_byte, target_without, reading_without, call_decided, request_called, on_item, state_after, as_list, observations, concerns, observed, request_found, request_in}
use Rattle.machine_queue.specs.Waiting.{written_in, written_all, unserved}
use Rattle.machine_queue.proofs.AlikeRelation.{written}
use Rattle.connection.specs.declared.answer.Output.{Output}
use Rattle.connection.specs.Request.{with_turn, with_life, faulted, turned, params_fault, params_ended, on_params, on_stdin, on_input, on_live, on_header, opened}
use Rattle.connection.specs.RequestCalls as Of
use Rattle.connection.specs.Arguments.{PairOf, ForRead, refused}
use Rattle.connection.specs.Runs.Receiver.{clean_area, receive_header, receive_byte, receive_begin, receive_query, receive_management, receive_inactive, finished_as, receive_call}
use Rattle.queue_slot.specs.Finishing.{spent_by, last_words}
use Rattle.queue_slot.specs.Atoms.{Atom, ByteOn, EndOf, finish_of, data_in, is_some, end_waits, run_from, next, record_atoms, atoms_of}
use Rattle.queue_machine.specs.Queued.{Asked, Straight, QueueSay, QueueFinish, Serve, queued_header, queued_byte, queued_begin, held_up, straight_writer, straight_call, queue_refusal, queue_say, queue_end, queue_finish, served, queued_call, refused_by, wrote_in, wrote_by, queueing_receiver, waiting_queue}

-- BEGIN_REQUEST of a responder with KEEP_CONN; the end of PARAMS
abbrev begin : ℕ → List ℕ
begin id = 1 ∷ 1 ∷ 0 ∷ id ∷ 0 ∷ 8 ∷ 0 ∷ 0 ∷ 0 ∷ 1 ∷ 1 ∷ 0 ∷ 0 ∷ 0 ∷ 0 ∷ 0 ∷ []

abbrev ready : ℕ → List ℕ
ready id = 1 ∷ 4 ∷ 0 ∷ id ∷ 0 ∷ 0 ∷ 0 ∷ 0 ∷ []

abbrev call : ℕ → Asked → Item Asked
call id a = CallItem (RequestCall id a)

-- 1 is served between two things that it says; a pair is asked for between its finish and its END
abbrev pub whole : List (Item Asked)
whole =
    byte_items (begin 2 ++ (begin 1 ++ (ready 1 ++ ready 2)))
    ++ (call 2 (QueueSay Output.Stdout (50 ∷ [])) ∷ call 1 (QueueSay Output.Stdout (97 ∷ 98 ∷ [])) ∷ call 1 Serve ∷ call 1 (QueueSay Output.Stderr (99 ∷ [])) ∷ call 1 (QueueFinish 7)
    ∷ call 2 Serve ∷ call 1 Serve ∷ call 1 (Straight (ForRead (PairOf 0))) ∷ call 1 Serve ∷ call 1 Serve ∷ call 1 Serve ∷ call 1 (Straight (ForRead (PairOf 0))) ∷ [])

-- alone: it is served at the end of what it says only
abbrev pub alone : List (Item Asked)
alone =
    byte_items (begin 1 ++ ready 1)
    ++ (call 1 (QueueSay Output.Stdout (97 ∷ 98 ∷ [])) ∷ call 1 (QueueSay Output.Stderr (99 ∷ [])) ∷ call 1 (QueueFinish 7)
    ∷ call 1 Serve ∷ call 1 Serve ∷ call 1 Serve ∷ call 1 Serve ∷ call 1 Serve ∷ call 1 (Straight (ForRead (PairOf 0))) ∷ call 1 (Straight (ForRead (PairOf 0))) ∷ [])

-- the items are the same
pub same_items : unserved queueing_receiver waiting_queue alone ≡ unserved queueing_receiver waiting_queue (purge 1 whole)
unfolding unserved byte_items item_bytes header_of header_id header_content header_padding scan_left scan_whole scan_next is_own is_own_call purge_from
same_items = refl

-- what is written of 1's, in both runs
abbrev pub output : List Atom
output = ByteOn Output.Stdout 97 ∷ ByteOn Output.Stdout 98 ∷ ByteOn Output.Stderr 99 ∷ EndOf Output.Stdout ∷ EndOf Output.Stderr ∷ finish_of 7 ∷ []

unfoldable computing : Unit {0}
unfolding copied header_of header_bytes begin_body_of end_body_bytes front_length whole_front front split_in split padding_of record_bytes pairs_in pairs_from ending_of well_formed repeats_in repeats byte_items header_version header_type header_id header_content header_padding lookup_further vacancy_further lookup first_vacancy fresh event_from with_left query_whole query_header management_header inactive_header target_at header_decided header_found header_routed header_versioned header_byte request_seated begin_whole stream_byte content_byte record_byte target_without reading_without call_decided request_called on_item state_after as_list observations concerns observed request_found request_in written_in written_all with_turn with_life faulted turned params_fault params_ended on_params on_stdin on_input on_live on_header opened Of.owes_out Of.owes_err Of.said_on Of.ended_on Of.pair_in clean_area receive_header receive_byte receive_begin receive_query receive_management receive_inactive finished_as receive_call data_in is_some end_waits run_from next record_atoms atoms_of queued_header queued_byte queued_begin held_up straight_writer straight_call queue_refusal queue_say queue_end spent_by last_words queue_finish served queued_call refused_by wrote_in wrote_by refused flatten
computing = tt

pub whole_written : written queueing_receiver waiting_queue 1 (ran_fresh queueing_receiver 15 whole).seen ≡ output
unfolding computing
whole_written = refl

pub alone_written : written queueing_receiver waiting_queue 1 (ran_fresh queueing_receiver 15 alone).seen ≡ output
unfolding computing
alone_written = refl
