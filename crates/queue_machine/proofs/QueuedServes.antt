-- The laws of what waits, for the receiver: a request between its finish and its END; serves; all the laws.
use Rattle.std.specs.Prelude.{◌≡◌, refl, Bool, true, false, List, [], ◌∷◌, ◌++◌, map, ℕ, suc, ◌<◌, length, if◌then◌else◌}
use Rattle.std.proofs.Common.{ap, sym, ◌∙◌, arith}
use Rattle.record.specs.Names.{END_REQUEST}
use Rattle.record_writer.specs.Written.{record_bytes}
use Rattle.machine.specs.Machine.{Leaves, Closes}
use Rattle.machine_queue.specs.Waiting.{CallLeaving, ServeLive, ServeLeaving, Waiting}
use Rattle.connection.specs.declared.answer.Output.{Output}
use Rattle.connection.specs.Codes.{output_type}
use Rattle.connection.specs.Request.{Held}
use Rattle.connection.specs.Arguments.{Argument, ForRead, ForSay, ForEnd, ForFinish, refused}
use Rattle.connection.specs.Runs.Receiver.{receive_call}
use Rattle.queue_slot.specs.Atoms.{RUN, Atom, ByteOn, EndOf, EndRequest, end_waits, run_from, next, record_atoms, atoms_of}
use Rattle.queue_slot.proofs.AtomLaws.{is_same_lem, atoms_none, atoms_one, output_atoms, some_atoms}
use Rattle.queue_machine.specs.Queued.{Queued, queued, Asked, Straight, QueueSay, QueueEnd, QueueFinish, Serve, Record, is_writer, lifted, straight_writer, straight_call, queue_refusal, queue_say, queue_end, queue_finish, served, queued_call, refused_by, queueing_receiver, wrote_in, wrote_by, is_serve_call, EndsWithEnd, waiting_queue}
use Rattle.queue_machine.proofs.QueuedLaws.{run_is, header_alike, byte_alike, begin_waits, not_both}
use Rattle.queue_machine.proofs.QueuedCalls.{call_alike}

-- ---- a request that is leaving
pub refused_writes : (n : ℕ) (a : Argument) → wrote_in (refused n a) ≡ []
unfolding wrote_in refused
refused_writes n (ForRead q) = refl
refused_writes n (ForSay o bytes buffer) = atoms_none
refused_writes n (ForEnd o buffer) = atoms_none
refused_writes n (ForFinish status buffer) = atoms_none

reader_leaving : (a : Argument) (r : Queued) → is_writer a ≡ false → CallLeaving queueing_receiver waiting_queue (Straight a) r (lifted (receive_call a r.held) r.waiting)
unfolding receive_call wrote_by wrote_in
reader_leaving (ForRead q) r e = (refl, refl)
reader_leaving (ForSay o bytes buffer) r e = absurd (not_both refl e)
reader_leaving (ForEnd o buffer) r e = absurd (not_both refl e)
reader_leaving (ForFinish status buffer) r e = absurd (not_both refl e)

straight_leaving : (a : Argument) (r : Queued) (w : Bool) → is_writer a ≡ w → end_waits r.waiting ≡ true
    → CallLeaving queueing_receiver waiting_queue (Straight a) r (if w then straight_writer a (receive_call a r.held) r else lifted (receive_call a r.held) r.waiting)
unfolding straight_writer wrote_by
straight_leaving a r true w l = rw l (refl, refused_writes 5 a)
straight_leaving a r false w l = reader_leaving a r w

call_leaving : (a : Asked) (r : Queued) → is_serve_call a ≡ false → EndsWithEnd r.waiting → end_waits r.waiting ≡ true → CallLeaving queueing_receiver waiting_queue a r (queued_call a r)
unfolding queued_call straight_call queue_say queue_end queue_finish queue_refusal wrote_by
call_leaving (Straight a) r s sr l = straight_leaving a r (is_writer a) refl l
call_leaving (QueueSay o content) r s sr l = rw l (refl, refl)
call_leaving (QueueEnd o) r s sr l = rw l (refl, refl)
call_leaving (QueueFinish status) r s sr l = rw l (refl, refl)
call_leaving Serve r s sr l = absurd (not_both refl s)

-- ---- serves
some_run : (k : ℕ) (o : Output) (b : ℕ) (l : List Atom) → 0 < length (run_from (suc k) o (ByteOn o b ∷ l)).content
unfolding run_from
some_run k o b l = rw (is_same_lem o) (omega arith)

-- a record of data, of an end, of END
data_written : (o : Output) (id : ℕ) (x : List ℕ) → 0 < length x → length x < 65536 → atoms_of (record_bytes (output_type o) id x) ≡ map (ByteOn o) x
data_written o id x h g = atoms_one (output_type o) id x g ∙ output_atoms o x ∙ some_atoms o x h

-- a record of an end
pub end_written : (o : Output) (id : ℕ) → atoms_of (record_bytes (output_type o) id []) ≡ EndOf o ∷ []
end_written o id = atoms_one (output_type o) id [] (omega arith) ∙ output_atoms o []

last_written : (id : ℕ) (c : List ℕ) → length c < 65536 → atoms_of (record_bytes END_REQUEST id c) ≡ EndRequest c ∷ []
unfolding record_atoms
last_written id c h = atoms_one END_REQUEST id c h

run_written : (o : Output) (id b : ℕ) (l : List Atom)
    → ByteOn o b ∷ l ≡ atoms_of (record_bytes (output_type o) id (run_from RUN o (ByteOn o b ∷ l)).content) ++ (run_from RUN o (ByteOn o b ∷ l)).behind
run_written o id b l =
    let r = run_is RUN o (ByteOn o b ∷ l) in
    let c = (run_from RUN o (ByteOn o b ∷ l)).content in
    let h : length c < 65536 = omega (arith, r.short) in
    r.same ∙ ap (λ k. k ++ (run_from RUN o (ByteOn o b ∷ l)).behind) (sym (data_written o id c (some_run 511 o b l) h))

serve_list_live : (h : Held) (l : List Atom) → EndsWithEnd l → end_waits l ≡ false → ServeLive queueing_receiver waiting_queue Serve (queued h l) (served (queued h l) (next l))
unfolding served next end_waits wrote_by
serve_list_live h [] s e = (refl, refl, rw atoms_none, tt)
serve_list_live h (ByteOn o b ∷ l) s e =
    let r = run_is RUN o (ByteOn o b ∷ l) in
    (refl, r.waits ∙ e, run_written o h.request.id b l, r.ends s)
serve_list_live h (EndOf o ∷ l) s e = (refl, e, rw (end_written o h.request.id), s)
serve_list_live h (EndRequest c ∷ l) s e = absurd (not_both refl e)

serve_list_leaving : (h : Held) (l : List Atom) → EndsWithEnd l → end_waits l ≡ true → ServeLeaving queueing_receiver waiting_queue Serve (queued h l) (served (queued h l) (next l))
unfolding served next end_waits wrote_by
serve_list_leaving h [] s e = absurd (not_both e refl)
serve_list_leaving h (ByteOn o b ∷ l) s e =
    let r = run_is RUN o (ByteOn o b ∷ l) in
    (refl, r.waits ∙ e, run_written o h.request.id b l, r.ends s)
serve_list_leaving h (EndOf o ∷ l) s e = (refl, e, rw (end_written o h.request.id), s)
serve_list_leaving h (EndRequest c ∷ l) s e = go h.request.state.keep refl
  where
    go : (k : Bool) → h.request.state.keep ≡ k
        → ServeLeaving queueing_receiver waiting_queue Serve (queued h (EndRequest c ∷ l)) (if k then Leaves (Record (record_bytes END_REQUEST h.request.id c)) else Closes (Record (record_bytes END_REQUEST h.request.id c)))
    go true k = (k, rw (s.0, last_written h.request.id c s.1))
    go false k = k

serve_live : (a : Asked) (r : Queued) → is_serve_call a ≡ true → EndsWithEnd r.waiting → end_waits r.waiting ≡ false → ServeLive queueing_receiver waiting_queue a r (queued_call a r)
unfolding queued_call
serve_live (Straight a) r s sr l = absurd (not_both s refl)
serve_live (QueueSay o content) r s sr l = absurd (not_both s refl)
serve_live (QueueEnd o) r s sr l = absurd (not_both s refl)
serve_live (QueueFinish status) r s sr l = absurd (not_both s refl)
serve_live Serve r s sr l = serve_list_live r.held r.waiting sr l

serve_leaving : (a : Asked) (r : Queued) → is_serve_call a ≡ true → EndsWithEnd r.waiting → end_waits r.waiting ≡ true → ServeLeaving queueing_receiver waiting_queue a r (queued_call a r)
unfolding queued_call
serve_leaving (Straight a) r s sr l = absurd (not_both s refl)
serve_leaving (QueueSay o content) r s sr l = absurd (not_both s refl)
serve_leaving (QueueEnd o) r s sr l = absurd (not_both s refl)
serve_leaving (QueueFinish status) r s sr l = absurd (not_both s refl)
serve_leaving Serve r s sr l = serve_list_leaving r.held r.waiting sr l

-- ---- the rest
inactive_writes : (a : Asked) → wrote_by a (refused_by 3 a) ≡ []
unfolding wrote_by refused_by
inactive_writes (Straight a) = refused_writes 3 a
inactive_writes (QueueSay o content) = refl
inactive_writes (QueueEnd o) = refl
inactive_writes (QueueFinish status) = refl
inactive_writes Serve = atoms_none

leaving_waits : (r : Queued) → EndsWithEnd r.waiting → end_waits r.waiting ≡ true → r.waiting ≡ [] → ⊥
unfolding end_waits
leaving_waits r sr l e = let z : end_waits [] ≡ true = rw e at l in not_both z refl

-- The receiver with a queue keeps the laws.
pub waiting_laws : Waiting queueing_receiver waiting_queue
waiting_laws = record {
  header_alike = header_alike;
  byte_alike = byte_alike;
  begin_waits = begin_waits;
  call_alike = call_alike;
  call_leaving = call_leaving;
  serve_live = serve_live;
  serve_leaving = serve_leaving;
  inactive_writes = inactive_writes;
  leaving_waits = leaving_waits;
}
