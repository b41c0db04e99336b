-- Whoever waits goes on waiting: where slot i is R's and something of R waits, it is so after any bytes, after any call
-- that is no serve, and after a serve of another id.
use Rattle.std.specs.Prelude.{◌≡◌, refl, true, false, ℕ, ◌+◌, length, eqb, ltb}
use mathlib.Core.List.{List, [], ◌∷◌, ◌++◌, map}
use Rattle.std.proofs.Common.{inl, inr, arith}
use Rattle.wire.specs.Test.{by_test}
use Rattle.machine.specs.Slots.{SlotState, Vacant, HeldBy}
use Rattle.machine.specs.Timeline.{RequestCall, ByteItem, CallItem, byte_items}
use Rattle.machine.specs.Machine.{HeaderOutcome, Decided, BeginOutcome, Declined, Accepted, CallOutcome, Stays, Retires, Leaves, Closes, Connection, on_item, state_after}
use Rattle.machine_queue.proofs.Everywhere.{any_header, AfterHeader, AfterBegin, AfterCall, Property, Holds, byte_holds, call_holds}
use Rattle.connection.specs.declared.request.Due.{Due}
use Rattle.connection.specs.declared.answer.Output.{Output}
use Rattle.connection.specs.Request.{Held}
use Rattle.connection.specs.Bytewise.{Note}
use Rattle.connection.specs.Arguments.{Argument, Answer}
use Rattle.connection.specs.Runs.Receiver.{receive_header, receive_begin, receive_call}
use Rattle.queue_slot.specs.Atoms.{Atom, ByteOn, EndOf, data_in, is_some, end_waits}
use Rattle.queue_slot.specs.Finishing.{last_words}
use Rattle.queue_slot.specs.Wait.{ROOM}
use Rattle.queue_machine.specs.Queued.{Queued, Asked, Straight, QueueSay, QueueEnd, QueueFinish, Serve, QueueAnswer, lifted_header, queued_header, queued_byte, lifted_begin, queued_begin, is_writer, lifted, held_up, straight_writer, straight_call, queue_refusal, queue_say, queue_end, queue_finish, queued_call, is_serve_call, queueing_receiver}
use Rattle.queue_machine.proofs.QueuedLaws.{Silent, Clear, reader_silent, writer_clear}

-- ---- a call of a request of which something waits
some_append : (l k : List Atom) → is_some l ≡ true → is_some (l ++ k) ≡ true
unfolding is_some
some_append [] k e = let z : ◌≡◌ {A = ℕ} 0 1 = cc in absurd (omega arith)
some_append (x ∷ l) k e = refl

-- something waits then, or the connection is closed
abbrev pub StillSome : CallOutcome Queued QueueAnswer → Type 0
StillSome (Stays q n) = is_some q.waiting ≡ true
StillSome (Retires q n) = is_some q.waiting ≡ true
StillSome (Leaves n) = ⊥
StillSome (Closes n) = Unit {0}

silent_some : (o : CallOutcome Held Answer) (l : List Atom) → Silent o → is_some l ≡ true → StillSome (lifted o l)
silent_some (Stays h n) l s e = e
silent_some (Retires h n) l s e = absurd s
silent_some (Leaves n) l s e = absurd s
silent_some (Closes n) l s e = absurd s

clear_some : (o : CallOutcome Held Answer) (l : List Atom) → Clear o l → is_some l ≡ true → StillSome (lifted o l)
unfolding is_some
clear_some o l (inl d) e = let z : ◌≡◌ {A = ℕ} 0 1 = cc (rw d at e) in absurd (omega arith)
clear_some o l (inr s) e = silent_some o l s e

straight_some : (a : Argument) (r : Queued) → is_some r.waiting ≡ true → StillSome (straight_call a r)
unfolding straight_call straight_writer
straight_some a r e =
    by_test (is_writer a)
    (λ w. by_test (end_waits r.waiting) (λ l. rw (w, l) e)
    (λ l. by_test (held_up (receive_call a r.held) r.waiting) (λ u. rw (w, l, u) e) (λ u. rw (w, l, u) (clear_some (receive_call a r.held) r.waiting (writer_clear a r.held r.waiting w u) e))))
    (λ w. rw w (silent_some (receive_call a r.held) r.waiting (reader_silent a r.held w) e))

say_some : (r : Queued) (o : Output) (content : List ℕ) → is_some r.waiting ≡ true → StillSome (queue_say r o content)
unfolding queue_say
say_some r o content e =
    by_test (eqb (queue_refusal r o) 0)
    (λ z. by_test (ltb ROOM (data_in r.waiting + length content)) (λ t. rw (z, t) e) (λ t. rw (z, t) (some_append r.waiting (map (ByteOn o) content) e)))
    (λ z. rw z e)

end_some : (r : Queued) (o : Output) → is_some r.waiting ≡ true → StillSome (queue_end r o)
unfolding queue_end
end_some r o e = by_test (eqb (queue_refusal r o) 0) (λ z. rw z (some_append r.waiting (EndOf o ∷ []) e)) (λ z. rw z e)

finish_some : (r : Queued) (status : ℕ) → is_some r.waiting ≡ true → StillSome (queue_finish r status)
unfolding queue_finish
finish_some r status e = by_test (end_waits r.waiting) (λ l. rw l e) (λ l. rw l (some_append r.waiting (last_words r.held.request.state status) e))

-- every call that is no serve
pub call_some : (a : Asked) (r : Queued) → is_serve_call a ≡ false → is_some r.waiting ≡ true → StillSome (queued_call a r)
unfolding queued_call
call_some (Straight a) r s e = straight_some a r e
call_some (QueueSay o content) r s e = say_some r o content e
call_some (QueueEnd o) r s e = end_some r o e
call_some (QueueFinish status) r s e = finish_some r status e
call_some Serve r s e = let z : ◌≡◌ {A = ℕ} 0 1 = cc in absurd (omega arith)

module _ (R i : ℕ) where
  -- slot i is R's, and something of R waits
  abbrev pub WaitsAt : ℕ → SlotState (List ℕ) Queued → Type 0
  WaitsAt j (Vacant x) = j ≡ i → ⊥
  WaitsAt j (HeldBy id r) = j ≡ i → (id ≡ R) × (is_some r.waiting ≡ true)

  -- headers and content let wait what waits; a request is opened in another slot
  lifted_waits : (j id : ℕ) (o : HeaderOutcome Held Due Note) (l : List Atom) → (j ≡ i → (id ≡ R) × (is_some l ≡ true)) → AfterHeader queueing_receiver (λ q. WaitsAt j (HeldBy id q)) (lifted_header o l)
  lifted_waits j id (Decided h e k) l w = w

  pub header_waits : (t c j id : ℕ) (r : Queued) → WaitsAt j (HeldBy id r) → AfterHeader queueing_receiver (λ q. WaitsAt j (HeldBy id q)) (queued_header t c r)
  unfolding queued_header
  header_waits t c j id r w = lifted_waits j id (receive_header t c r.held) r.waiting w

  pub content_waits : (k : Due) (b j id : ℕ) (r : Queued) → WaitsAt j (HeldBy id r) → WaitsAt j (HeldBy id (queued_byte k b r).0)
  unfolding queued_byte
  content_waits k b j id r w = w

  opened_waits : (j id : ℕ) (x : List ℕ) (o : BeginOutcome (List ℕ) Held Note) → (j ≡ i → ⊥) → AfterBegin queueing_receiver (λ f. WaitsAt j (HeldBy id (f x))) (lifted_begin o)
  opened_waits j id x (Declined e) d = tt
  opened_waits j id x (Accepted f e) d = λ q. absurd (d q)

  pub begin_waits : (id : ℕ) (g : List ℕ) (j : ℕ) (x : List ℕ) → (j ≡ i → ⊥) → AfterBegin queueing_receiver (λ f. WaitsAt j (HeldBy id (f x))) (queued_begin id g)
  unfolding queued_begin
  begin_waits id g j x d = opened_waits j id x (receive_begin id g) d

  -- the property
  abbrev pub waiting_slot : Property queueing_receiver
  waiting_slot =
      record {
        IdOk = λ id. Unit {0};
        Ok = WaitsAt;
        header_keeps = header_waits;
        byte_keeps = content_waits;
        begin_keeps = λ id g j x u d. begin_waits id g j x d;
      }

  -- it holds, or the connection is closed
  abbrev pub StillWaits : Connection queueing_receiver → Type 0
  StillWaits s = Holds queueing_receiver waiting_slot s

  -- bytes keep it
  pub bytes_waits : (x : List ℕ) (s : Connection queueing_receiver) → StillWaits s → StillWaits (state_after queueing_receiver s (byte_items x))
  unfolding state_after byte_items
  bytes_waits [] s h = h
  bytes_waits (b ∷ x) s h = bytes_waits x (on_item queueing_receiver s (ByteItem b)).0 (byte_holds queueing_receiver waiting_slot s b (any_header queueing_receiver waiting_slot (λ id. tt) s b) h)

  after_call : (j id : ℕ) (o : CallOutcome Queued QueueAnswer) → (j ≡ i → (id ≡ R) × StillSome o) → AfterCall queueing_receiver (WaitsAt j) id o
  after_call j id (Stays q n) f = f
  after_call j id (Retires q n) f = f
  after_call j id (Leaves n) f = λ e. (f e).1
  after_call j id (Closes n) f = tt

  -- a call that is no serve
  pub call_waits : (s : Connection queueing_receiver) (id : ℕ) (a : Asked) → is_serve_call a ≡ false → StillWaits s → StillWaits (on_item queueing_receiver s (CallItem (RequestCall id a))).0
  call_waits s id a n h =
      call_holds queueing_receiver waiting_slot s id a (λ j r w. after_call j id (queued_call a r) (λ e. ((w e).0, call_some a r n (w e).1))) h

  -- a serve of another id
  pub serve_waits : (s : Connection queueing_receiver) (id : ℕ) → (id ≡ R → ⊥) → StillWaits s → StillWaits (on_item queueing_receiver s (CallItem (RequestCall id Serve))).0
  serve_waits s id d h = call_holds queueing_receiver waiting_slot s id Serve (λ j r w. after_call j id (queued_call Serve r) (λ e. absurd (d (w e).0))) h
