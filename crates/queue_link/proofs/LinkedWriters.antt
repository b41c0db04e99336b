-- Straight say, end and finish on the whole state are the machine's: row 5 while END waits, row 10 last.
use Rattle.std.specs.Prelude.{◌≡◌, List, [], ◌∷◌, Bool, not, ℕ, ◌<◌, length, eqb, ltb, if◌then◌else◌, Some}
use Rattle.std.proofs.Math.Path.{refl, ap, ap₂}
use Rattle.std.proofs.Common.{sym, ◌∙◌, inr}
use Rattle.std.proofs.Math.Bool.{true, false}
use borrow.Author.Tests.{eqb-true, eq-eqb, eqb-false}
use Rattle.wire.specs.Test.{by_test}
use Rattle.machine.specs.Machine.{Stays, Leaves, Closes}
use Rattle.connection.specs.declared.answer.Output.{Output}
use Rattle.connection.specs.Sizes.{SLOTS, STORE}
use Rattle.connection.specs.Request.{Held}
use Rattle.connection.specs.RequestCalls as Of
use Rattle.connection.specs.Slots.{request_at, find}
use Rattle.connection.specs.Calls as C
use Rattle.connection.specs.Arguments.{Question, Argument, ForRead, ForSay, ForEnd, ForFinish, RepliedWith, Wrote, FinishedWith, refused}
use Rattle.connection.specs.Run.{replied_to, called}
use Rattle.connection.proofs.Laws.RefusalRows.{writes_number}
use Rattle.connection.specs.Runs.Receiver.{receive_call, finished_as}
use Rattle.queue_slot.specs.Atoms.{Atom, is_some, end_waits}
use Rattle.queue_slot.specs.Wait.{Wait, anything, atoms_in}
use Rattle.queue_slot.proofs.WaitLaws.{Sized}
use Rattle.queue_slot.proofs.ServeLaws.{nothing_waits}
use Rattle.queue_slot.proofs.WaitRefines.{anything_is}
use Rattle.queue_machine.specs.Queued as Q
use Rattle.queue_machine.specs.Queued.{Queued, queued_call, is_writer, refusal_of, lifted, held_up, straight_writer, straight_call}
use Rattle.queue_machine.proofs.QueuedLaws.{reader_silent, writer_clear, not_both}
use Rattle.queue.specs.Numbers.{last_at}
use Rattle.queue.proofs.Areas.{Roomy}
use Rattle.queue_link.proofs.Loaded.{waiting_of, QueueSteady, queue_shape}
use Rattle.queue_link.proofs.LoadedCalls as L
use Rattle.queue_link.proofs.LoadedTurn.{Good}
use Rattle.queue.specs.Calls as T
use Rattle.queue.specs.Calls.{straight_say, straight_end, straight_finish, rows_of, stream_rows, is_leaving, QueueMemory, conn_of, wait_at, lent_refusal}
use Rattle.queue.proofs.ReplyLaws.{queue_replied_or_refused}
use Rattle.queue.specs.Run as D
use Rattle.queue.specs.Run.{QueueResult, queue_reply, queue_called, changed_by, finished_by}
use Rattle.connection.specs.Refusal.{◌when◌, refusal}
use Rattle.queue_link.proofs.LinkedStraight.{CallIs, same_with, as_before, as_is, before_is, stays_is}

some_is : (w : Wait) → Sized w → is_some (atoms_in w) ≡ anything w
unfolding is_some
some_is w s = by_test (anything w) (λ e. go (atoms_in w) refl e) (λ e. rw (nothing_waits w e, e))
  where
    go : (l : List Atom) → atoms_in w ≡ l → anything w ≡ true → is_some l ≡ anything w
    go [] e d = absurd (not_both d (anything_is w s e))
    go (x ∷ l) e d = sym d

finish_refusal_lem : (keep : Bool) (h : Held) (w : Of.Writing) → refusal_of (finished_as keep h w) ≡ w.refusal
unfolding finished_as
finish_refusal_lem keep h w = by_test (eqb w.refusal 0) (λ e. rw e (go keep (sym (eqb-true w.refusal 0 e)))) (λ e. rw e)
  where
    go : (k : Bool) → 0 ≡ w.refusal → refusal_of (if k then Leaves (FinishedWith 0 w.written false w.buffer) else Closes (FinishedWith 0 w.written true w.buffer)) ≡ w.refusal
    go true e = e
    go false e = e

module _ (m : QueueMemory) (g : Good m) (is_open : (conn_of m).«open» ≡ true) (id i : ℕ) (found : find (conn_of m).table id ≡ Some i) where
  abbrev z : QueueSteady m
  z = g.steady

  abbrev y : Roomy m
  y = g.roomy

  abbrev own : Held
  own = L.own m z y is_open id i found

  abbrev mine : Queued
  mine = L.mine m z y is_open id i found

  low : i < SLOTS
  low = (L.holds m z y is_open id i found).low

  -- ---- calls that read
  lent_is : lent_refusal m id ≡ 0
  unfolding lent_refusal
  lent_is = let h = queue_shape m z in let q = eq-eqb (length m.memory.store) STORE z.steady.sizes.full in rw (q, h, is_open, found)

  -- such a call answers as without a queue
  reply_is : (q : Question) → queue_reply m id q ≡ replied_to (conn_of m) m.memory.store id q
  reply_is q = rw (queue_replied_or_refused m id q, lent_is)

  reader_before : (a : Argument) → is_writer a ≡ false → queue_called m id (D.Straight a) ≡ as_before m id a
  unfolding queue_called called
  reader_before (ForRead q) w = ap₂ (λ (x : QueueMemory) r. record { left = x; answer = D.Straightly (RepliedWith r) }) (sym (same_with m)) (reply_is q)
  reader_before (ForSay o content buffer) w = absurd (not_both refl w)
  reader_before (ForEnd o buffer) w = absurd (not_both refl w)
  reader_before (ForFinish status buffer) w = absurd (not_both refl w)

  reader_lifted : (a : Argument) → is_writer a ≡ false → straight_call a mine ≡ lifted (receive_call a own) (waiting_of m i)
  unfolding straight_call
  reader_lifted a w = rw w

  -- calls that read
  pub reader_is : (a : Argument) → is_writer a ≡ false → CallIs m id (D.Straight a)
  reader_is a w = before_is m g is_open id i found a (reader_before a w) (reader_lifted a w) (inr (reader_silent a own w))

  -- ---- calls that write
  -- the refusal: 5 while END waits; its own; 10 while anything waits
  abbrev refusal_with : ℕ → ℕ
  refusal_with k = if end_waits (waiting_of m i) then 5 else if eqb k 0 then (if is_some (waiting_of m i) then 10 else 0) else k

  abbrev pick : ℕ → Argument → QueueResult
  pick n a = if eqb n 0 then as_before m id a else as_is m (refused n a)

  by_leaving : (a : Argument) → is_writer a ≡ true → end_waits (waiting_of m i) ≡ true → straight_call a mine ≡ Stays mine (Q.Straightly (refused 5 a))
  unfolding straight_call straight_writer
  by_leaving a w e = rw (w, e)

  by_waiting : (a : Argument) → is_writer a ≡ true → end_waits (waiting_of m i) ≡ false → eqb (refusal_of (receive_call a own)) 0 ≡ true → is_some (waiting_of m i) ≡ true → straight_call a mine ≡ Stays mine (Q.Straightly (refused 10 a))
  unfolding straight_call straight_writer held_up
  by_waiting a w e k s = rw (w, e, k, s)

  by_nothing : (a : Argument) (k s : Bool) → is_writer a ≡ true → end_waits (waiting_of m i) ≡ false → eqb (refusal_of (receive_call a own)) 0 ≡ k → is_some (waiting_of m i) ≡ s → (if k then s else false) ≡ false
      → straight_call a mine ≡ lifted (receive_call a own) (waiting_of m i)
  unfolding straight_call straight_writer held_up
  by_nothing a k s w e q r n = rw (w, e, q, r, n)

  not_held : (a : Argument) → is_some (waiting_of m i) ≡ false → held_up (receive_call a own) (waiting_of m i) ≡ false
  unfolding held_up
  not_held a s = by_test (eqb (refusal_of (receive_call a own)) 0) (λ e. rw (e, s)) (λ e. rw e)

  writer_is : (a : Argument) → is_writer a ≡ true → queue_called m id (D.Straight a) ≡ pick (refusal_with (refusal_of (receive_call a own))) a
      → ((refusal_of (receive_call a own) ≡ 0 → ⊥) → receive_call a own ≡ Stays own (refused (refusal_of (receive_call a own)) a)) → CallIs m id (D.Straight a)
  unfolding queued_call
  writer_is a w c s =
      by_test (end_waits (waiting_of m i))
      (λ e. stays_is m g is_open id i found (D.Straight a) (D.Straightly (refused 5 a)) (rw e at c) (by_leaving a w e))
      (λ e. by_test (eqb (refusal_of (receive_call a own)) 0)
      (λ k. by_test (is_some (waiting_of m i))
      (λ x. stays_is m g is_open id i found (D.Straight a) (D.Straightly (refused 10 a)) (rw (e, k, x) at c) (by_waiting a w e k x))
      (λ x. before_is m g is_open id i found a (rw (e, k, x) at c) (by_nothing a true false w e k x refl) (writer_clear a own (waiting_of m i) w (not_held a x))))
      (λ k.
      let o = receive_call a own in
      let t = s (eqb-false (refusal_of o) 0 k) in
      let b : straight_call a mine ≡ lifted o (waiting_of m i) = by_nothing a false (is_some (waiting_of m i)) w e k refl refl in
      let c1 : queue_called m id (D.Straight a) ≡ pick (refusal_of o) a = rw (e, k) at c in
      let c2 : queue_called m id (D.Straight a) ≡ as_is m (refused (refusal_of o) a) = rw k at c1 in
      stays_is m g is_open id i found (D.Straight a) (D.Straightly (refused (refusal_of o) a)) c2 (b ∙ ap (λ x. lifted x (waiting_of m i)) t)))

  -- say
  abbrev say_number : Output → List ℕ → List ℕ → ℕ
  say_number o content buffer =
      refusal (rows_of m id (stream_rows m id o ((6 when (ltb (length buffer) (length (Of.say_bytes (T.request_of m id) o content)))) ∷ (10 when anything (wait_at m (T.slot_of m id))) ∷ [])))

  stream_cases : (l n e s y : Bool)
      → ◌≡◌ {A = ℕ} (if (if l then false else n) then 4 else if T.or l e then 5 else if s then 6 else if y then 10 else 0)
      (if l then 5 else if eqb (if n then 4 else if e then 5 else if s then 6 else 0) 0 then (if y then 10 else 0) else (if n then 4 else if e then 5 else if s then 6 else 0))
  stream_cases true n e s y = refl
  stream_cases false true e s y = refl
  stream_cases false false true s y = refl
  stream_cases false false false true y = refl
  stream_cases false false false false true = refl
  stream_cases false false false false false = refl

  say_own : (o : Output) (content buffer : List ℕ) → refusal_of (receive_call (ForSay o content buffer) own) ≡ Of.output_refusal (request_at (conn_of m).table i) o (Of.say_bytes (request_at (conn_of m).table i) o content) buffer
  unfolding receive_call Of.say_in
  say_own o content buffer = writes_number _ _ _ _ buffer

  say_number_lem : (o : Output) (content buffer : List ℕ) → say_number o content buffer ≡ refusal_with (refusal_of (receive_call (ForSay o content buffer) own))
  unfolding wait_at
  say_number_lem o content buffer =
      let h = queue_shape m z in
      rw (say_own o content buffer, some_is (wait_at m i) (z.sized i low), L.leaving_is m z y is_open id i found, h, is_open, found)
      (stream_cases (last_at m.waits i) (Of.no_output (request_at (conn_of m).table i)) (Of.is_ended o (request_at (conn_of m).table i).state) (ltb (length buffer) (length (Of.say_bytes (request_at (conn_of m).table i) o content))) (anything (wait_at m i)))

  say_called : (o : Output) (content buffer : List ℕ) → queue_called m id (D.Straight (ForSay o content buffer)) ≡ pick (say_number o content buffer) (ForSay o content buffer)
  unfolding queue_called straight_say called refused
  say_called o content buffer = go (eqb (say_number o content buffer) 0) (say_number o content buffer)
    where
      go : (b : Bool) (n : ℕ) → changed_by m (if b then C.say (conn_of m) id o content buffer else C.unwritten n (conn_of m) buffer) ≡ (if b then as_before m id (ForSay o content buffer) else as_is m (Wrote n 0 buffer))
      go true n = refl
      go false n = ap (λ (x : QueueMemory). record { left = x; answer = D.Straightly (Wrote n 0 buffer) }) (same_with m)

  say_refused : (o : Output) (content buffer : List ℕ) → (refusal_of (receive_call (ForSay o content buffer) own) ≡ 0 → ⊥)
      → receive_call (ForSay o content buffer) own ≡ Stays own (refused (refusal_of (receive_call (ForSay o content buffer) own)) (ForSay o content buffer))
  unfolding receive_call Of.say_in Of.writes refused
  say_refused o content buffer d =
      by_test (eqb (Of.output_refusal (request_at (conn_of m).table i) o (Of.say_bytes (request_at (conn_of m).table i) o content) buffer) 0)
      (λ e. absurd (d (rw e))) (λ e. rw e)

  -- say
  pub say_is : (o : Output) (content buffer : List ℕ) → CallIs m id (D.Straight (ForSay o content buffer))
  say_is o content buffer =
      writer_is (ForSay o content buffer) refl (say_called o content buffer ∙ ap (λ n. pick n (ForSay o content buffer)) (say_number_lem o content buffer)) (say_refused o content buffer)

  -- end
  abbrev end_number : Output → List ℕ → ℕ
  end_number o buffer =
      refusal (rows_of m id (stream_rows m id o ((6 when (ltb (length buffer) (length (Of.end_bytes (T.request_of m id) o)))) ∷ (10 when anything (wait_at m (T.slot_of m id))) ∷ [])))

  end_own : (o : Output) (buffer : List ℕ) → refusal_of (receive_call (ForEnd o buffer) own) ≡ Of.output_refusal (request_at (conn_of m).table i) o (Of.end_bytes (request_at (conn_of m).table i) o) buffer
  unfolding receive_call Of.end_in
  end_own o buffer = writes_number _ _ _ _ buffer

  end_number_lem : (o : Output) (buffer : List ℕ) → end_number o buffer ≡ refusal_with (refusal_of (receive_call (ForEnd o buffer) own))
  unfolding wait_at
  end_number_lem o buffer =
      let h = queue_shape m z in
      rw (end_own o buffer, some_is (wait_at m i) (z.sized i low), L.leaving_is m z y is_open id i found, h, is_open, found)
      (stream_cases (last_at m.waits i) (Of.no_output (request_at (conn_of m).table i)) (Of.is_ended o (request_at (conn_of m).table i).state) (ltb (length buffer) (length (Of.end_bytes (request_at (conn_of m).table i) o))) (anything (wait_at m i)))

  end_called : (o : Output) (buffer : List ℕ) → queue_called m id (D.Straight (ForEnd o buffer)) ≡ pick (end_number o buffer) (ForEnd o buffer)
  unfolding queue_called straight_end called refused
  end_called o buffer = go (eqb (end_number o buffer) 0) (end_number o buffer)
    where
      go : (b : Bool) (n : ℕ) → changed_by m (if b then C.end_stream (conn_of m) id o buffer else C.unwritten n (conn_of m) buffer) ≡ (if b then as_before m id (ForEnd o buffer) else as_is m (Wrote n 0 buffer))
      go true n = refl
      go false n = ap (λ (x : QueueMemory). record { left = x; answer = D.Straightly (Wrote n 0 buffer) }) (same_with m)

  end_refused : (o : Output) (buffer : List ℕ) → (refusal_of (receive_call (ForEnd o buffer) own) ≡ 0 → ⊥)
      → receive_call (ForEnd o buffer) own ≡ Stays own (refused (refusal_of (receive_call (ForEnd o buffer) own)) (ForEnd o buffer))
  unfolding receive_call Of.end_in Of.writes refused
  end_refused o buffer d =
      by_test (eqb (Of.output_refusal (request_at (conn_of m).table i) o (Of.end_bytes (request_at (conn_of m).table i) o) buffer) 0)
      (λ e. absurd (d (rw e))) (λ e. rw e)

  -- end
  pub end_is : (o : Output) (buffer : List ℕ) → CallIs m id (D.Straight (ForEnd o buffer))
  end_is o buffer =
      writer_is (ForEnd o buffer) refl (end_called o buffer ∙ ap (λ n. pick n (ForEnd o buffer)) (end_number_lem o buffer)) (end_refused o buffer)

  -- finish
  abbrev finish_number : ℕ → List ℕ → ℕ
  finish_number status buffer =
      refusal ((2 when not (eqb (length m.memory.store) STORE)) ∷ rows_of m id ((5 when is_leaving m id) ∷ (6 when (ltb (length buffer) (length (Of.finish_bytes (T.request_of m id) status)))) ∷ (10 when anything (wait_at m (T.slot_of m id))) ∷ []))

  finish_cases : (l s y : Bool)
      → ◌≡◌ {A = ℕ} (if l then 5 else if s then 6 else if y then 10 else 0)
      (if l then 5 else if eqb (if s then 6 else 0) 0 then (if y then 10 else 0) else (if s then 6 else 0))
  finish_cases true s y = refl
  finish_cases false true y = refl
  finish_cases false false true = refl
  finish_cases false false false = refl

  finish_own : (status : ℕ) (buffer : List ℕ) → refusal_of (receive_call (ForFinish status buffer) own) ≡ (if ltb (length buffer) (length (Of.finish_bytes (request_at (conn_of m).table i) status)) then 6 else 0)
  unfolding receive_call Of.finish_in
  finish_own status buffer = finish_refusal_lem _ _ _ ∙ writes_number _ _ _ _ buffer

  finish_number_lem : (status : ℕ) (buffer : List ℕ) → finish_number status buffer ≡ refusal_with (refusal_of (receive_call (ForFinish status buffer) own))
  unfolding wait_at
  finish_number_lem status buffer =
      let h = queue_shape m z in
      let q = eq-eqb (length m.memory.store) STORE z.steady.sizes.full in
      rw (finish_own status buffer, some_is (wait_at m i) (z.sized i low), L.leaving_is m z y is_open id i found, q, h, is_open, found)
      (finish_cases (last_at m.waits i) (ltb (length buffer) (length (Of.finish_bytes (request_at (conn_of m).table i) status))) (anything (wait_at m i)))

  finish_called : (status : ℕ) (buffer : List ℕ) → queue_called m id (D.Straight (ForFinish status buffer)) ≡ pick (finish_number status buffer) (ForFinish status buffer)
  unfolding queue_called straight_finish called refused
  finish_called status buffer = go (eqb (finish_number status buffer) 0) (finish_number status buffer)
    where
      go : (b : Bool) (n : ℕ) → finished_by m (if b then C.finish (conn_of m) m.memory.store id status buffer else C.unfinished n (conn_of m) m.memory.store buffer)
          ≡ (if b then as_before m id (ForFinish status buffer) else as_is m (FinishedWith n 0 false buffer))
      go true n = refl
      go false n = ap (λ (x : QueueMemory). record { left = x; answer = D.Straightly (FinishedWith n 0 false buffer) }) (same_with m)

  finish_refused : (status : ℕ) (buffer : List ℕ) → (refusal_of (receive_call (ForFinish status buffer) own) ≡ 0 → ⊥)
      → receive_call (ForFinish status buffer) own ≡ Stays own (refused (refusal_of (receive_call (ForFinish status buffer) own)) (ForFinish status buffer))
  unfolding receive_call Of.finish_in Of.writes refused finished_as
  finish_refused status buffer d =
      by_test (ltb (length buffer) (length (Of.finish_bytes (request_at (conn_of m).table i) status)))
      (λ e. rw e) (λ e. absurd (d (finish_own status buffer ∙ rw e)))

  -- finish
  pub finish_is : (status : ℕ) (buffer : List ℕ) → CallIs m id (D.Straight (ForFinish status buffer))
  finish_is status buffer =
      writer_is (ForFinish status buffer) refl (finish_called status buffer ∙ ap (λ n. pick n (ForFinish status buffer)) (finish_number_lem status buffer)) (finish_refused status buffer)

  -- Every straight call of an id that is active.
  pub straight_is : (a : Argument) → CallIs m id (D.Straight a)
  straight_is (ForRead q) = reader_is (ForRead q) refl
  straight_is (ForSay o content buffer) = say_is o content buffer
  straight_is (ForEnd o buffer) = end_is o buffer
  straight_is (ForFinish status buffer) = finish_is status buffer
