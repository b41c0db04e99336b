-- What a queued call comes to: refused, nothing changes; let through, the request is put back as the call leaves it,
-- and more waits in its slot.
use Rattle.std.specs.Prelude.{ℕ, ◌+◌, ◌-◌, ◌<◌, ◌≤◌, ◌≡◌, Bool, true, false, not, List, [], ◌∷◌, length, leb, if◌then◌else◌, Ok, Err}
use Rattle.std.proofs.Math.Path.{refl}
use Rattle.std.proofs.Common.{⊎_elim, sym, ap, ◌∙◌, arith, eq-eqb, ne_eqb, leb-true, leb-false, le-leb}
use Rattle.std.proofs.lemmas.Bool.{lt-leb}
use Rattle.wire.specs.Test.{◌≤?◌, ◌=?◌, by_test}
use Rattle.connection.specs.declared.request.Request.{Request}
use Rattle.connection.specs.declared.state.Conn.{Conn}
use Rattle.connection.specs.declared.answer.Output.{Output}
use Rattle.connection.specs.declared.answer.Refusal.{Refusal}
use Rattle.connection.specs.Codes.{refusal_number}
use Rattle.connection.specs.Refusal.{Row, ◌when◌, refusal}
use Rattle.connection.specs.RequestCalls.{said_on, ended_on}
use Rattle.connection.specs.Run.{Memory}
use Rattle.connection.specs.Slots.{request_at}
use Rattle.connection.specs.Calls.{puts_request}
use Rattle.codes.proofs.Laws.{refusal_some}
use Rattle.call_admit.specs.Admission.{admitted_by}
use Rattle.queue_slot.specs.Finishing.{spent_by}
use Rattle.queue_slot.specs.Wait.{Wait, has_room_for, wait_data, wait_end, wait_finish}
use Rattle.queue.specs.Numbers.{count_at, last_at}
use Rattle.queue.specs.Calls.{QUEUE, QueueMemory, beside, lent, wait_at, put_wait, with_conn, slot_of, rows_of, stream_rows, Queueing, put_both, say_refusal, queue_say, queue_end, skipping, queue_finish}
use Rattle.queue.specs.Answer.{queued_by}
use Rattle.queue_admit.specs.Admission.{queue_admission}
use Rattle.queue_write.specs.Writable.{Writable}
use Rattle.queue_admit.proofs.AdmissionLaws.{Own, Through, through_at, size_refuses, size_passes, refused_by_row, own_decide}
use Rattle.queue_admit.proofs.StreamLaws.{stream_rows_of, stream_refused, stream_passed}

-- ---- any queued call
-- refused by that number, or let through
abbrev outcome : ℕ → QueueMemory → QueueMemory → Queueing
outcome n m after = if n =? 0 then record { refusal = 0; left = after } else record { refusal = n; left = m }

-- refused, nothing changes
outcome_refused : (n : ℕ) (m after : QueueMemory) (why : Refusal) → n ≡ refusal_number why
    → ◌≡◌ {A = Queueing} (record { refusal = refusal_number why; left = m }) (outcome n m after)
outcome_refused n m after why e = simp (e, refusal_some why)

-- let through
outcome_waits : (n : ℕ) (m after : QueueMemory) {left : QueueMemory} → n ≡ 0 → left ≡ after
    → ◌≡◌ {A = Queueing} (record { refusal = 0; left = left }) (outcome n m after)
outcome_waits n m after e el = simp e (ap (λ (x : QueueMemory). record { refusal = 0; left = x }) el)

-- What a slot is told to keep waiting, whatever the connection's value beside it is.
abbrev pub Told : List ℕ → List ℕ → List ℕ → ℕ → (Wait → Wait) → List ℕ → List ℕ → List ℕ → Type 0
Told waits marks queue i f waits' marks' queue' =
    (memory : Memory) → beside memory waits' marks' queue' ≡ put_wait (beside memory waits marks queue) i (f (wait_at (beside memory waits marks queue) i))

-- ---- room
-- More bytes than a slot's area has find no room.
pub no_room_lem : (count n long : ℕ) → long ≡ n → 1024 < n → false ≡ leb (count + long) 1024
no_room_lem count n long e over = sym (lt-leb (count + long) 1024 (omega arith))

-- The room that n bytes leave is compared with what waits.
pub room_left : (count n long : ℕ) → long ≡ n → n ≤ 1024 → leb count (1024 - n) ≡ leb (count + long) 1024
room_left count n long e fits =
    by_test (leb (count + long) 1024)
    (λ t. rw t (le-leb count (1024 - n) (omega (arith, leb-true (count + long) 1024 t))))
    (λ t. rw t (lt-leb count (1024 - n) (omega (arith, leb-false (count + long) 1024 t))))

-- Room for the bytes, in the words of what waits.
pub room_for : (memory : Memory) (waits marks queue : List ℕ) (i : ℕ) (content : List ℕ) → (count_at waits i + length content ≤? 1024) ≡ true
    → has_room_for (wait_at (beside memory waits marks queue) i) content ≡ true
unfolding has_room_for wait_at
room_for memory waits marks queue i content e = e

-- no rows, and row 10 alone
own_none : Own []
own_none = record { not_size = refl; not_shape = refl; not_closed = refl; not_active = refl }

own_ten : (b : Bool) → Own ((10 when b) ∷ [])
own_ten b = record { not_size = refl; not_shape = refl; not_closed = refl; not_active = refl }

module _ (c : Conn) (gathered store waits marks queue : List ℕ) where
  abbrev before : QueueMemory
  before = lent c gathered store waits marks queue

  -- the answer of a refused call
  abbrev refused_by : Refusal → Queueing
  refused_by why = queued_by (record { result = Err why; conn = c }) gathered store waits marks queue

  -- another value of the connection, and the slot as it is told
  put_both_lem : (c' : Conn) (i : ℕ) (f : Wait → Wait) {waits' marks' queue' : List ℕ} → Told waits marks queue i f waits' marks' queue'
      → lent c' gathered store waits' marks' queue' ≡ put_wait (with_conn before c') i (f (wait_at before i))
  unfolding wait_at
  put_both_lem c' i f told = told (record { state = record { conn = c'; gathered = gathered }; store = store })

  -- ---- data
  module _ (id : ℕ) (o : Output) (content : List ℕ) where
    -- row 10, with what waits in slot i
    abbrev no_room : ℕ → Bool
    no_room i = not (count_at waits i + length content ≤? 1024)

    -- row 10 of the slot of the id
    abbrev own_rows : List Row
    own_rows = (10 when no_room (slot_of before id)) ∷ []

    -- all rows but 2
    abbrev say_rows : List Row
    say_rows = rows_of before id (stream_rows before id o own_rows)

    -- the request and what waits in slot i afterwards
    abbrev said_at : ℕ → QueueMemory
    said_at i = put_both before i (said_on (request_at c.table i) o content) (wait_data (wait_at before i) o content)

    -- the answer, by the number of its refusal
    say_is : queue_say before id o content ≡ outcome (refusal ((2 when not (length queue =? QUEUE)) ∷ say_rows)) before (said_at (slot_of before id))
    unfolding queue_say say_refusal has_room_for wait_at
    say_is = refl

    -- the queue has another size
    pub say_unsized : (length queue ≡ QUEUE → ⊥) → refused_by Refusal.StoreSize ≡ queue_say before id o content
    say_unsized other =
        outcome_refused _ before (said_at (slot_of before id)) Refusal.StoreSize (size_refuses (not (length queue =? QUEUE)) say_rows (ap not (ne_eqb (length queue) QUEUE other)))
        ∙ sym say_is

    -- it has its size, and the other rows decide
    say_sized : length queue ≡ QUEUE → queue_say before id o content ≡ outcome (refusal say_rows) before (said_at (slot_of before id))
    say_sized full =
        say_is
        ∙ ap (λ (n : ℕ). outcome n before (said_at (slot_of before id))) (size_passes (not (length queue =? QUEUE)) say_rows (ap not (eq-eqb (length queue) QUEUE full)) refl)

    module _ (full : length queue ≡ QUEUE) where
      -- refused by 9, 1 or 3
      pub say_barred : (why : Refusal) → admitted_by (Err why) ≡ queue_admission c waits id → refused_by why ≡ queue_say before id o content
      say_barred why e =
          outcome_refused _ before (said_at (slot_of before id)) why (refused_by_row before id why (stream_rows before id o own_rows) e refl)
          ∙ sym (say_sized full)

      module _ {i : ℕ} (t : Through before id i) {r : Request} (er : r ≡ request_at c.table i) {leaving : Bool} (el : leaving ≡ last_at waits i) where
        -- refused by 4 or 5
        pub say_ended : (why : Refusal) → refusal_number why ≡ refusal (stream_rows_of leaving r o []) → refused_by why ≡ queue_say before id o content
        say_ended why e =
            outcome_refused _ before (said_at (slot_of before id)) why (stream_refused before id o own_rows t (own_ten (no_room (slot_of before id))) er el why e)
            ∙ sym (say_sized full)

        -- row 10 decides
        ten_decides : 0 ≡ refusal (stream_rows_of leaving r o []) → refusal say_rows ≡ refusal ((10 when no_room i) ∷ [])
        ten_decides e =
            stream_passed before id o own_rows t (own_ten (no_room (slot_of before id))) er el refl refl e
            ∙ ap (λ (j : ℕ). refusal ((10 when no_room j) ∷ [])) t.slot

        -- refused by 10
        pub say_no_room : 0 ≡ refusal (stream_rows_of leaving r o []) → (count_at waits i + length content ≤? 1024) ≡ false → refused_by Refusal.Waiting ≡ queue_say before id o content
        say_no_room e room =
            outcome_refused _ before (said_at (slot_of before id)) Refusal.Waiting (ten_decides e ∙ simp room) ∙ sym (say_sized full)

        -- let through
        pub say_waits : 0 ≡ refusal (stream_rows_of leaving r o []) → (count_at waits i + length content ≤? 1024) ≡ true → {said : Request} → said ≡ said_on r o content
            → {waits' marks' queue' : List ℕ} → Told waits marks queue i (λ w. wait_data w o content) waits' marks' queue'
            → queued_by (record { result = (Ok tt); conn = puts_request c i said }) gathered store waits' marks' queue' ≡ queue_say before id o content
        say_waits e room {said} es told =
            outcome_waits _ before (said_at (slot_of before id)) (ten_decides e ∙ simp room)
            (put_both_lem (puts_request c i said) i (λ w. wait_data w o content) told
            ∙ ap (λ (x : Request). put_both before i x (wait_data (wait_at before i) o content)) (es ∙ ap (λ (x : Request). said_on x o content) er)
            ∙ ap said_at (sym t.slot))
            ∙ sym (say_sized full)

      -- what the check of the call says of it: refused, and let through
      pub say_refused : (why : Refusal) → Writable c waits id o (Err why) → refused_by why ≡ queue_say before id o content
      say_refused why w = ⊎_elim (say_barred why) (λ x. say_ended (through_at before id x.0 x.1) refl refl why x.2) w

      module _ (i : ℕ) (r : Request) (w : Writable c waits id o (Ok (i, r))) where
        pub say_checked_full : (count_at waits i + length content ≤? 1024) ≡ false → refused_by Refusal.Waiting ≡ queue_say before id o content
        say_checked_full room = say_no_room (through_at before id i w.0) refl refl w.2 room

        pub say_checked : (count_at waits i + length content ≤? 1024) ≡ true → {said : Request} → said ≡ said_on r o content
            → {waits' marks' queue' : List ℕ} → Told waits marks queue i (λ w. wait_data w o content) waits' marks' queue'
            → queued_by (record { result = (Ok tt); conn = puts_request c i said }) gathered store waits' marks' queue' ≡ queue_say before id o content
        say_checked room es told =
            say_waits (through_at before id i w.0) refl refl w.2 room (es ∙ ap (λ (x : Request). said_on x o content) w.1) told

  -- ---- the end of a stream
  module _ (id : ℕ) (o : Output) where
    -- the request and what waits in slot i afterwards
    abbrev ended_at : ℕ → QueueMemory
    ended_at i = put_both before i (ended_on (request_at c.table i) o) (wait_end (wait_at before i) o)

    -- the answer, by the number of its refusal
    end_is : queue_end before id o ≡ outcome (refusal (rows_of before id (stream_rows before id o []))) before (ended_at (slot_of before id))
    unfolding queue_end
    end_is = refl

    -- refused by 9, 1 or 3
    pub end_barred : (why : Refusal) → admitted_by (Err why) ≡ queue_admission c waits id → refused_by why ≡ queue_end before id o
    end_barred why e =
        outcome_refused _ before (ended_at (slot_of before id)) why (refused_by_row before id why (stream_rows before id o []) e refl) ∙ sym end_is

    module _ {i : ℕ} (t : Through before id i) {r : Request} (er : r ≡ request_at c.table i) {leaving : Bool} (el : leaving ≡ last_at waits i) where
      -- refused by 4 or 5
      pub end_ended : (why : Refusal) → refusal_number why ≡ refusal (stream_rows_of leaving r o []) → refused_by why ≡ queue_end before id o
      end_ended why e = outcome_refused _ before (ended_at (slot_of before id)) why (stream_refused before id o [] t own_none er el why e) ∙ sym end_is

      -- let through
      pub end_waits_lem : 0 ≡ refusal (stream_rows_of leaving r o []) → {ended : Request} → ended ≡ ended_on r o
          → {waits' marks' : List ℕ} → Told waits marks queue i (λ w. wait_end w o) waits' marks' queue
          → queued_by (record { result = (Ok tt); conn = puts_request c i ended }) gathered store waits' marks' queue ≡ queue_end before id o
      end_waits_lem e {ended} ee told =
          outcome_waits _ before (ended_at (slot_of before id)) (stream_passed before id o [] t own_none er el refl refl e)
          (put_both_lem (puts_request c i ended) i (λ w. wait_end w o) told
          ∙ ap (λ (x : Request). put_both before i x (wait_end (wait_at before i) o)) (ee ∙ ap (λ (x : Request). ended_on x o) er)
          ∙ ap ended_at (sym t.slot))
          ∙ sym end_is

    -- what the check of the call says of it: refused, and let through
    pub end_refused : (why : Refusal) → Writable c waits id o (Err why) → refused_by why ≡ queue_end before id o
    end_refused why w = ⊎_elim (end_barred why) (λ x. end_ended (through_at before id x.0 x.1) refl refl why x.2) w

    pub end_checked : (i : ℕ) (r : Request) → Writable c waits id o (Ok (i, r)) → {ended : Request} → ended ≡ ended_on r o
        → {waits' marks' : List ℕ} → Told waits marks queue i (λ w. wait_end w o) waits' marks' queue
        → queued_by (record { result = (Ok tt); conn = puts_request c i ended }) gathered store waits' marks' queue ≡ queue_end before id o
    end_checked i r w ee told =
        end_waits_lem (through_at before id i w.0) refl refl w.2 (ee ∙ ap (λ (x : Request). ended_on x o) w.1) told

  -- ---- the end of the request
  module _ (id status : ℕ) where
    -- row 5 of the request in slot i
    abbrev leaving_row : ℕ → List Row
    leaving_row i = (5 when last_at waits i) ∷ []

    own_leaving : (i : ℕ) → Own (leaving_row i)
    own_leaving i = record { not_size = refl; not_shape = refl; not_closed = refl; not_active = refl }

    -- the connection's value, the request and what waits in slot i afterwards
    abbrev finished_at : ℕ → QueueMemory
    finished_at i = put_both (with_conn before (skipping c i)) i (spent_by (request_at c.table i)) (wait_finish (wait_at before i) (request_at c.table i).state status)

    -- the answer, by the number of its refusal
    finish_is : queue_finish before id status ≡ outcome (refusal (rows_of before id (leaving_row (slot_of before id)))) before (finished_at (slot_of before id))
    unfolding queue_finish
    finish_is = refl

    -- refused by 9, 1 or 3
    pub finish_barred : (why : Refusal) → admitted_by (Err why) ≡ queue_admission c waits id → refused_by why ≡ queue_finish before id status
    finish_barred why e =
        outcome_refused _ before (finished_at (slot_of before id)) why (refused_by_row before id why (leaving_row (slot_of before id)) e refl) ∙ sym finish_is

    module _ {i : ℕ} (t : Through before id i) where
      -- row 5 decides
      five_decides : refusal (rows_of before id (leaving_row (slot_of before id))) ≡ refusal (leaving_row i)
      five_decides = own_decide before id (leaving_row (slot_of before id)) t (own_leaving (slot_of before id)) ∙ ap (λ (j : ℕ). refusal (leaving_row j)) t.slot

      -- refused by 5
      pub finish_leaving : last_at waits i ≡ true → refused_by Refusal.Ended ≡ queue_finish before id status
      finish_leaving e = outcome_refused _ before (finished_at (slot_of before id)) Refusal.Ended (five_decides ∙ simp e) ∙ sym finish_is

      -- let through
      pub finish_waits : last_at waits i ≡ false → {r spent : Request} → r ≡ request_at c.table i → spent ≡ spent_by r → {c' : Conn} → c' ≡ skipping c i
          → {waits' marks' : List ℕ} → Told waits marks queue i (λ w. wait_finish w r.state status) waits' marks' queue
          → queued_by (record { result = (Ok tt); conn = puts_request c' i spent }) gathered store waits' marks' queue ≡ queue_finish before id status
      finish_waits e {r} {spent} er es {c'} ec told =
          outcome_waits _ before (finished_at (slot_of before id)) (five_decides ∙ simp e)
          (put_both_lem (puts_request c' i spent) i (λ w. wait_finish w r.state status) told
          ∙ ap (λ (x : Conn). put_both (with_conn before x) i spent (wait_finish (wait_at before i) r.state status)) ec
          ∙ ap (λ (x : Request). put_both (with_conn before (skipping c i)) i x (wait_finish (wait_at before i) r.state status)) es
          ∙ ap (λ (x : Request). put_both (with_conn before (skipping c i)) i (spent_by x) (wait_finish (wait_at before i) x.state status)) er
          ∙ ap finished_at (sym t.slot))
          ∙ sym finish_is
