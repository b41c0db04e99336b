-- The rows of an output that is written straight out, and what the calls come to: refused, or as without a queue.
use Rattle.std.specs.Prelude.{ℕ, ◌≡◌, refl, Bool, true, false, not, List, [], ◌∷◌, length, ltb, if◌then◌else◌, cond, Ok, Err, Result, ⊤}
use Rattle.std.proofs.Common.{sym, ap, ◌∙◌, arith}
use Rattle.std.proofs.lemmas.Bool.{eqb-false}
use Rattle.wire.specs.Test.{◌<?◌, ◌=?◌}
use Rattle.record_writer.specs.Written.{record_fits, stream_fits}
use Rattle.connection.specs.declared.request.Request.{Request}
use Rattle.connection.specs.declared.state.Conn.{Conn}
use Rattle.connection.specs.declared.answer.Output.{Output}
use Rattle.connection.specs.declared.answer.Refusal.{Refusal}
use Rattle.connection.specs.Sizes.{CHUNK}
use Rattle.connection.specs.Codes.{refusal_number, output_type}
use Rattle.connection.specs.Refusal.{Row, ◌when◌, refusal}
use Rattle.connection.specs.RequestCalls as Of
use Rattle.connection.specs.Slots.{request_at}
use Rattle.connection.specs.Calls as C
use Rattle.codes.proofs.Laws.{refusal_some}
use Rattle.request_output.specs.Answer.{check_number}
use Rattle.request_output.proofs.Laws.{stream_room, end_room}
use Rattle.call_admit.specs.Admission.{admitted_by}
use Rattle.call_output.specs.Answer.{written_by}
use Rattle.queue_slot.specs.Wait.{anything}
use Rattle.queue.specs.Numbers.{last_at}
use Rattle.queue.specs.Calls.{QueueMemory, lent, rows_of, stream_rows, slot_of, request_of, wait_at, straight_say, straight_end}
use Rattle.wait_numbers.specs.Slot.{waits_in}
use Rattle.queue_admit.specs.Admission.{queue_admission}
use Rattle.queue_admit.proofs.AdmissionLaws.{Through, through_at, refused_by_row}
use Rattle.queue_admit.proofs.StreamLaws.{stream_rows_of, stream_rows_at, stream_decide}
use Rattle.queue_straight.specs.Straight.{StraightCheck}

-- ---- rows
-- What a request's own check says of an output that fits or not.
pub own_check : (r : Request) (o : Output) (fits : Bool) (x : Result ⊤ Refusal)
    → ((bytes buffer : List ℕ) → fits ≡ not (ltb (length buffer) (length bytes)) → check_number x ≡ Of.output_refusal r o bytes buffer)
    → check_number x ≡ refusal ((4 when Of.no_output r) ∷ (5 when Of.is_ended o r.state) ∷ (6 when not fits) ∷ [])
own_check r o true x e = e [] [] refl
own_check r o false x e = e (0 ∷ []) [] refl

-- Rows 4, 5 and 6 refuse before row 10.
refused_before : (a b f w : Bool) (why : Refusal) → refusal_number why ≡ refusal ((4 when a) ∷ (5 when b) ∷ (6 when f) ∷ [])
    → refusal_number why ≡ refusal ((4 when a) ∷ (5 when b) ∷ (6 when f) ∷ (10 when w) ∷ [])
refused_before true b f w why e = e
refused_before false true f w why e = e
refused_before false false true w why e = e
refused_before false false false w why e = absurd (eqb-false (refusal_number why) 0 (refusal_some why) e)

-- Where none of them holds, row 10 decides.
ten_decides : (a b f w : Bool) → 0 ≡ refusal ((4 when a) ∷ (5 when b) ∷ (6 when f) ∷ [])
    → refusal ((4 when a) ∷ (5 when b) ∷ (6 when f) ∷ (10 when w) ∷ []) ≡ (if w then 10 else 0)
ten_decides true b f w e = absurd (omega arith)
ten_decides false true f w e = absurd (omega arith)
ten_decides false false true w e = absurd (omega arith)
ten_decides false false false true e = refl
ten_decides false false false false e = refl

-- Of a request that is not between finish and END, rows 4 and 5 are as without a queue.
rows_alone : (leaving : Bool) (r : Request) (o : Output) (rows : List Row) → leaving ≡ false
    → stream_rows_of leaving r o rows ≡ (4 when Of.no_output r) ∷ (5 when Of.is_ended o r.state) ∷ rows
rows_alone leaving r o rows e = rw e

-- Whether anything waits in the slot of a call that is let through, by the numbers.
pub waits_there : (m : QueueMemory) (id i : ℕ) → Through m id i → anything (wait_at m (slot_of m id)) ≡ waits_in m.waits i
unfolding wait_at anything
waits_there m id i t = rw t.slot

module _ (c : Conn) (waits : List ℕ) (id : ℕ) (o : Output) (fits : Bool) where
  -- refused by 9, 1 or 3
  pub check_refused : (why : Refusal) → admitted_by (Err why) ≡ queue_admission c waits id → StraightCheck c waits id o fits (Err why)
  check_refused why e gathered store marks queue =
      let m = lent c gathered store waits marks queue in
      sym (refused_by_row m id why (stream_rows m id o ((6 when not fits) ∷ (10 when anything (wait_at m (slot_of m id))) ∷ [])) e refl)

  module _ (i : ℕ) (at' : admitted_by (Ok i) ≡ queue_admission c waits id) where
    -- let through to slot i, rows 4, 5, 6 and 10 of the request there decide
    decide : (gathered store marks queue : List ℕ) → let m = lent c gathered store waits marks queue in
        refusal (rows_of m id (stream_rows m id o ((6 when not fits) ∷ (10 when anything (wait_at m (slot_of m id))) ∷ [])))
        ≡ refusal (stream_rows_at m i o ((6 when not fits) ∷ (10 when waits_in waits i) ∷ []))
    decide gathered store marks queue =
        let m = lent c gathered store waits marks queue in
        let t = through_at m id i at' in
        stream_decide m id o ((6 when not fits) ∷ (10 when anything (wait_at m (slot_of m id))) ∷ []) t (record { not_size = refl; not_shape = refl; not_closed = refl; not_active = refl })
        ∙ ap (λ (b : Bool). refusal (stream_rows_at m i o ((6 when not fits) ∷ (10 when b) ∷ []))) (waits_there m id i t)

    -- between finish and END
    pub check_leaving : last_at waits i ≡ true → StraightCheck c waits id o fits (Err Refusal.Ended)
    check_leaving l gathered store marks queue = sym (decide gathered store marks queue ∙ simp l)

    module _ (l : last_at waits i ≡ false) (x : Result ⊤ Refusal)
        (own : (bytes buffer : List ℕ) → fits ≡ not (ltb (length buffer) (length bytes)) → check_number x ≡ Of.output_refusal (request_at c.table i) o bytes buffer) where
      alone : refusal (stream_rows_of (last_at waits i) (request_at c.table i) o ((6 when not fits) ∷ (10 when waits_in waits i) ∷ []))
          ≡ refusal ((4 when Of.no_output (request_at c.table i)) ∷ (5 when Of.is_ended o (request_at c.table i).state) ∷ (6 when not fits) ∷ (10 when waits_in waits i) ∷ [])
      alone = ap refusal (rows_alone (last_at waits i) (request_at c.table i) o ((6 when not fits) ∷ (10 when waits_in waits i) ∷ []) l)

      -- refused by 4, 5 or 6
      pub check_own : (why : Refusal) → x ≡ Err why → StraightCheck c waits id o fits (Err why)
      check_own why e gathered store marks queue =
          let r = request_at c.table i in
          refused_before (Of.no_output r) (Of.is_ended o r.state) (not fits) (waits_in waits i) why (sym (ap check_number e) ∙ own_check r o fits x own)
          ∙ sym (decide gathered store marks queue ∙ alone)

      -- passed by these, row 10 decides
      pub check_last : (y : Result ⊤ Refusal) → x ≡ (Ok tt) → check_number y ≡ (if waits_in waits i then 10 else 0) → StraightCheck c waits id o fits y
      check_last y e n gathered store marks queue =
          let r = request_at c.table i in
          n ∙ sym (decide gathered store marks queue ∙ alone ∙ ten_decides (Of.no_output r) (Of.is_ended o r.state) (not fits) (waits_in waits i) (sym (ap check_number e) ∙ own_check r o fits x own))

-- ---- say and end
-- the first row that holds of an output of so many bytes
abbrev output_rows : QueueMemory → ℕ → Output → List ℕ → List ℕ → ℕ
output_rows m id o bytes buffer = refusal (rows_of m id (stream_rows m id o ((6 when (length buffer <? length bytes)) ∷ (10 when anything (wait_at m (slot_of m id))) ∷ [])))

-- Refused, nothing is written and nothing changes; else the call is as without a queue.
output_refused : (n : ℕ) (why : Refusal) (c : Conn) (l : List ℕ) (w : C.Written) → refusal_number why ≡ n
    → written_by (record { wrote = Err why; conn = c }) l ≡ (if n =? 0 then w else C.unwritten n c l)
output_refused n why c l w e = rw (← e) (simp (refusal_some why))

pub passed {ℓ} : {A : Type ℓ} (n : ℕ) (alone refused : A) → 0 ≡ n → alone ≡ cond (n =? 0) alone refused
passed n alone refused e = rw (← e)

not_not : (f b : Bool) → f ≡ not b → not f ≡ b
not_not f true e = rw e
not_not f false e = rw e

module _ (c : Conn) (waits : List ℕ) (id : ℕ) (o : Output) (x : Result ⊤ Refusal) (buffer : List ℕ) where
  -- the rows of a check that was asked whether the bytes fit
  asked : (bytes : Request → List ℕ) (fits : Bool) → ((r : Request) → fits ≡ not (length buffer <? length (bytes r))) → StraightCheck c waits id o fits x
      → (gathered store marks queue : List ℕ) → let m = lent c gathered store waits marks queue in
      check_number x ≡ output_rows m id o (bytes (request_of m id)) buffer
  asked bytes fits room e gathered store marks queue =
      let m = lent c gathered store waits marks queue in
      e gathered store marks queue
      ∙ ap (λ (b : Bool). refusal (rows_of m id (stream_rows m id o ((6 when b) ∷ (10 when anything (wait_at m (slot_of m id))) ∷ []))))
      (not_not fits (length buffer <? length (bytes (request_of m id))) (room (request_of m id)))

  module _ (gathered store marks queue : List ℕ) where
    abbrev m : QueueMemory
    m = lent c gathered store waits marks queue

    module _ (bytes : List ℕ) (e : StraightCheck c waits id o (stream_fits CHUNK (length bytes) 0 (length buffer)) x) where
      say_rows_lem : check_number x ≡ output_rows m id o (Of.say_bytes (request_of m id) o bytes) buffer
      say_rows_lem = asked (λ r. Of.say_bytes r o bytes) (stream_fits CHUNK (length bytes) 0 (length buffer)) (λ r. stream_room (output_type o) r.id bytes buffer) e gathered store marks queue

      pub say_refused : (why : Refusal) → x ≡ Err why → written_by (record { wrote = Err why; conn = c }) buffer ≡ straight_say m id o bytes buffer
      unfolding straight_say
      say_refused why is = output_refused (output_rows m id o (Of.say_bytes (request_of m id) o bytes) buffer) why c buffer (C.say c id o bytes buffer) (sym (ap check_number is) ∙ say_rows_lem)

      pub say_passed : x ≡ (Ok tt) → C.say c id o bytes buffer ≡ straight_say m id o bytes buffer
      unfolding straight_say
      say_passed is =
          let n = output_rows m id o (Of.say_bytes (request_of m id) o bytes) buffer in
          passed n (C.say c id o bytes buffer) (C.unwritten n c buffer) (sym (ap check_number is) ∙ say_rows_lem)

    module _ (e : StraightCheck c waits id o (record_fits 0 0 (length buffer)) x) where
      end_rows_lem : check_number x ≡ output_rows m id o (Of.end_bytes (request_of m id) o) buffer
      end_rows_lem = asked (λ r. Of.end_bytes r o) (record_fits 0 0 (length buffer)) (λ r. end_room (output_type o) r.id buffer) e gathered store marks queue

      pub end_refused : (why : Refusal) → x ≡ Err why → written_by (record { wrote = Err why; conn = c }) buffer ≡ straight_end m id o buffer
      unfolding straight_end
      end_refused why is = output_refused (output_rows m id o (Of.end_bytes (request_of m id) o) buffer) why c buffer (C.end_stream c id o buffer) (sym (ap check_number is) ∙ end_rows_lem)

      pub end_passed : x ≡ (Ok tt) → C.end_stream c id o buffer ≡ straight_end m id o buffer
      unfolding straight_end
      end_passed is =
          let n = output_rows m id o (Of.end_bytes (request_of m id) o) buffer in
          passed n (C.end_stream c id o buffer) (C.unwritten n c buffer) (sym (ap check_number is) ∙ end_rows_lem)
