-- What the code of a call that writes leaves is what its definition leaves, by the equation of that call.
use Rattle.std.specs.Prelude.{ℕ, ◌≡◌, refl, List, [], Ok, Err, Result}
use Rattle.std.proofs.Common.{ap, ◌∙◌}
use Rattle.pair_writer.specs.Write as Pair
use Rattle.connection.specs.declared.state.Conn.{Conn}
use Rattle.connection.specs.declared.answer.Written.{Written as WriteCall}
use Rattle.connection.specs.Calls.{Written, Finished, Replied}
use Rattle.call_output.specs.Answer.{written_by}
use Rattle.call_finish.specs.declared.Finished.{Finished as FinishCall}
use Rattle.call_finish.specs.Answer.{finished_by}
use Rattle.call_reply.specs.Answer.{replied_by}
use Rattle.queue.specs.declared.answer.Queueing.{Queueing as QueueCall}
use Rattle.queue.specs.declared.answer.Pumped.{Pumped as PumpCall}
use Rattle.queue.specs.Numbers.{kept_waits}
use Rattle.queue.specs.Calls.{Queueing, Pumped}
use Rattle.queue.specs.Answer.{queued_by, pumped_by}
use Rattle.flat_answer.specs.declared.answer.FlatQueued.{FlatQueued}
use Rattle.flat_answer.specs.declared.answer.FlatPumped.{FlatPumped}
use Rattle.flat_answer.specs.declared.answer.FlatWritten.{FlatWritten}
use Rattle.flat_answer.specs.declared.answer.FlatFinished.{FlatFinished}
use Rattle.flat_answer.specs.declared.answer.FlatWrote.{FlatWrote}
use Rattle.flat_answer.specs.WriteAnswers.{flat_queued, flat_pumped, flat_written, flat_finished}
use Rattle.flat_answer.specs.WriteAnswers.{flat_replied, flat_pair_written}
use Rattle.export_calls.specs.Wait.{DataWaits, data_left, EndWaits, end_left, AfterTurn, turn_left}
use Rattle.reading_writer.specs.Written as Reading
use Rattle.export_calls.specs.Body.{reading_left}
use Rattle.export_calls.specs.Say.{Filled, output_left, AfterFinish, finish_left, reply_left, pair_left}
use Rattle.connection.specs.declared.answer.Refusal.{Refusal}
use Rattle.pair_writer.specs.declared.PairRefusal.{PairRefusal}
use Rattle.reading_writer.specs.declared.ReadingRefusal.{ReadingRefusal}

-- ---- what comes to wait
pub leaves_data : (r : QueueCall) {q : Queueing} {waits marks queue : List ℕ} {answer : FlatQueued}
    → queued_by r [] [] waits marks queue ≡ q → answer ≡ flat_queued (queued_by r [] [] [] [] [])
    → ◌≡◌ {A = DataWaits} (record { answer = answer; waits = waits; marks = marks; queue = queue }) (data_left q)
unfolding flat_queued
leaves_data r e a = rw a (ap data_left e)

pub leaves_end : (r : QueueCall) {q : Queueing} {waits marks : List ℕ} {answer : FlatQueued}
    → queued_by r [] [] waits marks [] ≡ q → answer ≡ flat_queued (queued_by r [] [] [] [] [])
    → ◌≡◌ {A = EndWaits} (record { answer = answer; waits = waits; marks = marks }) (end_left q)
unfolding flat_queued
leaves_end r e a = rw a (ap end_left e)

-- ---- the pump
pub leaves_turn : (r : PumpCall) {p : Pumped} {store waits marks queue out : List ℕ} {answer : FlatPumped}
    → pumped_by r [] store waits marks queue out ≡ p → answer ≡ flat_pumped (pumped_by r [] [] [] [] [] [])
    → ◌≡◌ {A = AfterTurn}
    (record { answer = answer; store = store; waits = waits; marks = marks; queue = queue; out = out }) (turn_left p)
unfolding flat_pumped
leaves_turn r e a = rw a (ap turn_left e)

-- ---- straight out
pub leaves_output : (r : WriteCall) {w : Written} {out : List ℕ} {answer : FlatWritten}
    → written_by r out ≡ w → answer ≡ flat_written (written_by r [])
    → ◌≡◌ {A = Filled FlatWritten} (record { answer = answer; out = out }) (output_left w)
unfolding flat_written
leaves_output r e a = rw a (ap output_left e)

pub leaves_finish : (c : Conn) (before : List ℕ) (r : FinishCall) {x : Finished} {waits store out : List ℕ}
    {answer : FlatFinished}
    → finished_by r store out ≡ x
    → waits ≡ kept_waits c.«open» r.conn.«open» before
    → answer ≡ flat_finished (finished_by r [] [])
    → ◌≡◌ {A = AfterFinish} (record { answer = answer; waits = waits; store = store; out = out })
    (finish_left c before x)
unfolding flat_finished
leaves_finish c before r e w a = rw (a, w) (ap (finish_left c before) e)

-- ---- replies and pairs
pub leaves_reply : (r : Result ℕ Refusal) {x : Replied} {out : List ℕ} {answer : FlatWrote}
    → replied_by r out ≡ x → answer ≡ flat_replied (replied_by r [])
    → ◌≡◌ {A = Filled FlatWrote} (record { answer = answer; out = out }) (reply_left x)
unfolding flat_replied
leaves_reply r e a = rw a (ap reply_left e)

pair_answer : (r : Result ℕ PairRefusal) (out : List ℕ)
    → ◌≡◌ {A = Filled FlatWrote} (record { answer = flat_pair_written (Pair.answered r []); out = out })
    (pair_left (Pair.answered r out))
unfolding flat_pair_written
pair_answer (Ok n) out = refl
pair_answer (Err PairRefusal.TooLong) out = refl
pair_answer (Err PairRefusal.NoRoom) out = refl

pub leaves_pair : (r : Result ℕ PairRefusal) {w : Pair.Written} {out : List ℕ} {answer : FlatWrote}
    → Pair.answered r out ≡ w → answer ≡ flat_pair_written (Pair.answered r [])
    → ◌≡◌ {A = Filled FlatWrote} (record { answer = answer; out = out }) (pair_left w)
leaves_pair r {out = out} e a = rw a (pair_answer r out ∙ ap pair_left e)

-- ---- readings
reading_answer : (r : Result ℕ ReadingRefusal) (out : List ℕ)
    → let w = Reading.written_by r [] in
    ◌≡◌ {A = Filled FlatWrote} (record { answer = record { written = w.bytes; refusal = w.refusal }; out = out })
    (reading_left (Reading.written_by r out))
reading_answer (Ok n) out = refl
reading_answer (Err ReadingRefusal.OutOfRange) out = refl
reading_answer (Err ReadingRefusal.NoRoom) out = refl

pub leaves_reading : (r : Result ℕ ReadingRefusal) {w : Reading.Written} {out : List ℕ} {written refusal : ℕ}
    → Reading.written_by r out ≡ w → written ≡ (Reading.written_by r []).bytes → refusal ≡ (Reading.written_by r []).refusal
    → ◌≡◌ {A = Filled FlatWrote} (record { answer = record { written = written; refusal = refusal }; out = out })
    (reading_left w)
leaves_reading r {out = out} e n m = rw (n, m) (reading_answer r out ∙ ap reading_left e)
