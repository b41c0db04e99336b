-- What a slot's numbers fulfil in every run, and that each call on one slot keeps it and does to the list of atoms what
-- the rules for one request say.
use Rattle.std.specs.Prelude.{◌≡◌, refl, List, [], ◌∷◌, ◌++◌, map, Bool, true, false, not, ℕ, ◌+◌, ◌≤◌, length, leb, ltb}
use Rattle.std.proofs.Common.{ap, sym, ◌∙◌, arith, leb-true, leb-false, lt-ltb, le-ltb}
use Rattle.wire.specs.Test.{by_test}
use Rattle.connection.specs.declared.request.RequestState.{RequestState}
use Rattle.connection.specs.declared.request.Request.{Request}
use Rattle.connection.specs.declared.answer.Output.{Output}
use Rattle.connection.specs.RequestCalls as Of
use Rattle.queue_slot.specs.Atoms.{ByteOn, EndOf, data_in}
use Rattle.queue_slot.specs.Finishing.{last_words}
use Rattle.queue_slot.specs.Wait.{ROOM, Wait, has_room_for, wait_data, wait_end, wait_finish, Served, ServesNothing, ServesEnd, ServesData, ServesLast, served, atoms_in}
use Rattle.queue_slot.proofs.WaitLaws.{Unended, unended_right, unended_append, unended_bytes, Sized, data_sized, data_waits, end_sized, end_waits_lem, finish_sized, finish_waits}
use Rattle.queue_slot.proofs.ServeLaws.{ServedWell, served_well}
use Rattle.queue_slot.proofs.WaitRefines.{count_is}

-- The areas have their size, no more waits than fits, and an end waits only for a stream that is marked as ended; once
-- END waits, nothing more is asked of the ends.
pub record Kept (m : RequestState) (w : Wait) : Type 0 where
  pub sized : Sized w
  pub unended : (o : Output) → w.last ≡ false → Of.is_ended o m ≡ false → Unended o (atoms_in w)

-- ---- data
-- there is room just where the list of atoms has it
pub room_is : (w : Wait) (content : List ℕ) → Sized w → has_room_for w content ≡ not (ltb ROOM (data_in (atoms_in w) + length content))
unfolding has_room_for
room_is w content s =
    rw (count_is w s)
    (by_test (leb (w.count + length content) ROOM) (λ e. e ∙ sym (ap not (le-ltb ROOM (w.count + length content) (leb-true _ _ e)))) (λ e. e ∙ sym (ap not (lt-ltb ROOM (w.count + length content) (leb-false _ _ e)))))

-- said on a stream, a request has the same ends
pub said_ended : (r : Request) (o p : Output) (content : List ℕ) → Of.is_ended p (Of.said_on r o content).state ≡ Of.is_ended p r.state
unfolding Of.said_on
said_ended r o Output.Stdout content = refl
said_ended r o Output.Stderr content = refl

-- Data that comes to wait keeps it.
pub data_kept : (r : Request) (w : Wait) (o : Output) (content : List ℕ) → Kept r.state w → w.last ≡ false → w.count + length content ≤ ROOM
    → Kept (Of.said_on r o content).state (wait_data w o content) × (atoms_in (wait_data w o content) ≡ atoms_in w ++ map (ByteOn o) content)
data_kept r w o content k l h =
    let e = data_waits w o content k.sized h l in (
      record {
        sized = data_sized w o content k.sized h;
        unended = λ p n d. rw e (unended_append p (atoms_in w) (map (ByteOn o) content) (k.unended p l (sym (said_ended r o p content) ∙ d)) (unended_bytes p o content));
      },
      e,
    )

-- ---- an end
-- a stream that is not ended behind the call was not ended before, and is another one
pub ended_before : (r : Request) (o p : Output) → Of.is_ended p (Of.ended_on r o).state ≡ false → (Of.is_ended p r.state ≡ false) × (o ≡ p → ⊥)
unfolding Of.ended_on
ended_before r Output.Stdout Output.Stdout d = let z : ◌≡◌ {A = ℕ} 0 1 = cc in absurd (omega arith)
ended_before r Output.Stdout Output.Stderr d = (d, λ e. let z : ◌≡◌ {A = ℕ} 0 1 = cc in omega arith)
ended_before r Output.Stderr Output.Stdout d = (d, λ e. let z : ◌≡◌ {A = ℕ} 0 1 = cc in omega arith)
ended_before r Output.Stderr Output.Stderr d = let z : ◌≡◌ {A = ℕ} 0 1 = cc in absurd (omega arith)

-- An end that comes to wait keeps it.
pub end_kept : (r : Request) (w : Wait) (o : Output) → Kept r.state w → w.last ≡ false → Of.is_ended o r.state ≡ false
    → Kept (Of.ended_on r o).state (wait_end w o) × (atoms_in (wait_end w o) ≡ atoms_in w ++ EndOf o ∷ [])
end_kept r w o k l d =
    let e = end_waits_lem w o k.sized l (k.unended o l d) in (
      record {
        sized = end_sized w o k.sized;
        unended = λ p n f. let g = ended_before r o p f in rw e (unended_append p (atoms_in w) (EndOf o ∷ []) (k.unended p l g.0) (g.1, tt));
      },
      e,
    )

-- ---- a finish
not_true : (b : Bool) → not b ≡ true → b ≡ false
not_true true e = let z : ◌≡◌ {A = ℕ} 0 1 = cc in absurd (omega arith)
not_true false e = refl

owes_out_lem : (m : RequestState) → Of.owes_out m ≡ true → Of.is_ended Output.Stdout m ≡ false
unfolding Of.owes_out
owes_out_lem m e = not_true m.out_ended e

owes_err_lem : (m : RequestState) → Of.owes_err m ≡ true → Of.is_ended Output.Stderr m ≡ false
unfolding Of.owes_err
owes_err_lem m e = go m.err_used refl
  where
    go : (b : Bool) → m.err_used ≡ b → m.err_ended ≡ false
    go true f = not_true m.err_ended (rw f at e)
    go false f = let z : ◌≡◌ {A = ℕ} 0 1 = cc (rw f at e) in absurd (omega arith)

true_last : (w : Wait) (m : RequestState) (status : ℕ) → (wait_finish w m status).last ≡ true
unfolding wait_finish
true_last w m status = refl

-- So do the last words.
pub finish_kept : (m m' : RequestState) (w : Wait) (status : ℕ) → Kept m w → w.last ≡ false → Kept m' (wait_finish w m status) × (atoms_in (wait_finish w m status) ≡ atoms_in w ++ last_words m status)
finish_kept m m' w status k l = (
  record {
    sized = finish_sized w m status k.sized;
    unended = λ p n d. let z : ◌≡◌ {A = ℕ} 0 1 = cc (true_last w m status, n) in absurd (omega arith);
  },
  finish_waits w m status k.sized l (λ e. k.unended Output.Stdout l (owes_out_lem m e)) (λ e. k.unended Output.Stderr l (owes_err_lem m e)),
)

-- ---- a serve
abbrev pub ServedKept : RequestState → Served → Type 0
ServedKept m ServesNothing = Unit {0}
ServedKept m (ServesEnd o v) = Kept m v
ServedKept m (ServesData o content v) = Kept m v
ServedKept m (ServesLast status) = Unit {0}

serve_kept_by : (m : RequestState) (w : Wait) (s : Served) → Kept m w → ServedWell w s → ServedKept m s
serve_kept_by m w ServesNothing k h = tt
serve_kept_by m w (ServesEnd o v) k h =
    record { sized = h.1; unended = λ p n d. let u : Unended p (EndOf o ∷ atoms_in v) = rw h.0 at (k.unended p (sym h.2 ∙ n) d) in u.1 }
serve_kept_by m w (ServesData o content v) k h =
    record { sized = h.1; unended = λ p n d. unended_right p (map (ByteOn o) content) (atoms_in v) (rw h.0 at (k.unended p (sym h.2 ∙ n) d)) }
serve_kept_by m w (ServesLast status) k h = tt

-- So does a serve.
pub serve_kept : (m : RequestState) (w : Wait) → Kept m w → ServedKept m (served w)
serve_kept m w k = serve_kept_by m w (served w) k (served_well w k.sized)
