-- What the proofs of this crate share.
use Rattle.std.specs.Prelude.{ℕ, ◌-◌, ◌≤◌, ◌<◌, min, ◌≡◌, List, length, take, ltb}
use Rattle.std.proofs.Common.{sym, ap, subst, ◌∙◌, arith, take_all, ltb-true, ltb-false}
use Rattle.wire.specs.Test.{by_test}
use Rattle.record_reader.specs.declared.Position.{Position}
use Rattle.connection.specs.declared.event.Stream.{Stream}
use Rattle.connection.specs.declared.state.Table.{Table}
use Rattle.connection.specs.declared.state.Target.{Target}
use Rattle.connection.specs.declared.state.Frame.{Frame}
use Rattle.connection.specs.Event.{Event}
use Rattle.connection.specs.Codes.{stream_type, stream_due}
use Rattle.connection.specs.Request.{counts_on}
use Rattle.connection.specs.Slots.{request_at, put_request}
use Rattle.connection.proofs.Laws.SlotsLaws.{area_put_same}
use Rattle.connection.specs.Fits.{Aimed}
use Rattle.connection.specs.Sizes.{SLOTS}
use Rattle.connection.specs.Step.{State, Left, open_with, frame_within, of_request, on_target}
use Rattle.connection.specs.Decision.{open_state}

-- a part of a list that ends where the list ends
pub take_least : (n : ℕ) (l : List ℕ) (e : ℕ) → e ≡ min n (length l) → take (e - 0) l ≡ take n l
take_least n l e h =
    by_test (ltb (length l) n)
    (λ t.
    let k : length l < n = ltb-true (length l) n t in
    take_all (e - 0) l (omega arith) ∙ sym (take_all n l (omega arith)))
    (λ t.
    let k : n ≤ length l = ltb-false (length l) n t in
    let same : e - 0 ≡ n = omega arith in
    ap (λ (m : ℕ). take m l) same)

-- What n bytes of a stream that are shown leave: the request with them counted, and all else but the frame as it is.
abbrev pub shown_by : Stream → ℕ → Table → Frame → List ℕ → List ℕ → ℕ → Position → Left
shown_by stream n t f g s i p =
    record {
      conn = open_with (put_request t i (counts_on (stream_due stream) n (request_at t i))) (frame_within f p f.gathered f.body);
      gathered = g;
      store = s;
      event = Event.Data (request_at t i).id (stream_type stream) n;
    }

-- It is what their target does with them.
pub stream_shown : (stream : Stream) (t : Table) (f : Frame) (g s : List ℕ) (i : ℕ) (bytes : List ℕ) (p : Position)
    → shown_by stream (length bytes) t f g s i p ≡ of_request (open_state t f g) s (stream_due stream) i bytes p
unfolding of_request
stream_shown Stream.Stdin t f g s i bytes p = rw (area_put_same s i)
stream_shown Stream.Data t f g s i bytes p = rw (area_put_same s i)

-- what the shape says of a target that is known
pub aimed_at : (target known : Target) (t : Table) (gathered left : ℕ) → Aimed target t gathered left → target ≡ known → Aimed known t gathered left
aimed_at target known t gathered left a e = subst (λ (w : Target). Aimed w t gathered left) e a

-- PARAMS content is due to one of the slots
pub params_low : (target : Target) (i : ℕ) (t : Table) (gathered left : ℕ) → Aimed target t gathered left → target ≡ Target.Params i → i < SLOTS
params_low target i t gathered left a e = (aimed_at target (Target.Params i) t gathered left a e).slot.low

-- what a target that is known does with the bytes
pub on_known : (target known : Target) (st : State) (store bytes : List ℕ) (p : Position) → target ≡ known
    → on_target known st store bytes p ≡ on_target target st store bytes p
on_known target known st store bytes p e = ap (λ (w : Target). on_target w st store bytes p) (sym e)
