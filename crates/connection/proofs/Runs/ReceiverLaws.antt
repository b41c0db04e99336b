-- What the machine of one request has to show: what a request decides keeps it in shape. In shape is a request whose
-- area is zero beyond its list.
use Rattle.std.specs.Prelude.{◌≡◌, refl, List, [], ◌∷◌, ◌++◌, Bool, true, false, ◌⊎◌, ℕ, suc, ◌+◌, ◌-◌, ◌≤◌, ◌<◌, length, take, drop, eqb, ltb, if◌then◌else◌}
use Rattle.std.proofs.Common.{ap, ap₂, sym, ◌∙◌, inl, inr, arith, length-append, length-take, drop_at, drop-drop, eqb-true, ltb-false}
use Rattle.std.proofs.Math.Option.{Option}
use Rattle.std.proofs.lemmas.List.{length-replicate}
use Rattle.wire.specs.Test.{by_test}
use Rattle.wire.specs.Buffer.{zeros}
use Rattle.wire.proofs.BufferLaws.{copied_room, put_length}
use Rattle.record.specs.Names.{BEGIN_REQUEST, GET_VALUES, RESPONDER, AUTHORIZER, FILTER}
use Rattle.record.specs.Body.{begin_body_of}
use Rattle.machine.specs.Machine.{Decided, Stays, Leaves, Closes}
use Rattle.machine.specs.Laws.{Laws, HeaderOutcomeOk, BeginOutcomeOk, CallOutcomeOk, InactiveOutcomeOk, ManagementOutcomeOk}
use Rattle.connection.specs.declared.request.Due.{Due}
use Rattle.connection.specs.declared.request.Request.{Request}
use Rattle.connection.specs.declared.request.Role.{Role}
use Rattle.connection.specs.declared.answer.Output.{Output}
use Rattle.connection.specs.Sizes.{SLOTS, AREA, QUERY}
use Rattle.connection.specs.Request.{Held, Ruled, faulted, aborted, turned, on_header, grown, opened}
use Rattle.connection.specs.RequestCalls as Of
use Rattle.connection.proofs.Laws.RequestShape.{Room, keeps_header}
use Rattle.connection.proofs.Laws.CuttingContent.{grown_room}
use Rattle.connection.specs.Bytewise.{Note}
use Rattle.connection.specs.Arguments.{Argument, ForRead, ForSay, ForEnd, ForFinish, FinishedWith}
use Rattle.connection.specs.Runs.Receiver.{clean_area, receive_header, receive_byte, begin_as, receive_begin, receive_management, receive_inactive, written_as, finished_as, receive_call, receiver, note_of, due_stream}
use Rattle.connection.proofs.Laws.Rules.{by_rule}

-- ---- what a header does to an area
-- list and area stay, or the list is empty and the area zeroed
abbrev pub KeepsOrZeroes : Held → Held → Type 0
KeepsOrZeroes h q =
    ((q.request.length ≡ h.request.length) × (q.area ≡ h.area)) ⊎ ((q.request.length ≡ 0) × (q.area ≡ zeros (length h.area)))

pub area_header : (n : ℕ) (h : Held) (kind : ℕ) → KeepsOrZeroes h (on_header kind n h).held
unfolding faulted aborted turned
area_header n h kind =
    by_rule (λ (r : Ruled). KeepsOrZeroes h r.held) h (λ d. inl (refl, refl)) (λ cause fault. inr (refl, refl)) (inl (refl, refl)) (λ t. inl (refl, refl)) (λ t s m. inl (refl, refl)) kind n

-- An area keeps its length.
pub same_length : (h q : Held) → KeepsOrZeroes h q → length q.area ≡ length h.area
same_length h q (inl e) = ap length e.1
same_length h q (inr e) = ap length e.1 ∙ length-replicate (length h.area) 0

-- ---- a request in shape
-- its list fits into its area, which has its size and is zero beyond the list
pub record RequestOk (h : Held) : Type 0 where
  pub short : h.request.length ≤ AREA
  pub sized : length h.area ≡ AREA
  pub zero_beyond : drop h.request.length h.area ≡ zeros (AREA - h.request.length)

-- so much content fits
abbrev pub StreamOk : Due → ℕ → Held → Type 0
StreamOk due n h = Room due h.request.length n

ok_same : (h q : Held) → q.request.length ≡ h.request.length → q.area ≡ h.area → RequestOk h → RequestOk q
ok_same h q e a f =
    record {
      short = omega (arith, f.short);
      sized = ap length a ∙ f.sized;
      zero_beyond = ap₂ (λ (n : ℕ) (l : List ℕ). drop n l) e a ∙ f.zero_beyond ∙ ap (λ n. zeros (AREA - n)) (sym e);
    }

ok_zero : (q : Held) → q.request.length ≡ 0 → q.area ≡ zeros AREA → RequestOk q
ok_zero q e a =
    record {
      short = omega arith;
      sized = ap length a ∙ length-replicate {A = ℕ} AREA 0;
      zero_beyond = ap₂ (λ (n : ℕ) (l : List ℕ). drop n l) e a ∙ ap (λ n. zeros (AREA - n)) (sym e);
    }

ok_changed : (h q : Held) → KeepsOrZeroes h q → RequestOk h → RequestOk q
ok_changed h q (inl e) f = ok_same h q e.0 e.1 f
ok_changed h q (inr e) f = ok_zero q e.0 (e.1 ∙ ap zeros f.sized)

-- ---- a header
decided_ok : (n : ℕ) (q : Held) (e : Option Note) (due : Due) → RequestOk q → Room due q.request.length n → HeaderOutcomeOk RequestOk StreamOk n (Decided q e (due_stream due))
decided_ok n q e Due.Skip f r = f
decided_ok n q e Due.Params f r = (f, r)
decided_ok n q e Due.Stdin f r = (f, r)
decided_ok n q e Due.Data f r = (f, r)

-- A header keeps it in shape.
pub header_ok : (kind n : ℕ) (h : Held) → n ≤ 65535 → RequestOk h → HeaderOutcomeOk RequestOk StreamOk n (receive_header kind n h)
unfolding receive_header
header_ok kind n h l f =
    let r = on_header kind n h in
    decided_ok n r.held (note_of r.event 0) r.due (ok_changed h r.held (area_header n h kind) f) (keeps_header n h f.short kind).room

-- ---- one content byte
grown_ok : (h : Held) (b : ℕ) → h.request.length + 1 ≤ AREA → RequestOk h → RequestOk (grown h (b ∷ []))
grown_ok h b l f =
    let n = h.request.length in
    let a : length (take n h.area ++ b ∷ []) ≡ n + 1 = simp (length-append, length-take) (omega (arith, f.sized)) in
    let e : AREA - n ≡ suc (AREA - (n + 1)) = omega arith in
    rw (grown_room h (b ∷ []) l, copied_room h.area n (b ∷ []) (omega (arith, f.sized)))
    (record {
      short = l;
      sized = put_length h.area n (b ∷ []) (omega (arith, f.sized)) ∙ f.sized;
      zero_beyond = drop_at (take n h.area ++ b ∷ []) (drop (n + 1) h.area) (n + 1) a ∙ sym (drop-drop 1 n h.area) ∙ ap (drop 1) (f.zero_beyond ∙ ap (λ k. zeros k) e);
    })

room_less : (h : Held) (b n : ℕ) → h.request.length + suc n ≤ AREA → (grown h (b ∷ [])).request.length + n ≤ AREA
room_less h b n l = rw (grown_room h (b ∷ []) (omega arith)) (omega arith)

-- So does a content byte.
pub byte_ok : (due : Due) (b n : ℕ) (h : Held) → b < 256 → RequestOk h → StreamOk due (suc n) h
    → RequestOk (receive_byte due b h).0 × StreamOk due n (receive_byte due b h).0
unfolding receive_byte
byte_ok Due.Skip b n h w f r = (f, tt)
byte_ok Due.Params b n h w f r = (grown_ok h b (omega arith) f, room_less h b n r)
byte_ok Due.Stdin b n h w f r = (ok_same h _ refl refl f, tt)
byte_ok Due.Data b n h w f r = (ok_same h _ refl refl f, tt)

-- ---- a BEGIN body
begin_as_ok : (id : ℕ) (body : List ℕ) (role : Role) → BeginOutcomeOk RequestOk (λ x. x ≡ clean_area) (begin_as id (begin_body_of body) role)
unfolding opened clean_area
begin_as_ok id body role = λ x e. ok_zero _ refl e

-- A request begins in shape.
pub begin_ok : (id : ℕ) (body : List ℕ) → BeginOutcomeOk RequestOk (λ x. x ≡ clean_area) (receive_begin id body)
unfolding receive_begin
begin_ok id body =
    by_test (eqb (begin_body_of body).role RESPONDER) (λ a. simp a (begin_as_ok id body Role.Responder))
    (λ a. by_test (eqb (begin_body_of body).role AUTHORIZER) (λ b. simp (a, b) (begin_as_ok id body Role.Authorizer))
    (λ b. by_test (eqb (begin_body_of body).role FILTER) (λ c. simp (a, b, c) (begin_as_ok id body Role.Filter)) (λ c. simp (a, b, c) tt)))

-- ---- calls
-- what writes keeps the id and the length
pub record SameList (r q : Request) : Type 0 where
  pub id : q.id ≡ r.id
  pub length : q.length ≡ r.length

writes_same : (n : ℕ) (bytes : List ℕ) (after r : Request) (buffer : List ℕ) → SameList r after → SameList r (Of.writes n bytes after r buffer).request
unfolding Of.writes
writes_same n bytes after r buffer s = by_test (eqb n 0) (λ e. simp e s) (λ e. simp e (record { id = refl; length = refl }))

-- Say does.
pub say_same : (r : Request) (output : Output) (bytes buffer : List ℕ) → SameList r (Of.say_in r output bytes buffer).request
unfolding Of.say_in Of.said_on
say_same r output bytes buffer = writes_same _ _ _ r buffer (record { id = refl; length = refl })

-- So does the end of a stream.
pub end_same : (r : Request) (output : Output) (buffer : List ℕ) → SameList r (Of.end_in r output buffer).request
unfolding Of.end_in Of.ended_on
end_same r output buffer = writes_same _ _ _ r buffer (record { id = refl; length = refl })

written_ok : (h : Held) (w : Of.Writing) → RequestOk h → SameList h.request w.request → CallOutcomeOk RequestOk StreamOk h (written_as h w)
written_ok h w f s = (ok_same h (record { request = w.request; area = h.area }) s.length refl f, room_same)
  where
    room_same : (due : Due) (n : ℕ) → StreamOk due n h → Room due w.request.length n
    room_same Due.Skip n r = tt
    room_same Due.Params n r = omega (arith, s.length)
    room_same Due.Stdin n r = tt
    room_same Due.Data n r = tt

finished_ok : (keep : Bool) (h : Held) (w : Of.Writing) → RequestOk h → CallOutcomeOk RequestOk StreamOk h (finished_as keep h w)
unfolding finished_as
finished_ok keep h w f = go (eqb w.refusal 0) keep
  where
    go : (a k : Bool)
        → CallOutcomeOk RequestOk StreamOk h
        (if a then (if k then Leaves (FinishedWith 0 w.written false w.buffer) else Closes (FinishedWith 0 w.written true w.buffer))
        else Stays h (FinishedWith w.refusal 0 false w.buffer))
    go true true = tt
    go true false = tt
    go false k = (f, λ due n r. r)

-- Every call keeps it in shape.
pub call_ok : (a : Argument) (h : Held) → RequestOk h → CallOutcomeOk RequestOk StreamOk h (receive_call a h)
unfolding receive_call
call_ok (ForRead q) h f = (f, λ due n r. r)
call_ok (ForSay output bytes buffer) h f = written_ok h (Of.say_in h.request output bytes buffer) f (say_same h.request output bytes buffer)
call_ok (ForEnd output buffer) h f = written_ok h (Of.end_in h.request output buffer) f (end_same h.request output buffer)
call_ok (ForFinish status buffer) h f = finished_ok h.request.state.keep h (Of.finish_in h.request status buffer) f

-- ---- ids that are not active, and id 0
pub inactive_ok : (kind n : ℕ) → InactiveOutcomeOk n (receive_inactive kind n)
unfolding receive_inactive
inactive_ok kind n =
    by_test (eqb kind BEGIN_REQUEST)
    (λ a. by_test (eqb n 8) (λ e. simp (a, e) (eqb-true n 8 e)) (λ e. simp (a, e) tt))
    (λ a. simp a tt)

-- A query that is gathered is within its limit.
pub management_ok : (kind n : ℕ) → ManagementOutcomeOk QUERY n (receive_management kind n)
unfolding receive_management
management_ok kind n =
    by_test (eqb kind GET_VALUES)
    (λ a. by_test (ltb QUERY n) (λ e. simp (a, e) tt) (λ e. simp (a, e) (ltb-false QUERY n e)))
    (λ a. simp a tt)

-- The laws of shape: a free slot keeps an area that is all zero.
abbrev pub receiver_laws : Laws receiver
receiver_laws =
    record {
      slot_count = SLOTS;
      query_limit = QUERY;
      RequestOk = RequestOk;
      LeftoverOk = λ x. x ≡ clean_area;
      StreamOk = StreamOk;
      clean_ok = refl;
      header_ok = header_ok;
      byte_ok = byte_ok;
      begin_ok = begin_ok;
      call_ok = call_ok;
      inactive_ok = inactive_ok;
      management_ok = management_ok;
    }
