-- In a run the list of a request whose PARAMS have ended, and that is not faulted, is well formed and repeats no name.
use Rattle.std.specs.Prelude.{None, ◌≡◌, refl, List, [], ◌∷◌, Bool, true, false, ℕ, suc, ◌+◌, ◌≤◌, ◌<◌, length, take, eqb, leb, if◌then◌else◌}
use Rattle.std.proofs.Common.{ap, sym, ◌∙◌, subst, arith}
use Rattle.std.proofs.Math.Option.{Option, none}
use Rattle.wire.specs.Test.{by_test}
use Rattle.record.specs.Names.{RESPONDER, AUTHORIZER, FILTER}
use Rattle.record.specs.Body.{begin_body_of}
use Rattle.pair_list.specs.List.{well_formed}
use Rattle.pair_repeats.specs.Repeats.{repeats}
use Rattle.machine.specs.Machine.{Decided, Stays, Leaves, Closes}
use Rattle.machine.specs.Laws.{Laws, HeaderOutcomeOk, BeginOutcomeOk, CallOutcomeOk}
use Rattle.machine.specs.Shape.{SlotOk, WellShaped}
use Rattle.machine.proofs.ShapeKept.{shape_after, shape_fresh}
use Rattle.connection.specs.declared.request.Turn.{Turn}
use Rattle.connection.specs.declared.request.Life.{Life}
use Rattle.connection.specs.declared.request.Due.{Due}
use Rattle.connection.specs.declared.request.Role.{Role}
use Rattle.connection.specs.declared.request.RequestState.{RequestState}
use Rattle.connection.specs.declared.request.Request.{Request}
use Rattle.connection.specs.declared.answer.Output.{Output}
use Rattle.connection.specs.Sizes.{SLOTS, AREA, QUERY}
use Rattle.connection.specs.Request.{Held, Ruled, list_of, is_spent, with_turn, with_life, faulted, aborted, turned, params_fault, on_header, grown, opened}
use Rattle.connection.specs.RequestCalls as Of
use Rattle.connection.specs.RequestCalls.{in_params, is_faulted}
use Rattle.connection.specs.Slots.{held_at}
use Rattle.connection.specs.Bytewise.{Note}
use Rattle.connection.specs.Fits.{InUse}
use Rattle.connection.specs.Arguments.{Argument, ForRead, ForSay, ForEnd, ForFinish, FinishedWith}
use Rattle.connection.specs.Runs.Receiver.{receiver, note_of, due_stream, receive_header, receive_byte, begin_as, receive_begin, written_as, finished_as, receive_call}
use Rattle.connection.proofs.Runs.ReceiverLaws.{inactive_ok, management_ok}
use Rattle.connection.proofs.Runs.Loading.{loaded_slot, slot_of}
use Rattle.connection.proofs.Runs.LoadingLaws.{slot_loaded}
use Rattle.connection.specs.Run.{Memory, WholeRun, beginning, ending}
use Rattle.connection.proofs.Runs.LinkingStep.{loaded_of, open_loaded}
use Rattle.connection.proofs.Runs.LinkingRuns.{run_linked, start_loaded, start_steady}
use Rattle.connection.proofs.Runs.Hygiene.{timeline_ok}
use Rattle.connection.proofs.Laws.Rules.{OnTurn, Rule, header_rule}

-- what the end of PARAMS asks of a list
pub record Good (list : List ℕ) : Type 0 where
  pub formed : well_formed list ≡ true
  pub once : repeats list ≡ false

-- PARAMS have ended and the request is not faulted: then its list is well formed, and no two pairs have the same name
abbrev pub ListOk : Held → Type 0
ListOk h = in_params h.request.state.turn ≡ false → is_faulted h.request.state.life ≡ false → Good (list_of h)

-- content comes for a request that is not spent; PARAMS content while PARAMS have not ended
abbrev pub InTurn : Due → ℕ → Held → Type 0
InTurn Due.Skip n h = Unit {0}
InTurn Due.Params n h = (in_params h.request.state.turn ≡ true) × (is_spent h.request.state.life ≡ false)
InTurn Due.Stdin n h = is_spent h.request.state.life ≡ false
InTurn Due.Data n h = is_spent h.request.state.life ≡ false

true_false : {A : Type 0} → true ≡ false → A
true_false e = let z : ◌≡◌ {A = ℕ} 0 1 = cc in absurd (omega arith)

-- ---- a header
record Decides (n : ℕ) (r : Ruled) : Type 0 where
  list : ListOk r.held
  due : InTurn r.due n r.held

not_faulted : (l : Life) → is_spent l ≡ false → is_faulted l ≡ false
not_faulted Life.Live e = refl
not_faulted Life.Faulted e = true_false e
not_faulted Life.Aborted e = refl

good : (list : List ℕ) → params_fault list ≡ None → Good list
unfolding params_fault
good list e =
    by_test (well_formed list)
    (λ w.
    by_test (repeats list)
    (λ r. let z : ◌≡◌ {A = ℕ} 0 1 = cc (simp (w, r) at e) in absurd (omega arith))
    (λ r. record { formed = w; once = r }))
    (λ w. let z : ◌≡◌ {A = ℕ} 0 1 = cc (simp w at e) in absurd (omega arith))

by_header : (n : ℕ) (h : Held) (kind : ℕ) → ListOk h → Decides n (on_header kind n h)
unfolding faulted aborted turned with_life with_turn
by_header n h kind ok = of (on_header kind n h) (header_rule kind n h)
  where
    kept : {t : Turn} → OnTurn kind h t → in_params t ≡ false → Good (list_of h)
    kept t p = ok (ap in_params t.turn ∙ p) (not_faulted h.request.state.life t.live)

    of : (r : Ruled) → Rule kind n h r → Decides n r
    of r (Rule.Skips e) = record { list = ok; due = tt }
    of r (Rule.Faults k f) = record { list = λ t f. true_false f; due = tt }
    of r (Rule.Breaks t n w) = record { list = λ t f. true_false f; due = tt }
    of r (Rule.Aborts l) = record { list = λ t f. ok t (not_faulted h.request.state.life l); due = tt }
    of r (Rule.Params t room) = record { list = ok; due = (ap in_params t.turn, t.live) }
    of r (Rule.Readies t z f) = record { list = λ a b. good (list_of h) f; due = tt }
    of r (Rule.Stdin t) = record { list = ok; due = t.live }
    of r (Rule.StdinEnds t z) = record { list = λ a b. kept t refl; due = tt }
    of r (Rule.Data t) = record { list = ok; due = t.live }
    of r (Rule.DataEnds t z) = record { list = λ a b. kept t refl; due = tt }

decided_list : (n : ℕ) (q : Held) (e : Option Note) (due : Due) → ListOk q → InTurn due n q → HeaderOutcomeOk ListOk InTurn n (Decided q e (due_stream due))
decided_list n q e Due.Skip f r = f
decided_list n q e Due.Params f r = (f, r)
decided_list n q e Due.Stdin f r = (f, r)
decided_list n q e Due.Data f r = (f, r)

-- A header keeps it.
pub header_list : (kind n : ℕ) (h : Held) → n ≤ 65535 → ListOk h → HeaderOutcomeOk ListOk InTurn n (receive_header kind n h)
unfolding receive_header
header_list kind n h l ok =
    let r = on_header kind n h in
    let d = by_header n h kind ok in
    decided_list n r.held (note_of r.event 0) r.due d.list d.due

-- ---- content, a BEGIN body, calls
pub grown_state : (h : Held) (x : List ℕ) → (grown h x).request.state ≡ h.request.state
unfolding grown
grown_state h x = by_test (leb (h.request.length + length x) AREA) (λ e. simp e) (λ e. simp e)

-- So does a content byte.
pub byte_list : (due : Due) (b n : ℕ) (h : Held) → b < 256 → ListOk h → InTurn due (suc n) h
    → ListOk (receive_byte due b h).0 × InTurn due n (receive_byte due b h).0
unfolding receive_byte
byte_list Due.Skip b n h w f r = (f, tt)
byte_list Due.Params b n h w f r =
    let m = grown_state h (b ∷ []) in
    let e : in_params (grown h (b ∷ [])).request.state.turn ≡ true = ap (λ (k : RequestState). in_params k.turn) m ∙ r.0 in
    ((λ t g. true_false (sym e ∙ t)), (e, ap (λ (k : RequestState). is_spent k.life) m ∙ r.1))
byte_list Due.Stdin b n h w f r = (f, r)
byte_list Due.Data b n h w f r = (f, r)

begin_as_list : (id : ℕ) (body : List ℕ) (role : Role) → BeginOutcomeOk {Leftover = List ℕ} ListOk (λ x. Unit {0}) (begin_as id (begin_body_of body) role)
unfolding opened
begin_as_list id body role = λ x u t f. true_false t

-- A request begins with it.
pub begin_list : (id : ℕ) (body : List ℕ) → BeginOutcomeOk {Leftover = List ℕ} ListOk (λ x. Unit {0}) (receive_begin id body)
unfolding receive_begin
begin_list id body =
    by_test (eqb (begin_body_of body).role RESPONDER) (λ a. simp a (begin_as_list id body Role.Responder))
    (λ a. by_test (eqb (begin_body_of body).role AUTHORIZER) (λ b. simp (a, b) (begin_as_list id body Role.Authorizer))
    (λ b. by_test (eqb (begin_body_of body).role FILTER) (λ c. simp (a, b, c) (begin_as_list id body Role.Filter)) (λ c. simp (a, b, c) tt)))

-- what writes keeps length, turn and life
record SameTurn (r q : Request) : Type 0 where
  length : q.length ≡ r.length
  turn : q.state.turn ≡ r.state.turn
  life : q.state.life ≡ r.state.life

turn_writes : (n : ℕ) (bytes : List ℕ) (after r : Request) (buffer : List ℕ) → SameTurn r after → SameTurn r (Of.writes n bytes after r buffer).request
unfolding Of.writes
turn_writes n bytes after r buffer s = by_test (eqb n 0) (λ e. simp e s) (λ e. simp e (record { length = refl; turn = refl; life = refl }))

turn_say : (r : Request) (output : Output) (bytes buffer : List ℕ) → SameTurn r (Of.say_in r output bytes buffer).request
unfolding Of.say_in Of.said_on
turn_say r output bytes buffer = turn_writes _ _ _ r buffer (record { length = refl; turn = refl; life = refl })

turn_end : (r : Request) (output : Output) (buffer : List ℕ) → SameTurn r (Of.end_in r output buffer).request
unfolding Of.end_in Of.ended_on
turn_end r output buffer = turn_writes _ _ _ r buffer (record { length = refl; turn = refl; life = refl })

written_list : (h : Held) (w : Of.Writing) → ListOk h → SameTurn h.request w.request → CallOutcomeOk ListOk InTurn h (written_as h w)
written_list h w ok s =
    ((λ t f. subst (λ (n : ℕ). Good (take n h.area)) (sym s.length) (ok (sym (ap in_params s.turn) ∙ t) (sym (ap is_faulted s.life) ∙ f))), due_same)
  where
    due_same : (due : Due) (n : ℕ) → InTurn due n h → InTurn due n (record { request = w.request; area = h.area })
    due_same Due.Skip n r = tt
    due_same Due.Params n r = (ap in_params s.turn ∙ r.0, ap is_spent s.life ∙ r.1)
    due_same Due.Stdin n r = ap is_spent s.life ∙ r
    due_same Due.Data n r = ap is_spent s.life ∙ r

finished_list : (keep : Bool) (h : Held) (w : Of.Writing) → ListOk h → CallOutcomeOk ListOk InTurn h (finished_as keep h w)
unfolding finished_as
finished_list keep h w f = go (eqb w.refusal 0) keep
  where
    go : (a k : Bool)
        → CallOutcomeOk ListOk InTurn h
        (if a then (if k then Leaves (FinishedWith 0 w.written false w.buffer) else Closes (FinishedWith 0 w.written true w.buffer))
        else Stays h (FinishedWith w.refusal 0 false w.buffer))
    go true true = tt
    go true false = tt
    go false k = (f, λ due n r. r)

-- Every call keeps it.
pub call_list : (a : Argument) (h : Held) → ListOk h → CallOutcomeOk ListOk InTurn h (receive_call a h)
unfolding receive_call
call_list (ForRead q) h f = (f, λ due n r. r)
call_list (ForSay output bytes buffer) h f = written_list h (Of.say_in h.request output bytes buffer) f (turn_say h.request output bytes buffer)
call_list (ForEnd output buffer) h f = written_list h (Of.end_in h.request output buffer) f (turn_end h.request output buffer)
call_list (ForFinish status buffer) h f = finished_list h.request.state.keep h (Of.finish_in h.request status buffer) f

-- The laws of shape, with good lists for shape.
abbrev pub list_laws : Laws receiver
list_laws =
    record {
      slot_count = SLOTS;
      query_limit = QUERY;
      RequestOk = ListOk;
      LeftoverOk = λ x. Unit {0};
      StreamOk = InTurn;
      clean_ok = tt;
      header_ok = header_list;
      byte_ok = byte_list;
      begin_ok = begin_list;
      call_ok = call_list;
      inactive_ok = inactive_ok;
      management_ok = management_ok;
    }

-- ---- every run
slot_list : (m : Memory) (i : ℕ) → m.state.conn.«open» ≡ true → WellShaped receiver list_laws (loaded_of m) → InUse m.state.conn.table i
    → ListOk (held_at m.state.conn.table m.store i)
unfolding slot_of loaded_slot
slot_list m i e w u =
    let t = m.state.conn.table in
    let k = subst (λ s. WellShaped receiver list_laws s) (open_loaded m e) w in
    let s : SlotOk receiver list_laws (slot_of t m.store i) = subst (λ s. SlotOk receiver list_laws s) (slot_loaded t m.store i u.low) (k.0.fits i) in
    let r = rw u.slot_taken at s in
    r.1

-- A run from a start keeps these laws.
pub run_list : (r : WholeRun) → WellShaped receiver list_laws (loaded_of (ending r))
run_list r =
    let A = beginning r in
    let k = run_linked r.operations A (start_steady r.gathered r.store r.gathered_size r.store_size) r.pieces in
    let fresh_ok = subst (λ s. WellShaped receiver list_laws s) (sym (start_loaded r.gathered r.store r.store_size)) (shape_fresh receiver list_laws) in
    subst (λ s. WellShaped receiver list_laws s) (sym k.state) (shape_after receiver list_laws (loaded_of A) (timeline_ok r.operations A r.pieces) fresh_ok)

-- After any run from a start that leaves the connection open, for each active request.
pub lists_well_formed : (r : WholeRun) → (ending r).state.conn.«open» ≡ true → (i : ℕ) → InUse (ending r).state.conn.table i
    → ListOk (held_at (ending r).state.conn.table (ending r).store i)
lists_well_formed r e i u = slot_list (ending r) i e (run_list r) u
