-- Where a run stands, by the records that its used bytes make: an open run is between two records just where its used
-- bytes split into records without a rest.
use Rattle.connection.specs.Slots.{Slot}
use Rattle.std.specs.Prelude.{◌≡◌, Bool, true, false, ℕ, ◌≤◌, length, take, eqb, ltb, if◌then◌else◌, Some, None}
use Rattle.std.proofs.Math.Path.{refl}
use Rattle.std.proofs.Common.{ap, sym, ◌∙◌, subst, arith}
use mathlib.Core.List.{List, [], ◌∷◌}
use Rattle.std.proofs.Math.Seq.{take-nil}
use Rattle.wire.specs.Test.{by_test}
use Rattle.record.specs.Names.{VERSION, BEGIN_REQUEST, GET_VALUES, RESPONDER, AUTHORIZER, FILTER}
use Rattle.record.specs.declared.header.Header.{Header}
use Rattle.record.specs.declared.body.BeginBody.{BeginBody}
use Rattle.record_reader.specs.Position.{between_records, after_header, advanced, after}
use Rattle.record_reader.proofs.PositionLaws.{Bytewise, step_bytes, after_append}
use Rattle.record_reader.proofs.PositionSplit.{position_split, unfinished, finished_split}
use Rattle.record_reader.specs.declared.Position.{Position}
use Rattle.record_reader.specs.declared.Advanced.{Advanced}
use Rattle.pair_list.specs.List.{well_formed, broken_at}
use Rattle.machine.specs.Timeline.{item_bytes}
use Rattle.machine.proofs.TimelineLaws.{bytes_of_items}
use Rattle.connection.specs.declared.request.Role.{Role}
use Rattle.connection.specs.declared.state.Target.{Target as Aim}
use Rattle.connection.specs.declared.state.Frame.{Frame}
use Rattle.connection.specs.declared.state.Conn.{Conn}
use Rattle.connection.specs.Sizes.{SLOTS, STORE, QUERY}
use Rattle.connection.specs.RequestCalls as Of
use Rattle.connection.specs.Slots.{find, on_slot, free_slot_of}
use Rattle.connection.specs.Step.{State, Left, Stepped, closes, queried, on_management, on_inactive, on_active, judged, opens, begun, of_begin, of_query, of_request, on_target, advances, started}
use Rattle.connection.specs.Calls as C
use Rattle.connection.proofs.Laws.PieceLaws.{by_step}
use Rattle.connection.proofs.Laws.ShapeLaws.{shaped}
use Rattle.connection.proofs.Laws.Progress.{fits_admitted, step_advances, step_nothing}
use Rattle.connection.specs.Arguments.{Argument, ForRead, ForSay, ForEnd, ForFinish}
use Rattle.connection.specs.Run.{Memory, Operation, StepOver, CallFor, CountActive, CallResult, finished_by, called, step_of, used_of, memory_after, items_of, final_memory, timeline, start_of, PiecesOk, WholeRun, beginning, ending, timeline_of}
use Rattle.connection.proofs.Runs.LinkingStep.{Steady, step_linked}
use Rattle.connection.proofs.Runs.LinkingCalls.{lent_absent, call_absent, lent_found, call_found, refused_call, result_at, slot_found, found_result, call_linked}
use Rattle.connection.proofs.Runs.LinkingRuns.{start_steady, BetweenRecords}
use Rattle.connection.specs.Isolation.{EndsBetweenRecords}
use Rattle.connection.proofs.Runs.Closed.{closed_final}
use Rattle.machine.specs.Cause.{Cause, Plain, At}

-- ---- the position that a step leaves
-- open, with this position; or closed
abbrev pub StandsAt : Position → Conn → Type 0
StandsAt p c = c.«open» ≡ true → c.frame.position ≡ p

false_true : {A : Type 0} → false ≡ true → A
false_true e = let z : ◌≡◌ {A = ℕ} 0 1 = cc in absurd (omega arith)

-- by a test
stands_if : (p : Position) (b : Bool) (x y : Left) → StandsAt p x.conn → StandsAt p y.conn → StandsAt p (if b then x else y).conn
stands_if p true x y f g = f
stands_if p false x y f g = g

module _ (st : State) (store : List ℕ) where
  stands_closes : (p : Position) (cause : Cause) → StandsAt p (closes st store cause).conn
  unfolding closes
  stands_closes p n e = false_true e

  stands_queried : (p : Position) (list : List ℕ) (f : Frame) → f.position ≡ p → StandsAt p (queried st store list f).conn
  unfolding queried
  stands_queried p list f e = stands_if p (well_formed list) _ _ (λ o. e) (stands_closes p (At 14 (broken_at list)))

  stands_judged : (h : Header) → StandsAt (after_header h) (judged st store h).conn
  unfolding judged on_management on_inactive on_active
  stands_judged h =
      let p = after_header h in
      stands_if p (eqb h.version VERSION) _ _
      (stands_if p (eqb h.id 0) _ _
      (stands_if p (eqb h.kind GET_VALUES) _ _
      (stands_if p (ltb QUERY h.content) _ _ (stands_closes p (Plain 13)) (stands_if p (eqb h.content 0) _ _ (stands_queried p [] _ refl) (λ o. refl)))
      (λ o. refl))
      (go (find st.conn.table h.id)))
      (stands_closes p (Plain 11))
    where
      go : (s : Slot) → StandsAt (after_header h) (on_slot s (on_active st store h) (on_inactive st store h)).conn
      go (Some i) = λ o. refl
      go None =
          stands_if (after_header h) (eqb h.kind BEGIN_REQUEST) _ _
          (stands_if (after_header h) (eqb h.content 8) _ _ (λ o. refl) (stands_closes (after_header h) (Plain 12))) (λ o. refl)

  stands_opens : (id : ℕ) (b : BeginBody) (role : Role) (f : Frame) → StandsAt f.position (opens st store id b role f).conn
  unfolding opens
  stands_opens id b role f = stands_if f.position (ltb (free_slot_of st.conn.table) SLOTS) _ _ (λ o. refl) (λ o. refl)

  stands_begun : (id : ℕ) (b : BeginBody) (f : Frame) → StandsAt f.position (begun st store id b f).conn
  unfolding begun
  stands_begun id b f =
      stands_if f.position (eqb b.role RESPONDER) _ _ (stands_opens id b Role.Responder f)
      (stands_if f.position (eqb b.role AUTHORIZER) _ _ (stands_opens id b Role.Authorizer f)
      (stands_if f.position (eqb b.role FILTER) _ _ (stands_opens id b Role.Filter f) (λ o. refl)))

  stands_begin : (id : ℕ) (x : List ℕ) (p : Position) → StandsAt p (of_begin st store id x p).conn
  unfolding of_begin
  stands_begin id x p = stands_if p (eqb p.content 0) _ _ (stands_begun id _ _) (λ o. refl)

stands_query : (st : State) (store x : List ℕ) (p : Position) → StandsAt p (of_query st store x p).conn
unfolding of_query
stands_query st store x p = stands_if p (eqb p.content 0) _ _ (stands_queried _ store p _ _ refl) (λ o. refl)

stands_target : (target : Aim) (st : State) (store x : List ℕ) (p : Position) → StandsAt p (on_target target st store x p).conn
unfolding of_request
stands_target Aim.Skip st store x p o = refl
stands_target (Aim.Begin id) st store x p o = stands_begin st store id x p o
stands_target Aim.Query st store x p o = stands_query st store x p o
stands_target (Aim.Params i) st store x p o = refl
stands_target (Aim.Stdin i) st store x p o = refl
stands_target (Aim.Data i) st store x p o = refl

stands_advanced : (m : Memory) (piece : List ℕ) → m.state.conn.frame.position.held ≤ 7
    → StandsAt (advanced m.state.conn.frame.position piece).position
    (advances m.state m.store piece (advanced m.state.conn.frame.position piece)).state.conn
unfolding advances
stands_advanced m piece held =
    by_step (λ (a : Advanced). StandsAt a.position (advances m.state m.store piece a).state.conn) m.state.conn.frame.position piece held
    (λ some. stands_target m.state.conn.frame.target m.state m.store _ _)
    (λ none some o. refl)
    (λ none n fits more o. refl)
    (λ none n fits full. stands_judged m.state m.store _)

advanced_used : (m : Memory) (piece : List ℕ) → Bytewise m.state.conn.frame.position piece (advanced m.state.conn.frame.position piece)
    → after m.state.conn.frame.position (take (advances m.state m.store piece (advanced m.state.conn.frame.position piece)).used piece)
    ≡ (advanced m.state.conn.frame.position piece).position
unfolding advances
advanced_used m piece k = k.position

-- A step that leaves the connection open leaves it where its used bytes lead.
pub step_position : (m : Memory) (piece : List ℕ) → Steady m → m.state.conn.«open» ≡ true
    → StandsAt (after m.state.conn.frame.position (used_of m piece)) (step_of m piece).state.conn
unfolding after
step_position m [] z e =
    λ o. ap (λ (s : Stepped). s.state.conn.frame.position) (step_nothing m.state m.store)
    ∙ sym (ap (after m.state.conn.frame.position) (take-nil (step_of m []).used))
step_position m (b ∷ x) z e =
    let c = m.state.conn in
    let p = c.frame.position in
    let piece = b ∷ x in
    let s = step_advances m.state m.store piece (fits_admitted c m.store (record { size = z.sizes.full; shape = z.shape; is_open = e })) (omega arith) in
    let held = (shaped c z.shape).position.held in
    let k = step_bytes p (record { held = omega (arith, held); eight = z.sizes.header }) piece in
    let there = stands_advanced m piece (shaped c z.shape).position.held in
    subst (λ (r : Stepped). StandsAt (after p (take r.used piece)) r.state.conn) (sym s)
    (λ o. there o ∙ sym (advanced_used m piece k))

-- ---- the position that a call leaves
call_finish : (m : Memory) (i : ℕ) (keep : Bool) (w : Of.Writing)
    → StandsAt m.state.conn.frame.position (finished_by m (C.finishes m.state.conn m.store i keep w)).memory.state.conn
unfolding C.finishes C.released
call_finish m i keep w =
    by_test (eqb w.refusal 0) (λ a. by_test keep (λ k. rw (a, k) (λ o. refl)) (λ k. rw (a, k) (λ o. false_true o))) (λ a. rw a (λ o. refl))

call_result : (m : Memory) (i : ℕ) (a : Argument) → StandsAt m.state.conn.frame.position (result_at m i a).memory.state.conn
unfolding result_at
call_result m i (ForRead q) o = refl
call_result m i (ForSay output bytes buffer) o = refl
call_result m i (ForEnd output buffer) o = refl
call_result m i (ForFinish status buffer) o = call_finish m i _ _ o

pub call_position : (m : Memory) (id : ℕ) (a : Argument) → Steady m → m.state.conn.«open» ≡ true
    → StandsAt m.state.conn.frame.position (called m id a).memory.state.conn
call_position m id a z o = go (find m.state.conn.table id) refl
  where
    go : (s : Slot) → find m.state.conn.table id ≡ s → StandsAt m.state.conn.frame.position (called m id a).memory.state.conn
    go (Some i) e =
        subst (λ (r : CallResult). StandsAt m.state.conn.frame.position r.memory.state.conn)
        (sym (found_result m id i a (lent_found m z id i o e) (call_found m z id i o e) (slot_found m.state.conn id i e))) (call_result m i a)
    go None e =
        subst (λ (r : CallResult). StandsAt m.state.conn.frame.position r.memory.state.conn)
        (sym (refused_call m id 2 a (lent_absent m z id o e) (call_absent m z id o e))) (λ p. refl)

-- ---- runs
-- the bytes that a run used
abbrev pub bytes_used : Memory → List Operation → List ℕ
bytes_used m os = item_bytes (timeline m os)

-- a run that ends open was open before
open_before : (os : List Operation) (m : Memory) → Steady m → (final_memory m os).state.conn.«open» ≡ true → m.state.conn.«open» ≡ true
open_before os m z e =
    by_test m.state.conn.«open» (λ o. o)
    (λ o. false_true (sym o ∙ sym (ap (λ (w : Memory). w.state.conn.«open») (closed_final os m z o)) ∙ e))

-- A run that ends open ends where its used bytes lead.
pub run_position : (os : List Operation) (m : Memory) → Steady m → PiecesOk os → (final_memory m os).state.conn.«open» ≡ true
    → (final_memory m os).state.conn.frame.position ≡ after m.state.conn.frame.position (bytes_used m os)
unfolding final_memory timeline items_of item_bytes after memory_after
run_position [] m z p e = refl
run_position (StepOver piece ∷ os) m z p e =
    let m' = memory_after m (StepOver piece) in
    let k = step_linked m piece z p.0 in
    let o = open_before (StepOver piece ∷ os) m z e in
    let o' = open_before os m' k.steady e in
    run_position os m' k.steady p.1 e
    ∙ ap (λ q. after q (bytes_used m' os)) (step_position m piece z o o')
    ∙ sym (after_append m.state.conn.frame.position (used_of m piece) (bytes_used m' os))
    ∙ ap (after m.state.conn.frame.position) (sym (bytes_of_items (used_of m piece) (timeline m' os)))
run_position (CallFor id a ∷ os) m z p e =
    let m' = memory_after m (CallFor id a) in
    let k = call_linked m id a z in
    let o = open_before (CallFor id a ∷ os) m z e in
    let o' = open_before os m' k.steady e in
    run_position os m' k.steady p e ∙ ap (λ q. after q (bytes_used m' os)) (call_position m id a z o o')
run_position (CountActive ∷ os) m z p e = run_position os m z p e

pub start_position : (gathered store : List ℕ) → (start_of gathered store).state.conn.frame.position ≡ between_records
unfolding start_of started
start_position gathered store = by_test (eqb (length store) STORE) (λ e. simp e) (λ e. simp e)

-- A run that ends open stands where its used bytes lead from between two records.
ending_position : (r : WholeRun) → (ending r).state.conn.«open» ≡ true → (ending r).state.conn.frame.position ≡ after between_records (item_bytes (timeline_of r))
ending_position r o =
    run_position r.operations (beginning r) (start_steady r.gathered r.store r.gathered_size r.store_size) r.pieces o
    ∙ ap (λ q. after q (item_bytes (timeline_of r))) (start_position r.gathered r.store)

-- Open, with used bytes that split into whole records, it has nothing left of a record and nothing in of the next.
pub whole_between : (r : WholeRun) → EndsBetweenRecords r → BetweenRecords (ending r)
unfolding after
whole_between r w =
    let e : (ending r).state.conn.frame.position ≡ between_records =
    ending_position r w.is_open ∙ position_split (item_bytes (timeline_of r)) ∙ ap (after between_records) w.no_rest in
    record {
      is_open = w.is_open;
      no_content = ap (λ (q : Position). q.content) e;
      no_padding = ap (λ (q : Position). q.padding) e;
      no_header = ap (λ (q : Position). q.held) e;
    }

-- And back.
pub between_whole : (r : WholeRun) → BetweenRecords (ending r) → EndsBetweenRecords r
between_whole r b =
    let none : unfinished (ending r).state.conn.frame.position ≡ 0 = omega (arith, b.no_content, b.no_padding, b.no_header) in
    record { is_open = b.is_open; no_rest = finished_split (item_bytes (timeline_of r)) (ap unfinished (sym (ending_position r b.is_open)) ∙ none) }
