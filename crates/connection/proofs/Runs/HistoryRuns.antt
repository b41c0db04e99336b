-- After any operations of a run R's area up to R's length holds exactly R's parameters by history.
use Rattle.std.specs.Prelude.{◌≡◌, false, ℕ, suc, ◌<◌, length, if◌then◌else◌}
use Rattle.std.proofs.Math.Path.{refl, ap, ap₂, sym, subst}
use Rattle.std.proofs.Common.{◌∙◌, arith, length-take-le, ne_eqb}
use mathlib.Core.List.{List, [], ◌∷◌, ◌++◌, append-nil}
use Rattle.std.proofs.Math.Option.{some}
use Rattle.std.proofs.Math.ListN.{take}
use Rattle.record_reader.specs.Position.{advanced}
use Rattle.record_reader.specs.declared.Position.{Position}
use Rattle.record_reader.specs.declared.Advanced.{Advanced}
use Rattle.machine.specs.Timeline.{ScanHeader, RequestCall, Item, ByteItem, CallItem, byte_items}
use Rattle.machine.specs.Machine.{fresh, on_item, state_after, observations, as_list, request_in, request_found}
use Rattle.machine.specs.Slots.{lookup, lookup_further}
use Rattle.machine.specs.Shape.{ItemOk, WellShaped}
use Rattle.machine.proofs.ShapeKept.{shape_item, shape_fresh}
use Rattle.connection.specs.declared.state.Target.{Target as Aim}
use Rattle.connection.specs.Sizes.{SLOTS}
use Rattle.connection.specs.Request.{Held, list_of}
use Rattle.connection.specs.Step.{State, Stepped, of_begin, of_query, of_request, on_target, advances, step_refusal}
use Rattle.connection.specs.Arguments.{Argument}
use Rattle.connection.specs.Run.{Memory, Operation, StepOver, CallFor, CountActive, request_of, step_of, memory_of, used_of, memory_after, seen_in, items_of, final_memory, PiecesOk, WholeRun, beginning}
use Rattle.wire.proofs.Bytes.{AllBytes, take_bytes}
use Rattle.connection.proofs.Laws.ShapeLaws.{shaped}
use Rattle.connection.proofs.Laws.Progress.{Fits, admitted_fits, in_content, in_header_lem, in_whole, by_position, by_header, step_advances, step_nothing, step_uses_some, step_uses_no_more, used_only}
use Rattle.connection.proofs.Laws.Cutting.{cut_step, used_admitted}
use Rattle.connection.specs.History.{list_found, History, no_history, with_byte, with_bytes, Keeps, changed, change_of, history_then, history_from, parameters_after}
use Rattle.connection.specs.Runs.Receiver.{receiver}
use Rattle.connection.proofs.Runs.ReceiverLaws.{receiver_laws}
use Rattle.connection.proofs.Runs.Telling.{told_all}
use Rattle.connection.proofs.Runs.LinkingByte.{step_content, step_padding, step_part}
use Rattle.connection.proofs.Runs.LinkingStep.{loaded_of, Steady, Linked, step_linked}
use Rattle.connection.proofs.Runs.LinkingCalls.{call_linked}
use Rattle.connection.proofs.Runs.LinkingRuns.{start_loaded, start_steady, request_loaded}
use Rattle.connection.specs.Runs.HistoryOnMachine.{empties_any, takes_then, scan_item}
use Rattle.connection.proofs.Runs.HistoryTarget.{list_in, content_of, follows_item}
use Rattle.connection.proofs.Runs.HistoryScan.{Agrees}
use Rattle.connection.proofs.Runs.HistoryCalls.{tracks_item, same_content, fresh_agrees}
use Rattle.connection.proofs.Runs.HistorySeen.{same_place, change_seen, event_seen, event_cut, answer_seen, does_as, with_item, item_added}

module _ (R : ℕ) where
  -- ---- what holds after every operation
  -- The history agrees with the memory: on where the next byte stands, on whether R takes PARAMS, and on R's list.
  pub record Holds (m : Memory) (h : History) : Type 0 where
    pub steady : Steady m
    pub shape : WellShaped receiver receiver_laws (loaded_of m)
    pub agrees : Agrees R (loaded_of m) h.place h.takes
    pub list : list_in R (loaded_of m) ≡ h.parameters

  -- ---- one item
  item_place : (h : History) (x : Item Argument) → scan_item R h.place x ≡ (with_item R h x).place
  item_place h (ByteItem b) = refl
  item_place h (CallItem c) = refl

  item_takes : (h : History) (x : Item Argument) → h.takes ≡ (with_item R h x).takes
  item_takes h (ByteItem b) = refl
  item_takes h (CallItem c) = refl

  -- an operation that is one item
  holds_one : (m : Memory) (o : Operation) (x : Item Argument) (h : History) → Linked m o → items_of m o ≡ x ∷ [] → ItemOk receiver x → Holds m h
      → Holds (memory_after m o) (changed (change_seen R (seen_in m o)) (with_item R h x))
  unfolding state_after observations
  holds_one m o x h k e ok i =
      let s = loaded_of m in
      let E = on_item receiver s x in
      let g = with_item R h x in
      let c = change_seen R (told_all (as_list receiver E.1)) in
      let there : loaded_of (memory_after m o) ≡ E.0 = k.state ∙ ap (state_after receiver s) e in
      let seen : change_seen R (seen_in m o) ≡ c =
      ap (change_seen R) (k.tells ∙ ap (λ t. told_all (observations receiver s t)) e ∙ ap told_all (append-nil (as_list receiver E.1))) in
      let d = does_as R E.1 in
      let w = shape_item receiver receiver_laws s x ok i.shape in
      let takes : takes_then R E.1 h.takes ≡ (changed c g).takes = ap (takes_then R E.1) (item_takes h x) ∙ d.takes g in
      let place : scan_item R h.place x ≡ (changed c g).place = item_place h x ∙ sym (same_place c g) in
      let content : list_in R s ++ content_of R s x ≡ g.parameters =
      ap₂ (λ u v. u ++ v) i.list (same_content R s h.place h.takes x i.agrees) ∙ item_added R h.place h.takes h.parameters x in
      record {
        steady = k.steady;
        shape = subst (λ t. WellShaped receiver receiver_laws t) (sym there) w;
        agrees = subst (λ d. Agrees R (loaded_of (memory_after m o)) (changed d g).place (changed d g).takes) (sym seen)
            (subst (λ t. Agrees R t (changed c g).place (changed c g).takes) (sym there)
            (subst (λ p. Agrees R E.0 p (changed c g).takes) place
            (subst (λ b. Agrees R E.0 (scan_item R h.place x) b) takes (tracks_item R s h.place h.takes x i.shape w i.agrees))));
        list = ap (list_in R) there ∙ follows_item R s x i.shape w ∙ ap (λ (l : List ℕ). if empties_any R E.1 then [] else l) content ∙ d.list g
            ∙ ap (λ d. (changed d g).parameters) (sym seen);
      }

  -- ---- a step
  -- over one byte
  holds_byte : (m : Memory) (b : ℕ) (h : History) → AllBytes (b ∷ []) → (step_of m (b ∷ [])).used ≡ 1 → Holds m h
      → Holds (memory_of (step_of m (b ∷ []))) (changed (change_of R (step_of m (b ∷ [])).event) (with_byte R h b))
  unfolding memory_after seen_in items_of byte_items
  holds_byte m b h all one i =
      let used : used_of m (b ∷ []) ≡ b ∷ [] = ap (λ n. take n (b ∷ [])) one in
      subst (λ c. Holds (memory_of (step_of m (b ∷ []))) (changed c (with_byte R h b))) (event_seen R (step_of m (b ∷ [])).event (used_of m (b ∷ [])))
      (holds_one m (StepOver (b ∷ [])) (ByteItem b) h (step_linked m (b ∷ []) i.steady all) (ap byte_items used) (all 0) i)

  -- content with more content after it tells nothing that changes anything
  quiet_content : (target : Aim) (st : State) (store : List ℕ) (b : ℕ) (p : Position) → 0 < p.content → change_of R (on_target target st store (b ∷ []) p).event ≡ Keeps
  unfolding of_begin of_query of_request
  quiet_content Aim.Skip st store b p l = refl
  quiet_content (Aim.Begin id) st store b p l = simp (ne_eqb p.content 0 (λ z. omega arith))
  quiet_content Aim.Query st store b p l = simp (ne_eqb p.content 0 (λ z. omega arith))
  quiet_content (Aim.Params i) st store b p l = refl
  quiet_content (Aim.Stdin i) st store b p l = refl
  quiet_content (Aim.Data i) st store b p l = refl

  -- A step stays in one phase, and its event comes with its last byte: the first of several bytes changes nothing.
  quiet_first : (m : Memory) (b : ℕ) (x : List ℕ) → step_refusal m.state.conn m.store ≡ 0 → 0 < length x → (step_of m (b ∷ x)).used ≡ suc (length x)
      → change_of R (step_of m (b ∷ [])).event ≡ Keeps
  unfolding advances
  quiet_first m b x a more all = by_position m.state.conn.frame.position content padding header
    where
      fits : Fits m.state.conn m.store
      fits = admitted_fits m.state.conn m.store a

      used : (advanced m.state.conn.frame.position (b ∷ x)).used ≡ suc (length x)
      used = sym (ap (λ (s : Stepped). s.used) (step_advances m.state m.store (b ∷ x) a (omega arith))) ∙ all

      content : 0 < m.state.conn.frame.position.content → change_of R (step_of m (b ∷ [])).event ≡ Keeps
      content l =
          let u = sym (ap (λ (r : Advanced). r.used) (in_content m.state.conn.frame.position (b ∷ x) l)) ∙ used in
          ap (λ (s : Stepped). change_of R s.event) (step_content m.state m.store b fits l)
          ∙ quiet_content m.state.conn.frame.target m.state m.store b _ (omega arith)

      padding : m.state.conn.frame.position.content ≡ 0 → 0 < m.state.conn.frame.position.padding → change_of R (step_of m (b ∷ [])).event ≡ Keeps
      padding z l = ap (λ (s : Stepped). change_of R s.event) (step_padding m.state m.store b fits z l)

      header : m.state.conn.frame.position.content ≡ 0 → m.state.conn.frame.position.padding ≡ 0 → change_of R (step_of m (b ∷ [])).event ≡ Keeps
      header z w =
          let q = m.state.conn.frame.position in
          by_header q.held (b ∷ x)
          (λ g. absurd (omega (arith, (shaped m.state.conn fits.shape).position.held)))
          (λ g. ap (λ (s : Stepped). change_of R s.event) (step_part m.state m.store b fits z w (omega arith)))
          (λ g k.
          let u = sym (ap (λ (r : Advanced). r.used) (in_header_lem q (b ∷ x) z w ∙ in_whole q.held q.header (b ∷ x) g k)) ∙ used in
          ap (λ (s : Stepped). change_of R s.event) (step_part m.state m.store b fits z w (omega arith)))

  -- over bytes that it uses all
  holds_all : (x : List ℕ) (m : Memory) (h : History) → AllBytes x → (step_of m x).used ≡ length x → Holds m h
      → Holds (memory_of (step_of m x)) (changed (change_of R (step_of m x).event) (with_bytes R h x))
  unfolding with_bytes
  holds_all [] m h all used i =
      subst (λ (s : Stepped). Holds (memory_of s) (changed (change_of R s.event) h)) (sym (step_nothing m.state m.store)) i
  holds_all (b ∷ []) m h all used i = holds_byte m b h all used i
  holds_all (b ∷ c ∷ x) m h all used i =
      let y = c ∷ x in
      let m' = memory_of (step_of m (b ∷ [])) in
      let a = used_admitted m.state m.store (b ∷ y) (omega arith) in
      let k = cut_step m.state m.store b y i.steady.sizes a (omega arith) used in
      let quiet = quiet_first m b y a (omega arith) used in
      let f = admitted_fits m.state.conn m.store a in
      let one : (step_of m (b ∷ [])).used ≡ 1 = omega (arith, step_uses_some m.state m.store (b ∷ []) f.shape f.is_open f.size (omega arith)) in
      let first : Holds m' (with_byte R h b) = subst (λ d. Holds m' (changed d (with_byte R h b))) quiet (holds_byte m b h (take_bytes 1 (b ∷ y) all) one i) in
      let rest = holds_all (c ∷ x) m' (with_byte R h b) (λ j. all (suc j)) k.all_used first in
      let same : memory_of (step_of m' y) ≡ memory_of (step_of m (b ∷ y)) = ap₂ (λ u v. record { state = u; store = v }) (sym k.same_state) (sym k.same_store) in
      let event : change_of R (step_of m' y).event ≡ change_of R (step_of m (b ∷ y)).event =
      event_cut R (step_of m (b ∷ y)).event (step_of m (b ∷ [])).event (step_of m' y).event (b ∷ y) (b ∷ []) y k.same_notes quiet in
      subst (λ d. Holds (memory_of (step_of m (b ∷ y))) (changed d (with_bytes R (with_byte R h b) y))) event
      (subst (λ w. Holds w (changed (change_of R (step_of m' y).event) (with_bytes R (with_byte R h b) y))) same rest)

  -- over any piece
  pub holds_step : (m : Memory) (piece : List ℕ) (h : History) → AllBytes piece → Holds m h → Holds (memory_after m (StepOver piece)) (history_then R m (StepOver piece) h)
  unfolding memory_after
  holds_step m piece h all i =
      let n = (step_of m piece).used in
      let e = used_only m.state m.store piece in
      subst (λ (s : Stepped). Holds (memory_of s) (changed (change_of R s.event) (with_bytes R h (used_of m piece)))) e
      (holds_all (used_of m piece) m h (take_bytes n piece all) (ap (λ (s : Stepped). s.used) e ∙ sym (length-take-le n piece (step_uses_no_more m.state m.store piece))) i)

  -- ---- calls
  pub holds_call : (m : Memory) (id : ℕ) (a : Argument) (h : History) → Holds m h → Holds (memory_after m (CallFor id a)) (history_then R m (CallFor id a) h)
  unfolding seen_in items_of
  holds_call m id a h i =
      subst (λ c. Holds (memory_after m (CallFor id a)) (changed c h)) (answer_seen R _)
      (holds_one m (CallFor id a) (CallItem (RequestCall id a)) h (call_linked m id a i.steady) refl tt i)

  -- ---- operations
  holds_run : (os : List Operation) (m : Memory) (h : History) → PiecesOk os → Holds m h → Holds (final_memory m os) (history_from R m h os)
  unfolding final_memory history_from memory_after
  holds_run [] m h p i = i
  holds_run (StepOver piece ∷ os) m h p i = holds_run os (memory_after m (StepOver piece)) (history_then R m (StepOver piece) h) p.1 (holds_step m piece h p.0 i)
  holds_run (CallFor id a ∷ os) m h p i = holds_run os (memory_after m (CallFor id a)) (history_then R m (CallFor id a) h) p (holds_call m id a h i)
  holds_run (CountActive ∷ os) m h p i = holds_run os m h p i

  fresh_list : list_in R (fresh receiver SLOTS) ≡ []
  unfolding request_in fresh lookup request_found lookup_further
  fresh_list = refl

  -- a start
  pub holds_start : (r : WholeRun) → Holds (beginning r) no_history
  holds_start r =
      let e = start_loaded r.gathered r.store r.store_size in
      record {
        steady = start_steady r.gathered r.store r.gathered_size r.store_size;
        shape = subst (λ s. WellShaped receiver receiver_laws s) (sym e) (shape_fresh receiver receiver_laws);
        agrees = subst (λ s. Agrees R s (ScanHeader []) false) (sym e) (fresh_agrees R);
        list = ap (list_in R) e ∙ fresh_list;
      }

-- the first operations of a run are over bytes, too
first_pieces : (os ps : List Operation) → PiecesOk (os ++ ps) → PiecesOk os
first_pieces [] ps p = tt
first_pieces (StepOver x ∷ os) ps p = (p.0, first_pieces os ps p.1)
first_pieces (CallFor id a ∷ os) ps p = first_pieces os ps p
first_pieces (CountActive ∷ os) ps p = first_pieces os ps p

-- ---- every run
-- After any of the first operations of a run, what R's area holds up to R's length is exactly R's parameters by
-- history; there are none where R is not active. So it is just before and just after each call, too.
pub list_is_history : (R : ℕ) (r : WholeRun) (os ps : List Operation) → r.operations ≡ os ++ ps
    → list_found (request_of R (final_memory (beginning r) os)) ≡ parameters_after R (beginning r) os
list_is_history R r os ps e =
    ap list_found (sym (request_loaded R (final_memory (beginning r) os)))
    ∙ (holds_run R os (beginning r) no_history (first_pieces os ps (subst PiecesOk e r.pieces)) (holds_start R r)).list

-- For an active R.
pub active_list_is_history : (R : ℕ) (r : WholeRun) (os ps : List Operation) (h : Held) → r.operations ≡ os ++ ps
    → request_of R (final_memory (beginning r) os) ≡ some h → list_of h ≡ parameters_after R (beginning r) os
active_list_is_history R r os ps h e a = ap list_found (sym a) ∙ list_is_history R r os ps e
