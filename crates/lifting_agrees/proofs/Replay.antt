-- The receiver inside a lift, which is fed the bytes that were used and nothing else: it is closed just where it told a
-- close, and what it told last is the verdict of these bytes.
use Rattle.std.specs.Prelude.{ℕ, ◌≡◌, refl, true, List, [], ◌∷◌, ◌++◌, length, take}
use Rattle.std.proofs.Common.{sym, ap, ap₂, ◌∙◌, subst, append-nil, arith, eq-eqb}
use Rattle.std.proofs.Math.Option.{Option, none, some}
use Rattle.wire.specs.Test.{by_test}
use Rattle.machine.specs.Cause.{Cause}
use Rattle.machine.proofs.TimelineLaws.{bytes_of_items}
use Rattle.machine.specs.Timeline.{item_bytes}
use Rattle.record_reader.specs.Position.{after}
use Rattle.connection.specs.Sizes.{QUERY, STORE}
use Rattle.connection.specs.Event.{Event}
use Rattle.connection.specs.Step.{stepped, started}
use Rattle.connection.specs.Bytewise.{Note, showing, notes, Run, single, ◌then-run◌, by_byte, joined}
use Rattle.connection.specs.Run.{Memory, StepOver, memory_of, memory_after, items_of, final_memory, timeline, start_of}
use Rattle.wire.proofs.Bytes.{AllBytes, take_bytes, append_bytes}
use Rattle.connection.proofs.Laws.Closing.{closes_by_cause, told_means_closed}
use Rattle.connection.proofs.Laws.Cutting.{step_by_byte, by_byte_append, pieces_by_byte}
use Rattle.connection.proofs.Laws.StepSizes.{start_sizes}
use Rattle.connection.proofs.Runs.LinkingStep.{Steady, step_linked}
use Rattle.connection.proofs.Runs.LinkingRuns.{start_steady}
use Rattle.connection.proofs.Runs.Records.{run_position}
use Rattle.plain.specs.Plain.{heard}
use Rattle.plain_agrees.specs.Agreement.{close_of_event, close_of_note, first_of, close_in, word_at, last_word}
use Rattle.plain_agrees.proofs.Theorem.{agreement}
use Rattle.lifting.specs.Lift.{verdict_of}
use Rattle.lifting_agrees.specs.Statement.{word_of}
use Rattle.lifting_agrees.proofs.LiftLaws.{verdict_word}

-- ---- closes among what is told
closed_event : (e : Event) (cause : Cause) → close_of_event e ≡ some cause → e ≡ Event.Closed cause
closed_event Event.None cause e = let z : ◌≡◌ {A = ℕ} 0 1 = cc in absurd (omega arith)
closed_event (Event.Open id role keep) cause e = let z : ◌≡◌ {A = ℕ} 0 1 = cc in absurd (omega arith)
closed_event (Event.Ready id n) cause e = let z : ◌≡◌ {A = ℕ} 0 1 = cc in absurd (omega arith)
closed_event (Event.Data id stream n) cause e = let z : ◌≡◌ {A = ℕ} 0 1 = cc in absurd (omega arith)
closed_event (Event.End id stream measure) cause e = let z : ◌≡◌ {A = ℕ} 0 1 = cc in absurd (omega arith)
closed_event (Event.Abort id) cause e = let z : ◌≡◌ {A = ℕ} 0 1 = cc in absurd (omega arith)
closed_event (Event.Refuse id status) cause e = let z : ◌≡◌ {A = ℕ} 0 1 = cc in absurd (omega arith)
closed_event (Event.Fault id n) cause e = let z : ◌≡◌ {A = ℕ} 0 1 = cc in absurd (omega arith)
closed_event (Event.Query conns reqs mpxs) cause e = let z : ◌≡◌ {A = ℕ} 0 1 = cc in absurd (omega arith)
closed_event (Event.Unknown kind) cause e = let z : ◌≡◌ {A = ℕ} 0 1 = cc in absurd (omega arith)
closed_event (Event.Closed n) cause e = cc

shown_no_close : (id stream : ℕ) (x : List ℕ) → close_in (showing id stream x) ≡ none
unfolding close_in showing
shown_no_close id stream [] = refl
shown_no_close id stream (b ∷ x) = shown_no_close id stream x

close_told : (e : Event) (x : List ℕ) → close_in (notes e x) ≡ close_of_event e
unfolding close_in
close_told Event.None x = refl
close_told (Event.Open id role keep) x = refl
close_told (Event.Ready id n) x = refl
close_told (Event.Data id stream n) x = shown_no_close id stream (take n x)
close_told (Event.End id stream measure) x = refl
close_told (Event.Abort id) x = refl
close_told (Event.Refuse id status) x = refl
close_told (Event.Fault id n) x = refl
close_told (Event.Query conns reqs mpxs) x = refl
close_told (Event.Unknown kind) x = refl
close_told (Event.Closed n) x = refl

-- without a close before, the first close is the one after
first_none : (o : Option Cause) (l : List Note) → first_of o (close_in l) ≡ none → (o ≡ none) × (close_in l ≡ none)
first_none none l e = (refl, e)
first_none (some cause) l e = let z : ◌≡◌ {A = ℕ} 0 1 = cc in absurd (omega arith)

close_after : (es l : List Note) → close_in es ≡ none → close_in (es ++ l) ≡ close_in l
unfolding close_in
close_after [] l o = refl
close_after (n ∷ es) l o = let s = first_none (close_of_note n) es o in rw s.0 (close_after es l s.1)

-- ---- a replay
-- A fresh receiver, fed these bytes; its gathered bytes and its store may have held anything.
abbrev pub replay : List ℕ → List ℕ → List ℕ → Run
replay gathered store x = by_byte (started gathered store).state (started gathered store).store x

-- It is where m says, and told this close.
pub record Replayed (gathered store x : List ℕ) (m : Memory) (closing : Option Cause) : Type 0 where
  pub state : (replay gathered store x).state ≡ m.state
  pub store_left : (replay gathered store x).store ≡ m.store
  pub told : close_in (replay gathered store x).notes ≡ closing
  pub bytes : AllBytes x
  pub steady : Steady m
  pub open_none : m.state.conn.«open» ≡ true → closing ≡ none
  pub none_open : closing ≡ none → m.state.conn.«open» ≡ true

pub replay_start : (gathered store : List ℕ) → length gathered ≡ QUERY → length store ≡ STORE
    → Replayed gathered store [] (start_of gathered store) none
unfolding by_byte close_in start_of started
replay_start gathered store g s =
    record {
      state = refl;
      store_left = refl;
      told = refl;
      bytes = λ i. omega arith;
      steady = start_steady gathered store g s;
      open_none = λ o. refl;
      none_open = λ e. simp (eq-eqb (length store) STORE s);
    }

pub replay_step : (gathered store x : List ℕ) (m : Memory) (piece : List ℕ) → Replayed gathered store x m none
    → AllBytes piece
    → Replayed gathered store (x ++ take (stepped m.state m.store piece).used piece)
    (memory_of (stepped m.state m.store piece)) (close_of_event (stepped m.state m.store piece).event)
unfolding memory_after
replay_step gathered store x m piece r all =
    let s = stepped m.state m.store piece in
    let y = take s.used piece in
    let is_open = r.none_open refl in
    let whole : replay gathered store (x ++ y)
    ≡ replay gathered store x then-run (λ st' store'. by_byte st' store' y) =
    by_byte_append x (started gathered store).state (started gathered store).store y in
    let one : by_byte (replay gathered store x).state (replay gathered store x).store y ≡ single s y =
    ap₂ (λ u v. by_byte u v y) r.state r.store_left
    ∙ sym (step_by_byte m.state m.store piece r.steady.sizes) in
    record {
      state = ap (λ (w : Run). w.state) whole ∙ ap (λ (w : Run). w.state) one;
      store_left = ap (λ (w : Run). w.store) whole ∙ ap (λ (w : Run). w.store) one;
      told =
          ap (λ (w : Run). close_in w.notes) whole
          ∙ close_after (replay gathered store x).notes _ r.told
          ∙ ap (λ (w : Run). close_in w.notes) one
          ∙ close_told s.event y;
      bytes = append_bytes x y r.bytes (take_bytes s.used piece all);
      steady = (step_linked m piece r.steady all).steady;
      open_none = λ o. still_open m piece o (close_of_event s.event) refl;
      none_open = λ e. not_told m piece is_open e;
    }
  where
    still_open : (m : Memory) (piece : List ℕ) → (stepped m.state m.store piece).state.conn.«open» ≡ true
        → (c : Option Cause) → close_of_event (stepped m.state m.store piece).event ≡ c → c ≡ none
    still_open m piece o none e = refl
    still_open m piece o (some cause) e =
        let told = closed_event (stepped m.state m.store piece).event cause e in
        let shut = (told_means_closed m.state m.store piece cause told).1 in
        let z : ◌≡◌ {A = ℕ} 0 1 = cc in
        absurd (omega arith)

    not_told : (m : Memory) (piece : List ℕ) → m.state.conn.«open» ≡ true
        → close_of_event (stepped m.state m.store piece).event ≡ none
        → (stepped m.state m.store piece).state.conn.«open» ≡ true
    not_told m piece o e =
        by_test (stepped m.state m.store piece).state.conn.«open» (λ t. t)
        (λ t.
        let c = closes_by_cause m.state m.store piece o t in
        let f = ap close_of_event c.2 in
        let z : ◌≡◌ {A = ℕ} 0 1 = cc in
        absurd (omega arith))

-- A step that leaves the receiver open leaves it where the bytes that it used lead.
pub step_position : (m : Memory) (piece : List ℕ) → Steady m → AllBytes piece
    → (stepped m.state m.store piece).state.conn.«open» ≡ true
    → (stepped m.state m.store piece).state.conn.frame.position
    ≡ after m.state.conn.frame.position (take (stepped m.state m.store piece).used piece)
unfolding final_memory memory_after timeline items_of item_bytes
step_position m piece z all o =
    let y = take (stepped m.state m.store piece).used piece in
    run_position (StepOver piece ∷ []) m z (all, tt) o
    ∙ ap (after m.state.conn.frame.position) (bytes_of_items y [] ∙ append-nil y)

-- What it told last is the verdict of the bytes.
pub replay_word : (gathered store x : List ℕ) (m : Memory) (closing : Option Cause) → length gathered ≡ QUERY
    → length store ≡ STORE → Replayed gathered store x m closing
    → word_at closing m.state.conn.frame.position ≡ word_of (verdict_of x)
unfolding joined last_word
replay_word gathered store x m closing g s r =
    let same : joined (x ∷ []) ≡ x = append-nil x in
    let a =
    (agreement.plain_is_stepping (x ∷ []) gathered store g s (subst AllBytes (sym same) r.bytes)).word in
    let run = pieces_by_byte (x ∷ []) _ _ (start_sizes gathered store g s) ∙ ap (replay gathered store) same in
    ap₂ word_at (sym r.told) (ap (λ st. st.conn.frame.position) (sym r.state))
    ∙ ap last_word (sym run)
    ∙ a
    ∙ ap (λ (b : List ℕ). (heard b).word) same
    ∙ sym (verdict_word x)
