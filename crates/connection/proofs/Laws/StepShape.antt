-- Start and step leave a state in shape, from every state in shape, also from one that no run reaches.
use Rattle.std.specs.Prelude.{◌≡◌, true, false, List, take, eqb}
use Rattle.std.proofs.Math.Path.{refl}
use Rattle.std.proofs.Common.{sym, ◌∙◌}
use Prim.Native.Nat.{ℕ, ◌-◌, ◌≤◌, min}
use native.Mathlib.Omega.{arith}
use Rattle.std.proofs.Math.ListN.{length}
use Rattle.std.proofs.Math.Seq.{length-take-le}
use Rattle.wire.specs.Test.{by_test}
use Rattle.wire.proofs.BufferLaws.{put_length}
use Rattle.record.specs.Header.{header_of}
use Rattle.record.specs.declared.header.Header.{Header}
use Rattle.record_reader.specs.Position.{held_and, advanced}
use Rattle.record_reader.specs.declared.Position.{Position}
use Rattle.record_reader.specs.declared.Phase.{Phase}
use Rattle.record_reader.specs.declared.Advanced.{Advanced}
use Rattle.connection.specs.Sizes.{STORE}
use Rattle.connection.specs.Shape.{in_shape}
use Rattle.connection.proofs.Laws.ShapeLaws.{Placed, shaped, fresh_in_shape, closed_in_shape}
use Rattle.wire.proofs.Bytes.{AllBytes, zeros_bytes, take_bytes, put_bytes}
use Rattle.connection.specs.Fits.{HeaderFits}
use Rattle.connection.proofs.Laws.PieceLaws.{header_fits, by_step}
use Rattle.connection.proofs.Laws.StateShape.{Arrays, Good, good, good_arrays, good_shape, fresh_arrays, good_reads}
use Rattle.connection.proofs.Laws.HeaderShape.{good_judged}
use Rattle.connection.proofs.Laws.ContentShape.{good_target}
use Rattle.connection.specs.Step.{State, frame_at, open_with, advances, step_refusal, stepped, started}

-- ---- what is read
-- A header that came in fits, and the header bytes held are bytes.
pub record ReadFits (a : Advanced) : Type 0 where
  pub header : (h : Header) → a.phase ≡ Phase.Whole h → HeaderFits h
  pub bytes : AllBytes a.position.header

-- Bytes read do.
reads_fit : (p : Position) (piece : List ℕ) → p.held ≤ 7 → AllBytes p.header → AllBytes piece → ReadFits (advanced p piece)
reads_fit p piece low own all =
    let held : (n : ℕ) → AllBytes (held_and p.held p.header n piece) = λ n. put_bytes p.header p.held (take n piece) own (take_bytes n piece all) in
    by_step ReadFits p piece low
    (λ some. record { header = λ h e. let z : ◌≡◌ {A = ℕ} 0 1 = cc e in absurd (omega arith); bytes = own })
    (λ none some. record { header = λ h e. let z : ◌≡◌ {A = ℕ} 0 1 = cc e in absurd (omega arith); bytes = own })
    (λ none n fits more. record { header = λ h e. let z : ◌≡◌ {A = ℕ} 0 1 = cc e in absurd (omega arith); bytes = held n })
    (λ none n fits full. record { header = λ h e. let q : header_of (held_and p.held p.header n piece) ≡ h = cc e in rw (← q) (header_fits _ (held n)); bytes = zeros_bytes 8 })

-- ---- a step that is not refused
module _ (st : State) (store : List ℕ) (before : Good st.conn) where
  -- padding, or header bytes that do not make a header: the frame moves, with no content left before and after
  good_moved : (p : Position) → length p.header ≡ 8 → AllBytes p.header → Placed p → p.content ≡ st.conn.frame.position.content
      → Good (open_with st.conn.table (frame_at st.conn.frame p))
  good_moved p eight bytes placed same =
      good_reads st.conn before _ (record { header = eight; bytes = bytes; body = before.frame.body; position = placed; target = rw same before.frame.target })

  -- What a step of the reader leaves is good, where what it read fits.
  pub good_advances : (piece : List ℕ) → ReadFits (advanced st.conn.frame.position piece) → Good (advances st store piece (advanced st.conn.frame.position piece)).state.conn
  unfolding advances
  good_advances piece =
      let f = before.frame in
      let p = st.conn.frame.position in
      by_step (λ (a : Advanced). ReadFits a → Good (advances st store piece a).state.conn) p piece f.position.held
      (λ some r.
      let n = min p.content (length piece) in
      let used : length (take n piece) ≡ n = length-take-le n piece (omega arith) in
      good_target st store before (take n piece) (p.content - n) (omega arith) st.conn.frame.target refl f.target)
      (λ none some r. good_moved _ f.header f.bytes (record { held = f.position.held; content = omega arith; padding = omega (arith, f.position.padding) }) (sym none))
      (λ none n fits more r.
      good_moved _ (put_length p.header p.held (take n piece) (omega (arith, length-take-le n piece fits, f.header)) ∙ f.header) r.bytes
      (record { held = omega arith; content = omega arith; padding = omega arith }) (sym none))
      (λ none n fits full r. good_judged st store before (header_of (held_and p.held p.header n piece)) (r.header _ refl))

-- ---- start and step
-- A start leaves a state in shape, refused or not.
pub start_in_shape : (gathered store : List ℕ) → in_shape (started gathered store).state.conn ≡ true
unfolding started
start_in_shape gathered store = by_test (eqb (length store) STORE) (λ e. simp e fresh_in_shape) (λ e. simp e closed_in_shape)

-- Its arrays are as the types say.
pub start_arrays : (gathered store : List ℕ) → Arrays (started gathered store).state.conn
unfolding started
start_arrays gathered store = by_test (eqb (length store) STORE) (λ e. simp e (fresh_arrays true)) (λ e. simp e (fresh_arrays false))

step_good : (st : State) (store piece : List ℕ) → Arrays st.conn → AllBytes piece → in_shape st.conn ≡ true → Good (stepped st store piece).state.conn
unfolding stepped
step_good st store piece arrays all shape =
    let before = good st.conn arrays (shaped st.conn shape) in
    by_test (eqb (step_refusal st.conn store) 0)
    (λ e. by_test (eqb (length piece) 0) (λ z. simp (e, z) before) (λ z. simp (e, z) (good_advances st store before piece (reads_fit _ piece before.frame.position.held before.frame.bytes all))))
    (λ e. simp e before)

-- A step leaves a state in shape, whatever the piece, also where it is refused.
pub step_in_shape : (st : State) (store piece : List ℕ) → Arrays st.conn → AllBytes piece → in_shape st.conn ≡ true
    → in_shape (stepped st store piece).state.conn ≡ true
step_in_shape st store piece arrays all shape = good_shape _ (step_good st store piece arrays all shape)

-- A step leaves the arrays as the types say; a state out of shape is refused and stays.
pub step_keeps_arrays : (st : State) (store piece : List ℕ) → Arrays st.conn → AllBytes piece → Arrays (stepped st store piece).state.conn
unfolding stepped step_refusal
step_keeps_arrays st store piece arrays all =
    by_test (in_shape st.conn)
    (λ e. good_arrays _ (step_good st store piece arrays all e))
    (λ e. by_test (eqb (length store) STORE) (λ s. simp (s, e) arrays) (λ s. simp (s, e) arrays))
