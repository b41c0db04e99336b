-- A step over one byte is the machine's item of that byte.
use Rattle.std.specs.Prelude.{◌≡◌, List, [], ◌∷◌, ◌++◌, Bool, true, false, length, take, drop}
use Rattle.std.proofs.Math.Path.{refl, ap}
use Rattle.std.proofs.Common.{sym, ◌∙◌, subst, length-append, take_all, take_at, length-take-le, lt-ltb, le-ltb}
use Rattle.std.proofs.Math.Option.{none}
use Prim.Native.Nat.{ℕ, zero, suc, ◌+◌, ◌-◌, ◌≤◌, ◌<◌, min}
use native.Mathlib.Omega.{arith}
use Rattle.wire.specs.Buffer.{put_at}
use Rattle.wire.proofs.BufferLaws.{put_length}
use Rattle.record.specs.Header.{header_of}
use Rattle.record_reader.specs.Position.{held_and}
use Rattle.record_reader.specs.declared.Position.{Position}
use Rattle.machine.specs.Timeline.{ByteItem}
use Rattle.machine.specs.Machine.{Skip, AtHeader, with_left, header_byte, record_byte, on_item, as_list}
use Rattle.connection.specs.declared.state.Table.{Table}
use Rattle.connection.specs.declared.state.Target.{Target as Aim}
use Rattle.connection.specs.declared.state.Frame.{Frame}
use Rattle.connection.specs.Event.{Event}
use Rattle.connection.specs.Step.{State, Left, leaves, frame_at, reads, judged, on_target, advances, stepped}
use Rattle.connection.proofs.Laws.ShapeLaws.{Shaped, shaped}
use Rattle.connection.proofs.Laws.Progress.{Fits, fits_admitted, less_content, less_padding, in_content, in_padding, in_header_lem, in_part, in_whole, by_header, step_advances}
use Rattle.connection.proofs.Laws.StepSizes.{Sizes}
use Rattle.connection.specs.Runs.Receiver.{receiver}
use Rattle.connection.proofs.Runs.Loading.{loaded_slots, loaded_target, reading_at, loaded_when, loaded}
use Rattle.connection.proofs.Runs.Telling.{told_all}
use Rattle.connection.proofs.Runs.Linking.{HeaderUsed, Links, open_at, links_reads, links_judged}
use Rattle.connection.proofs.Runs.LinkingContent.{links_content}

-- ---- a step over one byte, phase by phase
module _ (st : State) (store : List ℕ) (b : ℕ) (fits : Fits st.conn store) where
  -- the reader's position
  abbrev pub pos : Position
  pos = st.conn.frame.position

  -- within content
  pub step_content : 0 < pos.content → stepped st store (b ∷ []) ≡ leaves 1 (on_target st.conn.frame.target st store (b ∷ []) (less_content pos 1))
  unfolding advances
  step_content some =
      let m : min pos.content (length (b ∷ [])) ≡ 1 = omega arith in
      step_advances st store (b ∷ []) (fits_admitted st.conn store fits) (omega arith)
      ∙ ap (advances st store (b ∷ [])) (in_content pos (b ∷ []) some)
      ∙ ap (λ (n : ℕ). leaves n (on_target st.conn.frame.target st store (take n (b ∷ [])) (less_content pos n))) m

  -- within padding
  pub step_padding : pos.content ≡ 0 → 0 < pos.padding → stepped st store (b ∷ []) ≡ leaves 1 (reads st store (frame_at st.conn.frame (less_padding pos 1)) Event.None)
  unfolding advances
  step_padding z some =
      let m : min pos.padding (length (b ∷ [])) ≡ 1 = omega arith in
      step_advances st store (b ∷ []) (fits_admitted st.conn store fits) (omega arith)
      ∙ ap (advances st store (b ∷ [])) (in_padding pos (b ∷ []) z some)
      ∙ ap (λ (n : ℕ). leaves n (reads st store (frame_at st.conn.frame (less_padding pos n)) Event.None)) m

  -- the position in a header with the byte
  abbrev pub with_byte : Position
  with_byte = record { content = 0; padding = 0; held = pos.held + length (b ∷ []); header = put_at pos.header pos.held (b ∷ []) }

  -- within a header, which the byte does not make whole
  pub step_part : pos.content ≡ 0 → pos.padding ≡ 0 → pos.held + length (b ∷ []) < 8
      → stepped st store (b ∷ []) ≡ leaves 1 (reads st store (frame_at st.conn.frame with_byte) Event.None)
  unfolding advances
  step_part z w room =
      step_advances st store (b ∷ []) (fits_admitted st.conn store fits) (omega arith)
      ∙ ap (advances st store (b ∷ [])) (in_header_lem pos (b ∷ []) z w ∙ in_part pos.held pos.header (b ∷ []) room)

  step_whole : pos.content ≡ 0 → pos.padding ≡ 0 → pos.held + length (b ∷ []) ≡ 8
      → stepped st store (b ∷ []) ≡ leaves 1 (judged st store (header_of (put_at pos.header pos.held (b ∷ []))))
  unfolding advances
  step_whole z w full =
      let m : 8 - pos.held ≡ 1 = omega arith in
      step_advances st store (b ∷ []) (fits_admitted st.conn store fits) (omega arith)
      ∙ ap (advances st store (b ∷ [])) (in_header_lem pos (b ∷ []) z w ∙ in_whole pos.held pos.header (b ∷ []) (omega arith) (omega arith))
      ∙ ap (λ (n : ℕ). leaves n (judged st store (header_of (held_and pos.held pos.header n (b ∷ []))))) m

-- ---- header bytes
-- the header bytes held, with more of them
held_more : (h : List ℕ) (n : ℕ) (x : List ℕ) → n + length x ≤ length h → take (n + length x) (put_at h n x) ≡ take n h ++ x
held_more h n x room =
    let l : length (take n h ++ x) ≡ n + length x = omega (arith, length-append (take n h) x, length-take-le n h (omega arith)) in
    take_at (take n h ++ x) (drop (n + length x) h) (n + length x) l

held_all : (h : List ℕ) (n : ℕ) (x : List ℕ) → n + length x ≡ length h → put_at h n x ≡ take n h ++ x
held_all h n x all =
    sym (take_all (n + length x) (put_at h n x) (omega (arith, put_length h n x (omega arith)))) ∙ held_more h n x (omega arith)

-- ---- one byte
-- What a step over the byte leaves, linked with the machine's item.
pub record LinkedByte (st : State) (store : List ℕ) (b : ℕ) : Type 0 where
  pub left : Left
  pub is : stepped st store (b ∷ []) ≡ leaves 1 left
  pub links : Links left b (on_item receiver (loaded st store) (ByteItem b))

module _ (t : Table) (held : ℕ) (header : List ℕ) (target : Aim) (n : ℕ) (body gathered store : List ℕ) (b : ℕ) where
  -- an open state with so much left
  abbrev standing_at : ℕ → ℕ → State
  standing_at c pad =
      open_at t (record { position = record { content = c; padding = pad; held = held; header = header }; target = target; gathered = n; body = body }) gathered store b

  byte_content : (c pad : ℕ) → Sizes (standing_at (suc c) pad) store → Fits (standing_at (suc c) pad).conn store → held ≡ 0 → LinkedByte (standing_at (suc c) pad) store b
  unfolding loaded_when on_item record_byte
  byte_content c pad sizes fits none_held =
      let s = standing_at (suc c) pad in
      let e : suc c - 1 ≡ c = omega arith in
      record {
        left = on_target target s store (b ∷ []) (record { content = c; padding = pad; held = held; header = header });
        is = step_content s store b fits (omega arith)
            ∙ ap (λ k. leaves 1 (on_target target s store (b ∷ []) (record { content = k; padding = pad; held = held; header = header }))) e;
        links = links_content t s.conn.frame.position n body gathered store b sizes.table sizes.full pad held header none_held c target sizes.body sizes.gathered
            (shaped s.conn fits.shape).target;
      }

  padding_reading : (pad : ℕ) → held ≡ 0 → reading_at 0 pad (take held header) (loaded_target target n body gathered) ≡ with_left receiver Skip 0 pad
  unfolding with_left
  padding_reading zero e = rw e
  padding_reading (suc pad) e = refl

  byte_padding : (pad : ℕ) → Fits (standing_at 0 (suc pad)).conn store → held ≡ 0 → LinkedByte (standing_at 0 (suc pad)) store b
  unfolding loaded_when on_item record_byte told_all as_list
  byte_padding pad fits none_held =
      let s = standing_at 0 (suc pad) in
      let e : suc pad - 1 ≡ pad = omega arith in
      let f' : Frame = record { position = record { content = 0; padding = pad; held = held; header = header }; target = target; gathered = n; body = body } in
      record {
        left = reads s store f' Event.None;
        is = step_padding s store b fits refl (omega arith)
            ∙ ap (λ k. leaves 1 (reads s store (frame_at s.conn.frame (record { content = 0; padding = k; held = held; header = header })) Event.None)) e;
        links = links_reads t s.conn.frame gathered store b f' Event.None (with_left receiver Skip 0 pad) none (padding_reading pad none_held) refl (λ w. none_held);
      }

  byte_header : Sizes (standing_at 0 0) store → Fits (standing_at 0 0).conn store → LinkedByte (standing_at 0 0) store b
  unfolding loaded_when on_item record_byte header_byte told_all as_list
  byte_header sizes fits =
      by_header held (b ∷ []) (λ over. absurd (omega (arith, s.position.held))) part (λ low more. whole (omega arith))
    where
      st : State
      st = standing_at 0 0

      s : Shaped (standing_at 0 0).conn
      s = shaped (standing_at 0 0).conn fits.shape

      size : length (take held header ++ b ∷ []) ≡ held + length (b ∷ [])
      size = omega (arith, length-append (take held header) (b ∷ []), length-take-le held header (omega (arith, s.position.held, sizes.header)))

      part : held + length (b ∷ []) < 8 → LinkedByte (standing_at 0 0) store b
      part room =
          let f' : Frame = frame_at st.conn.frame (record { content = 0; padding = 0; held = held + length (b ∷ []); header = put_at header held (b ∷ []) }) in
          record {
            left = reads st store f' Event.None;
            is = step_part st store b fits refl refl room;
            links = subst (λ (w : Bool). Links (reads st store f' Event.None) b (header_byte receiver w (loaded_slots t store) (take held header ++ b ∷ [])))
                (sym (lt-ltb (length (take held header ++ b ∷ [])) 8 (omega (arith, size))))
                (links_reads t st.conn.frame gathered store b f' Event.None (AtHeader (take held header ++ b ∷ [])) none
                (ap (λ l. AtHeader l) (held_more header held (b ∷ []) (omega (arith, sizes.header)))) refl (λ w. absurd (omega arith)));
          }

      whole : held + length (b ∷ []) ≡ 8 → LinkedByte (standing_at 0 0) store b
      whole full =
          let h = take held header ++ b ∷ [] in
          record {
            left = judged st store (header_of h);
            is = step_whole st store b fits refl refl full ∙ ap (λ l. leaves 1 (judged st store (header_of l))) (held_all header held (b ∷ []) (omega (arith, sizes.header)));
            links = subst (λ (w : Bool). Links (judged st store (header_of h)) b (header_byte receiver w (loaded_slots t store) h)) (sym (le-ltb (length h) 8 (omega (arith, size))))
                (links_judged t st.conn.frame gathered store b h sizes.table sizes.full s.table);
          }

  -- all phases
  byte_standing : (c pad : ℕ) → Sizes (standing_at c pad) store → Fits (standing_at c pad).conn store → (0 < c + pad → held ≡ 0) → LinkedByte (standing_at c pad) store b
  byte_standing (suc c) pad sizes fits used = byte_content c pad sizes fits (used (omega arith))
  byte_standing zero (suc pad) sizes fits used = byte_padding pad fits (used (omega arith))
  byte_standing zero zero sizes fits used = byte_header sizes fits

-- A byte that is not refused.
pub byte_linked : (st : State) (store : List ℕ) (b : ℕ) → Sizes st store → Fits st.conn store → HeaderUsed st.conn.frame.position → LinkedByte st store b
byte_linked st store b = go st.conn.«open»
  where
    with_open : Bool → State
    with_open o = record { conn = record { table = st.conn.table; frame = st.conn.frame; «open» = o }; gathered = st.gathered }

    go : (o : Bool) → Sizes (with_open o) store → Fits (with_open o).conn store → HeaderUsed st.conn.frame.position → LinkedByte (with_open o) store b
    go true sizes fits used =
        let f = st.conn.frame in
        let p = f.position in
        byte_standing st.conn.table p.held p.header f.target f.gathered f.body st.gathered store b p.content p.padding sizes fits used
    go false sizes fits used = let z : ◌≡◌ {A = ℕ} 0 1 = cc fits.is_open in absurd (omega arith)
