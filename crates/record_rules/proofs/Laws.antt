-- Cutting does not matter to a reader of records, whatever its rules.
use Prim.Native.Nat.{ℕ, zero, suc, ◌+◌, ◌-◌, ◌≤◌, ◌<◌, min}
use Rattle.std.specs.Prelude.{◌≡◌, true, take, drop, ltb}
use Rattle.std.proofs.Math.Path.{refl, sym, ap}
use Rattle.std.proofs.Common.{ap₂, ◌∙◌, subst, arith, take-append-drop, take_all, length-take-le}
use Rattle.std.proofs.Math.Bool.{false}
use mathlib.Core.List.{List, [], ◌∷◌, ◌++◌, append-nil, append_assoc}
use Rattle.std.proofs.Math.ListN.{length, length-drop}
use Rattle.std.proofs.Math.Dec.{eqb}
use borrow.Author.Tests.{le-ltb, lt-leb, ltb-true, ltb-false, ne_eqb}
use Rattle.wire.specs.Test.{by_test}
use Rattle.wire.specs.Buffer.{put_at}
use Rattle.wire.proofs.BufferLaws.{put_put, put_length}
use Rattle.record.specs.Header.{header_of}
use Rattle.record.specs.declared.header.Header.{Header}
use Rattle.record_reader.specs.Position.{after_header, in_header, advanced, Proper}
use Rattle.record_reader.proofs.PositionLaws.{at, uses_some}
use Rattle.record_reader.specs.declared.Position.{Position}
use Rattle.record_reader.specs.declared.Phase.{Phase}
use Rattle.record_reader.specs.declared.Advanced.{Advanced}
use Rattle.record_rules.specs.Rules.{Left, Rules, Reader, reader_at, Run, resting, and_then, standing, on_phase, used, step, by_byte, fed, fed_pieces, left_of, joined, Lawful}
use Rattle.record_rules.proofs.PositionWhole.{in_content, in_padding, in_part, in_whole, advanced_only}

module _ (R : Rules) (L : Lawful R) where
  open R use {State, Note, is_open, judged, taken}
  open L use {Ready, judged_ready, taken_ready, taken_open, taken_cut, closed_ready}

  -- ---- one step, where a piece is used whole
  -- by what the position does with it
  step_by : (p : Position) (s : State) (x : List ℕ) (q : Position) (f : Phase) → is_open s ≡ true → 0 < length x
      → advanced p x ≡ record { used = length x; phase = f; position = q }
      → (step R (reader_at R p s) x ≡ on_phase R f s x q) × (used R (reader_at R p s) x ≡ length x)
  unfolding step used
  step_by p s x q f o some e =
      let ne : eqb (length x) 0 ≡ false = ne_eqb (length x) 0 (λ z. omega arith) in (
        simp (o, ne)
            (ap (λ (a : Advanced). on_phase R a.phase s (take a.used x) a.position) e
            ∙ ap (λ (u : List ℕ). on_phase R f s u q) (take_all (length x) x (omega arith))),
        simp (o, ne) (ap (λ (a : Advanced). a.used) e),
      )

  -- a step uses the piece whole, and leads there
  abbrev pub Steps : Reader R → List ℕ → Run R → Type 0
  Steps a x r = (step R a x ≡ r) × (used R a x ≡ length x)

  -- the header that is whole with these bytes
  abbrev whole_of : Position → List ℕ → Header
  whole_of p x = header_of (put_at p.header p.held x)

  module _ (p : Position) (s : State) (x : List ℕ) (o : is_open s ≡ true) (some : 0 < length x) where
    pub step_content : (n : ℕ) → p.content ≡ length x + n → Steps (reader_at R p s) x (standing R (at n p.padding p.held p.header) (taken s x n))
    step_content n e = step_by p s x _ Phase.Content o some (in_content p x n some e)

    pub step_padding : (n : ℕ) → p.content ≡ 0 → p.padding ≡ length x + n → Steps (reader_at R p s) x (resting R (reader_at R (at 0 n p.held p.header) s))
    step_padding n z e = step_by p s x _ Phase.Padding o some (in_padding p x n some z e)

    step_part : p.content ≡ 0 → p.padding ≡ 0 → p.held + length x < 8
        → Steps (reader_at R p s) x (resting R (reader_at R (at 0 0 (p.held + length x) (put_at p.header p.held x)) s))
    step_part z y l = step_by p s x _ Phase.Part o some (in_part p x z y l)

    pub step_whole : p.content ≡ 0 → p.padding ≡ 0 → p.held + length x ≡ 8 → Steps (reader_at R p s) x (standing R (after_header (whole_of p x)) (judged s (whole_of p x)))
    step_whole z y e = step_by p s x _ (Phase.Whole (whole_of p x)) o some (in_whole p x some z y e)

  -- ---- what a reader keeps
  pub record Fit (a : Reader R) : Type 0 where
    pub proper : Proper a.position
    pub ready : Ready a.inner a.position.content

  -- behind what a rule left, that is ready for so much content
  fit_standing : (q : Position) (l : Left State Note) → Proper q → Ready l.state q.content → Fit (standing R q l).reader
  fit_standing q l proper ready =
      by_test (is_open l.state)
      (λ o. rw o (record { proper = proper; ready = ready }))
      (λ o. rw o (record { proper = record { held = omega arith; eight = refl }; ready = closed_ready l.state q.content o ready }))

  -- ---- a piece that is used whole, by its phase
  pub used_advanced : (p : Position) (s : State) (x : List ℕ) → is_open s ≡ true → 0 < length x → used R (reader_at R p s) x ≡ (advanced p x).used
  unfolding used
  used_advanced p s x o some = simp (o, ne_eqb (length x) 0 (λ z. omega arith))

  pub step_advanced : (p : Position) (s : State) (x : List ℕ) → is_open s ≡ true → 0 < length x
      → step R (reader_at R p s) x ≡ on_phase R (advanced p x).phase s (take (advanced p x).used x) (advanced p x).position
  unfolding step
  step_advanced p s x o some = simp (o, ne_eqb (length x) 0 (λ z. omega arith))

  by_way : {P : Type 0} (p : Position) (s : State) (x : List ℕ) → Proper p → is_open s ≡ true → 0 < length x → used R (reader_at R p s) x ≡ length x
      → ((n : ℕ) → p.content ≡ length x + n → P)
      → ((n : ℕ) → p.content ≡ 0 → p.padding ≡ length x + n → P)
      → (p.content ≡ 0 → p.padding ≡ 0 → p.held + length x < 8 → P)
      → (p.content ≡ 0 → p.padding ≡ 0 → p.held + length x ≡ 8 → P)
      → P
  unfolding advanced in_header
  by_way p s x proper o some all content padding part whole =
      let e : (advanced p x).used ≡ length x = sym (used_advanced p s x o some) ∙ all in
      by_test (ltb 0 p.content)
      (λ t. let u : min p.content (length x) ≡ length x = simp t at e in content (p.content - length x) (omega arith))
      (λ t.
      let z : p.content ≡ 0 = omega (arith, ltb-false 0 p.content t) in
      by_test (ltb 0 p.padding)
      (λ v. let u : min p.padding (length x) ≡ length x = simp (t, v) at e in padding (p.padding - length x) z (omega arith))
      (λ v.
      let y : p.padding ≡ 0 = omega (arith, ltb-false 0 p.padding v) in
      by_test (ltb (p.held + length x) 8)
      (λ w. part z y (ltb-true (p.held + length x) 8 w))
      (λ w.
      let m : min (8 - p.held) (length x) ≡ 8 - p.held = omega (arith, ltb-false (p.held + length x) 8 w, proper.held) in
      let u : 8 - p.held ≡ length x = simp (t, v, lt-leb 8 p.held proper.held, m, le-ltb (p.held + (8 - p.held)) 8 (omega (arith, proper.held))) at e in
      whole z y (omega (arith, proper.held)))))

  -- ---- a byte and more
  pub record Cut (a : Reader R) (b : ℕ) (x : List ℕ) : Type 0 where
    pub is_open_still : is_open (step R a (b ∷ [])).reader.inner ≡ true
    pub all_used : used R (step R a (b ∷ [])).reader x ≡ length x
    pub same : step R a (b ∷ x) ≡ and_then R (step R a (b ∷ [])) (λ c. step R c x)

  cut_from : (a : Reader R) (b : ℕ) (x : List ℕ) (c : Reader R) (l : List Note) (r : Run R)
      → step R a (b ∷ []) ≡ record { reader = c; notes = l } → is_open c.inner ≡ true → Steps c x r
      → step R a (b ∷ x) ≡ record { reader = r.reader; notes = l ++ r.notes } → Cut a b x
  cut_from a b x c l r one o two whole =
      record {
        is_open_still = rw one o;
        all_used = rw one two.1;
        same = whole ∙ sym (ap (λ (w : Run R). and_then R w (λ c. step R c x)) one ∙ ap (λ (w : Run R). record { reader = w.reader; notes = l ++ w.notes }) two.0);
      }

  module _ (p : Position) (s : State) (b : ℕ) (x : List ℕ) (fit : Fit (reader_at R p s)) (o : is_open s ≡ true) (some : 0 < length x) where
    cut_content : (n : ℕ) → p.content ≡ suc (length x) + n → Cut (reader_at R p s) b x
    cut_content n e =
        let one = (step_content p s (b ∷ []) o (omega arith) (length x + n) (omega arith)).0 in
        let first = taken s (b ∷ []) (length x + n) in
        let open1 : is_open first.state ≡ true = taken_open s (b ∷ []) (length x + n) (omega arith) o in
        let q = at (length x + n) p.padding p.held p.header in
        let two = step_content q first.state x open1 some n refl in
        let whole = (step_content p s (b ∷ x) o (omega arith) n e).0 in
        let ready : Ready s (suc (length x) + n) = subst (Ready s) e fit.ready in
        cut_from (reader_at R p s) b x (reader_at R q first.state) first.notes (standing R (at n p.padding p.held p.header) (taken first.state x n))
        (one ∙ rw open1) open1 two
        (whole ∙ ap (standing R (at n p.padding p.held p.header)) (taken_cut s b x n ready some))

    cut_padding : (n : ℕ) → p.content ≡ 0 → p.padding ≡ suc (length x) + n → Cut (reader_at R p s) b x
    cut_padding n z e =
        let q = at 0 (length x + n) p.held p.header in
        cut_from (reader_at R p s) b x (reader_at R q s) [] (resting R (reader_at R (at 0 n p.held p.header) s))
        (step_padding p s (b ∷ []) o (omega arith) (length x + n) z (omega arith)).0 o
        (step_padding q s x o some n refl refl)
        (step_padding p s (b ∷ x) o (omega arith) n z e).0

    cut_part : p.content ≡ 0 → p.padding ≡ 0 → p.held + suc (length x) < 8 → Cut (reader_at R p s) b x
    cut_part z y l =
        let q = at 0 0 (p.held + 1) (put_at p.header p.held (b ∷ [])) in
        let n : p.held + 1 + length x ≡ p.held + suc (length x) = omega arith in
        let j = put_put p.header p.held (p.held + 1) (b ∷ []) x refl (omega (arith, fit.proper.eight)) in
        cut_from (reader_at R p s) b x (reader_at R q s) [] (resting R (reader_at R (at 0 0 (p.held + 1 + length x) (put_at q.header (p.held + 1) x)) s))
        (step_part p s (b ∷ []) o (omega arith) z y (omega arith)).0 o
        (step_part q s x o some refl refl (omega arith))
        ((step_part p s (b ∷ x) o (omega arith) z y l).0 ∙ ap₂ (λ (k : ℕ) (u : List ℕ). resting R (reader_at R (at 0 0 k u) s)) (sym n) (sym j))

    cut_whole : p.content ≡ 0 → p.padding ≡ 0 → p.held + suc (length x) ≡ 8 → Cut (reader_at R p s) b x
    cut_whole z y e =
        let q = at 0 0 (p.held + 1) (put_at p.header p.held (b ∷ [])) in
        let j = put_put p.header p.held (p.held + 1) (b ∷ []) x refl (omega (arith, fit.proper.eight)) in
        cut_from (reader_at R p s) b x (reader_at R q s) [] (standing R (after_header (whole_of q x)) (judged s (whole_of q x)))
        (step_part p s (b ∷ []) o (omega arith) z y (omega arith)).0 o
        (step_whole q s x o some refl refl (omega arith))
        ((step_whole p s (b ∷ x) o (omega arith) z y e).0 ∙ ap (λ (u : List ℕ). standing R (after_header (header_of u)) (judged s (header_of u))) (sym j))

    cut_step : used R (reader_at R p s) (b ∷ x) ≡ suc (length x) → Cut (reader_at R p s) b x
    cut_step all = by_way p s (b ∷ x) fit.proper o (omega arith) all cut_content cut_padding cut_part cut_whole

  -- ---- what a reader keeps, over a piece that is used whole
  fit_step : (a : Reader R) (x : List ℕ) → Fit a → is_open a.inner ≡ true → 0 < length x → used R a x ≡ length x → Fit (step R a x).reader
  fit_step a x fit o some all =
      let p = a.position in
      let s = a.inner in
      by_way p s x fit.proper o some all
      (λ n e.
      rw (step_content p s x o some n e).0
      (fit_standing (at n p.padding p.held p.header) (taken s x n) (record { held = fit.proper.held; eight = fit.proper.eight })
      (taken_ready s x n (subst (Ready s) e fit.ready))))
      (λ n z e.
      rw (step_padding p s x o some n z e).0
      (record { proper = record { held = fit.proper.held; eight = fit.proper.eight }; ready = subst (Ready s) z fit.ready }))
      (λ z y l.
      rw (step_part p s x o some z y l).0
      (record {
        proper = record { held = l; eight = put_length p.header p.held x (omega (arith, fit.proper.eight)) ∙ fit.proper.eight };
        ready = subst (Ready s) z fit.ready;
      }))
      (λ z y e.
      rw (step_whole p s x o some z y e).0
      (fit_standing (after_header (whole_of p x)) (judged s (whole_of p x)) (record { held = omega arith; eight = refl })
      (judged_ready s (whole_of p x) (subst (Ready s) z fit.ready))))

  -- ---- a byte, a step, bytes one by one
  -- a reader that is closed stays where it is
  pub step_shut : (a : Reader R) (x : List ℕ) → is_open a.inner ≡ false → (step R a x ≡ resting R a) × (used R a x ≡ 0)
  unfolding step used
  step_shut a x o = (simp o, simp o)

  pub step_none : (a : Reader R) → (step R a [] ≡ resting R a) × (used R a [] ≡ 0)
  unfolding step used
  step_none a = by_test (is_open a.inner) (λ o. (simp o, simp o)) (λ o. (simp o, simp o))

  -- Progress: an open reader uses a byte at least, and no more than there are.
  pub uses : (a : Reader R) (x : List ℕ) → Fit a → is_open a.inner ≡ true → 0 < length x → (0 < used R a x) × (used R a x ≤ length x)
  uses a x fit o some = rw (used_advanced a.position a.inner x o some) (uses_some a.position fit.proper x some)

  byte_used : (a : Reader R) (b : ℕ) → Fit a → is_open a.inner ≡ true → used R a (b ∷ []) ≡ 1
  byte_used a b fit o = let u = uses a (b ∷ []) fit o (omega arith) in omega arith

  pub fit_byte : (a : Reader R) (b : ℕ) → Fit a → Fit (step R a (b ∷ [])).reader
  fit_byte a b fit =
      by_test (is_open a.inner)
      (λ o. fit_step a (b ∷ []) fit o (omega arith) (byte_used a b fit o))
      (λ o. rw (step_shut a (b ∷ []) o).0 (record { proper = fit.proper; ready = fit.ready }))

  pub fit_bytes : (x : List ℕ) (a : Reader R) → Fit a → Fit (by_byte R a x).reader
  unfolding by_byte
  fit_bytes [] a fit = fit
  fit_bytes (b ∷ x) a fit = fit_bytes x (step R a (b ∷ [])).reader (fit_byte a b fit)

  -- a step that uses its piece whole is its bytes one by one
  pub step_all : (x : List ℕ) (a : Reader R) → Fit a → is_open a.inner ≡ true → used R a x ≡ length x → step R a x ≡ by_byte R a x
  unfolding by_byte
  step_all [] a fit o all = (step_none a).0
  step_all (b ∷ []) a fit o all = ap (λ (l : List Note). record { reader = (step R a (b ∷ [])).reader; notes = l }) (sym (append-nil (step R a (b ∷ [])).notes))
  step_all (b ∷ c ∷ x) a fit o all =
      let k = cut_step a.position a.inner b (c ∷ x) fit o (omega arith) all in
      let ih = step_all (c ∷ x) (step R a (b ∷ [])).reader (fit_byte a b fit) k.is_open_still k.all_used in
      k.same ∙ ap (λ (w : Run R). record { reader = w.reader; notes = (step R a (b ∷ [])).notes ++ w.notes }) ih

  pub by_byte_append : (x : List ℕ) (a : Reader R) (y : List ℕ) → by_byte R a (x ++ y) ≡ and_then R (by_byte R a x) (λ c. by_byte R c y)
  unfolding by_byte
  by_byte_append [] a y = refl
  by_byte_append (b ∷ x) a y =
      let s = step R a (b ∷ []) in
      let r = by_byte R s.reader x in
      ap (λ (w : Run R). record { reader = w.reader; notes = s.notes ++ w.notes }) (by_byte_append x s.reader y)
      ∙ ap (λ (l : List Note). record { reader = (by_byte R r.reader y).reader; notes = l }) (sym (append_assoc s.notes r.notes (by_byte R r.reader y).notes))

  pub by_byte_shut : (x : List ℕ) (a : Reader R) → is_open a.inner ≡ false → by_byte R a x ≡ resting R a
  unfolding by_byte
  by_byte_shut [] a o = refl
  by_byte_shut (b ∷ x) a o =
      ap (λ (w : Run R). and_then R w (λ c. by_byte R c x)) (step_shut a (b ∷ []) o).0
      ∙ ap (λ (w : Run R). record { reader = w.reader; notes = [] ++ w.notes }) (by_byte_shut x a o)

  -- a step rests on the bytes that it used alone
  used_only : (a : Reader R) (x : List ℕ) → Fit a → is_open a.inner ≡ true → 0 < length x
      → (step R a x ≡ step R a (take (used R a x) x)) × (used R a (take (used R a x) x) ≡ length (take (used R a x) x))
  used_only a x fit o some =
      let p = a.position in
      let s = a.inner in
      let u = used R a x in
      let h = uses a x fit o some in
      let n : length (take u x) ≡ u = length-take-le u x h.1 in
      let k = advanced_only p x fit.proper some in
      let e : (advanced p x).used ≡ u = sym (used_advanced p s x o some) in
      let same : advanced p (take u x) ≡ advanced p x = ap (λ (m : ℕ). advanced p (take m x)) (sym e) ∙ k in
      let un : used R a (take u x) ≡ u = used_advanced p s (take u x) o (omega arith) ∙ ap (λ (w : Advanced). w.used) same ∙ e in (
        step_advanced p s x o some
            ∙ ap (λ (m : ℕ). on_phase R (advanced p x).phase s (take m x) (advanced p x).position) e
            ∙ sym (step_advanced p s (take u x) o (omega arith)
            ∙ ap (λ (w : Advanced). on_phase R w.phase s (take w.used (take u x)) w.position) same
            ∙ ap (λ (m : ℕ). on_phase R (advanced p x).phase s (take m (take u x)) (advanced p x).position) e
            ∙ ap (λ (v : List ℕ). on_phase R (advanced p x).phase s v (advanced p x).position) (take_all u (take u x) (omega arith))),
        un ∙ sym n,
      )

  pub by_byte_none : (a : Reader R) → by_byte R a [] ≡ resting R a
  unfolding by_byte
  by_byte_none a = refl

  fed_shut : (k : ℕ) (a : Reader R) (x : List ℕ) → is_open a.inner ≡ false → fed R k a x ≡ resting R a
  unfolding fed
  fed_shut zero a x o = refl
  fed_shut (suc k) a x o =
      ap (λ (w : Run R). and_then R w (λ c. fed R k c (drop (used R a x) x))) (step_shut a x o).0
      ∙ ap (λ (w : Run R). record { reader = w.reader; notes = [] ++ w.notes }) (fed_shut k a (drop (used R a x) x) o)

  fed_none : (k : ℕ) (a : Reader R) → fed R k a (drop (used R a []) []) ≡ resting R a
  unfolding fed
  fed_none zero a = refl
  fed_none (suc k) a = rw (step_none a).1 (ap (λ (w : Run R). and_then R w (λ c. fed R k c (drop (used R a []) []))) (step_none a).0 ∙ ap (λ (w : Run R). record { reader = w.reader; notes = [] ++ w.notes }) (fed_none k a))

  -- ---- cutting
  -- Whatever piece: a step comes to what the bytes that it used come to one by one.
  pub step_by_byte : (a : Reader R) (x : List ℕ) → Fit a → step R a x ≡ by_byte R a (take (used R a x) x)
  step_by_byte a x fit =
      by_test (is_open a.inner)
      (λ o.
      by_test (ltb 0 (length x))
      (λ t.
      let k = used_only a x fit o (ltb-true 0 (length x) t) in
      k.0 ∙ step_all (take (used R a x) x) a fit o k.1)
      (λ t. none x (ltb-false 0 (length x) t)))
      (λ o. let e = step_shut a x o in e.0 ∙ sym (by_byte_shut (take (used R a x) x) a o))
    where
      none : (y : List ℕ) → length y ≤ 0 → step R a y ≡ by_byte R a (take (used R a y) y)
      none [] l = (step_none a).0 ∙ sym (rw (step_none a).1 (by_byte_none a))
      none (b ∷ y) l = absurd (omega arith)

  -- Steps over what is left come to the bytes one by one, if there are as many steps as bytes.
  pub cutting : (k : ℕ) (a : Reader R) (x : List ℕ) → Fit a → length x ≤ k → fed R k a x ≡ by_byte R a x
  unfolding fed
  cutting zero a [] fit l = sym (by_byte_none a)
  cutting zero a (b ∷ x) fit l = absurd (omega arith)
  cutting (suc k) a x fit l =
      by_test (is_open a.inner) (λ o. by_test (ltb 0 (length x)) (λ t. more o (ltb-true 0 (length x) t) (cutting k (step R a x).reader (drop (used R a x) x))) (λ t. none x (ltb-false 0 (length x) t))) shut
    where
      shut : is_open a.inner ≡ false → and_then R (step R a x) (λ c. fed R k c (drop (used R a x) x)) ≡ by_byte R a x
      shut o =
          ap (λ (w : Run R). and_then R w (λ c. fed R k c (drop (used R a x) x))) (step_shut a x o).0
          ∙ ap (λ (w : Run R). record { reader = w.reader; notes = [] ++ w.notes }) (fed_shut k a (drop (used R a x) x) o)
          ∙ sym (by_byte_shut x a o)

      none : (y : List ℕ) → length y ≤ 0 → and_then R (step R a y) (λ c. fed R k c (drop (used R a y) y)) ≡ by_byte R a y
      none [] z =
          let e = step_none a in
          ap (λ (w : Run R). and_then R w (λ c. fed R k c (drop (used R a []) []))) e.0
          ∙ ap (λ (w : Run R). record { reader = w.reader; notes = [] ++ w.notes }) (fed_none k a)
          ∙ sym (by_byte_none a)
      none (b ∷ y) z = absurd (omega arith)

      more : is_open a.inner ≡ true → 0 < length x
          → (Fit (step R a x).reader → length (drop (used R a x) x) ≤ k → fed R k (step R a x).reader (drop (used R a x) x) ≡ by_byte R (step R a x).reader (drop (used R a x) x))
          → and_then R (step R a x) (λ c. fed R k c (drop (used R a x) x)) ≡ by_byte R a x
      more o some next =
          let u = used R a x in
          let h = uses a x fit o some in
          let e = step_by_byte a x fit in
          let fit2 : Fit (step R a x).reader = rw e (fit_bytes (take u x) a fit) in
          let ih = next fit2 (omega (arith, length-drop u x)) in
          ap (λ (w : Run R). record { reader = w.reader; notes = (step R a x).notes ++ w.notes }) ih
          ∙ ap (λ (w : Run R). and_then R w (λ c. by_byte R c (drop u x))) e
          ∙ sym (by_byte_append (take u x) a (drop u x))
          ∙ ap (by_byte R a) (take-append-drop u x)

  -- Fed in any pieces, the bytes come to what they come to one by one.
  pub pieces_by_byte : (pieces : List (List ℕ)) (a : Reader R) → Fit a → fed_pieces R a pieces ≡ by_byte R a (joined pieces)
  unfolding fed_pieces joined
  pieces_by_byte [] a fit = sym (by_byte_none a)
  pieces_by_byte (x ∷ pieces) a fit =
      let r = by_byte R a x in
      ap (λ (w : Run R). and_then R w (λ c. fed_pieces R c pieces)) (cutting (length x) a x fit (omega arith))
      ∙ ap (λ (w : Run R). record { reader = w.reader; notes = r.notes ++ w.notes }) (pieces_by_byte pieces r.reader (fit_bytes x a fit))
      ∙ sym (by_byte_append x a (joined pieces))

  -- So two ways to cut the same bytes come to the same.
  pub any_cutting : (pieces others : List (List ℕ)) (a : Reader R) → Fit a → joined pieces ≡ joined others → fed_pieces R a pieces ≡ fed_pieces R a others
  any_cutting pieces others a fit e = pieces_by_byte pieces a fit ∙ ap (by_byte R a) e ∙ sym (pieces_by_byte others a fit)

  -- ---- all is read while the reader is open
  pub open_before : (x : List ℕ) (a : Reader R) → is_open (by_byte R a x).reader.inner ≡ true → is_open a.inner ≡ true
  open_before x a o =
      by_test (is_open a.inner) (λ t. t) (λ t. let z : ◌≡◌ {A = ℕ} 0 1 = cc (sym o ∙ ap (λ (w : Run R). is_open w.reader.inner) (by_byte_shut x a t) ∙ t) in absurd (omega arith))

  -- From a reader that is open behind them, so many bytes are read in as many steps, and none is left.
  pub all_read : (k : ℕ) (a : Reader R) (x : List ℕ) → Fit a → length x ≤ k → is_open (by_byte R a x).reader.inner ≡ true → left_of R k a x ≡ []
  unfolding left_of
  all_read zero a [] fit l o = refl
  all_read zero a (b ∷ x) fit l o = absurd (omega arith)
  all_read (suc k) a [] fit l o =
      let e = step_none a in
      rw (e.0, e.1) (all_read k a [] fit (omega arith) o)
  all_read (suc k) a (b ∷ x) fit l o =
      let y = b ∷ x in
      let u = used R a y in
      let a-open = open_before y a o in
      let h = uses a y fit a-open (omega arith) in
      let e = step_by_byte a y fit in
      let fit2 : Fit (step R a y).reader = rw e (fit_bytes (take u y) a fit) in
      let whole : by_byte R a y ≡ and_then R (step R a y) (λ c. by_byte R c (drop u y)) =
      ap (by_byte R a) (sym (take-append-drop u y)) ∙ by_byte_append (take u y) a (drop u y) ∙ ap (λ (w : Run R). and_then R w (λ c. by_byte R c (drop u y))) (sym e) in
      all_read k (step R a y).reader (drop u y) fit2 (omega (arith, length-drop u y)) (sym (ap (λ (w : Run R). is_open w.reader.inner) whole) ∙ o)
