-- What holds of a reader's position: a step is its bytes one by one, so cutting does not matter; a step uses a byte;
-- and the position agrees with the split.
use Rattle.std.specs.Prelude.{ℕ, zero, suc, ◌+◌, ◌-◌, ◌≤◌, ◌<◌, min, ◌≡◌, refl, true, false, List, [], ◌∷◌, ◌++◌, length, take, replicate, ltb}
use Rattle.std.proofs.Common.{sym, ap, ap₂, ◌∙◌, arith, length-take, take_all, length-take-le, lt-ltb, le-ltb, ltb-true, ltb-false}
use Rattle.std.proofs.lemmas.Bool.{lt-leb}
use Rattle.wire.specs.Test.{by_test}
use Rattle.wire.specs.Buffer.{put_at, copied}
use Rattle.wire.proofs.BufferLaws.{copied_room, put_put, put_none, put_length}
use Rattle.record.specs.Header.{header_of}
use Rattle.record_reader.specs.declared.Position.{Position}
use Rattle.record_reader.specs.declared.Phase.{Phase}
use Rattle.record_reader.specs.declared.Phase.TheVariants.{Content, Padding, Part, Whole}
use Rattle.record_reader.specs.declared.Advanced.{Advanced}
use Rattle.record_reader.specs.Position.{after_header, held_and, in_header, advanced, Proper, after, phases, spread}

-- the bytes of a piece, copied after the header bytes held
pub held_copied : (held : ℕ) (header piece : List ℕ) (used : ℕ) → length header ≡ 8 → held < 8 → used ≡ min (8 - held) (length piece)
    → copied header held (take used piece) ≡ held_and held header used piece
held_copied held header piece used l h e = copied_room header held (take used piece) (omega (arith, length-take used piece))

-- ---- a step in each phase
abbrev pub at : ℕ → ℕ → ℕ → List ℕ → Position
at content padding held header = record { content = content; padding = padding; held = held; header = header }

step_content : (c p k : ℕ) (h x : List ℕ) → 0 < c
    → advanced (at c p k h) x ≡ record { used = min c (length x); phase = Content; position = at (c - min c (length x)) p k h }
unfolding advanced
step_content c p k h x l = simp (lt-ltb 0 c l)

step_padding : (p k : ℕ) (h x : List ℕ) → 0 < p
    → advanced (at 0 p k h) x ≡ record { used = min p (length x); phase = Padding; position = at 0 (p - min p (length x)) k h }
unfolding advanced
step_padding p k h x l = simp (lt-ltb 0 p l)

step_part : (k : ℕ) (h x : List ℕ) → k + length x < 8
    → advanced (at 0 0 k h) x ≡ record { used = length x; phase = Part; position = at 0 0 (k + length x) (put_at h k x) }
unfolding advanced in_header
step_part k h x l =
    let m : min (8 - k) (length x) ≡ length x = omega arith in
    simp (lt-leb 8 k (omega arith), m, lt-ltb (k + length x) 8 l, take_all (length x) x (omega arith))

step_whole : (k : ℕ) (h x : List ℕ) → k < 8 → 8 ≤ k + length x
    → advanced (at 0 0 k h) x
    ≡ record { used = 8 - k; phase = Whole (header_of (put_at h k (take (8 - k) x))); position = after_header (header_of (put_at h k (take (8 - k) x))) }
unfolding advanced in_header
step_whole k h x l g =
    let m : min (8 - k) (length x) ≡ 8 - k = omega arith in
    simp (lt-leb 8 k l, m, le-ltb (k + (8 - k)) 8 (omega arith))

-- ---- bytes one by one
-- what some bytes do: the position after them, and what each was
abbrev pub Does : Position → List ℕ → Position → List Phase → Type 0
Does p x q l = (after p x ≡ q) × (phases p x ≡ l)

-- in content and in padding: a count that falls by one with each byte
falls : (q : ℕ → Position) (f : Phase) → ((c b : ℕ) → 0 < c → ((advanced (q c) (b ∷ [])).position ≡ q (c - 1)) × ((advanced (q c) (b ∷ [])).phase ≡ f))
    → (x : List ℕ) (c m : ℕ) → c ≡ length x + m → Does (q c) x (q m) (replicate (length x) f)
unfolding after phases
falls q f one [] c m e = let z : c ≡ m = omega arith in (ap q z, refl)
falls q f one (b ∷ x) c m e =
    let s = one c b (omega arith) in
    let i = falls q f one x (c - 1) m (omega arith) in
    (rw s.0 i.0, ap₂ (λ (a : Phase) (l : List Phase). a ∷ l) s.1 (rw s.0 i.1))

pub content_falls : (p k : ℕ) (h x : List ℕ) (c m : ℕ) → c ≡ length x + m → Does (at c p k h) x (at m p k h) (replicate (length x) Content)
content_falls p k h = falls (λ c. at c p k h) Content one
  where
    one : (c b : ℕ) → 0 < c → ((advanced (at c p k h) (b ∷ [])).position ≡ at (c - 1) p k h) × ((advanced (at c p k h) (b ∷ [])).phase ≡ Content)
    one c b l =
        let s = step_content c p k h (b ∷ []) l in
        let m : min c 1 ≡ 1 = omega arith in
        (ap (λ (a : Advanced). a.position) s ∙ ap (λ (n : ℕ). at (c - n) p k h) m, ap (λ (a : Advanced). a.phase) s)

pub padding_falls : (k : ℕ) (h x : List ℕ) (c m : ℕ) → c ≡ length x + m → Does (at 0 c k h) x (at 0 m k h) (replicate (length x) Padding)
padding_falls k h = falls (λ c. at 0 c k h) Padding one
  where
    one : (c b : ℕ) → 0 < c → ((advanced (at 0 c k h) (b ∷ [])).position ≡ at 0 (c - 1) k h) × ((advanced (at 0 c k h) (b ∷ [])).phase ≡ Padding)
    one c b l =
        let s = step_padding c k h (b ∷ []) l in
        let m : min c 1 ≡ 1 = omega arith in
        (ap (λ (a : Advanced). a.position) s ∙ ap (λ (n : ℕ). at 0 (c - n) k h) m, ap (λ (a : Advanced). a.phase) s)

-- in a header, up to the seventh byte
pub part_grows : (x : List ℕ) (k : ℕ) (h : List ℕ) → length h ≡ 8 → k + length x < 8 → Does (at 0 0 k h) x (at 0 0 (k + length x) (put_at h k x)) (replicate (length x) Part)
unfolding after phases
part_grows [] k h l g = let z : k ≡ k + 0 = omega arith in (ap₂ (at 0 0) z (sym (put_none h k)), refl)
part_grows (b ∷ x) k h l g =
    let s = step_part k h (b ∷ []) (omega arith) in
    let i = part_grows x (k + 1) (put_at h k (b ∷ [])) (put_length h k (b ∷ []) (omega arith) ∙ l) (omega arith) in
    let n : k + 1 + length x ≡ k + length (b ∷ x) = omega arith in
    (rw s (i.0 ∙ ap₂ (at 0 0) n (put_put h k (k + 1) (b ∷ []) x refl (omega arith))), ap₂ (λ (a : Phase) (l : List Phase). a ∷ l) (ap (λ (a : Advanced). a.phase) s) (rw s i.1))

-- and with the eighth
pub whole_comes : (x : List ℕ) (k : ℕ) (h : List ℕ) → length h ≡ 8 → 0 < length x → k + length x ≡ 8
    → Does (at 0 0 k h) x (after_header (header_of (put_at h k x))) (spread (length x) (Whole (header_of (put_at h k x))))
unfolding after phases spread
whole_comes [] k h l some e = absurd (omega arith)
whole_comes (b ∷ []) k h l some e =
    let one : 8 - k ≡ 1 = omega arith in
    let s = rw one at (step_whole k h (b ∷ []) (omega arith) (omega arith)) in
    (ap (λ (a : Advanced). a.position) s, ap (λ (a : Advanced). a.phase ∷ []) s)
whole_comes (b ∷ c ∷ x) k h l some e =
    let s = step_part k h (b ∷ []) (omega arith) in
    let i = whole_comes (c ∷ x) (k + 1) (put_at h k (b ∷ [])) (put_length h k (b ∷ []) (omega arith) ∙ l) (omega arith) (omega arith) in
    let j = put_put h k (k + 1) (b ∷ []) (c ∷ x) refl (omega arith) in
    let two : suc (suc (length x)) - 1 ≡ suc (length x) = omega arith in
    let one : suc (length x) - 1 ≡ length x = omega arith in (
      rw s (i.0 ∙ ap (λ (u : List ℕ). after_header (header_of u)) j),
      rw two
          (ap₂ (λ (a : Phase) (l : List Phase). a ∷ l) (ap (λ (a : Advanced). a.phase) s)
          (rw s (i.1 ∙ ap₂ (λ (n : ℕ) (u : List ℕ). replicate n Part ++ (Whole (header_of u) ∷ [])) one j))),
    )

-- ---- a step is its bytes, one by one
-- the bytes that a step uses, where it goes, and what they were
pub record Bytewise (p : Position) (x : List ℕ) (a : Advanced) : Type 0 where
  pub position : after p (take a.used x) ≡ a.position
  pub phase : phases p (take a.used x) ≡ spread a.used a.phase

in_content : (c p k : ℕ) (h x : List ℕ) → 0 < c → Bytewise (at c p k h) x (advanced (at c p k h) x)
unfolding spread
in_content c p k h x l =
    let n = min c (length x) in
    let t : length (take n x) ≡ n = length-take-le n x (omega arith) in
    let d = content_falls p k h (take n x) c (c - n) (omega arith) in
    rw (step_content c p k h x l) (record { position = d.0; phase = d.1 ∙ ap (λ (m : ℕ). replicate m Content) t })

in_padding : (c k : ℕ) (h x : List ℕ) → 0 < c → Bytewise (at 0 c k h) x (advanced (at 0 c k h) x)
unfolding spread
in_padding c k h x l =
    let n = min c (length x) in
    let t : length (take n x) ≡ n = length-take-le n x (omega arith) in
    let d = padding_falls k h (take n x) c (c - n) (omega arith) in
    rw (step_padding c k h x l) (record { position = d.0; phase = d.1 ∙ ap (λ (m : ℕ). replicate m Padding) t })

in_head : (k : ℕ) (h x : List ℕ) → length h ≡ 8 → k < 8 → Bytewise (at 0 0 k h) x (advanced (at 0 0 k h) x)
unfolding spread
in_head k h x l g = by_test (ltb (k + length x) 8) part whole
  where
    part : ltb (k + length x) 8 ≡ true → Bytewise (at 0 0 k h) x (advanced (at 0 0 k h) x)
    part t =
        let s : k + length x < 8 = ltb-true (k + length x) 8 t in
        let a : take (length x) x ≡ x = take_all (length x) x (omega arith) in
        let d = part_grows x k h l s in
        rw (step_part k h x s) (record { position = rw a d.0; phase = rw a d.1 })

    whole : ltb (k + length x) 8 ≡ false → Bytewise (at 0 0 k h) x (advanced (at 0 0 k h) x)
    whole t =
        let s : 8 ≤ k + length x = ltb-false (k + length x) 8 t in
        let n : length (take (8 - k) x) ≡ 8 - k = length-take-le (8 - k) x (omega arith) in
        let d = whole_comes (take (8 - k) x) k h l (omega arith) (omega arith) in
        rw (step_whole k h x g s) (record { position = d.0; phase = d.1 ∙ ap (λ (m : ℕ). spread m (Whole (header_of (put_at h k (take (8 - k) x))))) n })

-- by the phases of a proper position: content, padding, header
by_phase : (P : Position → Type 0)
    → ((c p k : ℕ) (h : List ℕ) → length h ≡ 8 → k < 8 → 0 < c → P (at c p k h))
    → ((c k : ℕ) (h : List ℕ) → length h ≡ 8 → k < 8 → 0 < c → P (at 0 c k h))
    → ((k : ℕ) (h : List ℕ) → length h ≡ 8 → k < 8 → P (at 0 0 k h))
    → (p : Position) → Proper p → P p
by_phase P content padding head p proper = go p.content p.padding
  where
    go : (c q : ℕ) → P (record { content = c; padding = q; held = p.held; header = p.header })
    go (suc c) q = content (suc c) q p.held p.header proper.eight proper.held (omega arith)
    go zero (suc q) = padding (suc q) p.held p.header proper.eight proper.held (omega arith)
    go zero zero = head p.held p.header proper.eight proper.held

pub step_bytes : (p : Position) → Proper p → (x : List ℕ) → Bytewise p x (advanced p x)
step_bytes p proper x =
    by_phase (λ q. Bytewise q x (advanced q x)) (λ c q k h e g l. in_content c q k h x l) (λ c k h e g l. in_padding c k h x l) (λ k h e g. in_head k h x e g) p proper

-- ---- progress
-- A step uses no more than there is, and at least one byte of a piece that is not empty.
pub uses_some : (p : Position) → Proper p → (x : List ℕ) → 0 < length x → (0 < (advanced p x).used) × ((advanced p x).used ≤ length x)
uses_some p proper x some =
    by_phase (λ q. (0 < (advanced q x).used) × ((advanced q x).used ≤ length x))
    (λ c q k h e g l. rw (step_content c q k h x l) (omega arith, omega arith))
    (λ c k h e g l. rw (step_padding c k h x l) (omega arith, omega arith))
    (λ k h e l.
    by_test (ltb (k + length x) 8)
    (λ t. rw (step_part k h x (ltb-true (k + length x) 8 t)) (omega arith, omega arith))
    (λ t. let g : 8 ≤ k + length x = ltb-false (k + length x) 8 t in rw (step_whole k h x l g) (omega arith, omega arith)))
    p proper

-- A position that is proper stays so.
pub stays_proper : (p : Position) → Proper p → (x : List ℕ) → Proper (advanced p x).position
stays_proper p proper x =
    by_phase (λ q. Proper (advanced q x).position)
    (λ c q k h e g l. rw (step_content c q k h x l) (record { held = g; eight = e }))
    (λ c k h e g l. rw (step_padding c k h x l) (record { held = g; eight = e }))
    (λ k h e g.
    by_test (ltb (k + length x) 8)
    (λ t. let s : k + length x < 8 = ltb-true (k + length x) 8 t in rw (step_part k h x s) (record { held = s; eight = put_length h k x (omega arith) ∙ e }))
    (λ t. rw (step_whole k h x g (ltb-false (k + length x) 8 t)) (record { held = omega arith; eight = refl })))
    p proper

-- ---- cutting
-- Bytes in two pieces are the same bytes in one.
pub after_append : (p : Position) (x y : List ℕ) → after p (x ++ y) ≡ after (after p x) y
unfolding after
after_append p [] y = refl
after_append p (b ∷ x) y = after_append (advanced p (b ∷ [])).position x y

pub phases_append : (p : Position) (x y : List ℕ) → phases p (x ++ y) ≡ phases p x ++ phases (after p x) y
unfolding after phases
phases_append p [] y = refl
phases_append p (b ∷ x) y = ap (λ (l : List Phase). (advanced p (b ∷ [])).phase ∷ l) (phases_append (advanced p (b ∷ [])).position x y)
