-- The quick test tells what the slots' part of row 9 tells.
use Rattle.std.specs.Prelude.{ℕ, zero, suc, ◌+◌, ◌-◌, ◌≤◌, ◌<◌, ◌≡◌, refl, Bool, false, not, ◌||◌, List, [], get_or, eqb, ltb, leb}
use Rattle.std.proofs.Common.{sym, ap, subst, ◌∙◌, ltb-true, ltb-false, leb-true, leb-false, le-ltb, eq-eqb, ne_eqb}
use Rattle.std.proofs.Math.Bool.{true, or-true}
use native.Mathlib.Omega.{arith}
use Rattle.std.specs.Int.Bits.{bit_and}
use Rattle.std.proofs.lemmas.Bool.{eqb-false, not-true}
use Rattle.wire.specs.Test.{by_test, ◌=?◌}
use Rattle.slot_word.specs.Word.{taken}
use Rattle.slot_word.proofs.WordLaws.{taken_out}
use Rattle.connection.specs.declared.state.Table.{Table}
use Rattle.connection.specs.Sizes.{SLOTS, AREA}
use Rattle.connection.specs.Shape.{slots_fit, position_fits, in_shape}
use Rattle.connection.specs.Step.{open_with, no_frame}
use Rattle.connection.proofs.Laws.SlotsLaws.{Holds, Distinct}
use Rattle.connection.proofs.Laws.ShapeLaws.{Tidy, Placed, shaped, in_shape_lem, true_and, and_true}
use Rattle.slot_check.specs.Quick.{any_of, TakenBelow, key_of, key_below, KeysOf, is_nameless, is_long, repeats}
use Rattle.slot_check.proofs.QuickLaws.{none_of, of_none}
use Rattle.slot_check.proofs.TakenLaws.{only_one}

-- ---- a key and the eight after it
-- a key that comes again is found
found_again : (keys : List ℕ) (i : ℕ) → (get_or keys i 0 ≡ 0 → ⊥) → (d : ℕ) → d < 8
    → get_or keys i 0 ≡ get_or keys (i + (d + 1)) 0 → repeats keys i ≡ true
unfolding repeats
found_again keys i some d h e =
    let n = ne_eqb (get_or keys i 0) 0 some in
    let s = eq-eqb (get_or keys i 0) (get_or keys (i + (d + 1)) 0) e in
    go d h s n
  where
    go : (d : ℕ) → d < 8 → eqb (get_or keys i 0) (get_or keys (i + (d + 1)) 0) ≡ true → eqb (get_or keys i 0) 0 ≡ false
        → repeats keys i ≡ true
    go zero h s n = simp (n, s)
    go (suc zero) h s n = simp (n, s, or-true)
    go (suc (suc zero)) h s n = simp (n, s, or-true)
    go (suc (suc (suc zero))) h s n = simp (n, s, or-true)
    go (suc (suc (suc (suc zero)))) h s n = simp (n, s, or-true)
    go (suc (suc (suc (suc (suc zero))))) h s n = simp (n, s, or-true)
    go (suc (suc (suc (suc (suc (suc zero)))))) h s n = simp (n, s, or-true)
    go (suc (suc (suc (suc (suc (suc (suc zero))))))) h s n = simp (n, s, or-true)
    go (suc (suc (suc (suc (suc (suc (suc (suc d)))))))) h s n = absurd (omega arith)

-- one that does not is not
not_again : (keys : List ℕ) (i : ℕ)
    → ((d : ℕ) → d < 8 → (get_or keys i 0 ≡ 0 → ⊥) → get_or keys i 0 ≡ get_or keys (i + (d + 1)) 0 → ⊥)
    → repeats keys i ≡ false
unfolding repeats
not_again keys i none =
    by_test (eqb (get_or keys i 0) 0)
    (λ t. simp t)
    (λ t.
    let some = eqb-false (get_or keys i 0) 0 t in
    simp (
      t,
      no 0 (omega arith) some,
      no 1 (omega arith) some,
      no 2 (omega arith) some,
      no 3 (omega arith) some,
      no 4 (omega arith) some,
      no 5 (omega arith) some,
      no 6 (omega arith) some,
      no 7 (omega arith) some,
    ))
  where
    no : (d : ℕ) → d < 8 → (get_or keys i 0 ≡ 0 → ⊥) → eqb (get_or keys i 0) (get_or keys (i + (d + 1)) 0) ≡ false
    no d h some = ne_eqb (get_or keys i 0) (get_or keys (i + (d + 1)) 0) (none d h some)

-- ---- the slots' part of row 9 and what it says
neither : (a b : Bool) → not (a || b) ≡ true → (a ≡ false) × (b ≡ false)
neither false b e = (refl, not-true b e)
neither true b e = let z : ◌≡◌ {A = ℕ} 0 1 = cc in absurd (omega arith)

module _ (ids lengths : List ℕ) (occupied : ℕ) where
  abbrev slots : Table
  slots =
      record { ids = ids; lengths = lengths; standings = []; keep = 0; out_ended = 0; err_used = 0; err_ended = 0; stdin_shown = []; data_shown = []; occupied = occupied }

  fits_tidy : slots_fit SLOTS ids lengths occupied 0 ≡ true → Tidy slots
  unfolding in_shape position_fits
  fits_tidy e = (shaped (open_with slots no_frame) (true_and (slots_fit SLOTS ids lengths occupied 0) true e refl)).table

  tidy_fits : Tidy slots → slots_fit SLOTS ids lengths occupied 0 ≡ true
  unfolding in_shape
  tidy_fits t =
      let whole = in_shape_lem (open_with slots no_frame) (record { table = t; position = fresh; target = tt }) in
      (and_true (slots_fit SLOTS ids lengths occupied 0) _ whole).0
    where
      fresh : Placed no_frame.position
      fresh = record { held = omega arith; content = omega arith; padding = omega arith }

  -- A test that says that the slots are tidy is the slots' part of row 9.
  row : (b : Bool) → (b ≡ true → Tidy slots) → (Tidy slots → b ≡ true) → b ≡ slots_fit SLOTS ids lengths occupied 0
  row b says holds =
      by_test (slots_fit SLOTS ids lengths occupied 0)
      (λ t. holds (fits_tidy t) ∙ sym t)
      (λ t. by_test b
      (λ u. let f = tidy_fits (says u) in let z : ◌≡◌ {A = ℕ} 0 1 = cc (t, f) in absurd (omega arith))
      (λ u. u ∙ sym t))

  -- ---- the lengths
  pub long_row : any_of SLOTS (is_long lengths) 0 ≡ true → false ≡ slots_fit SLOTS ids lengths occupied 0
  long_row e =
      row false
      (λ u. let z : ◌≡◌ {A = ℕ} 0 1 = cc in absurd (omega arith))
      (λ t. sym (of_none SLOTS (is_long lengths) 0 (λ i a b. fits t i (omega arith))) ∙ e)
    where
      fits : Tidy slots → (i : ℕ) → i < SLOTS → is_long lengths i ≡ false
      fits t i h = le-ltb AREA (get_or lengths i 0) (t.lengths i h)

  module _ (short : any_of SLOTS (is_long lengths) 0 ≡ false) where
    tidy : ((i : ℕ) → Holds slots 0 i → ⊥) → Distinct slots → Tidy slots
    tidy named distinct =
        record { lengths = fits; ids = named; distinct = distinct }
      where
        fits : (i : ℕ) → i < SLOTS → get_or lengths i 0 ≤ AREA
        fits i h =
            ltb-false AREA (get_or lengths i 0) (none_of SLOTS (is_long lengths) 0 short i (omega arith) (omega arith))

    -- ---- no slot taken, or one
    pub none_row : occupied ≡ 0 → true ≡ slots_fit SLOTS ids lengths occupied 0
    none_row e =
        row true
        (λ _. tidy (λ i h. free i h.slot_taken) (λ id i j a b. absurd (free i a.slot_taken)))
        (λ _. refl)
      where
        free : (i : ℕ) → taken i occupied ≡ true → ⊥
        free i t =
            let none = taken_out 0 i occupied (omega arith) (omega arith) in
            let z : ◌≡◌ {A = ℕ} 0 1 = cc (none, t) in
            omega arith

    pub one_row : (one : ℕ) → one < SLOTS → taken one occupied ≡ true → bit_and occupied (occupied - 1) ≡ 0
        → not (get_or ids one 0 =? 0) ≡ slots_fit SLOTS ids lengths occupied 0
    one_row one low is single =
        row (not (get_or ids one 0 =? 0))
        (λ u.
        let some = eqb-false (get_or ids one 0) 0 (not-true (get_or ids one 0 =? 0) u) in
        tidy
        (λ i h. let e = only_one one i occupied single is h.slot_taken in some (rw e h.has_id))
        (λ id i j a b. only_one i j occupied single a.slot_taken b.slot_taken))
        (λ t. simp (ne_eqb (get_or ids one 0) 0 (λ e. t.ids one (record { low = low; slot_taken = is; has_id = e }))))

    -- ---- several, of which all are among the first n
    module _ (n : ℕ) (w : TakenBelow occupied n) (keys : List ℕ) (k : KeysOf ids occupied n keys) where
      below : (i : ℕ) → taken i occupied ≡ true → i < n
      below i t =
          by_test (ltb i n)
          (λ u. ltb-true i n u)
          (λ u. let f = w.free i (ltb-false i n u) in let z : ◌≡◌ {A = ℕ} 0 1 = cc (f, t) in absurd (omega arith))

      -- so the list has the keys of all slots
      key_below_lem : (i : ℕ) → key_below ids occupied n i ≡ key_of ids occupied i
      key_below_lem i = by_test (ltb i n) (λ u. simp u) (λ u. simp (u, w.free i (ltb-false i n u)))

      key_at : (i : ℕ) → i < SLOTS → get_or keys i 0 ≡ key_of ids occupied i
      key_at i h = k.here i h ∙ key_below_lem i

      key_round : (i : ℕ) → i < SLOTS → get_or keys (i + 16) 0 ≡ key_of ids occupied i
      key_round i h = k.again i h ∙ key_below_lem i

      -- the key of a slot that holds an id is that id
      key_is : (id i : ℕ) → Holds slots id i → key_of ids occupied i ≡ id
      key_is id i h = simp h.slot_taken h.has_id

      -- a key that is not 0 is that of a slot taken
      holds_key : (i : ℕ) → i < SLOTS → (key_of ids occupied i ≡ 0 → ⊥) → Holds slots (key_of ids occupied i) i
      holds_key i h some =
          by_test (taken i occupied)
          (λ t. record { low = h; slot_taken = t; has_id = simp t })
          (λ t. absurd (some (simp t)))

      -- ---- nothing found, all is well
      unlike : any_of n (repeats keys) 0 ≡ false → (id i d : ℕ) → (id ≡ 0 → ⊥) → Holds slots id i → d < 8
          → get_or keys (i + (d + 1)) 0 ≡ id → ⊥
      unlike none id i d some a l b =
          let here = key_at i a.low ∙ key_is id i a in
          let no = none_of n (repeats keys) 0 none i (omega arith) (omega (arith, below i a.slot_taken)) in
          let yes = found_again keys i (λ e. some (sym here ∙ e)) d l (here ∙ sym b) in
          let z : ◌≡◌ {A = ℕ} 0 1 = cc (no, yes) in
          omega arith

      -- the later of two slots with one id is at most eight after the earlier one, or the earlier one at most seven
      -- after it, going round
      ordered : any_of n (repeats keys) 0 ≡ false → (id i j : ℕ) → (id ≡ 0 → ⊥) → i < j
          → Holds slots id i → Holds slots id j → ⊥
      ordered none id i j some l a b =
          by_test (leb (j - i) 8)
          (λ t.
          let m = leb-true (j - i) 8 t in
          let e : i + ((j - i - 1) + 1) ≡ j = omega arith in
          unlike none id i (j - i - 1) some a (omega arith) (rw e (key_at j b.low ∙ key_is id j b)))
          (λ t.
          let m = leb-false (j - i) 8 t in
          let e : j + ((15 - (j - i)) + 1) ≡ i + 16 = omega (arith, a.low, b.low) in
          unlike none id j (15 - (j - i)) some b (omega arith) (rw e (key_round i a.low ∙ key_is id i a)))

      well : any_of n (is_nameless ids occupied) 0 ≡ false → any_of n (repeats keys) 0 ≡ false → Tidy slots
      well nameless same =
          tidy named
          (λ id i j a b.
          by_test (ltb i j)
          (λ t. absurd (ordered same id i j (some id i a) (ltb-true i j t) a b))
          (λ t. by_test (ltb j i)
          (λ u. absurd (ordered same id j i (some id j b) (ltb-true j i u) b a))
          (λ u. let p = ltb-false i j t in let q = ltb-false j i u in omega arith)))
        where
          named : (i : ℕ) → Holds slots 0 i → ⊥
          named i h =
              let l = below i h.slot_taken in
              let no = none_of n (is_nameless ids occupied) 0 nameless i (omega arith) (omega arith) in
              let z : ◌≡◌ {A = ℕ} 0 1 = cc (simp (h.slot_taken, eq-eqb (get_or ids i 0) 0 h.has_id) at no) in
              omega arith

          some : (id i : ℕ) → Holds slots id i → id ≡ 0 → ⊥
          some id i h e = named i (subst (λ (k : ℕ). Holds slots k i) e h)

      -- ---- all is well, nothing found
      -- the key of place i + d + 1, going round, is that of another slot
      behind : (i d : ℕ) → i < SLOTS → d < 8
          → (j : ℕ) × ((j < SLOTS) × ((j ≡ i → ⊥) × (get_or keys (i + (d + 1)) 0 ≡ key_of ids occupied j)))
      behind i d h l =
          by_test (ltb (i + (d + 1)) SLOTS)
          (λ t.
          let m = ltb-true (i + (d + 1)) SLOTS t in
          (i + (d + 1), (m, ((λ q. omega arith), key_at (i + (d + 1)) m))))
          (λ t.
          let m = ltb-false (i + (d + 1)) SLOTS t in
          let j = i + (d + 1) - 16 in
          let e : i + (d + 1) ≡ j + 16 = omega arith in
          (j, (omega arith, ((λ q. omega arith), ap (λ (p : ℕ). get_or keys p 0) e ∙ key_round j (omega arith)))))

      none_same : Tidy slots → any_of n (repeats keys) 0 ≡ false
      none_same t =
          of_none n (repeats keys) 0
          (λ i a b.
          not_again keys i
          (λ d l some e.
          let low : i < SLOTS = omega (arith, w.within) in
          let p = behind i d low l in
          let here = key_at i low in
          let q : key_of ids occupied i ≡ key_of ids occupied p.0 = sym here ∙ e ∙ p.1.1.1 in
          let x = holds_key i low (λ z. some (here ∙ z)) in
          let y = holds_key p.0 p.1.0 (λ z. some (here ∙ q ∙ z)) in
          p.1.1.0 (t.distinct (key_of ids occupied p.0) p.0 i y (rw q at x))))

      none_nameless : Tidy slots → any_of n (is_nameless ids occupied) 0 ≡ false
      none_nameless t =
          of_none n (is_nameless ids occupied) 0
          (λ i a b.
          by_test (taken i occupied)
          (λ u.
          let l : i < SLOTS = omega (arith, w.within) in
          simp (u, ne_eqb (get_or ids i 0) 0 (λ e. t.ids i (record { low = l; slot_taken = u; has_id = e }))))
          (λ u. simp u))

      -- The quick test is the slots' part of row 9.
      pub quick_row : not (any_of n (is_nameless ids occupied) 0 || any_of n (repeats keys) 0)
          ≡ slots_fit SLOTS ids lengths occupied 0
      quick_row =
          row (not (any_of n (is_nameless ids occupied) 0 || any_of n (repeats keys) 0))
          (λ u.
          let f = neither (any_of n (is_nameless ids occupied) 0) (any_of n (repeats keys) 0) u in
          well f.0 f.1)
          (λ t. simp (none_nameless t, none_same t))
