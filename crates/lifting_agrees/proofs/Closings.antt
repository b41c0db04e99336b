-- Which records close, by how much of their content is there. A record of an id that is not 0 closes by its header or
-- not at all. One of id 0 may close by its content, when all of it is there.
use Rattle.std.specs.Prelude.{ℕ, ◌<◌, Bool, true, false, List, [], length, get_or, ltb, eqb, if◌then◌else◌}
use Rattle.std.proofs.Math.Path.{◌≡◌, refl, sym}
use Rattle.std.proofs.Common.{◌∙◌, arith}
use Rattle.std.proofs.Math.Option.{Option, none, some}
use borrow.Author.Tests.{lt-ltb, eqb-true, eqb-false}
use Rattle.wire.specs.Test.{by_test}
use Rattle.machine.specs.Cause.{Cause}
use Rattle.plain.specs.Plain.{BEGIN, GET_VALUES, Request, nobody, Said, place_of, on_active, is_role, two, opening, on_inactive, on_query, on_management, says}

-- the cause of a close
abbrev pub close_of : Said → Option Cause
close_of (Said.Goes es rs) = none
close_of (Said.Closes cause) = some cause

pub closes_by : (s : Said) (cause : Cause) → close_of s ≡ some cause → s ≡ Said.Closes cause
closes_by (Said.Goes es rs) cause e = let z : ◌≡◌ {A = ℕ} 0 1 = cc in absurd (omega arith)
closes_by (Said.Closes other) cause e = cc

-- by a test
same_if : (t : Bool) (s u s' u' : Said) → close_of s ≡ close_of s' → close_of u ≡ close_of u'
    → close_of (if t then s else u) ≡ close_of (if t then s' else u')
same_if true s u s' u' p q = p
same_if false s u s' u' p q = q

none_if : (t : Bool) (s u : Said) → close_of s ≡ none → close_of u ≡ none → close_of (if t then s else u) ≡ none
none_if true s u p q = p
none_if false s u p q = q

module _ (rs : List Request) (kind n : ℕ) where
  active_none : (i : ℕ) (x : List ℕ) → close_of (on_active rs i kind n x) ≡ none
  unfolding on_active
  active_none i x = none_if (get_or rs i nobody).spent _ _ refl refl

  opening_none : (id : ℕ) (x : List ℕ) → close_of (opening rs id x) ≡ none
  unfolding opening
  opening_none id x =
      none_if (is_role (two x 0)) _ _ (none_if (ltb (length rs) 16) _ _ refl refl) refl

  whole_none : (id : ℕ) (x : List ℕ)
      → close_of (if eqb (length x) 8 then opening rs id x else Said.Goes [] rs) ≡ none
  whole_none id x = none_if (eqb (length x) 8) _ _ (opening_none id x) refl

  inactive_same : (id : ℕ) (x y : List ℕ) → close_of (on_inactive rs id kind n x) ≡ close_of (on_inactive rs id kind n y)
  unfolding on_inactive
  inactive_same id x y =
      same_if (eqb kind BEGIN) _ _ _ _ (same_if (eqb n 8) _ _ _ _ (whole_none id x ∙ sym (whole_none id y)) refl) refl

  -- A record that is not of id 0 closes, or does not, whatever its content.
  pub header_decides : (version id : ℕ) (x y : List ℕ) → (id ≡ 0 → ⊥)
      → close_of (says rs version kind id n x) ≡ close_of (says rs version kind id n y)
  unfolding says
  header_decides version id x y ne =
      same_if (eqb version 1) _ _ _ _
      (by_test (eqb id 0) (λ e. absurd (ne (eqb-true id 0 e)))
      (λ e. simp e
      (same_if (ltb (place_of rs id) (length rs)) _ _ _ _
      (active_none (place_of rs id) x ∙ sym (active_none (place_of rs id) y)) (inactive_same id x y))))
      refl

  -- One that closes though its content is not all there closes with more of it, too.
  early_query : (x y : List ℕ) (cause : Cause) → length x < n → close_of (on_management rs kind n x) ≡ some cause
      → close_of (on_management rs kind n y) ≡ some cause
  unfolding on_management on_query
  early_query x y cause short e =
      by_test (eqb kind GET_VALUES)
      (λ k.
      by_test (ltb 512 n) (λ l. simp (k, l) (simp (k, l) at e))
      (λ l.
      let no = simp (k, l, lt-ltb (length x) n short) at e in
      let z : ◌≡◌ {A = ℕ} 0 1 = cc in
      absurd (omega arith)))
      (λ k. simp k (simp k at e))

  pub early_close : (version id : ℕ) (x y : List ℕ) (cause : Cause) → length x < n
      → close_of (says rs version kind id n x) ≡ some cause → close_of (says rs version kind id n y) ≡ some cause
  unfolding says
  early_close version id x y cause short e =
      by_test (eqb id 0)
      (λ i.
      by_test (eqb version 1) (λ v. simp (v, i) (early_query x y cause short (simp (v, i) at e)))
      (λ v. simp v (simp v at e)))
      (λ i. sym (header_decides version id x y (eqb-false id 0 i)) ∙ e)
