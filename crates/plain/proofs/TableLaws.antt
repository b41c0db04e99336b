-- What holds of the requests of a table.
use Rattle.std.specs.Prelude.{ℕ, zero, suc, ◌+◌, ◌≤◌, ◌<◌, ◌≡◌, refl, length, take, drop, get_or, set, eqb}
use Rattle.std.proofs.Common.{sym, ◌∙◌, arith, length-set, length-take-le, get_or-take, drop-cons, take-suc-set, ext_get_or, get_or-set_same, get_or-set_other, eq-eqb, ne_eqb, eqb-true}
use Rattle.std.proofs.Math.Path.{ap}
use mathlib.Core.List.{List, [], ◌∷◌, ◌++◌, map}
use Rattle.std.proofs.Math.ListN.{drop_of_length-le}
use Rattle.std.proofs.lemmas.List.{length-map}
use Rattle.std.proofs.Math.Seq.{take-set-lt}
use Rattle.std.proofs.lemmas.Bool.{eqb-false}
use Rattle.wire.specs.Test.{by_test}
use Rattle.plain.specs.declared.table.Entry.{Entry}
use Rattle.plain.specs.declared.table.Table.{Table}
use Rattle.plain.specs.Plain.{Request, nobody, place_of, opened}
use Rattle.plain.specs.Code.{request_of, list_at, requests_from, requests_of, no_entry, entry_at, new_entry, with_entry}
use Rattle.plain.specs.Promise.{Modest, Sound}

-- the length of an array of structs
pub mapped_length {ℓ κ} : {A : Type ℓ} {B : Type κ} (f : A → B) (l : List A) (n : ℕ)
    → length (map f l) ≡ n → length l ≡ n
mapped_length f l n e = sym (length-map l f) ∙ e

-- ---- the requests by their places
from_length : (es : List Entry) (store : List ℕ) (i : ℕ) → length (requests_from es store i) ≡ length es
unfolding requests_from
from_length [] store i = refl
from_length (e ∷ es) store i = ap suc (from_length es store (i + 1))

from_at : (es : List Entry) (store : List ℕ) (i j : ℕ) → j < length es
    → get_or (requests_from es store i) j nobody
    ≡ request_of (get_or es j no_entry) (list_at (get_or es j no_entry) store (i + j))
unfolding requests_from
from_at [] store i j l = absurd (omega arith)
from_at (e ∷ es) store i zero l = let z : i + 0 ≡ i = omega arith in rw z
from_at (e ∷ es) store i (suc j) l =
    let z : i + 1 + j ≡ i + suc j = omega arith in
    from_at es store (i + 1) j (omega arith)
    ∙ ap (λ (n : ℕ). request_of (get_or es j no_entry) (list_at (get_or es j no_entry) store n)) z

module _ (t : Table) (store : List ℕ) (few : t.count ≤ length t.entries) where
  pub requests_length : length (requests_of t store) ≡ t.count
  requests_length = from_length (take t.count t.entries) store 0 ∙ length-take-le t.count t.entries few

  pub request_at_lem : (i : ℕ) → i < t.count
      → get_or (requests_of t store) i nobody ≡ request_of (entry_at t i) (list_at (entry_at t i) store i)
  request_at_lem i l =
      let z : 0 + i ≡ i = omega arith in
      from_at (take t.count t.entries) store 0 i (omega (arith, length-take-le t.count t.entries few))
      ∙ rw (z, get_or-take t.count t.entries i no_entry l)

  id_at : (i : ℕ) → i < t.count → (get_or (requests_of t store) i nobody).id ≡ (entry_at t i).id
  id_at i l = ap (λ (r : Request). r.id) (request_at_lem i l)

  -- the place of an id, looked for from place i on
  pub place_here : (id i : ℕ) → i < t.count → (entry_at t i).id ≡ id → place_of (drop i (requests_of t store)) id ≡ 0
  unfolding place_of
  place_here id i l e =
      rw (drop-cons (requests_of t store) i nobody (omega (arith, requests_length)))
      (simp (eq-eqb _ _ (id_at i l ∙ e)))

  pub place_next : (id i : ℕ) → i < t.count → ((entry_at t i).id ≡ id → ⊥)
      → place_of (drop i (requests_of t store)) id ≡ suc (place_of (drop (suc i) (requests_of t store)) id)
  unfolding place_of
  place_next id i l ne =
      rw (drop-cons (requests_of t store) i nobody (omega (arith, requests_length)))
      (simp (ne_eqb _ _ (λ z. ne (sym (id_at i l) ∙ z))))

  pub place_end : (id i : ℕ) → t.count ≤ i → place_of (drop i (requests_of t store)) id ≡ 0
  unfolding place_of
  place_end id i l =
      let none = drop_of_length-le (requests_of t store) {i = i} (omega (arith, requests_length)) in
      ap (λ (rs : List Request). place_of rs id) none

-- ---- a request that is opened comes after the others, with an empty list
from_append : (es : List Entry) (e : Entry) (store : List ℕ) (i : ℕ)
    → requests_from (es ++ (e ∷ [])) store i
    ≡ requests_from es store i ++ (request_of e (list_at e store (i + length es)) ∷ [])
unfolding requests_from
from_append [] e store i = let z : i + 0 ≡ i = omega arith in rw z
from_append (f ∷ es) e store i =
    let z : i + 1 + length es ≡ i + suc (length es) = omega arith in
    ap (λ (rs : List Request). request_of f (list_at f store i) ∷ rs)
    (from_append es e store (i + 1)
    ∙ ap (λ (n : ℕ). requests_from es store (i + 1) ++ (request_of e (list_at e store n) ∷ [])) z)

pub opened_last : (t : Table) (store : List ℕ) (id role : ℕ) → t.count < length t.entries
    → requests_of (with_entry t t.count (new_entry id role) (t.count + 1)) store
    ≡ requests_of t store ++ (opened id role ∷ [])
opened_last t store id role l =
    let e = new_entry id role in
    let z : t.count + 1 ≡ suc t.count = omega arith in
    ap (λ (n : ℕ). requests_from (take n (set t.entries t.count e)) store 0) z
    ∙ ap (λ (es : List Entry). requests_from es store 0) (take-suc-set t.entries t.count e l)
    ∙ from_append (take t.count t.entries) e store 0

-- ---- a request that is changed in its place, while the lists of the others stay
from_set : (es : List Entry) (store store' : List ℕ) (i j : ℕ) (e : Entry) → j < length es
    → ((k : ℕ) → k < length es → (k ≡ j → ⊥)
    → list_at (get_or es k no_entry) store' (i + k) ≡ list_at (get_or es k no_entry) store (i + k))
    → requests_from (set es j e) store' i ≡ set (requests_from es store i) j (request_of e (list_at e store' (i + j)))
from_set es store store' i j e low away =
    let r = request_of e (list_at e store' (i + j)) in
    let rs = requests_from es store i in
    let n = from_length es store i in
    let m = from_length (set es j e) store' i ∙ length-set es j e in
    ext_get_or nobody (requests_from (set es j e) store' i) (set rs j r) (m ∙ sym (length-set rs j r ∙ n))
    (λ k l.
    let l' : k < length es = omega (arith, m) in
    from_at (set es j e) store' i k (omega (arith, length-set es j e))
    ∙ by_test (eqb k j)
    (λ t.
    let same = get_or-set_same rs j r nobody (omega (arith, n)) in
    rw (eqb-true k j t, get_or-set_same es j e no_entry low, same))
    (λ t.
    let ne = eqb-false k j t in
    let other = get_or-set_other rs j k r nobody ne in
    rw (get_or-set_other es j k e no_entry ne, other, from_at es store i k l', away k l' ne)))

pub changed_at : (t : Table) (store store' : List ℕ) (i : ℕ) (e : Entry)
    → t.count ≤ length t.entries → i < t.count
    → ((k : ℕ) → k < t.count → (k ≡ i → ⊥) → list_at (entry_at t k) store' k ≡ list_at (entry_at t k) store k)
    → requests_of (with_entry t i e t.count) store' ≡ set (requests_of t store) i (request_of e (list_at e store' i))
changed_at t store store' i e few low away =
    let es = take t.count t.entries in
    let n : length es ≡ t.count = length-take-le t.count t.entries few in
    let z : 0 + i ≡ i = omega arith in
    ap (λ (u : List Entry). requests_from u store' 0) (take-set-lt t.count t.entries i e low)
    ∙ from_set es store store' 0 i e (omega (arith, n))
    (λ k l ne.
    let w : 0 + k ≡ k = omega arith in
    rw (w, get_or-take t.count t.entries k no_entry (omega (arith, n))) (away k (omega (arith, n)) ne))
    ∙ rw z

-- ---- sound tables
pub sound_more : (t : Table) (m n : ℕ) → Sound t m → m ≤ n → Sound t n
sound_more t m n s h =
    record {
      size = s.size;
      taken = s.taken;
      each = λ i l. record { low = (s.each i l).low; few = omega (arith, s.each i l) };
    }

pub sound_with : (t : Table) (m n i : ℕ) (e : Entry) (count : ℕ)
    → Sound t m → m ≤ n → i < 16 → count ≤ 16 → Modest e n → Sound (with_entry t i e count) n
sound_with t m n i e count s h l few modest =
    record {
      size = length-set t.entries i e ∙ s.size;
      taken = few;
      each = λ k j.
          by_test (eqb k i)
          (λ q. rw (eqb-true k i q, get_or-set_same t.entries i e no_entry (omega (arith, s.size))) modest)
          (λ q. rw (get_or-set_other t.entries i k e no_entry (eqb-false k i q)) ((sound_more t m n s h).each k j));
    }
