-- What holds of the calls that read parameters, for every state, store, id, name, fallback and number.
use Rattle.std.specs.Prelude.{ℕ, ◌+◌, ◌≤◌, not, ◌↔◌, length, if◌then◌else◌, Some, None, Option}
use Rattle.std.proofs.Math.Path.{◌≡◌, refl, subst}
use Rattle.std.proofs.Common.{sym, ◌∙◌, arith, length-take, ne_eqb}
use Rattle.std.proofs.Math.Bool.{true, false}
use mathlib.Core.List.{List, [], ◌∷◌}
use Rattle.std.proofs.lemmas.Bool.{eqb-false}
use Rattle.wire.specs.Test.{◌=?◌, by_test}
use Rattle.pairs.specs.Pair.{value_of}
use Rattle.pair_list.specs.List.{first_named, pair_number}
use Rattle.pair_list.proofs.ListLaws.{LiesIn, number_within}
use Rattle.pairs.specs.declared.pair.Pair.{Pair}
use Rattle.connection.specs.declared.state.Conn.{Conn}
use Rattle.connection.specs.Request.{list_of}
use Rattle.connection.specs.Sizes.{STORE}
use Rattle.connection.specs.Refusal.{◌when◌, refusal}
use Rattle.connection.specs.Shape.{in_shape}
use Rattle.connection.specs.Slots.{request_at, held_at, find, is_found}
use Rattle.connection.specs.RequestCalls as Of
use Rattle.connection.specs.Calls.{lent_refusal, slot_of, value, source, pair_at_number}
use Rattle.call_list.specs.Listing.{part_of, listing}
use Rattle.call_list.proofs.Laws.{first_in_none, refused_empty, value_listed, source_listed}

-- the request's list
abbrev pub list_in : Conn → List ℕ → ℕ → List ℕ
list_in c store id = list_of (held_at c.table store (slot_of c id))

module _ (c : Conn) (store : List ℕ) (id : ℕ) (name : List ℕ) where
  -- the bytes that are looked through
  abbrev part : List ℕ
  part = part_of store (listing c store id)

  -- what the sister says, and what value then is for every fallback
  abbrev Says : Of.Source → Type 0
  Says Of.FromStore = (f g : List ℕ) → value c store id name f ≡ value c store id name g
  Says Of.FromFallback = (fallback : List ℕ) → value c store id name fallback ≡ fallback
  Says (Of.SourceRefused n) = (fallback : List ℕ) → value c store id name fallback ≡ fallback

  says : Says (source c store id name)
  says = rw (source_listed c store id name) (by_test ((listing c store id).refusal =? 0) (λ t. rw t (found (first_named part name) refl)) (λ t. rw t (refused t)))
    where
      found : (f : Option Pair) → first_named part name ≡ f → Says (Of.on_found f (λ p. Of.FromStore) Of.FromFallback)
      found (Some p) e = λ f g. value_listed c store id name f ∙ simp e (sym (value_listed c store id name g ∙ simp e))
      found None e = λ fallback. value_listed c store id name fallback ∙ simp e

      refused : ((listing c store id).refusal =? 0) ≡ false → (fallback : List ℕ) → value c store id name fallback ≡ fallback
      refused t fallback = value_listed c store id name fallback ∙ simp (refused_empty c store id t, first_in_none)

  -- found exactly when value's answer is the store's, whatever the fallback.
  pub found_is_stores : (source c store id name ≡ Of.FromStore) ↔ ((f g : List ℕ) → value c store id name f ≡ value c store id name g)
  found_is_stores = (λ e f g. same (source c store id name) says e f g, λ h. only (source c store id name) says h)
    where
      same : (s : Of.Source) → Says s → s ≡ Of.FromStore → (f g : List ℕ) → value c store id name f ≡ value c store id name g
      same Of.FromStore h e f g = h f g
      same Of.FromFallback h e f g = let z : ◌≡◌ {A = ℕ} 0 1 = cc in absurd (omega arith)
      same (Of.SourceRefused n) h e f g = let z : ◌≡◌ {A = ℕ} 0 1 = cc in absurd (omega arith)

      -- an answer that is the fallback is not the same for two of them
      differ : ((f : List ℕ) → value c store id name f ≡ f) → ((f g : List ℕ) → value c store id name f ≡ value c store id name g) → ⊥
      differ h k = let e : ◌≡◌ {A = List ℕ} [] (0 ∷ []) = sym (h []) ∙ k [] (0 ∷ []) ∙ h (0 ∷ []) in let z : ◌≡◌ {A = ℕ} 0 1 = cc in omega arith

      only : (s : Of.Source) → Says s → ((f g : List ℕ) → value c store id name f ≡ value c store id name g) → s ≡ Of.FromStore
      only Of.FromStore h k = refl
      only Of.FromFallback h k = absurd (differ h k)
      only (Of.SourceRefused n) h k = absurd (differ h k)

  -- it is then the value of the first pair of that name in the request's list.
  pub found_value : source c store id name ≡ Of.FromStore
      → (p : Pair) × (first_named (list_in c store id) name ≡ Some p) × ((fallback : List ℕ) → value c store id name fallback ≡ value_of (list_in c store id) p)
  unfolding source Of.source_in value Of.value_in
  found_value e =
      by_test (lent_refusal c store id =? 0)
      (λ t. by_test (Of.no_list (request_at c.table (slot_of c id)))
      (λ u. let z : ◌≡◌ {A = ℕ} 0 1 = cc (simp (t, u) at e) in absurd (omega arith))
      (λ u. at_pair t u (first_named (list_in c store id) name) refl (simp (t, u) at e)))
      (λ t. let z : ◌≡◌ {A = ℕ} 0 1 = cc (simp t at e) in absurd (omega arith))
    where
      at_pair : (lent_refusal c store id =? 0) ≡ true → Of.no_list (request_at c.table (slot_of c id)) ≡ false
          → (f : Option Pair) → first_named (list_in c store id) name ≡ f → Of.on_found f (λ p. Of.FromStore) Of.FromFallback ≡ Of.FromStore
          → (p : Pair) × (first_named (list_in c store id) name ≡ Some p) × ((fallback : List ℕ) → value c store id name fallback ≡ value_of (list_in c store id) p)
      at_pair t u (Some p) h w = (p, h, λ fallback. simp (t, u, h))
      at_pair t u None h w = let z : ◌≡◌ {A = ℕ} 0 1 = cc in absurd (omega arith)

  -- where it is the fallback's, value is the fallback, for every one.
  pub fallback_is_value : source c store id name ≡ Of.FromFallback → (fallback : List ℕ) → value c store id name fallback ≡ fallback
  fallback_is_value e = subst Says e says

  -- Value and its sister refuse alike: where the sister is refused, value is the fallback, for every one.
  pub refused_is_fallback : (n : ℕ) → source c store id name ≡ Of.SourceRefused n → (fallback : List ℕ) → value c store id name fallback ≡ fallback
  refused_is_fallback n e = subst Says e says

-- Rows 2, 9, 1, 3 and 4 of a call that reads: the first that holds, 0 for none.
unfoldable pub read_refusal : Conn → List ℕ → ℕ → ℕ
read_refusal c store id =
    refusal
    ((2 when not (length store =? STORE))
    ∷ (9 when not (in_shape c))
    ∷ (1 when not c.«open»)
    ∷ (3 when not (is_found (find c.table id)))
    ∷ (4 when Of.no_list (request_at c.table (slot_of c id)))
    ∷ [])

module _ (c : Conn) (store : List ℕ) (id : ℕ) where
  -- what the sister answers, by what is listed
  abbrev answer : List ℕ → Of.Source
  answer name =
      if (listing c store id).refusal =? 0 then Of.on_found (first_named (part_of store (listing c store id)) name) (λ p. Of.FromStore) Of.FromFallback
      else Of.SourceRefused (listing c store id).refusal

  -- where rows 2, 9, 1 and 3 do not hold, row 4 is the one left
  read_refusal_lem : read_refusal c store id ≡ (if lent_refusal c store id =? 0 then (if Of.no_list (request_at c.table (slot_of c id)) then 4 else 0) else lent_refusal c store id)
  unfolding read_refusal lent_refusal
  read_refusal_lem =
      by_test (length store =? STORE)
      (λ t1. by_test (in_shape c)
      (λ t2. by_test c.«open»
      (λ t3. by_test (is_found (find c.table id)) (λ t4. simp (t1, t2, t3, t4)) (λ t4. simp (t1, t2, t3, t4)))
      (λ t3. simp (t1, t2, t3)))
      (λ t2. simp (t1, t2)))
      (λ t1. simp t1)

  -- a list is refused by the first of these rows that holds
  listing_refusal : (listing c store id).refusal ≡ read_refusal c store id
  unfolding listing
  listing_refusal =
      by_test (lent_refusal c store id =? 0)
      (λ t. by_test (Of.no_list (request_at c.table (slot_of c id))) (λ u. simp (t, u) (sym (read_refusal_lem ∙ simp (t, u)))) (λ u. simp (t, u) (sym (read_refusal_lem ∙ simp (t, u)))))
      (λ t. simp t (sym (read_refusal_lem ∙ simp t)))

  -- the sister is refused by the first of rows 2, 9, 1, 3 and 4 that holds.
  pub sister_refusal : (name : List ℕ) (n : ℕ) → (source c store id name ≡ Of.SourceRefused n) ↔ ((n ≡ read_refusal c store id) × (n ≡ 0 → ⊥))
  sister_refusal name n = (λ e. told (sym (source_listed c store id name) ∙ e), λ r. source_listed c store id name ∙ refuses r.0 r.1)
    where
      found : (f : Option Pair) → Of.on_found f (λ p. Of.FromStore) Of.FromFallback ≡ Of.SourceRefused n → (n ≡ read_refusal c store id) × (n ≡ 0 → ⊥)
      found (Some p) w = let z : ◌≡◌ {A = ℕ} 0 1 = cc in absurd (omega arith)
      found None w = let z : ◌≡◌ {A = ℕ} 0 1 = cc in absurd (omega arith)

      told : answer name ≡ Of.SourceRefused n → (n ≡ read_refusal c store id) × (n ≡ 0 → ⊥)
      told q =
          by_test ((listing c store id).refusal =? 0)
          (λ t. found (first_named (part_of store (listing c store id)) name) (simp t at q))
          (λ t. let m : n ≡ (listing c store id).refusal = cc (simp t at q) in (m ∙ listing_refusal, λ z. eqb-false (listing c store id).refusal 0 t (sym m ∙ z)))

      refuses : n ≡ read_refusal c store id → (n ≡ 0 → ⊥) → answer name ≡ Of.SourceRefused n
      refuses e some = let m : (listing c store id).refusal ≡ n = listing_refusal ∙ sym e in simp (m, ne_eqb n 0 some)

  -- That is the first of rows 2, 9, 1 and 3 that holds, and 4 where none of them does.
  pub sister_refusal_by : (name : List ℕ) (n : ℕ) → source c store id name ≡ Of.SourceRefused n → n ≡ (if lent_refusal c store id =? 0 then 4 else lent_refusal c store id)
  sister_refusal_by name n e =
      let r = (sister_refusal name n).0 e in
      by_test (lent_refusal c store id =? 0)
      (λ t. by_test (Of.no_list (request_at c.table (slot_of c id)))
      (λ u. simp t (r.0 ∙ read_refusal_lem ∙ simp (t, u)))
      (λ u. absurd (r.1 (r.0 ∙ read_refusal_lem ∙ simp (t, u)))))
      (λ t. simp t (r.0 ∙ read_refusal_lem ∙ simp t))

  -- the pair of a number lies in the request's list.
  pub pair_lies : (k : ℕ) (p : Pair) → pair_at_number c store id k ≡ Of.PairIs p → LiesIn (list_in c store id) p
  unfolding pair_at_number Of.pair_in
  pair_lies k p e =
      by_test (lent_refusal c store id =? 0)
      (λ t. by_test (Of.no_list (request_at c.table (slot_of c id)))
      (λ u. let z : ◌≡◌ {A = ℕ} 0 1 = cc (simp (t, u) at e) in absurd (omega arith))
      (λ u. found (pair_number (list_in c store id) k) refl (simp (t, u) at e)))
      (λ t. let z : ◌≡◌ {A = ℕ} 0 1 = cc (simp t at e) in absurd (omega arith))
    where
      found : (f : Option Pair) → pair_number (list_in c store id) k ≡ f → Of.on_found f Of.PairIs (Of.PairRefused 7) ≡ Of.PairIs p → LiesIn (list_in c store id) p
      found (Some q) h w = let z : q ≡ p = cc in subst (LiesIn (list_in c store id)) z (number_within (list_in c store id) k q h)
      found None h w = let z : ◌≡◌ {A = ℕ} 0 1 = cc in absurd (omega arith)

  -- In numbers: the value begins where the name ends, and ends within the request's length.
  pub pair_in_length : (k : ℕ) (p : Pair) → pair_at_number c store id k ≡ Of.PairIs p
      → (p.name + p.name_len ≡ p.value) × (p.value + p.value_len ≤ (request_at c.table (slot_of c id)).length)
  pair_in_length k p e =
      let h = pair_lies k p e in
      let r = held_at c.table store (slot_of c id) in
      (h.named, omega (arith, h.within, length-take r.request.length r.area))
