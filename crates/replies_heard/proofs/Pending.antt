-- The ids whose opening is on its way or was refused: how a move of the station changes these two lists.
use Rattle.std.specs.Prelude.{ℕ, ◌≡◌, refl, Bool, true, false, ◌⊎◌, eqb, if◌then◌else◌}
use Rattle.std.proofs.Common.{sym, ◌∙◌, subst, inl, inr, ⊎_elim, arith, eqb-true}
use mathlib.Core.List.Memᴰ
use mathlib.Core.List.{List, [], ◌∷◌, Memᴰ}
use Rattle.std.proofs.lemmas.Bool.{eqb-false}
use Rattle.wire.specs.Test.{by_test}
use Rattle.connection.specs.declared.request.RequestState.{RequestState}
use Rattle.connection.specs.declared.state.Table.{Table}
use Rattle.connection.specs.Slots.{no_state}
use Rattle.replies_heard.proofs.Agree.{OpenWith, Inactive, Resting}
use Rattle.replies_heard.specs.Joint.{without, is_in, Opening, IsOpened, IsRefused, Neither, waiting_after, refused_after, answered_after, opens_waiting, is_owed}
use Rattle.replies_heard.proofs.RepliesHeard.{Unanswered}
use Rattle.replies_heard.proofs.MoveHeard.{OpeningRests, Unopened, AnswerRests}

-- in one of the two lists; in both is none
abbrev pub Pending : List ℕ → List ℕ → ℕ → Type 0
Pending waiting refused b = Memᴰ b waiting ⊎ Memᴰ b refused

abbrev pub Apart : List ℕ → List ℕ → Type 0
Apart waiting refused = (b : ℕ) → Memᴰ b waiting → Memᴰ b refused → ⊥

-- ---- lists
without_mem : (a b : ℕ) (l : List ℕ) → Memᴰ b (without a l) → Memᴰ b l × (b ≡ a → ⊥)
unfolding without
without_mem a b [] m = absurd (Memᴰ.not-nil m)
without_mem a b (c ∷ l) m = go (eqb c a) refl m (without_mem a b l)
  where
    go : (t : Bool) → eqb c a ≡ t → Memᴰ b (if t then without a l else (c ∷ without a l)) → (Memᴰ b (without a l) → Memᴰ b l × (b ≡ a → ⊥)) → Memᴰ b (c ∷ l) × (b ≡ a → ⊥)
    go true e n f = let k = f n in (Memᴰ.tail k.0, k.1)
    go false e n f = ⊎_elim (λ z. (Memᴰ.head z, λ w. eqb-false c a e (sym z ∙ w))) (λ z. let k = f z in (Memᴰ.tail k.0, k.1)) (Memᴰ.cases_cons n)

is_in_lem : (a : ℕ) (l : List ℕ) → is_in a l ≡ true → Memᴰ a l
unfolding is_in
is_in_lem a [] e = let z : ◌≡◌ {A = ℕ} 0 1 = cc in absurd (omega arith)
is_in_lem a (c ∷ l) e = by_test (eqb c a) (λ t. Memᴰ.head (sym (eqb-true c a t))) (λ t. Memᴰ.tail (is_in_lem a l (simp t at e)))

module _ (w r : List ℕ) (apart : Apart w r) where
  -- an id that is refused: it is in the list if it waited
  refused_mem : (id b : ℕ) (t : Bool) → is_in id w ≡ t → Memᴰ b (if t then (id ∷ r) else r) → Memᴰ b r ⊎ ((b ≡ id) × Memᴰ id w)
  refused_mem id b true e m = ⊎_elim (λ z. inr (z, is_in_lem id w e)) (λ z. inl z) (Memᴰ.cases_cons m)
  refused_mem id b false e m = inl m

  -- ---- a step
  pub pending_step : (o : Opening) → opens_waiting o w → (b : ℕ) → Pending (waiting_after o w) (refused_after o w r) b → Pending w r b × Unopened o b
  pending_step (IsOpened id) f b (inl m) = let k = without_mem id b w m in (inl k.0, k.1)
  pending_step (IsOpened id) f b (inr m) = (inr m, λ z. apart id f (subst (λ (n : ℕ). Memᴰ n r) z m))
  pending_step (IsRefused id) f b (inl m) = (inl (without_mem id b w m).0, tt)
  pending_step (IsRefused id) f b (inr m) = (⊎_elim (λ z. inr z) (λ z. inl (subst (λ (n : ℕ). Memᴰ n w) (sym z.0) z.1)) (refused_mem id b (is_in id w) refl m), tt)
  pending_step Neither f b m = (m, tt)

  pub apart_step : (o : Opening) → Apart (waiting_after o w) (refused_after o w r)
  apart_step (IsOpened id) b m n = apart b (without_mem id b w m).0 n
  apart_step (IsRefused id) b m n =
      let k = without_mem id b w m in
      ⊎_elim (λ z. apart b k.0 z) (λ z. k.1 z.0) (refused_mem id b (is_in id w) refl n)
  apart_step Neither b m n = apart b m n

  -- ---- a reply
  pub pending_reply : (o : Opening) (n : ℕ) → is_owed o r → (b : ℕ) → Pending w (answered_after o n r) b → Pending w r b × Unanswered o n b
  pending_reply (IsOpened id) n f b m = (m, tt)
  pending_reply (IsRefused id) n f b (inl m) = (inl m, λ e z. apart b m (subst (λ (k : ℕ). Memᴰ k r) (sym z) f))
  pending_reply (IsRefused id) n f b (inr m) = go (eqb n 0) refl m
    where
      go : (t : Bool) → eqb n 0 ≡ t → Memᴰ b (if t then without id r else r) → Pending w r b × (n ≡ 0 → b ≡ id → ⊥)
      go true e k = let q = without_mem id b r k in (inr q.0, λ z. q.1)
      go false e k = (inr k, λ z. absurd (eqb-false n 0 e z))
  pending_reply Neither n f b m = (m, tt)

  pub apart_reply : (o : Opening) (n : ℕ) → Apart w (answered_after o n r)
  apart_reply (IsOpened id) n b m k = apart b m k
  apart_reply (IsRefused id) n b m k = go (eqb n 0) k
    where
      go : (t : Bool) → Memᴰ b (if t then without id r else r) → ⊥
      go true k = apart b m (without_mem id b r k).0
      go false k = apart b m k
  apart_reply Neither n b m k = apart b m k

-- ---- what is pending rests
module _ (w r : List ℕ) (s t : Table) (rests : (id : ℕ) → Pending w r id → Resting s t id) where
  -- so does what a step opens and what a reply answers
  pub opening_rests : (o : Opening) → opens_waiting o w → OpeningRests o s t
  opening_rests (IsOpened id) f = rests id (inl f)
  opening_rests (IsRefused id) f = tt
  opening_rests Neither f = tt

  pub answer_rests : (o : Opening) → is_owed o r → AnswerRests o s t
  answer_rests (IsOpened id) f = tt
  answer_rests (IsRefused id) f = rests id (inr f)
  answer_rests Neither f = tt

  -- One more is opened at the server's end, whose table is u then: it was not open, and what was open stays so.
  module _ (u : Table) (id : ℕ) (stays : (b : ℕ) (m : RequestState) → OpenWith t b m → OpenWith u b m) (mine : OpenWith u id no_state) (fresh : (b : ℕ) (m : RequestState) → OpenWith t b m → b ≡ id → ⊥) where
    pub opened_rests : Inactive s id → (b : ℕ) → Pending (id ∷ w) r b → Resting s u b
    opened_rests none b p =
        let others : Resting s t b → Resting s u b = λ k. record { is_open = stays b no_state k.is_open; inactive = k.inactive } in
        ⊎_elim (λ m. ⊎_elim (λ z. subst (Resting s u) (sym z) (record { is_open = mine; inactive = none })) (λ z. others (rests b (inl z))) (Memᴰ.cases_cons m)) (λ m. others (rests b (inr m))) p

    pub opened_apart : Apart w r → Apart (id ∷ w) r
    opened_apart apart b m k = ⊎_elim (λ z. fresh b no_state (rests b (inr k)).is_open z) (λ z. apart b z k) (Memᴰ.cases_cons m)
