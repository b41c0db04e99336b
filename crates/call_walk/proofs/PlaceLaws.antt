-- What holds of reading on: it goes through the pairs that have a number, in their order, and stays where there is
-- none.
use Rattle.std.specs.Prelude.{ℕ, zero, suc, ◌-◌, ◌≤◌, ◌<◌, ◌≡◌, refl, List, [], length, if◌then◌else◌, None}
use Rattle.std.proofs.Common.{sym, ap, ◌∙◌, arith, ne_eqb}
use Rattle.wire.specs.Test.{◌=?◌}
use Rattle.pairs.specs.Pair.{pair_at}
use Rattle.pairs.proofs.PairLaws.{pair_in_lem, pair_end}
use Rattle.pair_list.specs.List.{on_read, and_pairs, pairs_from, number_in, pair_number}
use Rattle.pair_list.proofs.ListLaws.{ended, pairs_step, number_next}
use Rattle.pairs.specs.declared.pair.Pair.{Pair}
use Rattle.pairs.specs.declared.pair.Read.{Read}
use Rattle.connection.specs.declared.state.Conn.{Conn}
use Rattle.connection.specs.RequestCalls as Of
use Rattle.connection.specs.Calls.{pair_at_number, walk}
use Rattle.call_list.proofs.Laws.{refused_empty, pair_listed, walk_listed}
use Rattle.call_walk.specs.Place.{past_at, place_after, found_by, past_pair, past_pairs}
use Rattle.call_walk.specs.declared.Walk.{Walk}

-- a pair moves the place on, within the list.
pub pair_moves : (s : List ℕ) (place : ℕ) (p : Pair) (next : ℕ) → pair_at s place ≡ Read.Pair p next → (past_at s place ≡ next) × (place < next) × (next ≤ length s)
unfolding past_at
pair_moves s place p next e = let i = pair_in_lem s place p next e in (simp e, omega arith, i.within)

-- at the end the place stays.
pub end_stays : (s : List ℕ) (place : ℕ) → pair_at s place ≡ Read.End → past_at s place ≡ place
unfolding past_at
end_stays s place e = simp e

-- before a malformed pair it stays.
pub malformed_stays : (s : List ℕ) (place m : ℕ) → pair_at s place ≡ Read.Malformed m → past_at s place ≡ place
unfolding past_at
malformed_stays s place m e = simp e

-- a place that stays, stays for ever
stays : (s : List ℕ) (k place : ℕ) → past_at s place ≡ place → place_after s k place ≡ place
unfolding place_after
stays s zero place e = refl
stays s (suc k) place e = ap (place_after s k) e ∙ stays s k place e

-- from any place on: the pair after k others is the one of number k
after_from : (s : List ℕ) (k place : ℕ) → found_by (pair_at s (place_after s k place)) ≡ number_in (pairs_from s place).pairs k
unfolding place_after number_in
after_from s zero place = rw (pairs_step s place) (go (pair_at s place))
  where
    go : (r : Read) → found_by r ≡ number_in (on_read r (λ p next. and_pairs p (pairs_from s next)) ended).pairs 0
    go (Read.Pair p next) = refl
    go Read.End = refl
    go (Read.Malformed m) = refl
after_from s (suc k) place = go (λ next. after_from s k next) (pair_at s place) refl
  where
    none : (r : Read) → pair_at s place ≡ r → past_at s place ≡ place → found_by r ≡ None → number_in (pairs_from s place).pairs (suc k) ≡ None
        → found_by (pair_at s (place_after s k (past_at s place))) ≡ number_in (pairs_from s place).pairs (suc k)
    none r e st f n = ap (λ (m : ℕ). found_by (pair_at s (place_after s k m))) st ∙ ap (λ (m : ℕ). found_by (pair_at s m)) (stays s k place st) ∙ ap found_by e ∙ f ∙ sym n

    go : ((next : ℕ) → found_by (pair_at s (place_after s k next)) ≡ number_in (pairs_from s next).pairs k) → (r : Read) → pair_at s place ≡ r
        → found_by (pair_at s (place_after s k (past_at s place))) ≡ number_in (pairs_from s place).pairs (suc k)
    go f (Read.Pair p next) e =
        let m = pair_moves s place p next e in
        let n : suc k - 1 ≡ k = omega arith in
        ap (λ (m : ℕ). found_by (pair_at s (place_after s k m))) m.0 ∙ f next ∙ sym (number_next s (suc k) place p next e ∙ simp (ne_eqb (suc k) 0 (λ z. omega arith), n))
    go f Read.End e = none Read.End e (end_stays s place e) refl (rw (pairs_step s place, e))
    go f (Read.Malformed m) e = none (Read.Malformed m) e (malformed_stays s place m e) refl (rw (pairs_step s place, e))

-- reading on k times from place 0 gives the pair of number k, for every list and every k.
pub read_on_number : (s : List ℕ) (k : ℕ) → found_by (pair_at s (place_after s k 0)) ≡ pair_number s k
unfolding pair_number
read_on_number s k = after_from s k 0

-- a walk past k pairs holds the same list, at the place after them
past_pairs_lem : (k : ℕ) (w : Walk) → past_pairs k w ≡ record { list = w.list; place = place_after w.list.now k w.place; refusal = w.refusal }
unfolding past_pairs place_after
past_pairs_lem zero w = refl
past_pairs_lem (suc k) w = past_pairs_lem k (past_pair w)

-- Of the walk itself: moved past k pairs from place 0, what it reads there is the pair of number k of its list.
pub walk_number : (w : Walk) (k : ℕ) → w.place ≡ 0 → found_by (pair_at (past_pairs k w).list.now (past_pairs k w).place) ≡ pair_number w.list.now k
walk_number w k e = rw (past_pairs_lem k w, e) (read_on_number w.list.now k)

-- Of the walk itself: where it reads no pair, at the end or before a malformed one, it stays.
pub walk_stays : (w : Walk) → found_by (pair_at w.list.now w.place) ≡ None → past_pair w ≡ w
walk_stays w e = ap (λ (n : ℕ). record { list = w.list; place = n; refusal = w.refusal }) (go (pair_at w.list.now w.place) refl e)
  where
    go : (r : Read) → pair_at w.list.now w.place ≡ r → found_by r ≡ None → past_at w.list.now w.place ≡ w.place
    go (Read.Pair p next) q f = let z : ◌≡◌ {A = ℕ} 0 1 = cc in absurd (omega arith)
    go Read.End q f = end_stays w.list.now w.place q
    go (Read.Malformed m) q f = malformed_stays w.list.now w.place m q

module _ (c : Conn) (store : List ℕ) (id : ℕ) where
  -- Of a request: the walk and pair by number give the same pairs, and are refused alike.
  pub walk_is_number : (k : ℕ) → pair_at_number c store id k
      ≡ (if (walk c store id).refusal =? 0 then Of.on_found (found_by (pair_at (walk c store id).list (place_after (walk c store id).list k 0))) Of.PairIs (Of.PairRefused 7)
      else Of.PairRefused (walk c store id).refusal)
  walk_is_number k = pair_listed c store id k ∙ simp (walk_listed c store id, read_on_number)

  -- a refused walk holds no bytes.
  pub refused_no_bytes : ((walk c store id).refusal ≡ 0 → ⊥) → (walk c store id).list ≡ []
  refused_no_bytes some =
      let e = walk_listed c store id in
      ap (λ (w : Of.Walk). w.list) e ∙ refused_empty c store id (ne_eqb _ 0 (λ z. some (ap (λ (w : Of.Walk). w.refusal) e ∙ z)))

  -- a refused walk gives no pair, at any place.
  pub refused_no_pair : ((walk c store id).refusal ≡ 0 → ⊥) → (place : ℕ) → pair_at (walk c store id).list place ≡ Read.End
  refused_no_pair some place = rw (refused_no_bytes some) (pair_end [] place (omega arith))

-- nor does a walk whose place is at the end of its bytes or past it.
pub past_no_pair : (w : Walk) → length w.list.now ≤ w.place → pair_at w.list.now w.place ≡ Read.End
past_no_pair w h = pair_end w.list.now w.place h
