-- First laws of runs: closed is final; the state and the observations of two timelines one after another.
use Rattle.std.specs.Prelude.{◌≡◌, Bool, if◌then◌else◌}
use Rattle.std.proofs.Math.Path.{refl, ap, sym}
use Rattle.std.proofs.Common.{◌∙◌}
use mathlib.Core.List.{List, [], ◌∷◌, ◌++◌, append_assoc}
use Rattle.std.proofs.Math.Bool.{true, false}
use Prim.Native.Nat.{ℕ, zero, suc}
use Rattle.machine.specs.Timeline.{RequestCall, CountCall, Item, ByteItem, CallItem}
use Rattle.machine.specs.Machine.{Machine, Target, Skip, Connection, Closed, Observation, with_left, on_item, state_after, as_list, observations, concerns, observed}

module _ (M : Machine) where
  -- A connection that is closed stays closed, whatever comes.
  pub closed_stays : (t : List (Item M.Argument)) → state_after M Closed t ≡ Closed
  unfolding state_after on_item
  closed_stays [] = refl
  closed_stays (ByteItem b ∷ t) = closed_stays t
  closed_stays (CallItem (RequestCall id a) ∷ t) = closed_stays t
  closed_stays (CallItem CountCall ∷ t) = closed_stays t

  -- the state and the observations after two timelines
  pub state_append : (s : Connection M) (t u : List (Item M.Argument)) → state_after M s (t ++ u) ≡ state_after M (state_after M s t) u
  unfolding state_after
  state_append s [] u = refl
  state_append s (x ∷ t) u = state_append (on_item M s x).0 t u

  pub observations_append : (s : Connection M) (t u : List (Item M.Argument)) → observations M s (t ++ u) ≡ observations M s t ++ observations M (state_after M s t) u
  unfolding state_after observations
  observations_append s [] u = refl
  observations_append s (x ∷ t) u =
      let s' = (on_item M s x).0 in
      ap (λ l. as_list M (on_item M s x).1 ++ l) (observations_append s' t u)
      ∙ sym (append_assoc (as_list M (on_item M s x).1) (observations M s' t) (observations M (state_after M s' t) u))

  -- what is observed of R in two lists
  pub observed_append : (R : ℕ) (xs ys : List (Observation M)) → observed M R (xs ++ ys) ≡ observed M R xs ++ observed M R ys
  unfolding observed
  observed_append R [] ys = refl
  observed_append R (x ∷ xs) ys = go (concerns M R x) (observed_append R xs ys)
    where
      go : (k : Bool) → observed M R (xs ++ ys) ≡ observed M R xs ++ observed M R ys
          → (if k then x ∷ observed M R (xs ++ ys) else observed M R (xs ++ ys)) ≡ (if k then x ∷ observed M R xs else observed M R xs) ++ observed M R ys
      go true e = ap (λ l. x ∷ l) e
      go false e = e

  -- with no content left there is no target
  pub padding_skipped : (s : Target M) (p : ℕ) → with_left M s zero p ≡ with_left M Skip zero p
  unfolding with_left
  padding_skipped s zero = refl
  padding_skipped s (suc p) = refl
