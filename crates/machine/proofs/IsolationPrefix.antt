-- Isolation for any run that is given R's items and is not stopped before their end unless it is closed.
use Rattle.std.specs.Prelude.{◌≡◌, List, [], ◌++◌, ◌⊎◌, ℕ, suc, ◌<◌}
use Rattle.std.proofs.Common.{ap, sym, ◌∙◌, subst, append-nil, inl, inr, arith}
use Rattle.machine.specs.Timeline.{Item, purge}
use Rattle.machine.specs.Machine.{Machine, Connection, Closed, fresh, state_after, Ran, ran_fresh}
use Rattle.machine.proofs.RunLaws.{closed_stays, state_append}
use Rattle.machine.proofs.Simulation.{NeverOverloaded}
use Rattle.machine.proofs.Isolation.{BetweenRecords, Isolated, isolation}

module _ (M : Machine) (R : ℕ) where
  -- A run is for R's items of t: its timeline u begins what purging leaves of t, and is all of that, or the run is
  -- closed at its end, s.
  pub record RunsFor (t u : List (Item M.Argument)) (s : Connection M) : Type 0 where
    pub rest : List (Item M.Argument)
    pub prefix : u ++ rest ≡ purge R t
    pub all_or_closed : (rest ≡ []) ⊎ (s ≡ Closed)

  closed_early : (s : Connection M) (u rest : List (Item M.Argument)) → state_after M s u ≡ Closed → BetweenRecords M (state_after M s (u ++ rest)) → ⊥
  closed_early s u rest e b =
      let c : state_after M s (u ++ rest) ≡ Closed = state_append M s u rest ∙ ap (λ w. state_after M w rest) e ∙ closed_stays M rest in
      let y : ◌≡◌ {A = ℕ} 0 1 = cc b.is_open in
      omega arith

  -- it is all of what purging leaves: a run that closes early stays closed, and the run of all of it ends open
  all_of_it : (n : ℕ) (t u : List (Item M.Argument)) → RunsFor t u (ran_fresh M n u).state → BetweenRecords M (ran_fresh M n (purge R t)).state → u ≡ purge R t
  all_of_it n t u f b = go f.all_or_closed
    where
      go : (f.rest ≡ []) ⊎ (state_after M (fresh M (suc n)) u ≡ Closed) → u ≡ purge R t
      go (inl e) = sym (append-nil u) ∙ ap (λ l. u ++ l) (sym e) ∙ f.prefix
      go (inr e) = absurd (closed_early (fresh M (suc n)) u f.rest e (rw f.prefix b))

  -- What is concluded of such a run: it had all of R's items, and it is isolated.
  pub record AllIsolated (t u : List (Item M.Argument)) (A B : Ran M) : Type 0 where
    pub all_items_lem : u ≡ purge R t
    pub isolated : Isolated M R A B

  -- The theorem for prefixes, with the premises of the item theorem on the whole run. So R's run cannot be stopped by
  -- a close where the whole run was not.
  pub isolation_of_prefix : (n : ℕ) (t u : List (Item M.Argument)) → 0 < R → BetweenRecords M (ran_fresh M n t).state → NeverOverloaded M R (ran_fresh M n t)
      → RunsFor t u (ran_fresh M n u).state
      → AllIsolated t u (ran_fresh M n t) (ran_fresh M n u)
  isolation_of_prefix n t u z a r f =
      let i = isolation M R n t z a r in
      let e = all_of_it n t u f i.ends_between in
      record { all_items_lem = e; isolated = subst (λ w. Isolated M R (ran_fresh M n t) (ran_fresh M n w)) (sym e) i }
