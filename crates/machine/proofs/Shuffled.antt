-- Two runs with the same items of R, mixed differently among those of others.
use Rattle.std.specs.Prelude.{◌≡◌, List, ℕ, ◌<◌}
use Rattle.std.proofs.Common.{ap, sym, ◌∙◌}
use Rattle.machine.specs.Timeline.{Item, purge}
use Rattle.machine.specs.Machine.{Machine, Ran, ran_fresh, observed, request_in}
use Rattle.machine.proofs.Simulation.{NeverOverloaded}
use Rattle.machine.proofs.Isolation.{BetweenRecords, isolation}

module _ (M : Machine) (R : ℕ) where
  -- what of R is the same in two runs
  pub record SameOf (A B : Ran M) : Type 0 where
    pub same_observed : observed M R A.seen ≡ observed M R B.seen
    pub same_request : request_in M R A.state ≡ request_in M R B.state

  -- Isolation twice: both runs agree with the run of R's items alone.
  pub shuffled : (n : ℕ) (t u : List (Item M.Argument)) → 0 < R
      → BetweenRecords M (ran_fresh M n t).state → NeverOverloaded M R (ran_fresh M n t)
      → BetweenRecords M (ran_fresh M n u).state → NeverOverloaded M R (ran_fresh M n u) → purge R t ≡ purge R u
      → SameOf (ran_fresh M n t) (ran_fresh M n u)
  shuffled n t u z a r b q e =
      let i = isolation M R n t z a r in
      let j = isolation M R n u z b q in
      record {
        same_observed = sym i.same_observed ∙ ap (λ w. observed M R (ran_fresh M n w).seen) e ∙ j.same_observed;
        same_request = sym i.same_request ∙ ap (λ w. request_in M R (ran_fresh M n w).state) e ∙ j.same_request;
      }
