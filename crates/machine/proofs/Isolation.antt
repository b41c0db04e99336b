-- Isolation: what others send and call changes nothing of R.
use Rattle.std.specs.Prelude.{◌≡◌, refl, List, [], true, false, ℕ, ◌<◌}
use Rattle.std.proofs.Common.{ap, sym, ◌∙◌, arith}
use Rattle.std.proofs.Math.Option.{Option}
use Rattle.machine.specs.Timeline.{Item, Scan, purge}
use Rattle.machine.specs.Machine.{Machine, Reading, AtHeader, Slots, Connection, Open, Ran, ran_fresh, observed, request_in}
use Rattle.machine.proofs.SimulationRelation.{alone_slots, Readings, BothInHeader, InOwnRecord, InOthersRecord, contains_request, alone_request}
use Rattle.machine.proofs.Simulation.{EndsOpen, NeverOverloaded, simulation_from_fresh}

-- between two records, and open
pub record BetweenRecords (M : Machine) (s : Connection M) : Type 0 where
  pub slots : Slots M
  pub is_open : s ≡ Open slots (AtHeader [])

module _ (M : Machine) (R : ℕ) where
  open M use {Request}

  -- What a run B of R's items has in common with the run A of all items.
  pub record Isolated (A B : Ran M) : Type 0 where
    pub ends_between : BetweenRecords M B.state
    pub same_observed : observed M R B.seen ≡ observed M R A.seen
    pub same_request : request_in M R B.state ≡ request_in M R A.state

  -- where the whole run is between two records, so is the purged one
  pub both_between : {T : Slots M} {v : Option Request} {m : Scan} {F F' : Reading M} → Readings M R T [] v m F F' → F ≡ AtHeader [] → F' ≡ AtHeader []
  both_between (BothInHeader {h = h} true e) d = d
  both_between (BothInHeader {h = h} false e) d = refl
  both_between (InOwnRecord x) d = cc
  both_between (InOthersRecord x) d = refl

  -- The item theorem. Take any timeline t, bytes and calls of many requests in any order, and what purging leaves of
  -- it: R's records and R's calls. Run both from a fresh start with the same number of slots. Then the run of what is
  -- left ends open and between two records; it shows the same events of R and gives R's calls the same answers, in
  -- the same order and with the same request before and after each; and the request of R at the end is the same.
  -- Why each premise. R is not 0: records of id 0 are management records and belong to no request. The whole run ends
  -- open: a close by others ends R too. It ends between two records: the bytes of a header that is cut off belong to
  -- no id yet, and what is said of the end of the second run is said of a whole number of records. R is nowhere
  -- refused for want of a slot: that others hold all slots is the one thing of them that R can notice. There is a
  -- slot at all (suc n), as R needs one.
  pub isolation : (n : ℕ) (t : List (Item M.Argument)) → 0 < R → BetweenRecords M (ran_fresh M n t).state → NeverOverloaded M R (ran_fresh M n t)
      → Isolated (ran_fresh M n t) (ran_fresh M n (purge R t))
  isolation n t z a r =
      let o : EndsOpen M R (ran_fresh M n t) = λ d. let y : ◌≡◌ {A = ℕ} 0 1 = cc a.is_open in omega arith in
      let e = simulation_from_fresh M R n t z o r in
      let f : e.reading ≡ AtHeader [] = cc (e.is_whole, a.is_open) in
      let g : e.alone_reading ≡ AtHeader [] = both_between e.readings f in
      record {
        ends_between = record { slots = alone_slots M R n e.request; is_open = e.is_alone ∙ ap (λ x. Open (alone_slots M R n e.request) x) g };
        same_observed = sym e.same_observed;
        same_request =
            ap (request_in M R) e.is_alone ∙ alone_request M R n e.request e.alone_reading
            ∙ sym (ap (request_in M R) e.is_whole ∙ contains_request M R e.request e.reading e.contains);
      }
