-- What holds of a request's list and of the end of PARAMS.
use Rattle.std.specs.Prelude.{◌≡◌, ℕ, ◌-◌, ◌≤◌, min, List, ltb, length, take, Some, None}
use Rattle.std.proofs.Common.{sym, ap, ◌∙◌, arith, take_all, ltb-true, ltb-false}
use Rattle.wire.specs.Test.{by_test}
use Rattle.connection.specs.declared.event.Fault.{Fault}
use Rattle.connection.specs.Codes.{fault_cause}
use Rattle.connection.specs.Event.{Event}
use Rattle.connection.specs.Request.{Held, list_of, after_params, faulted, turned, params_fault, params_ended}

-- a list that is cut where its area ends is the same list
pub list_part : (area : List ℕ) (n k : ℕ) → k ≡ min n (length area) → take (k - 0) area ≡ take n area
list_part area n k e =
    by_test (ltb n (length area))
    (λ t. let h : k - 0 ≡ n = omega (arith, ltb-true n (length area) t) in ap (λ (i : ℕ). take i area) h)
    (λ t.
    let h : length area ≤ n = ltb-false n (length area) t in
    take_all (k - 0) area (omega arith) ∙ sym (take_all n area h))

-- what the end of PARAMS comes to: a fault
pub ends_in_fault : (h : Held) (f : Fault) → Some (fault_cause f) ≡ params_fault (list_of h) → params_ended h ≡ faulted h (fault_cause f)
unfolding params_ended
ends_in_fault h f e = simp (← e)

-- and the request ready
pub ends_ready : (h : Held) → None ≡ params_fault (list_of h)
    → params_ended h ≡ turned h (after_params h.request.state.role) (Event.Ready h.request.id h.request.length)
unfolding params_ended
ends_ready h e = simp (← e)
