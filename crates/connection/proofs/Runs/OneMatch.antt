-- In a run `value` has at most one match.
use Rattle.std.specs.Prelude.{◌≡◌, false, ℕ, eqb, Some}
use mathlib.Core.List.{List, Memᴰ}
use Rattle.std.proofs.Common.{arith, eqb-true}
use Rattle.wire.specs.Test.{by_test}
use Rattle.pairs.specs.Pair.{name_of, value_of}
use Rattle.pairs.specs.declared.pair.Pair.{Pair}
use Rattle.pair_list.specs.List.{pairs_from, first_named}
use Rattle.pair_repeats.proofs.RepeatsLaws.{named_once}
use Rattle.connection.specs.Request.{Held, list_of}
use Rattle.connection.specs.RequestCalls as Of
use Rattle.connection.specs.RequestCalls.{in_params, no_list}
use Rattle.connection.specs.Slots.{held_at}
use Rattle.connection.specs.Calls as C
use Rattle.connection.specs.Run.{WholeRun, ending}
use Rattle.connection.proofs.Laws.SlotsLaws.{find_at}
use Rattle.connection.proofs.Runs.Freed.{lent_admitted}
use Rattle.connection.proofs.Runs.WellFormedLists.{ListOk, lists_well_formed}

-- a request whose list can be read is past PARAMS and not faulted, so a pair of its list is the only one with its name
one_match : (h : Held) (name : List ℕ) (q : Pair) → no_list h.request ≡ false → ListOk h
    → Memᴰ q (pairs_from (list_of h) 0).pairs → name_of (list_of h) q ≡ name → first_named (list_of h) name ≡ Some q
one_match h name q n ok =
    by_test (in_params h.request.state.turn)
    (λ t. let z : ◌≡◌ {A = ℕ} 0 1 = cc (simp t at n) in absurd (omega arith))
    (λ t. named_once (list_of h) name q (ok t (simp t at n)).once)

-- the request that a call is about, after a run
abbrev pub asked : WholeRun → ℕ → Held
asked r id = held_at (ending r).state.conn.table (ending r).store (C.slot_of (ending r).state.conn id)

at_slot : (r : WholeRun) (id : ℕ) → C.lent_refusal (ending r).state.conn (ending r).store id ≡ 0 → ListOk (asked r id)
at_slot r id e =
    let m = ending r in
    let a = lent_admitted m.state.conn m.store id e in
    let u = find_at m.state.conn.table id a.slot a.found in
    rw a.found (lists_well_formed r a.fits.is_open a.slot (record { low = u.low; slot_taken = u.slot_taken }))

-- A pair that matches: it is the first one found by its name, and its value is what value answers, for every fallback.
pub record Matches (r : WholeRun) (id : ℕ) (name : List ℕ) (q : Pair) : Type 0 where
  pub found : first_named (list_of (asked r id)) name ≡ Some q
  pub answered : (fallback : List ℕ) → C.value (ending r).state.conn (ending r).store id name fallback ≡ value_of (list_of (asked r id)) q

-- After any run from a start, every pair of the request's list that has the name asked for is the one whose value is
-- answered, unless the call is refused. So there is at most one.
pub value_one_match : (r : WholeRun) (id : ℕ) (name : List ℕ) (q : Pair)
    → ((n : ℕ) → C.source (ending r).state.conn (ending r).store id name ≡ Of.SourceRefused n → ⊥)
    → Memᴰ q (pairs_from (list_of (asked r id)) 0).pairs → name_of (list_of (asked r id)) q ≡ name → Matches r id name q
unfolding C.source Of.source_in C.value Of.value_in
value_one_match r id name q given there named =
    let c = (ending r).state.conn in
    let store = (ending r).store in
    by_test (eqb (C.lent_refusal c store id) 0)
    (λ t.
    by_test (no_list (asked r id).request)
    (λ n. absurd (given 4 (simp (t, n))))
    (λ n.
    let one = one_match (asked r id) name q n (at_slot r id (eqb-true (C.lent_refusal c store id) 0 t)) there named in
    record { found = one; answered = λ fallback. simp (t, n, one) }))
    (λ t. absurd (given (C.lent_refusal c store id) (simp t)))
