use native.Mathlib.Omega.{arith}
use mathlib.Core.Path.{sym}
use Rattle.std.proofs.lemmas.Result.{err_from_is_err_and}
use Rattle.connection.specs.Slots.{request_at}
use Rattle.call_list.specs.Listing.{listing}
use Rattle.call_list.proofs.Laws.{Through, admitted_at, refused_at}
use Rattle.codes.proofs.Laws.{refusal_some}
use Rattle.call_list.proofs.list_at.Goals as goal
use Rattle.call_list.proofs.list_at.Goals.{In_ok-slot}

-- the call has come to its slot
here : (c : In_ok-slot) → Through c.args.c c.args.store.now c.args.id c.in_ok-slot.slot
here c = admitted_at _ _ _ _ (sym c.in_ok-slot.ensures)

pub returns-in_err-slot : goal.returns-in_err-slot
unfolding listing
returns-in_err-slot c =
    let p = err_from_is_err_and c.from_residual.result c.from_residual.ensures.1 in
    let n = refused_at _ _ _ _ (sym c.in_err-slot.ensures) in
    rw (p.1, p.2) (simp (n, refusal_some))

pub offset_bounds-c-slot : goal.offset_bounds-c-slot
offset_bounds-c-slot c = omega (arith, here (goal.at.offset_bounds-c-slot c).In_ok-slot)

pub bounds-c-slot : goal.bounds-c-slot
bounds-c-slot c = (here (goal.at.bounds-c-slot c).In_ok-slot).low

pub returns-then-no_list : goal.returns-then-no_list
unfolding listing request_at
returns-then-no_list c =
    let h = here (goal.at.returns-then-no_list c).In_ok-slot in
    simp (h.none, h.slot, ← c.no_list.ensures, c.if-no_list.true)

pub overflow_mul-from : goal.overflow_mul-from
overflow_mul-from c = omega (arith, here (goal.at.overflow_mul-from c).In_ok-slot)

pub overflow_add-result : goal.overflow_add-result
overflow_add-result c = omega (arith, here (goal.at.overflow_add-result c).In_ok-slot)

pub returns : goal.returns
unfolding listing request_at
returns c =
    let h = here (goal.at.returns c).In_ok-slot in
    simp (h.none, h.slot, ← c.no_list.ensures, c.if-no_list.false, c.from.ensures)
