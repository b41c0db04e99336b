use Rattle.std.proofs.Common.{◌≤◌, ◌-◌, sym, subst, arith, length, take, drop, length-take}
use Rattle.connection.specs.Step.{Stepped, state_of}
use Rattle.call_step.proofs.NextLaws.{next_uses_no_more}
use Rattle.export_reading.proofs.read_all.Goals as goal

-- A call uses no more than it is lent.
pub overflow_add-from : goal.overflow_add-from
overflow_add-from c =
    let l = c.loop in
    let e = c.refilled-rest.result in
    let p = c.refilled-rest.new.buffer in
    let rest = take (e.end - e.from) (drop e.from p) in
    let n = subst (λ (s : Stepped). s.used ≤ length rest) (sym c.next_event-stepped.ensures) (next_uses_no_more (state_of l.conn l.gathered) l.store rest) in
    omega (arith, n, length-take (e.end - e.from) (drop e.from p), c.refilled-rest.ensures, c.well_formed)
