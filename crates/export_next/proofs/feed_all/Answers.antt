use mathlib.Core.Path.{sym, subst}
use Prim.Native.Nat.{ℕ, ◌+◌, ◌-◌, ◌≤◌}
use mathlib.Core.List.{List}
use native.Mathlib.Omega.{arith}
use lib.ListN.{length, take, drop, length-take}
use Rattle.connection.specs.Step.{Stepped, state_of}
use Rattle.call_step.proofs.NextLaws.{next_uses_no_more}
use borrow.Author.Rules.{rules}
use Rattle.export_next.proofs.feed_all.Goals as goal

-- What was used of a piece ends within it.
within : (input : List ℕ) (k e used : ℕ) → used ≤ length (take (e - k) (drop k input)) → k ≤ e → k + used ≤ e
within input k e used few before = omega (arith, length-take (e - k) (drop k input))

pub overflow_add-at : goal.overflow_add-at
overflow_add-at c =
    let l = c.loop-at in
    let e = c.next_end-end in
    let rest = take (e.result - l.at) (drop l.at c.args.input.now) in
    let few = subst (λ (s : Stepped). s.used ≤ length rest) (sym c.next_event-stepped.ensures) (next_uses_no_more (state_of l.conn l.gathered) l.store rest) in
    omega (arith, within c.args.input.now l.at e.result c.next_event-stepped.result.used few e.ensures.1, e.ensures.2, c.well_formed.1.1.1.0)

pub loop-at-preserved : goal.loop-at-preserved
loop-at-preserved c =
    let l = c.loop-at in
    let e = c.next_end-end in
    let rest = take (e.result - l.at) (drop l.at c.args.input.now) in
    let few = subst (λ (s : Stepped). s.used ≤ length rest) (sym c.next_event-stepped.ensures) (next_uses_no_more (state_of l.conn l.gathered) l.store rest) in
    (omega (arith, within c.args.input.now l.at e.result c.next_event-stepped.result.used few e.ensures.1, e.ensures.2), e.ensures.2, search rules, search (rules, l.invariant.3))
