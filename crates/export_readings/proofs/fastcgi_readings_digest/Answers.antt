use mathlib.Core.Path.{sym, subst}
use Prim.Native.Nat.{ℕ, ◌+◌, ◌-◌, ◌≤◌}
use mathlib.Core.List.{List}
use native.Mathlib.Omega.{arith}
use lib.ListN.{length, take, drop, length-take}
use Rattle.reading_reader.specs.Reader.{Call}
use Rattle.reading_reader.proofs.CallLaws.{uses_no_more}
use borrow.Author.Rules.{rules}
use Rattle.export_readings.proofs.fastcgi_readings_digest.Goals as goal

-- What was used of a piece ends within it.
within : (input : List ℕ) (k e used : ℕ) → used ≤ length (take (e - k) (drop k input)) → k ≤ e → k + used ≤ e
within input k e used few before = omega (arith, length-take (e - k) (drop k input))

pub overflow_add-at : goal.overflow_add-at
overflow_add-at c =
    let l = c.loop-at in
    let e = c.next_end-end in
    let rest = take (e.result - l.at) (drop l.at c.args.input.now) in
    let few = subst (λ (s : Call). s.used ≤ length rest) (sym c.read_reading-read.ensures) (uses_no_more l.reader rest) in
    omega (arith, within c.args.input.now l.at e.result c.read_reading-read.result.used few e.ensures.1, e.ensures.2, c.well_formed.0)

pub loop-at-preserved : goal.loop-at-preserved
loop-at-preserved c =
    let l = c.loop-at in
    let e = c.next_end-end in
    let rest = take (e.result - l.at) (drop l.at c.args.input.now) in
    let few = subst (λ (s : Call). s.used ≤ length rest) (sym c.read_reading-read.ensures) (uses_no_more l.reader rest) in
    (omega (arith, within c.args.input.now l.at e.result c.read_reading-read.result.used few e.ensures.1, e.ensures.2), e.ensures.2, search rules)
