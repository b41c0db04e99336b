use Prim.Native.Nat.{◌*◌, ◌<◌, ◌≤◌}
use native.Mathlib.Omega.{arith}
use Rattle.queue.specs.Calls.{PUMPED}
use Rattle.queue_pump.specs.Serving.{pump_rows}
use borrow.Author.Tests.{eq-eqb, ne_eqb, lt-ltb, le-ltb}
use Rattle.queue_pump.proofs.check.pump_check.Goals as goal

pub returns-then-store-ne-STORE : goal.returns-then-store-ne-STORE
unfolding pump_rows
returns-then-store-ne-STORE c = simp (ne_eqb _ _ c.if-store-ne-STORE.true)

pub returns-then-queue-ne-QUEUE : goal.returns-then-queue-ne-QUEUE
unfolding pump_rows
returns-then-queue-ne-QUEUE c = simp (eq-eqb _ _ c.if-store-ne-STORE.false, ne_eqb _ _ c.if-queue-ne-QUEUE.true)

pub returns-then-not-fits : goal.returns-then-not-fits
unfolding pump_rows
returns-then-not-fits c = simp (eq-eqb _ _ c.if-store-ne-STORE.false, eq-eqb _ _ c.if-queue-ne-QUEUE.false, c.if-not-fits.true)

pub returns-then-not-open : goal.returns-then-not-open
unfolding pump_rows
returns-then-not-open c = simp (eq-eqb _ _ c.if-store-ne-STORE.false, eq-eqb _ _ c.if-queue-ne-QUEUE.false, c.if-not-fits.false, c.if-not-open.true)

pub returns-then-out-allowance : goal.returns-then-out-allowance
unfolding pump_rows
returns-then-out-allowance c =
    let short : c.args.out < PUMPED * c.args.allowance =
    omega (arith, c.if-out-allowance.true) in
    simp (eq-eqb _ _ c.if-store-ne-STORE.false, eq-eqb _ _ c.if-queue-ne-QUEUE.false, c.if-not-fits.false, c.if-not-open.false, lt-ltb _ _ (short))

pub returns : goal.returns
unfolding pump_rows
returns c =
    let long : PUMPED * c.args.allowance ≤ c.args.out =
    omega (arith, c.if-out-allowance.false) in
    simp (eq-eqb _ _ c.if-store-ne-STORE.false, eq-eqb _ _ c.if-queue-ne-QUEUE.false, c.if-not-fits.false, c.if-not-open.false, le-ltb _ _ (long))
