use Rattle.queue_pump.specs.GoingLaws.{since_first, since_next, since_last}
use Rattle.queue_pump.proofs.turn.Goals as goal

pub loop-t-init : goal.loop-t-init
loop-t-init c = since_first c.args.c c.args.store.now c.args.waits.now c.args.marks.now c.args.queue.now c.args.out.now c.args.allowance c.requires.0 c.requires.1

pub pump_next-t-requires : goal.pump_next-t-requires
pump_next-t-requires c = (c.loop-t.invariant.going, c.loop-t-test.true)

pub loop-t-smaller : goal.loop-t-smaller
loop-t-smaller c = c.pump_next-t.ensures.less

pub loop-t-preserved : goal.loop-t-preserved
loop-t-preserved c = since_next c.loop-t.invariant c.pump_next-t.ensures

pub shape_of-store : goal.shape_of-store
shape_of-store c = c.loop-t.invariant.store_kept

pub shape_of-queue : goal.shape_of-queue
shape_of-queue c = c.loop-t.invariant.queue_kept

pub shape_of-out : goal.shape_of-out
shape_of-out c = c.loop-t.invariant.out_kept

pub returns : goal.returns
returns c = since_last c.args.c c.args.allowance c.args.store.now c.args.waits.now c.args.marks.now c.args.queue.now c.args.out.now c.loop-t.t c.loop-t.store c.loop-t.waits c.loop-t.marks c.loop-t.queue c.loop-t.out c.loop-t.invariant c.loop-t-test.false (λ gathered. c.answer.ensures gathered c.loop-t.store c.loop-t.waits c.loop-t.marks c.loop-t.queue c.loop-t.out)
