use Rattle.queue.specs.Calls.{QueueMemory}
use Rattle.connection.specs.Run.{Memory}
use Rattle.queue_pump.proofs.ServingLaws.{front_served, longest_served, none_served, nothing_served}
use Rattle.queue_pump.specs.Serving.{serve_end, serve_longest}
use Rattle.queue_slot.specs.Wait.{ServesNothing}
use Rattle.connection.specs.declared.answer.Output.{Output}
use Rattle.queue_slot.specs.declared.Ends.{Ends}
use Rattle.queue.specs.Calls.{beside}
use mathlib.Core.Path.{refl}
use Rattle.queue_pump.proofs.serve_front.Goals as goal

pub returns-then-n-eq0 : goal.returns-then-n-eq0
returns-then-n-eq0 c =
    let m : Memory → QueueMemory = λ memory. beside memory c.args.waits.now c.args.marks.now c.args.queue.now in
    front_served (λ w. ServesNothing) c.args.waits.now c.args.marks.now c.args.queue.now m c.args.i c.args.id Ends.None c.requires.2 c.in-None.is
    (λ memory. none_served memory c.args.waits.now c.args.marks.now c.args.queue.now c.args.i c.requires.2 c.in-None.is c.if-n-eq0.true c.requires.3)
    (nothing_served m c.args.i c.args.id c.args.out.now c.args.at)

pub returns-in-Out : goal.returns-in-Out
returns-in-Out c =
    front_served (serve_end Output.Stdout Ends.None) c.args.waits.now c.args.marks.now c.args.queue.now (λ memory. beside memory c.serve_end.new.waits c.args.marks.now c.args.queue.now) c.args.i c.args.id Ends.Out c.requires.2 c.in-Out.is (λ memory. refl)
    (c.serve_end.ensures c.args.marks.now c.args.queue.now)

pub returns-in-Err : goal.returns-in-Err
returns-in-Err c =
    front_served (serve_end Output.Stderr Ends.None) c.args.waits.now c.args.marks.now c.args.queue.now (λ memory. beside memory c.serve_end-in-Err.new.waits c.args.marks.now c.args.queue.now) c.args.i c.args.id Ends.Err c.requires.2 c.in-Err.is (λ memory. refl)
    (c.serve_end-in-Err.ensures c.args.marks.now c.args.queue.now)

pub returns-in-OutErr : goal.returns-in-OutErr
returns-in-OutErr c =
    front_served (serve_end Output.Stdout Ends.Err) c.args.waits.now c.args.marks.now c.args.queue.now (λ memory. beside memory c.serve_end-in-OutErr.new.waits c.args.marks.now c.args.queue.now) c.args.i c.args.id Ends.OutErr c.requires.2 c.in-OutErr.is (λ memory. refl)
    (c.serve_end-in-OutErr.ensures c.args.marks.now c.args.queue.now)

pub returns-in-ErrOut : goal.returns-in-ErrOut
returns-in-ErrOut c =
    front_served (serve_end Output.Stderr Ends.Out) c.args.waits.now c.args.marks.now c.args.queue.now (λ memory. beside memory c.serve_end-in-ErrOut.new.waits c.args.marks.now c.args.queue.now) c.args.i c.args.id Ends.ErrOut c.requires.2 c.in-ErrOut.is (λ memory. refl)
    (c.serve_end-in-ErrOut.ensures c.args.marks.now c.args.queue.now)

pub returns-else-n-eq0 : goal.returns-else-n-eq0
returns-else-n-eq0 c =
    front_served serve_longest c.args.waits.now c.args.marks.now c.args.queue.now (λ memory. beside memory c.serve_data.new.waits c.serve_data.new.marks c.serve_data.new.queue) c.args.i c.args.id Ends.None c.requires.2 c.in-None.is
    (λ memory. longest_served memory c.args.waits.now c.args.marks.now c.args.queue.now c.args.i c.requires.2 c.if-n-eq0.false)
    c.serve_data.ensures
