use Rattle.queue_pump.proofs.ServingLaws.{end_served}
use Rattle.queue.specs.Calls.{beside}
use Rattle.queue_pump.proofs.serve_end.Goals as goal

pub returns : goal.returns
returns c = λ marks queue memory r same. end_served (beside memory c.args.waits.now marks queue) c.args.i c.args.output c.args.left r c.requires same c.output_type.ensures (c.put_front.ensures memory marks queue c.requires.low) c.write_record.ensures
