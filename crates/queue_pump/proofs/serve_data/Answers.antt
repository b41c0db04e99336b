use Rattle.queue_pump.proofs.ServingLaws.{RunFits, run_short, data_served}
use native.Mathlib.Omega.{arith}
use Rattle.queue_pump.proofs.serve_data.Goals as goal

pub overflow_add-start : goal.overflow_add-start
overflow_add-start c =
    let short : RunFits c.run_at-run.result c.args.count =
    run_short c.args.marks.now c.args.i c.args.count c.requires.1.marks_size c.requires.0.low c.requires.1.fits c.requires.2 (c.run_at-run.ensures c.requires.1.marks_size c.requires.0.low c.requires.1.fits) in
    omega (arith, short, c.requires.0, c.requires.1)

pub slice_bounds-write_record-end : goal.slice_bounds-write_record-end
slice_bounds-write_record-end c =
    let short : RunFits c.run_at-run.result c.args.count =
    run_short c.args.marks.now c.args.i c.args.count c.requires.1.marks_size c.requires.0.low c.requires.1.fits c.requires.2 (c.run_at-run.ensures c.requires.1.marks_size c.requires.0.low c.requires.1.fits) in
    omega (arith, short, c.requires.0, c.requires.1)

pub returns : goal.returns
returns c =
    let short : RunFits c.run_at-run.result c.args.count =
    run_short c.args.marks.now c.args.i c.args.count c.requires.1.marks_size c.requires.0.low c.requires.1.fits c.requires.2 (c.run_at-run.ensures c.requires.1.marks_size c.requires.0.low c.requires.1.fits) in
    let n = short in
    λ memory r same. data_served memory c.args.waits.now c.args.marks.now c.args.queue.now c.args.i c.args.count r c.requires.0 c.requires.1 c.requires.2 same (c.run_at-run.ensures c.requires.1.marks_size c.requires.0.low c.requires.1.fits) (c.stream_at.ensures c.requires.1.marks_size c.requires.0.low) c.output_type-kind.ensures c.write_record-next.ensures
    (c.take_run.ensures memory c.requires.0.low c.requires.1.queue_size n.some (omega (arith, n.within, c.requires.1.counted)) (omega (arith, c.requires.1.fits, c.requires.1.counted)))
