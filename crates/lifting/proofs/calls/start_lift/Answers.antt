use mathlib.Core.Path.{ap, ◌∙◌}
use Rattle.connection.specs.Step.{Started}
use Rattle.lifting.proofs.CallLaws.{lift_started_from, started_lift}
use Rattle.lifting.proofs.calls.start_lift.Goals as goal

pub returns : goal.returns
returns c =
    ap (λ (s : Started). lift_started_from s c.args.id) c.start_for-started.ensures
    ∙ started_lift c.args.gathered.now c.args.store.now c.args.id
