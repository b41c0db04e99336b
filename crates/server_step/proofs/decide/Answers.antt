use mathlib.Core.Path.{sym, ap, ◌∙◌}
use Rattle.record_reader.specs.declared.Phase.{Phase}
use Rattle.server.specs.declared.decision.Decision.{Decision}
use Rattle.server.specs.Decision.{inner_in, applied}
use Rattle.server_step.specs.Outcome.{left_by}
use Rattle.server_step.proofs.decide.Goals as goal

pub feed-requires : goal.feed-requires
feed-requires c = c.requires c.in-Content.is

pub returns-in-Content : goal.returns-in-Content
returns-in-Content c =
    λ t seen.
    c.feed.ensures t seen.ids ∙ ap (λ (w : Phase). left_by w (inner_in t c.args.f c.args.values.now) c.args.bytes.now c.args.left) (sym c.in-Content.is)

pub returns-in-Padding : goal.returns-in-Padding
returns-in-Padding c =
    λ t seen.
    ap (λ (m : Decision). applied m t c.args.values.now) c.in_silence.ensures
    ∙ ap (λ (w : Phase). left_by w (inner_in t c.args.f c.args.values.now) c.args.bytes.now c.args.left) (sym c.in-Padding.is)

pub returns-in-Part : goal.returns-in-Part
returns-in-Part c =
    λ t seen.
    ap (λ (m : Decision). applied m t c.args.values.now) c.in_silence-in-Part.ensures
    ∙ ap (λ (w : Phase). left_by w (inner_in t c.args.f c.args.values.now) c.args.bytes.now c.args.left) (sym c.in-Part.is)

pub returns-in-Whole : goal.returns-in-Whole
returns-in-Whole c =
    λ t seen.
    c.judge.ensures t c.args.f c.args.values.now seen
    ∙ ap (λ (w : Phase). left_by w (inner_in t c.args.f c.args.values.now) c.args.bytes.now c.args.left) (sym c.in-Whole.is)
