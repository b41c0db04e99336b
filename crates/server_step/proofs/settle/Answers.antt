use mathlib.Core.Path.{◌≡◌, sym, ap, subst, ◌∙◌}
use mathlib.Core.Bool.{Bool}
use Rattle.server_step.specs.declared.Outcome.{Outcome}
use Rattle.server_step.specs.declared.StepCheck.{StepCheck}
use Rattle.server_step.specs.Outcome.{server_of, outcome_of, phased}
use Rattle.server_step.specs.Check.{by_check}
use Rattle.server_step.proofs.settle.Goals as goal

pub go_on-requires : goal.go_on-requires
go_on-requires c = c.requires c.in-Read.is

pub returns-in-Refused : goal.returns-in-Refused
returns-in-Refused c =
    λ t o seen reads.
    ap (λ (m : Outcome). outcome_of m t o c.args.values.now) c.stay.ensures
    ∙ ap (λ (k : StepCheck). by_check k (server_of t c.args.f o) c.args.values.now c.args.piece.now) (sym c.in-Refused.is)

pub returns-in-Idle : goal.returns-in-Idle
returns-in-Idle c =
    λ t o seen reads.
    ap (λ (m : Outcome). outcome_of m t o c.args.values.now) c.stay-in-Idle.ensures
    ∙ ap (λ (k : StepCheck). by_check k (server_of t c.args.f o) c.args.values.now c.args.piece.now) (sym c.in-Idle.is)

pub returns-in-Read : goal.returns-in-Read
returns-in-Read c =
    λ t o seen reads.
    subst (λ (b : Bool). outcome_of c.go_on.result t b c.go_on.new.values ≡ phased (server_of t c.args.f b) c.args.values.now c.args.piece.now) (sym (reads c.in-Read.is)) (c.go_on.ensures t seen)
    ∙ ap (λ (k : StepCheck). by_check k (server_of t c.args.f o) c.args.values.now c.args.piece.now) (sym c.in-Read.is)
