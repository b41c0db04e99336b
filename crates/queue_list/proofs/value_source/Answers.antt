use Rattle.std.specs.Prelude.{◌≡◌, List, ℕ}
use Rattle.std.specs.Borrow.{Bor}
use Rattle.std.proofs.Common.{sym, ◌∙◌}
use mathlib.Core.Path.{subst}
use Rattle.connection.specs.Calls.{source}
use Rattle.call_value.specs.Answer.{source_by}
use Rattle.queue_list.proofs.BarLaws.{none_barred, some_free}
use Rattle.queue_list.proofs.ListLaws.{source_barred, source_free}
use Rattle.queue_list.proofs.value_source.Goals as goal

pub returns-in_default : goal.returns-in_default
returns-in_default c =
    let t = none_barred _ _ (sym c.in_default.is ∙ c.heeded.ensures) in
    λ gathered marks queue. sym (source_barred _ _ _ t)

pub returns : goal.returns
returns c =
    let t = some_free _ _ _ (sym c.in-Some.is ∙ c.heeded.ensures) in
    λ gathered marks queue.
    subst (λ (store : Bor (List ℕ)). source_by c.value_source.result ≡ source c.args.c store.now c.args.id c.args.name.now) t.1 c.value_source.ensures
    ∙ sym (source_free _ _ _ t.0)
