use mathlib.Core.Path.{ap, ◌∙◌}
use Rattle.wire.specs.Buffer.{copied}
use Rattle.pair_stream.proofs.PartLaws.{none_copied, some_taken}
use Rattle.pair_stream.proofs.copy_some.Goals as goal

pub returns-then-s-from : goal.returns-then-s-from
returns-then-s-from c =
    let a = c.args in
    none_copied a.out.now a.at a.from a.n a.s.now c.if-s-from.true

pub returns : goal.returns
returns c =
    let a = c.args in
    let t = some_taken a.from a.n c.least-k.result a.s.now c.least-k.ensures in
    (t.1, c.copy_into.ensures ∙ ap (copied a.out.now a.at) t.0)
