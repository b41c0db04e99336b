use Rattle.std.proofs.Common.{sym, ◌∙◌, arith}
use Rattle.station_kept.proofs.KeptLaws.{entry_here, entry_next, entry_none}
use Rattle.station_kept.proofs.kept.find.Goals as goal

pub returns-then-id_of-id : goal.returns-then-id_of-id
returns-then-id_of-id c = let a = c.args in sym (c.loop-i.invariant ∙ entry_here a.kept.now a.id c.loop-i.i c.loop-i-test.true (sym c.id_of.ensures ∙ c.if-id_of-id.true))

pub loop-i-preserved : goal.loop-i-preserved
loop-i-preserved c = let a = c.args in c.loop-i.invariant ∙ entry_next a.kept.now a.id c.loop-i.i c.loop-i-test.true (λ e. c.if-id_of-id.false (c.id_of.ensures ∙ e))

pub returns : goal.returns
returns c =
    let a = c.args in
    omega (arith, c.loop-i.invariant, entry_none a.kept.now a.id c.loop-i.i c.loop-i-test.false, c.loop-i-test.false)
