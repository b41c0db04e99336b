use Rattle.std.proofs.Common.{ap, sym, ◌∙◌, Bool, ◌&&◌}
use Rattle.std.specs.Float.{binary64}
use Rattle.std.specs.Float.Ieee.{of_bits, le}
use Rattle.ice_correction.proofs.Rows.{between_thousands}
use Rattle.ice_correction.proofs.is_allowed.Goals as goal

pub returns-then-x : goal.returns-then-x
returns-then-x c =
    let x = c.args.x in
    sym (ap (λ (low : Bool). low && le x (of_bits binary64 4652007308841189376)) c.if-x.true) ∙ between_thousands x

pub returns-else-x : goal.returns-else-x
returns-else-x c =
    let x = c.args.x in
    c.if-x.false ∙ sym (ap (λ (low : Bool). low && le x (of_bits binary64 4652007308841189376)) c.if-x.false) ∙ between_thousands x
