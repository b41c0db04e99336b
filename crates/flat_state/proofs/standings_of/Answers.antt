use mathlib.Core.Path.{◌≡◌, refl, sym, ◌∙◌}
use native.Mathlib.Omega.{arith}
use lib.ListN.{length}
use Rattle.connection.specs.Slots.{no_standing}
use Rattle.flat_state.proofs.LoopLaws.{made_none, made_next, made_all, standings_length, standing_at_lem}
use borrow.Author.Rules.{rules}
use Rattle.connection.specs.Sizes.{SLOTS}
use Rattle.flat_state.proofs.standings_of.Goals as goal

pub loop-i-init : goal.loop-i-init
loop-i-init c =
    let roles : length c.args.roles ≡ SLOTS = search rules in
    let turns : length c.args.turns ≡ SLOTS = search rules in
    let lives : length c.args.lives ≡ SLOTS = search rules in
    made_none refl (standings_length c.args.roles c.args.turns c.args.lives (turns ∙ sym roles) (lives ∙ sym roles) ∙ roles)

pub loop-i-preserved : goal.loop-i-preserved
loop-i-preserved c =
    let roles : length c.args.roles ≡ SLOTS = search rules in
    let turns : length c.args.turns ≡ SLOTS = search rules in
    let lives : length c.args.lives ≡ SLOTS = search rules in
    let at_i = standing_at_lem c.args.roles c.args.turns c.args.lives c.loop-i.i no_standing (omega arith) (omega arith) (omega arith) in
    made_next no_standing _ c.loop-i.invariant (omega arith) (c.standing_of.ensures ∙ sym at_i)

pub returns : goal.returns
returns c = made_all c.loop-i.invariant (omega arith)
