use mathlib.Core.Path.{◌≡◌, refl, sym, ◌∙◌}
use native.Mathlib.Omega.{arith}
use lib.ListN.{length, length-map, get_or-map}
use Rattle.connection.specs.Slots.{no_standing}
use borrow.Author.Rules.{rules}
use Rattle.connection.specs.Sizes.{SLOTS}
use Rattle.flat_state.proofs.LoopLaws.{made_none, made_next, made_all}
use Rattle.flat_state.proofs.codes_of.Goals as goal

pub loop-i-init : goal.loop-i-init
loop-i-init c =
    let size : length c.args.t.standings ≡ SLOTS = search rules in (
      made_none refl (length-map c.args.t.standings _ ∙ size),
      made_none refl (length-map c.args.t.standings _ ∙ size),
      made_none refl (length-map c.args.t.standings _ ∙ size),
    )

pub loop-i-preserved : goal.loop-i-preserved
loop-i-preserved c =
    let role = c.role_number in (
      made_next _ _ c.loop-i.invariant.0 (omega arith) (role.ensures ∙ sym (get_or-map _ c.args.t.standings c.loop-i.i no_standing)),
      made_next _ _ c.loop-i.invariant.1 (omega arith) (c.turn_number.ensures ∙ sym (get_or-map _ c.args.t.standings c.loop-i.i no_standing)),
      made_next _ _ c.loop-i.invariant.2 (omega arith) (c.life_number.ensures ∙ sym (get_or-map _ c.args.t.standings c.loop-i.i no_standing)),
    )

pub returns : goal.returns
returns c = simp (made_all c.loop-i.invariant.0 (omega arith), made_all c.loop-i.invariant.1 (omega arith), made_all c.loop-i.invariant.2 (omega arith))
