use native.Mathlib.Omega.{arith}
use mathlib.Core.Path.{◌≡◌}
use lib.ListN.{length}
use Rattle.event_text.proofs.DraftLaws.{added}
use Rattle.event_text.specs.Line.{LONGEST}
use borrow.Author.Rules.{rules}
use Rattle.event_text.proofs.draft.add.Goals as goal

pub returns : goal.returns
returns c =
    let n : length c.args.d.bytes ≡ LONGEST = search rules in
    record { text = added c.args.d.bytes c.args.d.n c.args.text.now (omega (arith, n, c.requires)) c.copy_into.ensures; upto = search rules }
