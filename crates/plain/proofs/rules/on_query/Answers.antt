use mathlib.Core.Path.{◌≡◌, sym, ◌∙◌}
use native.Mathlib.Omega.{arith}
use borrow.Author.Tests.{lt-ltb, le-ltb}
use Rattle.pair_list.specs.List.{ending_of}
use Rattle.pair_list.proofs.ListLaws.{ended_formed, broken_formed, ending_place}
use Rattle.pair_list.specs.declared.Ending.{Ending}
use Rattle.plain.specs.Plain.{on_query}
use Rattle.plain.proofs.rules.on_query.Goals as goal

pub returns-then-n-gt512 : goal.returns-then-n-gt512
unfolding on_query
returns-then-n-gt512 c = λ rs. simp (lt-ltb _ _ c.if-n-gt512.true)

pub returns-then-x-n : goal.returns-then-x-n
unfolding on_query
returns-then-x-n c = λ rs. simp (le-ltb _ _ c.if-n-gt512.false, lt-ltb _ _ c.if-x-n.true)

pub returns : goal.returns
unfolding on_query
returns c =
    let ended : ending_of c.args.x.now ≡ Ending.End =
    sym c.list_ending.ensures ∙ c.in_default.is in
    λ rs.
    let short = le-ltb _ _ c.if-n-gt512.false in
    let whole = le-ltb _ _ c.if-x-n.false in
    simp (short, whole, ended_formed _ (ended), c.query.ensures)

pub overflow_cast-at : goal.overflow_cast-at
overflow_cast-at c =
    let broken : ending_of c.args.x.now ≡ Ending.Malformed c.in-Malformed.place =
    sym c.list_ending.ensures ∙ c.in-Malformed.is in
    let p = ending_place _ _ (broken) in
    omega (arith, c.requires)

pub returns-in-Malformed : goal.returns-in-Malformed
unfolding on_query
returns-in-Malformed c =
    let broken : ending_of c.args.x.now ≡ Ending.Malformed c.in-Malformed.place =
    sym c.list_ending.ensures ∙ c.in-Malformed.is in
    λ rs.
    let p = broken_formed _ _ (broken) in
    let short = le-ltb _ _ c.if-n-gt512.false in
    let whole = le-ltb _ _ c.if-x-n.false in
    simp (short, whole, p.0, p.1)
