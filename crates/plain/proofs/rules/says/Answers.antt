use Prim.Native.Nat.{◌≤◌, ◌<◌}
use mathlib.Core.Path.{sym, ◌∙◌}
use native.Mathlib.Omega.{arith}
use lib.ListN.{length}
use Rattle.plain.specs.Code.{requests_of}
use Rattle.plain.proofs.TableLaws.{requests_length}
use Rattle.plain.proofs.RuleLaws.{stays, says_version, says_management, says_active, says_inactive}
use Rattle.plain.proofs.rules.says.Goals as goal

pub returns-then-version-ne1 : goal.returns-then-version-ne1
returns-then-version-ne1 c =
    let rs = requests_of c.args.table c.args.store.now in
    let rule = sym (says_version rs _ _ _ _ _ c.if-version-ne1.true) in
    rw c.comes_to.ensures (stays c.args.table _ c.args.store.now _ _ rule)

pub returns-then-id-eq0 : goal.returns-then-id-eq0
returns-then-id-eq0 c =
    let rs = requests_of c.args.table c.args.store.now in
    let rule = says_management rs _ _ _ _ _ c.if-version-ne1.false c.if-id-eq0.true in
    rw (c.comes_to-then-id-eq0.ensures, ← c.number_of_two-id.ensures, ← c.number_of_two-n.ensures)
    (stays c.args.table _ c.args.store.now _ _ (c.on_management.ensures rs ∙ sym rule))

pub on_active-requires : goal.on_active-requires
on_active-requires c = (c.requires.0, c.requires.1, c.if-i-table.true, rw c.number_of_two-n.ensures c.requires.3)

pub returns-then-i-table : goal.returns-then-i-table
returns-then-i-table c =
    let rs = requests_of c.args.table c.args.store.now in
    let few : c.args.table.count ≤ length c.args.table.entries = omega (arith, c.requires.0) in
    let low : c.place_of-i.result < length rs =
    omega (arith, requests_length c.args.table c.args.store.now few, c.if-i-table.true) in
    let place = c.place_of-i.ensures c.args.store.now in
    rw (
      ← c.number_of_two-id.ensures,
      ← c.number_of_two-n.ensures,
      says_active rs _ _ _ _ _ c.place_of-i.result c.if-version-ne1.false c.if-id-eq0.false place low,
    )
    c.on_active.ensures

pub returns : goal.returns
returns c =
    let rs = requests_of c.args.table c.args.store.now in
    let few : c.args.table.count ≤ length c.args.table.entries = omega (arith, c.requires.0) in
    let past : length rs ≤ c.place_of-i.result =
    omega (arith, requests_length c.args.table c.args.store.now few, c.if-i-table.false) in
    let place = c.place_of-i.ensures c.args.store.now in
    rw (
      ← c.number_of_two-id.ensures,
      ← c.number_of_two-n.ensures,
      says_inactive rs _ _ _ _ _ c.place_of-i.result c.if-version-ne1.false c.if-id-eq0.false place past,
    )
    (c.on_inactive.ensures c.args.store.now)
