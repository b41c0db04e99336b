use Prim.Native.Nat.{◌+◌, ◌≤◌, ◌<◌}
use native.Mathlib.Omega.{arith}
use lib.ListN.{length}
use borrow.Author.Tests.{lt-ltb, le-ltb}
use Rattle.plain.specs.Code.{new_entry}
use Rattle.plain.proofs.TableLaws.{requests_length, opened_last, sound_with, sound_more}
use Rattle.plain.proofs.rules.opens.Goals as goal

pub returns-then-count-lt-ENTRIES : goal.returns-then-count-lt-ENTRIES
returns-then-count-lt-ENTRIES c =
    λ store x.
    let few : c.args.table.count ≤ length c.args.table.entries = omega (arith, c.requires.0) in
    let free : c.args.table.count < length c.args.table.entries = omega (arith, c.requires.0) in
    let room = lt-ltb _ _ c.if-count-lt-ENTRIES.true in
    let last = opened_last c.args.table store c.args.id c.args.number free in
    let new = new_entry c.args.id c.args.number in
    rw (c.comes_to.ensures, c.with_entry-after.ensures, c.new_entry.ensures)
    (record {
      says = simp (requests_length c.args.table store few, room, last, c.requires.1);
      sound = λ m s.
          sound_with c.args.table m (m + length x) c.args.table.count new (c.args.table.count + 1) s (omega arith) (omega arith) (omega arith)
          (record { low = omega arith; few = omega arith });
    })

pub returns : goal.returns
returns c =
    λ store x.
    let few : c.args.table.count ≤ length c.args.table.entries = omega (arith, c.requires.0) in
    rw c.refuses.ensures
    (record {
      says = simp (requests_length c.args.table store few, le-ltb _ _ c.if-count-lt-ENTRIES.false);
      sound = λ m s. sound_more c.args.table m (m + length x) s (omega arith);
    })
