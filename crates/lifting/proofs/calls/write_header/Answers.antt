use Prim.Native.Nat.{◌+◌, ◌-◌}
use mathlib.Core.Path.{◌≡◌, refl, ap, ◌∙◌}
use native.Mathlib.Omega.{arith}
use lib.ListN.{length, take, drop}
use Rattle.lifting.specs.Call.{with_waiting}
use Rattle.lifting.specs.Ways.{lifting_with}
use Rattle.lifting.proofs.HeaderLaws.{waiting_part, wrote, header_written_lem}
use borrow.Author.Rules.{rules}
use Rattle.lifting.proofs.calls.write_header.Goals as goal

pub slice_bounds-copy_into-end : goal.slice_bounds-copy_into-end
slice_bounds-copy_into-end c =
    let l : length c.args.m.header ≡ 8 = search rules in
    omega (arith, l, c.min-waiting.ensures, c.min-n.ensures)

pub returns : goal.returns
returns c =
    λ id s.
    let k = 8 - c.min-waiting.result in
    let l : length c.args.m.header ≡ 8 = search rules in
    let x = take (k + c.min-n.result - k) (drop k c.args.m.header) in
    let m = lifting_with s.state id c.args.m in
    let room = length c.args.out.now in
    let part = waiting_part c.args.m.header c.args.m.waiting room c.min-waiting.result c.min-n.result k (k + c.min-n.result) l c.min-waiting.ensures c.min-n.ensures refl refl in
    ap (wrote c.min-n.result (with_waiting m (c.min-waiting.result - c.min-n.result)) s.store) c.copy_into.ensures
    ∙ header_written_lem m s.store c.args.out.now x c.min-waiting.result c.min-n.result l part c.min-waiting.ensures c.min-n.ensures
