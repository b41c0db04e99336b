use mathlib.Core.Path.{sym, ap, ◌∙◌}
use Prim.Native.Nat.{ℕ, ◌+◌}
use native.Mathlib.Omega.{arith}
use lib.ListN.{drop}
use Rattle.pair_repeats.specs.Keys.{key_from, key_of}
use Rattle.pair_repeats.proofs.KeysLaws.{key_step, key_end}
use Rattle.pair_repeats.proofs.name_key.Goals as goal

pub loop-byte-preserved : goal.loop-byte-preserved
loop-byte-preserved c =
    let name = c.args.name.now in
    let l = c.loop-byte in
    l.invariant ∙ key_step name l.key l.byte-index (omega arith) ∙ ap (λ (k : ℕ). key_from k (drop (l.byte-index + 1) name)) (sym c.key_with-key.ensures)

pub returns : goal.returns
unfolding key_of
returns c = sym (c.loop-byte.invariant ∙ key_end c.args.name.now c.loop-byte.key c.loop-byte.byte-index (omega arith))
