use Rattle.std.proofs.Common.{◌≡◌, ℕ, ◌+◌, ◌*◌, ◌-◌, ◌/◌, ◌%◌, ◌^◌, ◌≤◌, sym, ap, ◌∙◌, arith, pow_mono}
use Rattle.station_number.proofs.FixedLaws.{nearest_shifted, nearest_none}
use Rattle.station_number.proofs.fixed.rounded.Goals as goal

pub returns-then-places-gt63 : goal.returns-then-places-gt63
returns-then-places-gt63 c = sym (nearest_none c.args.digits c.args.places c.requires.0 c.if-places-gt63.true)

pub returns : goal.returns
returns c =
    let few : c.args.places - 1 ≤ 62 = omega (arith, c.if-places-gt63.false) in
    let half : 2 ^ (c.args.places - 1) ≤ 4611686018427387904 = pow_mono few in
    let h : 1 * 2 ^ (c.args.places - 1) % 18446744073709551616 ≡ 2 ^ (c.args.places - 1) = omega (arith, half) in
    ap (λ (z : ℕ). (c.args.digits * 1000 + z) / 2 ^ c.args.places) h ∙ nearest_shifted c.args.digits c.args.places c.requires.1
