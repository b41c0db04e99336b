use native.Mathlib.Omega.{arith}
use Prim.Native.Nat.{ℕ, ◌≤◌}
use Rattle.host.proofs.Prefix.{prefix_within}
use Rattle.host.proofs.Powers.{fewest_within}
use Rattle.host.specs.Digits.{IsDigitCount}
use Rattle.host.proofs.number.hex.Goals as goal

-- Sixteen digits are enough for 64 bits.
few : (width n k : ℕ) → n ≤ 18446744073709551615 → width ≤ 16 → IsDigitCount 16 width n k → k ≤ 16
few width n k h narrow fewest = fewest_within 16 width n k 16 (omega arith) fewest narrow (omega arith)

pub put_digits-requires-clause-room : goal.put_digits-requires-clause-room
put_digits-requires-clause-room c = omega (arith, few c.min.result c.args.n c.digit_count-k.result (omega arith) (omega arith) c.digit_count-k.ensures)

pub returns-clause-count : goal.returns-clause-count
returns-clause-count c = prefix_within _ _ (omega (arith, few c.min.result c.args.n c.digit_count-k.result (omega arith) (omega arith) c.digit_count-k.ensures))
