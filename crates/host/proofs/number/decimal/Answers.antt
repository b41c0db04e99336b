use native.Mathlib.Omega.{arith}
use Prim.Native.Nat.{ℕ, ◌≤◌}
use Rattle.host.proofs.Prefix.{prefix_within}
use Rattle.host.proofs.Powers.{fewest_within}
use Rattle.host.specs.Digits.{IsDigitCount}
use Rattle.host.proofs.number.decimal.Goals as goal

-- Twenty digits are enough for 64 bits.
few : (n k : ℕ) → n ≤ 18446744073709551615 → IsDigitCount 10 1 n k → k ≤ 20
few n k h fewest = fewest_within 10 1 n k 20 (omega arith) fewest (omega arith) (omega arith)

pub put_digits-requires-clause-room : goal.put_digits-requires-clause-room
put_digits-requires-clause-room c = omega (arith, few c.args.n c.digit_count-k.result (omega arith) c.digit_count-k.ensures)

pub returns-clause-count : goal.returns-clause-count
returns-clause-count c = prefix_within _ _ (omega (arith, few c.args.n c.digit_count-k.result (omega arith) c.digit_count-k.ensures))
