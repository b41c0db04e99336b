use native.Mathlib.Omega.{arith}
use Rattle.wait_numbers.proofs.put_numbers.Goals as goal

pub returns-then-i-ge-SLOTS : goal.returns-then-i-ge-SLOTS
returns-then-i-ge-SLOTS c = λ h m. absurd (omega (arith, c.if-i-ge-SLOTS.true))

pub returns-then-count-gt65536 : goal.returns-then-count-gt65536
returns-then-count-gt65536 c = λ h m. absurd (omega (arith, c.if-count-gt65536.true))

pub returns : goal.returns
returns c = λ h m. simp (c.put_last.ensures, c.put_front.ensures, c.put_count.ensures)
