-- Numbers as text.
use Rattle.std.specs.Prelude.{ℕ, zero, suc, ◌+◌, ◌-◌, ◌/◌, ◌%◌, ◌^◌, ◌<◌, ◌≤◌, cond, List, [], ◌∷◌, ◌++◌, nat_lt}

-- The character of a digit below 16: from `0` to `9`, then from `a` to `f`.
abbrev pub digit_character : ℕ → ℕ
digit_character d = cond (nat_lt d 10) (48 + d) (87 + d)

-- The last k digits of n in base b, the highest of them first.
abbrev pub last_digits : ℕ → ℕ → ℕ → List ℕ
last_digits b zero n = []
last_digits b (suc k) n = last_digits b k (n / b) ++ (digit_character (n % b) ∷ [])

-- k is the fewest digits that n has in base b, or `width` where that is more.
abbrev pub IsDigitCount : ℕ → ℕ → ℕ → ℕ → Type 0
IsDigitCount b width n k = (width ≤ k) × (n < b ^ k) × (width < k → b ^ (k - 1) ≤ n)
