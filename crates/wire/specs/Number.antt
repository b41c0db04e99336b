-- Numbers on the wire: two or four bytes, high byte first (FastCGI 1.0, section 3.2: "B1 << 8 + B0").
use Rattle.std.specs.Prelude.{ℕ, ◌+◌, ◌*◌, ◌/◌, ◌%◌, ◌<◌, ◌≡◌, List, [], ◌∷◌}
use Rattle.std.proofs.Common.{arith, mod-eq_of_lt}
use Rattle.std.proofs.Math.Nat.{div-div-eq-div-mul}

-- the number of two bytes, and of four
abbrev pub number2 : ℕ → ℕ → ℕ
number2 b1 b0 = b1 * 256 + b0

unfoldable pub number4 : ℕ → ℕ → ℕ → ℕ → ℕ
number4 b3 b2 b1 b0 = b3 * 16777216 + b2 * 65536 + b1 * 256 + b0

-- the bytes of a number
abbrev pub bytes2 : ℕ → List ℕ
bytes2 n = n / 256 % 256 ∷ n % 256 ∷ []

abbrev pub bytes4 : ℕ → List ℕ
bytes4 n = n / 16777216 % 256 ∷ n / 65536 % 256 ∷ n / 256 % 256 ∷ n % 256 ∷ []

-- nothing is lost
pub number2_bytes : (n : ℕ) → n < 65536 → number2 (n / 256 % 256) (n % 256) ≡ n
number2_bytes n h = omega arith

-- three digits to the base 256, put together
joined : (n n1 n2 n3 d0 d1 d2 : ℕ) → n1 * 256 + d0 ≡ n → n2 * 256 + d1 ≡ n1 → n3 * 256 + d2 ≡ n2 → n3 * 16777216 + d2 * 65536 + d1 * 256 + d0 ≡ n
joined n n1 n2 n3 d0 d1 d2 e0 e1 e2 = omega arith

digit : (n : ℕ) → n / 256 * 256 + n % 256 ≡ n
digit n = omega arith

pub number4_bytes : (n : ℕ) → n < 4294967296 → number4 (n / 16777216 % 256) (n / 65536 % 256) (n / 256 % 256) (n % 256) ≡ n
unfolding number4
number4_bytes n h =
    let two : n / 256 / 256 ≡ n / 65536 = div-div-eq-div-mul n 256 256 in
    let three : n / 65536 / 256 ≡ n / 16777216 = div-div-eq-div-mul n 65536 256 in
    let high : n / 16777216 % 256 ≡ n / 16777216 = mod-eq_of_lt (omega arith) in
    rw high
    (joined n (n / 256) (n / 65536) (n / 16777216) (n % 256) (n / 256 % 256) (n / 65536 % 256)
    (digit n)
    (rw (← two) (digit (n / 256)))
    (rw (← three) (digit (n / 65536))))
