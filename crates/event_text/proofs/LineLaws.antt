-- What holds of lines.
use Rattle.std.specs.Prelude.{ℕ, zero, suc, ◌+◌, ◌*◌, ◌/◌, ◌%◌, ◌≤◌, ◌<◌, ◌≡◌, refl, length}
use Rattle.std.proofs.Common.{ap, ◌∙◌, arith, length-append, lt-ltb, le-ltb, ltb-true, ltb-false, le-leb}
use mathlib.Core.List.{List, [], ◌∷◌, ◌++◌, flatten}
use Rattle.std.proofs.lemmas.Bool.{lt-leb}
use Rattle.wire.specs.Test.{by_test, ◌<?◌}
use Rattle.wire.specs.Buffer.{copied}
use Rattle.wire.proofs.BufferLaws.{copied_room}
use Rattle.record_writer.specs.Written.{Placed}
use Rattle.connection.specs.Event.{Event}
use Rattle.event_text.specs.Line.{digit, decimal_in, decimal, byte_line, event_lines, line_placed}

-- any sufficient bound gives the same digits
enough : (k j n : ℕ) → n < k → n < j → decimal_in k n ≡ decimal_in j n
unfolding decimal_in
enough zero j n h g = absurd (omega arith)
enough (suc k) zero n h g = absurd (omega arith)
enough (suc k) (suc j) n h g =
    by_test (n <? 10) (λ t. simp t)
    (λ t. let m : 10 ≤ n = ltb-false n 10 t in
    simp t (ap (λ (l : List ℕ). l ++ (digit (n % 10) ∷ [])) (enough k j (n / 10) (omega arith) (omega arith))))

-- a number below ten is one digit
pub decimal_one : (n : ℕ) → n < 10 → decimal n ≡ digit n ∷ []
unfolding decimal_in decimal
decimal_one n h = simp (lt-ltb n 10 h)

-- any other has its tenth before its last digit
pub decimal_more : (n : ℕ) → 10 ≤ n → decimal n ≡ decimal (n / 10) ++ (digit (n % 10) ∷ [])
unfolding decimal_in decimal
decimal_more n h =
    simp (le-ltb n 10 h) (ap (λ (l : List ℕ). l ++ (digit (n % 10) ∷ [])) (enough n (suc (n / 10)) (n / 10) (omega arith) (omega arith)))

pub decimal_size : (n : ℕ) → 10 ≤ n → length (decimal n) ≡ length (decimal (n / 10)) + 1
decimal_size n h = ap length (decimal_more n h) ∙ simp length-append

-- ten times the number is one digit more
longer : (m k : ℕ) → ((n : ℕ) → n < m → length (decimal n) ≤ k) → 1 ≤ k → (n : ℕ) → n < m * 10 → length (decimal n) ≤ k + 1
longer m k short h n less =
    by_test (n <? 10)
    (λ t. omega (arith, ap length (decimal_one n (ltb-true n 10 t))))
    (λ t. omega (arith, short (n / 10) (omega arith), decimal_size n (ltb-false n 10 t)))

-- sixteen bits are at most five digits
pub decimal_short : (n : ℕ) → n < 65536 → length (decimal n) ≤ 5
decimal_short n h =
    longer 10000 4 (longer 1000 3 (longer 100 2 (longer 10 1 (λ k l. omega (arith, ap length (decimal_one k l))) (omega arith)) (omega arith)) (omega arith)) (omega arith) n (omega arith)

-- text copied to a place with room for it, and to one with none
pub text_placed : (l : List ℕ) (at : ℕ) (x : List ℕ) {m : List ℕ} → at + length x ≤ length l → m ≡ copied l at x
    → ◌≡◌ {A = Placed} (record { next = at + length x; buffer = m }) (line_placed l at x)
unfolding line_placed
text_placed l at x h e = simp (le-leb _ _ h, e, copied_room l at x h)

pub text_unplaced : (l : List ℕ) (at : ℕ) (x : List ℕ) → length l < at + length x
    → ◌≡◌ {A = Placed} (record { next = at; buffer = l }) (line_placed l at x)
unfolding line_placed
text_unplaced l at x h = simp (lt-leb _ _ h)

-- the lines of a data event's bytes, one after the other
pub data_lines_none : (id stream n : ℕ) → event_lines (Event.Data id stream n) [] ≡ []
unfolding event_lines flatten
data_lines_none id stream n = refl

pub data_lines_next : (id stream n b : ℕ) (bs : List ℕ)
    → event_lines (Event.Data id stream n) (b ∷ bs) ≡ byte_line id stream b ++ event_lines (Event.Data id stream n) bs
unfolding event_lines flatten
data_lines_next id stream n b bs = refl
