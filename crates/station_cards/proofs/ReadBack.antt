-- What is written reads back: a number's digits as that number, and a text in thousandths, as a card's parameter is read,
-- as that number of thousandths.
use Rattle.std.specs.Prelude.{ℕ, zero, suc, ◌+◌, ◌*◌, ◌/◌, ◌%◌, ◌≤◌, ◌<◌, ◌≡◌, refl, true, List, [], ◌∷◌, ◌++◌, ℤ, pos, negsuc, length, take, drop, get_or, Some}
use Rattle.std.proofs.Common.{ap, ◌∙◌, arith, length-append, take_at, le-ltb, le-leb, ltb-true, ltb-false, ne_eqb}
use Rattle.std.proofs.Math.Seq.{drop-append-add}
use Rattle.wire.specs.Test.{by_test, ◌<?◌}
use Rattle.decimal.specs.Decimal.{is_digit, digit_value, digits_after, decimal_of}
use Rattle.decimal.proofs.Laws.{digit_byte, ten_to}
use Rattle.event_text.specs.Line.{digit, decimal}
use Rattle.event_text.proofs.LineLaws.{decimal_one, decimal_more}
use Rattle.station_number.specs.Fixed.{size_of, thousandths_text}
use Rattle.station_cards.specs.Cards.{index_of, whole_of, fraction_of, unsigned_of, thousandths_in}
use Rattle.station_number.proofs.PutsLaws.{digits_few}

-- ---- digits
is_digit_lem : (d : ℕ) → d < 10 → is_digit (digit d) ≡ true
is_digit_lem d h = simp (le-ltb (48 + d) 48 (omega arith), le-leb (48 + d) 57 (omega arith))

worth : (d : ℕ) → digit_value (digit d) ≡ d
worth d = omega arith

-- one digit more
digits_more : (x : List ℕ) (d v n : ℕ) → d < 10 → digits_after v x ≡ Some n → digits_after v (x ++ (digit d ∷ [])) ≡ Some (n * 10 + d)
unfolding digits_after
digits_more [] d v n h e = simp (is_digit_lem d h) (ap Some (ap (λ (k : ℕ). v * 10 + k) (worth d) ∙ ap (λ (k : ℕ). k * 10 + d) (the_number e)))
  where
    the_number : {a b : ℕ} → Some a ≡ Some b → a ≡ b
    the_number q = cc q
digits_more (byte ∷ x) d v n h e =
    by_test (is_digit byte) (λ t. simp t (digits_more x d (v * 10 + digit_value byte) n h (simp t at e)))
    (λ t. let z : ◌≡◌ {A = ℕ} 0 1 = cc (simp t at e) in absurd (omega arith))

digits_back : (k n : ℕ) → n < k → digits_after 0 (decimal n) ≡ Some n
unfolding digits_after
digits_back zero n h = absurd (omega arith)
digits_back (suc k) n h =
    by_test (n <? 10)
    (λ t. let one : 0 * 10 + digit_value (digit n) ≡ n = omega arith in
    rw (decimal_one n (ltb-true n 10 t)) (simp (is_digit_lem n (ltb-true n 10 t)) (ap Some one)))
    (λ t. let more : 10 ≤ n = ltb-false n 10 t in
    let whole : n / 10 * 10 + n % 10 ≡ n = omega arith in
    rw (decimal_more n more) (digits_more (decimal (n / 10)) (n % 10) 0 (n / 10) (omega arith) (digits_back k (n / 10) (omega arith)) ∙ ap Some whole))

not_empty : (n : ℕ) → length (decimal n) ≡ 0 → ⊥
not_empty n e =
    by_test (n <? 10) (λ t. omega (arith, e, ap length (decimal_one n (ltb-true n 10 t))))
    (λ t. omega (arith, e, ap length (decimal_more n (ltb-false n 10 t)), length-append (decimal (n / 10)) (digit (n % 10) ∷ [])))

-- The digits of a number of up to ten digits, read by the reader of lengths.
pub decimal_back : (n : ℕ) → n < 10000000000 → decimal_of (decimal n) ≡ Some n
unfolding decimal_of ten_to
decimal_back n h =
    simp (ne_eqb _ _ (not_empty n), le-ltb 10 (length (decimal n)) (digits_few 9 n (omega arith)), digits_back (suc n) n (omega arith))

-- ---- a number with a point
-- The first point stands behind the digits.
point_behind : (x r : List ℕ) (v n : ℕ) → digits_after v x ≡ Some n → index_of 46 (x ++ (46 ∷ r)) ≡ length x
unfolding digits_after index_of
point_behind [] r v n e = refl
point_behind (byte ∷ x) r v n e =
    by_test (is_digit byte)
    (λ t. let other : byte ≡ 46 → ⊥ = λ z. omega (arith, z, digit_byte byte t) in
    simp (ne_eqb byte 46 other) (ap suc (point_behind x r (v * 10 + digit_value byte) n (simp t at e))))
    (λ t. let z : ◌≡◌ {A = ℕ} 0 1 = cc (simp t at e) in absurd (omega arith))

whole_back : (n : ℕ) → n < 10000 → whole_of (decimal n) ≡ Some (n * 1000)
unfolding whole_of ten_to
whole_back n h = simp (le-ltb 4 (length (decimal n)) (digits_few 3 n (omega arith)), decimal_back n (omega arith))

fraction_back : (a b c : ℕ) → a < 10 → b < 10 → c < 10 → fraction_of (digit a ∷ digit b ∷ digit c ∷ []) ≡ Some (a * 100 + b * 10 + c)
unfolding fraction_of decimal_of digits_after
fraction_back a b c h g l =
    let sum : (((0 * 10 + digit_value (digit a)) * 10 + digit_value (digit b)) * 10 + digit_value (digit c)) * 1 ≡ a * 100 + b * 10 + c = omega arith in
    simp (is_digit_lem a h, is_digit_lem b g, is_digit_lem c l) (ap Some sum)

unsigned_back : (w : ℕ) (r : List ℕ) (f : ℕ) → w < 10000 → fraction_of r ≡ Some f → unsigned_of (decimal w ++ (46 ∷ r)) ≡ Some (w * 1000 + f)
unfolding unsigned_of
unsigned_back w r f h e =
    let x = decimal w in
    let long : length (x ++ (46 ∷ r)) ≡ length x + suc (length r) = length-append x (46 ∷ r) in
    let short : length x ≡ length (x ++ (46 ∷ r)) → ⊥ = λ z. omega (arith, z, long) in
    let before : take (length x) (x ++ (46 ∷ r)) ≡ x = take_at x (46 ∷ r) (length x) refl in
    let behind : drop (length x + 1) (x ++ (46 ∷ r)) ≡ r = drop-append-add x (46 ∷ r) 1 in
    simp (point_behind x r 0 w (digits_back (suc w) w (omega arith)), ne_eqb _ _ short, before, behind, whole_back w h, e)

-- The whole part, and the three digits behind the point.
parts : (n : ℕ) → n / 1000 * 1000 + (n / 100 % 10 * 100 + n / 10 % 10 * 10 + n % 10) ≡ n
parts n = omega arith

-- The text of n thousandths without its sign.
abbrev size_text : ℕ → List ℕ
size_text n = decimal (n / 1000) ++ (46 ∷ digit (n / 100 % 10) ∷ digit (n / 10 % 10) ∷ digit (n % 10) ∷ [])

size_back : (n : ℕ) → n < 10000000 → unsigned_of (size_text n) ≡ Some n
size_back n h =
    unsigned_back (n / 1000) (digit (n / 100 % 10) ∷ digit (n / 10 % 10) ∷ digit (n % 10) ∷ []) (n / 100 % 10 * 100 + n / 10 % 10 * 10 + n % 10) (omega arith)
    (fraction_back (n / 100 % 10) (n / 10 % 10) (n % 10) (omega arith) (omega arith) (omega arith))
    ∙ ap Some (parts n)

-- It begins with a digit.
digit_first : (x r : List ℕ) (v n : ℕ) → digits_after v x ≡ Some n → (length x ≡ 0 → ⊥) → get_or (x ++ r) 0 0 ≡ 45 → ⊥
unfolding digits_after
digit_first [] r v n e long minus = long refl
digit_first (byte ∷ x) r v n e long minus =
    by_test (is_digit byte) (λ t. omega (arith, minus, digit_byte byte t))
    (λ t. let z : ◌≡◌ {A = ℕ} 0 1 = cc (simp t at e) in absurd (omega arith))

not_none : (x r : List ℕ) → length (x ++ (46 ∷ r)) ≡ 0 → ⊥
not_none x r e = omega (arith, e, length-append x (46 ∷ r))

-- A text of up to four digits before the point, read as a card's parameter is.
pub thousandths_back : (t : ℤ) → size_of t < 10000000 → thousandths_in (thousandths_text t) ≡ t
unfolding thousandths_text thousandths_in
thousandths_back (pos n) h =
    let w = n / 1000 in
    let r = digit (n / 100 % 10) ∷ digit (n / 10 % 10) ∷ digit (n % 10) ∷ [] in
    simp (ne_eqb _ _ (not_none (decimal w) r), ne_eqb _ _ (digit_first (decimal w) (46 ∷ r) 0 w (digits_back (suc w) w (omega arith)) (not_empty w)), size_back n h)
thousandths_back (negsuc n) h =
    let long : suc (length (size_text (suc n))) ≡ 0 → ⊥ = λ z. omega (arith, z) in
    simp (ne_eqb _ _ long, size_back (suc n) h)
