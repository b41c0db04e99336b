-- Numbers with a point from their parts, as the code puts them one after another.
use Rattle.std.specs.Prelude.{ℕ, ◌/◌, ◌%◌, ◌≡◌, refl, [], ◌∷◌, ◌++◌, ℤ, pos, negsuc, unsigned_abs}
use Rattle.std.proofs.Common.{append_assoc}
use Rattle.event_text.specs.Line.{digit, decimal}
use Rattle.station_number.specs.Fixed.{sign_text, size_of, degrees_text, thousandths_text}

-- How far a number is from zero, by the library's word and by the definition.
size_is : (t : ℤ) → unsigned_abs t ≡ size_of t
size_is (pos n) = refl
size_is (negsuc n) = refl

pub whole_parts : (t u v : ℤ) (n m one : ℕ) → u ≡ t → v ≡ t → n ≡ unsigned_abs v → m ≡ n / one
    → sign_text u ++ decimal m ++ (46 ∷ []) ≡ sign_text t ++ (decimal (size_of t / one) ++ (46 ∷ []))
whole_parts t u v n m one p q e f = rw (f, p, e, q, size_is t) (simp append_assoc)

pub degrees_parts : (t u v : ℤ) (n : ℕ) → u ≡ t → v ≡ t → n ≡ unsigned_abs v
    → (sign_text u ++ (decimal (size_of u / 10) ++ (46 ∷ []))) ++ (digit (n % 10) ∷ []) ≡ degrees_text t
unfolding degrees_text
degrees_parts t u v n p q e = rw (p, e, q, size_is t) (simp append_assoc)

pub thousandths_parts : (t u v : ℤ) (n : ℕ) → u ≡ t → v ≡ t → n ≡ unsigned_abs v
    → (sign_text u ++ (decimal (size_of u / 1000) ++ (46 ∷ []))) ++ (digit (n / 100 % 10) ∷ []) ++ (digit (n / 10 % 10) ∷ []) ++ (digit (n % 10) ∷ []) ≡ thousandths_text t
unfolding thousandths_text
thousandths_parts t u v n p q e = rw (p, e, q, size_is t) (simp append_assoc)
