-- What is heeded, and what a call answers where nothing is: it is refused by 9.
use Rattle.std.specs.Prelude.{ℕ, Bool, true, false, Option, Some, None, Result, Ok, Err, ok_or, if◌then◌else◌}
use Rattle.std.proofs.Common.{◌≡◌, refl, sym, ap}
use Rattle.std.proofs.lemmas.Option.{none-some}
use native.Mathlib.Omega.{arith}
use Rattle.connection.specs.declared.answer.Refusal.{Refusal}
use Rattle.connection.specs.Codes.{refusal_number}

abbrev value_or : {A : Type 0} → A → Option A → A
value_or d None = d
value_or d (Some x) = x

-- nothing is there: the test holds, or does not
pub none_barred : {A : Type 0} (b : Bool) (x : A) → None ≡ (if b then None else Some x) → b ≡ true
none_barred true x e = refl
none_barred false x e = absurd (none-some x e)

pub none_unfit : {A : Type 0} (b : Bool) (x : A) → None ≡ (if b then Some x else None) → b ≡ false
none_unfit true x e = absurd (none-some x e)
none_unfit false x e = refl

-- something is there: the other way round, and it is what was handed on
pub some_free : {A : Type 0} (b : Bool) (x y : A) → Some y ≡ (if b then None else Some x) → (b ≡ false) × (y ≡ x)
some_free true x y e = absurd (none-some y (sym e))
some_free false x y e = (refl, ap (value_or x) e)

pub some_fit : {A : Type 0} (b : Bool) (x y : A) → Some y ≡ (if b then Some x else None) → b ≡ true
some_fit true x y e = refl
some_fit false x y e = absurd (none-some y (sym e))

abbrev number_of : {A : Type 0} → Result A Refusal → ℕ
number_of (Ok x) = 0
number_of (Err why) = refusal_number why

abbrev found_in : {A : Type 0} → Result A Refusal → Option A
found_in (Ok x) = Some x
found_in (Err why) = None

abbrev tag_of : {A : Type 0} → Result A Refusal → ℕ
tag_of (Ok x) = 0
tag_of (Err why) = 1

-- a refused call found nothing, and is refused by 9
pub err_none : {A : Type 0} (r : Option A) (why : Refusal) → ok_or r Refusal.OutOfShape ≡ Err why → (r ≡ None) × (refusal_number why ≡ 9)
err_none None why e = (refl, sym (ap number_of e))
err_none (Some x) why e = let h : 0 ≡ 1 = ap tag_of e in absurd (omega (arith, h))

-- one that goes on found what it goes on with
pub ok_some : {A : Type 0} (r : Option A) (x : A) → ok_or r Refusal.OutOfShape ≡ Ok x → r ≡ Some x
ok_some None x e = ap found_in e
ok_some (Some y) x e = ap found_in e
