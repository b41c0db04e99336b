-- What a list states can be passed by a count of 32 bits.
use Rattle.std.specs.Prelude.{ℕ, ◌≤◌, ◌≡◌, List, ltb, Some, None, Option}
use Rattle.std.proofs.Common.{arith, ltb-false}
use Rattle.wire.specs.Test.{by_test}
use Rattle.pairs.specs.Pair.{value_of}
use Rattle.pair_list.specs.List.{first_named}
use Rattle.decimal.specs.Decimal.{decimal_of}
use Rattle.stated_length.specs.Stated.{LARGEST, up_to_largest, of_found, stated_in}
use Rattle.pairs.specs.declared.pair.Pair.{Pair}

largest : (o : Option ℕ) (n : ℕ) → up_to_largest o ≡ Some n → n ≤ LARGEST
largest None n e = let z : ◌≡◌ {A = ℕ} 0 1 = cc in absurd (omega arith)
largest (Some m) n e =
    by_test (ltb LARGEST m)
    (λ t. let z : ◌≡◌ {A = ℕ} 0 1 = cc (simp t at e) in absurd (omega arith))
    (λ t. let q : m ≡ n = cc (simp t at e) in omega (arith, ltb-false LARGEST m t))

found_largest : (list : List ℕ) (f : Option Pair) (n : ℕ) → of_found list f ≡ Some n → n ≤ LARGEST
found_largest list (Some p) n e = largest (decimal_of (value_of list p)) n e
found_largest list None n e = let z : ◌≡◌ {A = ℕ} 0 1 = cc in absurd (omega arith)

pub stated_largest : (list name : List ℕ) (n : ℕ) → stated_in list name ≡ Some n → n ≤ LARGEST
unfolding stated_in
stated_largest list name n e = found_largest list (first_named list name) n e
