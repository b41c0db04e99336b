-- The very part: not only the same bytes, but where they lie.
use Rattle.std.specs.Prelude.{◌≡◌, ℕ, ◌+◌, List, Some, None, Option}
use Rattle.std.proofs.Common.{◌∙◌, arith}
use Rattle.std.specs.Borrow.{Bor}
use Rattle.pair_list.specs.List.{first_named}
use Rattle.connection.specs.declared.state.Conn.{Conn}
use Rattle.connection.specs.RequestCalls.{on_found}
use Rattle.call_list.specs.Listing.{part_of, listing}
use Rattle.pairs.specs.declared.pair.Pair.{Pair}

-- A slice that is the part of another from byte k on: the same block of memory, k bytes further on.
pub record PartAt (whole part : Bor (List ℕ)) (k : ℕ) : Type 0 where
  pub block : part.ref_ptr.0 ≡ whole.ref_ptr.0
  pub place : part.ref_ptr.1 ≡ k + whole.ref_ptr.1

-- One of two slices: the part of the first from byte k on, or else the second itself.
abbrev pub PartOrElse : Bor (List ℕ) → Bor (List ℕ) → Bor (List ℕ) → Option ℕ → Type 0
PartOrElse whole other r (Some k) = PartAt whole r k
PartOrElse whole other r None = PartAt other r 0

-- Where value's answer lies in the store: at the value of the first pair of that name in the request's list. None where
-- there is no such pair or the call is refused: then the answer is the fallback itself.
unfoldable pub value_place : Conn → List ℕ → ℕ → List ℕ → Option ℕ
value_place c store id name =
    on_found (first_named (part_of store (listing c store id)) name) (λ p. Some ((listing c store id).from + p.value)) None

-- a part of a part
pub part_of_part : (whole part r : Bor (List ℕ)) (a k : ℕ) → PartAt whole part a → PartAt part r k → PartAt whole r (a + k)
part_of_part whole part r a k p q = record { block = q.block ∙ p.block; place = omega (arith, p.place, q.place) }

-- a value found in a part, counted in the whole
pub part_found : (whole part other r : Bor (List ℕ)) (a : ℕ) (f : Option Pair) → PartAt whole part a
    → PartOrElse part other r (on_found f (λ p. Some p.value) None) → PartOrElse whole other r (on_found f (λ p. Some (a + p.value)) None)
part_found whole part other r a (Some p) h q = part_of_part whole part r a p.value h q
part_found whole part other r a None h q = q
