-- What content bytes ask of the record that they are of.
use Rattle.std.specs.Prelude.{ℕ, ◌+◌, ◌≤◌, ◌<◌, ◌≡◌, List, get_or}
use Rattle.std.proofs.Common.{subst, ap}
use Rattle.connection.specs.declared.state.Table.{Table}
use Rattle.connection.specs.Sizes.{SLOTS, QUERY}
use Rattle.connection.specs.Slots.{request_at}
use Rattle.server.specs.declared.state.Target.{Target}

-- A slot is one of them; n bytes more do not pass the end of a body or of the lent bytes.
abbrev pub Fed : Target → ℕ → ℕ → Type 0
Fed Target.Skip gathered n = Unit {0}
Fed (Target.Stdout i) gathered n = i < SLOTS
Fed (Target.Stderr i) gathered n = i < SLOTS
Fed (Target.End i) gathered n = (i < SLOTS) × (gathered + n ≤ 8)
Fed Target.Values gathered n = gathered + n ≤ QUERY
Fed Target.Unknown gathered n = gathered + n ≤ 8

-- what it says of a target that is known
pub fed_at : (target known : Target) (gathered n : ℕ) → Fed target gathered n → target ≡ known → Fed known gathered n
fed_at target known gathered n a e = subst (λ (w : Target). Fed w gathered n) e a

-- the id of the request in slot i
pub id_at : (t : Table) (ids : List ℕ) (i : ℕ) → t.ids ≡ ids → (request_at t i).id ≡ get_or ids i 0
unfolding request_at
id_at t ids i e = ap (λ (l : List ℕ). get_or l i 0) e
