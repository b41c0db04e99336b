-- When the web server's end says no: its table's numbers in their one order (docs/SERVER.md). A call names its own rows
-- and takes the first that holds.
use Rattle.std.specs.Prelude.{ℕ, List, [], ◌∷◌}
use Rattle.connection.specs.Refusal.{Row, first_in}

-- 57 the id is 0; 58 it is open already; 59 no slot is free; 60 the role is not 1 to 3; 61 it is not that stream's turn,
-- or the request is aborted; 62 a list of names that is over 512 bytes or malformed. The others are the station's.
abbrev pub refusal_order : List ℕ
refusal_order = 9 ∷ 1 ∷ 3 ∷ 57 ∷ 58 ∷ 59 ∷ 60 ∷ 61 ∷ 62 ∷ 8 ∷ 6 ∷ []

-- the number of the refusal, 0 for none
abbrev pub refusal : List Row → ℕ
refusal rows = first_in refusal_order rows
