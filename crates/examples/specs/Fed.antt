-- Bytes fed from a fresh start, for the cases: what is told on the way.
use Rattle.std.specs.Prelude.{ℕ, zero, suc, List, [], ◌∷◌, ◌++◌}
use Rattle.wire.specs.Buffer.{zeros}
use Rattle.connection.specs.Sizes.{STORE, QUERY}
use Rattle.connection.specs.Event.{Event}
use Rattle.connection.specs.Bytewise.{Note, fed}
use Rattle.connection.specs.Step.{started}

-- all that is told, in at most so many steps
unfoldable pub told : ℕ → List ℕ → List Note
told k bytes = (fed k (started (zeros QUERY) (zeros STORE)).state (started (zeros QUERY) (zeros STORE)).store bytes).notes

-- the last note
unfoldable pub last_of : List Note → Note
last_of [] = Note.Told Event.None
last_of (n ∷ []) = n
last_of (n ∷ m ∷ ns) = last_of (m ∷ ns)

-- BEGIN_REQUEST with KEEP_CONN, an id and a role below 256
unfoldable pub begin : ℕ → ℕ → List ℕ
begin id role = 1 ∷ 1 ∷ 0 ∷ id ∷ 0 ∷ 8 ∷ 0 ∷ 0 ∷ 0 ∷ role ∷ 1 ∷ 0 ∷ 0 ∷ 0 ∷ 0 ∷ 0 ∷ []

-- an empty record of a type
unfoldable pub empty : ℕ → ℕ → List ℕ
empty kind id = 1 ∷ kind ∷ 0 ∷ id ∷ 0 ∷ 0 ∷ 0 ∷ 0 ∷ []

-- so many requests opened, the last with that id
unfoldable pub begins : ℕ → List ℕ
begins zero = []
begins (suc n) = begins n ++ begin (suc n) 1
