-- Sizes, each in one place. The code has the same names in src/sizes.rt.
use Rattle.std.specs.Prelude.{ℕ, ◌*◌}

-- requests that can be active at once (house rule)
abbrev pub SLOTS : ℕ
SLOTS = 16

-- bytes of the store that belong to one slot, so the most that the parameters of a request can have (house rule)
abbrev pub AREA : ℕ
AREA = 4096

-- the store
abbrev pub STORE : ℕ
STORE = SLOTS * AREA

-- the most content bytes of a GET_VALUES record (house rule)
abbrev pub QUERY : ℕ
QUERY = 512

-- content bytes of a record of STDOUT or STDERR (house rule)
abbrev pub CHUNK : ℕ
CHUNK = 8184
