-- A whole input fed to a fresh connection in pieces of one size, and one number of all that its steps told.
use Rattle.std.specs.Prelude.{ℕ, zero, suc, ◌+◌, ◌-◌, List, length, take, drop, if◌then◌else◌}
use Rattle.wire.specs.Test.{◌≤?◌, ◌=?◌}
use Rattle.wire.specs.Buffer.{zeros}
use Rattle.connection.specs.Step.{State, state_of, stepped, started}
use Rattle.digest.specs.Digest.{mixed, next_end}
use Rattle.export.specs.declared.Fed.{Fed as CodeFed}

-- Where a feed stands: the state, the store and the digest.
pub record Fed : Type 0 where
  pub state : State
  pub store : List ℕ
  pub sum : ℕ

-- Step after step from a place on, to the input's end or to a step that reads nothing. (The first argument bounds the
-- number of steps.)
unfoldable pub fed_in : ℕ → State → List ℕ → List ℕ → ℕ → ℕ → ℕ → ℕ → Fed
fed_in zero st store input piece at end sum = record { state = st; store = store; sum = sum }
fed_in (suc k) st store input piece at end sum =
    if length input ≤? at then record { state = st; store = store; sum = sum }
    else
    (let e = next_end at end piece (length input) in
    let s = stepped st store (take (e - at) (drop at input)) in
    if s.used =? 0 then record { state = s.state; store = s.store; sum = sum }
    else fed_in k s.state s.store input piece (at + s.used) e (mixed sum s.refusal s.event))

unfoldable pub fed_all : State → List ℕ → List ℕ → ℕ → Fed
unfolding fed_in
fed_all st store input piece = fed_in (length input) st store input piece 0 0 0

abbrev pub fed_by : CodeFed → List ℕ → List ℕ → Fed
fed_by r gathered store = record { state = state_of r.conn gathered; store = store; sum = r.sum }

-- ---- the whole
pub record Digest : Type 0 where
  pub store : List ℕ
  pub sum : ℕ

unfoldable pub digest : List ℕ → List ℕ → ℕ → Digest
digest store input piece =
    let s = started (zeros 512) store in
    let f = fed_all s.state s.store input piece in
    record { store = f.store; sum = f.sum }

abbrev pub digest_by : ℕ → List ℕ → Digest
digest_by r store = record { store = store; sum = r }
