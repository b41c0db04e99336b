-- The state of a connection as numbers and arrays, which other languages hold: its flat form, and back.
use Rattle.std.specs.Prelude.{ℕ, ◌%◌, Bool, true, false, ◌&&◌, List, [], ◌∷◌, map, if◌then◌else◌}
use Rattle.wire.specs.Test.{◌<?◌, ◌≤?◌, ◌=?◌}
use Rattle.connection.specs.declared.request.Role.{Role}
use Rattle.connection.specs.declared.request.Turn.{Turn}
use Rattle.connection.specs.declared.request.Life.{Life}
use Rattle.connection.specs.declared.request.Standing.{Standing}
use Rattle.connection.specs.declared.state.Table.{Table}
use Rattle.connection.specs.declared.state.Target.{Target}
use Rattle.connection.specs.declared.state.Frame.{Frame}
use Rattle.connection.specs.declared.state.Conn.{Conn}
use Rattle.connection.specs.Codes.{role_number}
use Rattle.flat_state.specs.declared.Codes.{Codes}
use Rattle.flat_state.specs.declared.FlatState.{FlatState}

-- ---- the numbers; roles have FastCGI's
abbrev pub turn_number : Turn → ℕ
turn_number Turn.Params = 0
turn_number Turn.Stdin = 1
turn_number Turn.Data = 2
turn_number Turn.Done = 3

abbrev pub life_number : Life → ℕ
life_number Life.Live = 0
life_number Life.Faulted = 1
life_number Life.Aborted = 2

abbrev pub open_number : Bool → ℕ
open_number true = 1
open_number false = 0

-- what the content of the record being read is for
abbrev pub target_kind : Target → ℕ
target_kind Target.Skip = 0
target_kind (Target.Begin id) = 1
target_kind Target.Query = 2
target_kind (Target.Params slot) = 3
target_kind (Target.Stdin slot) = 4
target_kind (Target.Data slot) = 5

-- the id of the request to be opened, or the slot; 0 where there is neither
abbrev pub target_number : Target → ℕ
target_number Target.Skip = 0
target_number (Target.Begin id) = id
target_number Target.Query = 0
target_number (Target.Params slot) = slot
target_number (Target.Stdin slot) = slot
target_number (Target.Data slot) = slot

-- ---- what has a number. A number that nothing has is read as the last, and of a slot's number the low byte is read.
unfoldable pub role_of : ℕ → Role
role_of n =
    if n =? role_number Role.Responder then Role.Responder
    else if n =? role_number Role.Authorizer then Role.Authorizer
    else Role.Filter

unfoldable pub turn_of : ℕ → Turn
turn_of n =
    if n =? turn_number Turn.Params then Turn.Params
    else if n =? turn_number Turn.Stdin then Turn.Stdin
    else if n =? turn_number Turn.Data then Turn.Data
    else Turn.Done

unfoldable pub life_of : ℕ → Life
life_of n =
    if n =? life_number Life.Live then Life.Live
    else if n =? life_number Life.Faulted then Life.Faulted
    else Life.Aborted

abbrev pub target_at : ℕ → ℕ → ℕ → Target
target_at kind number slot =
    if kind =? target_kind Target.Skip then Target.Skip
    else if kind =? target_kind (Target.Begin number) then Target.Begin number
    else if kind =? target_kind Target.Query then Target.Query
    else if kind =? target_kind (Target.Params slot) then Target.Params slot
    else if kind =? target_kind (Target.Stdin slot) then Target.Stdin slot
    else Target.Data slot

unfoldable pub target_of : ℕ → ℕ → Target
target_of kind number = target_at kind number (number % 256)

-- ---- how the requests stand, slot by slot
abbrev pub roles_of : List Standing → List ℕ
roles_of = map (λ (s : Standing). role_number s.role)

abbrev pub turns_of : List Standing → List ℕ
turns_of = map (λ (s : Standing). turn_number s.turn)

abbrev pub lives_of : List Standing → List ℕ
lives_of = map (λ (s : Standing). life_number s.life)

abbrev pub codes_of : List Standing → Codes
codes_of standings = record { roles = roles_of standings; turns = turns_of standings; lives = lives_of standings }

unfoldable pub standing_of : ℕ → ℕ → ℕ → Standing
standing_of role turn life = record { role = role_of role; turn = turn_of turn; life = life_of life }

unfoldable pub standings_of : List ℕ → List ℕ → List ℕ → List Standing
standings_of [] turns lives = []
standings_of (role ∷ roles) [] lives = []
standings_of (role ∷ roles) (turn ∷ turns) [] = []
standings_of (role ∷ roles) (turn ∷ turns) (life ∷ lives) = standing_of role turn life ∷ standings_of roles turns lives

-- ---- the state, flat and back
unfoldable pub flat_of : Conn → FlatState
flat_of c =
    record {
      content = c.frame.position.content;
      padding = c.frame.position.padding;
      held = c.frame.position.held;
      gathered = c.frame.gathered;
      stdin_shown = c.table.stdin_shown;
      data_shown = c.table.data_shown;
      ids = c.table.ids;
      lengths = c.table.lengths;
      keep = c.table.keep;
      out_ended = c.table.out_ended;
      err_used = c.table.err_used;
      err_ended = c.table.err_ended;
      occupied = c.table.occupied;
      target_number = target_number c.frame.target;
      roles = roles_of c.table.standings;
      turns = turns_of c.table.standings;
      lives = lives_of c.table.standings;
      header = c.frame.position.header;
      body = c.frame.body;
      target = target_kind c.frame.target;
      «open» = open_number c.«open»;
    }

unfoldable pub table_of : FlatState → Table
table_of f =
    record {
      ids = f.ids;
      lengths = f.lengths;
      standings = standings_of f.roles f.turns f.lives;
      keep = f.keep;
      out_ended = f.out_ended;
      err_used = f.err_used;
      err_ended = f.err_ended;
      stdin_shown = f.stdin_shown;
      data_shown = f.data_shown;
      occupied = f.occupied;
    }

unfoldable pub frame_of : FlatState → Frame
frame_of f =
    record {
      position = record { content = f.content; padding = f.padding; held = f.held; header = f.header };
      target = target_of f.target f.target_number;
      gathered = f.gathered;
      body = f.body;
    }

unfoldable pub conn_of : FlatState → Conn
conn_of f = record { table = table_of f; frame = frame_of f; «open» = f.«open» =? open_number true }

-- ---- the flat forms of states
abbrev pub every : (ℕ → Bool) → List ℕ → Bool
every test [] = true
every test (n ∷ numbers) = test n && every test numbers

abbrev pub within : ℕ → ℕ → ℕ → Bool
within low high n = (low ≤? n) && (n ≤? high)

-- a request to be opened may have any id, a slot's number is a byte, and where there is neither stands 0
unfoldable pub known_target : ℕ → ℕ → Bool
known_target kind number =
    if kind =? target_kind Target.Skip then number =? 0
    else if kind =? target_kind (Target.Begin number) then true
    else if kind =? target_kind Target.Query then number =? 0
    else (kind ≤? target_kind (Target.Data number)) && (number <? 256)

unfoldable pub known : FlatState → Bool
known f =
    every (within (role_number Role.Responder) (role_number Role.Filter)) f.roles
    && every (within (turn_number Turn.Params) (turn_number Turn.Done)) f.turns
    && every (within (life_number Life.Live) (life_number Life.Aborted)) f.lives
    && known_target f.target f.target_number
    && (f.«open» ≤? open_number true)
