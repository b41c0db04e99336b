-- What small runs are made of. Definitions only.
use Rattle.std.specs.Prelude.{List, [], ◌∷◌, true, false, ℕ}
use Rattle.std.proofs.Math.Option.{Option, some}
use Rattle.wire.specs.Buffer.{zeros}
use Rattle.connection.specs.declared.request.Role.{Role}
use Rattle.connection.specs.declared.request.Turn.{Turn}
use Rattle.connection.specs.declared.request.Life.{Life}
use Rattle.connection.specs.Sizes.{STORE, QUERY}
use Rattle.connection.specs.Event.{Event}
use Rattle.connection.specs.Request.{Held}
use Rattle.connection.specs.Bytewise.{Note}
use Rattle.connection.specs.Arguments.{ForFinish}
use Rattle.connection.specs.Run.{Memory, Operation, StepOver, CallFor, Observed, Heard, start_of}

-- a fresh start
abbrev pub fresh : Memory
fresh = start_of (zeros QUERY) (zeros STORE)

-- a header with n content bytes
abbrev pub header : ℕ → ℕ → ℕ → Operation
header kind id n = StepOver (1 ∷ kind ∷ 0 ∷ id ∷ 0 ∷ n ∷ 0 ∷ 0 ∷ [])

-- BEGIN of a responder with KEEP_CONN
abbrev pub begin : ℕ → List Operation
begin id = header 1 id 8 ∷ StepOver (0 ∷ 1 ∷ 1 ∷ 0 ∷ 0 ∷ 0 ∷ 0 ∷ 0 ∷ []) ∷ []

-- PARAMS ends
abbrev pub params_end : ℕ → List Operation
params_end id = header 4 id 0 ∷ []

-- PARAMS with one byte
abbrev pub one_param : ℕ → ℕ → List Operation
one_param id b = header 4 id 1 ∷ StepOver (b ∷ []) ∷ []

-- finish
abbrev pub finish : ℕ → List Operation
finish id = CallFor id (ForFinish 0 (zeros 32)) ∷ []

-- request 1: the STDIN bytes shown, the length of its list, its turn, its area
abbrev pub one_shown : ℕ → ℕ → Turn → List ℕ → Option Held
one_shown stdin n t area =
    some
    (record {
      request = record { id = 1; length = n; state = record { role = Role.Responder; turn = t; life = Life.Live; keep = true; out_ended = false; err_used = false; err_ended = false; shown = record { stdin = stdin; «data» = 0 } } };
      area = area;
    })

abbrev pub one : ℕ → Turn → List ℕ → Option Held
one n t area = one_shown 0 n t area

-- 1 opens
abbrev pub opened_one : Observed
opened_one = Heard (Note.Told (Event.Open 1 1 true))
