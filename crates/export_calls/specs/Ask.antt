-- The exported calls that ask for a request's parameters, for what a request is, and for how many are active. A state
-- with an unknown code is refused by 9.
use Rattle.std.specs.Prelude.{ℕ, List, [], if◌then◌else◌}
use Rattle.queue.specs.Calls.{QueueMemory, lent, queue_pair, queue_request, queue_count}
use Rattle.queue_list.specs.Places.{queue_read_from}
use Rattle.queue_place.specs.Lies.{value_lies, list_lies}
use Rattle.flat_state.specs.declared.FlatState.{FlatState}
use Rattle.flat_state.specs.Flat.{conn_of, known}
use Rattle.flat_answer.specs.declared.answer.FlatPlace.{FlatPlace}
use Rattle.flat_answer.specs.declared.answer.FlatPair.{FlatPair}
use Rattle.flat_answer.specs.declared.answer.FlatRequest.{FlatRequest}
use Rattle.flat_answer.specs.declared.answer.FlatCount.{FlatCount}
use Rattle.flat_answer.specs.ReadAnswers.{flat_place, no_place, flat_numbered, flat_read_from, no_pair}
use Rattle.flat_answer.specs.ReadAnswers.{flat_request, no_request, flat_count, no_count}

-- the connection, what waits, and the store; these calls look at nothing else
abbrev pub asked : FlatState → List ℕ → List ℕ → QueueMemory
asked f waits store = lent (conn_of f) [] store waits [] []

-- yot_value
unfoldable pub exported_value : FlatState → List ℕ → List ℕ → ℕ → List ℕ → FlatPlace
exported_value f waits store id name =
    if known f then flat_place (value_lies (asked f waits store) id name) else no_place 9

-- yot_list
unfoldable pub exported_list : FlatState → List ℕ → List ℕ → ℕ → FlatPlace
exported_list f waits store id = if known f then flat_place (list_lies (asked f waits store) id) else no_place 9

-- yot_pair_at
unfoldable pub exported_pair_at : FlatState → List ℕ → List ℕ → ℕ → ℕ → FlatPair
exported_pair_at f waits store id k =
    if known f then flat_numbered (queue_pair (asked f waits store) id k) else no_pair 0 9 0

-- yot_pair_from
unfoldable pub exported_pair_from : FlatState → List ℕ → List ℕ → ℕ → ℕ → FlatPair
exported_pair_from f waits store id place =
    if known f then flat_read_from (queue_read_from (conn_of f) waits store id place) else no_pair 0 9 0

-- yot_request
unfoldable pub exported_request : FlatState → List ℕ → ℕ → FlatRequest
exported_request f waits id = if known f then flat_request (queue_request (asked f waits []) id) else no_request 9

-- yot_active_count
unfoldable pub exported_count : FlatState → List ℕ → FlatCount
exported_count f waits = if known f then flat_count (queue_count (asked f waits [])) else no_count 9
