-- The words of lines, as character codes.
use Rattle.std.specs.Prelude.{ℕ, List, [], ◌∷◌}

-- ---- the first words of lines
-- "open"
abbrev pub open_word : List ℕ
open_word = 111 ∷ 112 ∷ 101 ∷ 110 ∷ []

-- "ready"
abbrev pub ready_word : List ℕ
ready_word = 114 ∷ 101 ∷ 97 ∷ 100 ∷ 121 ∷ []

-- "byte"
abbrev pub byte_word : List ℕ
byte_word = 98 ∷ 121 ∷ 116 ∷ 101 ∷ []

-- "end"
abbrev pub end_word : List ℕ
end_word = 101 ∷ 110 ∷ 100 ∷ []

-- "abort"
abbrev pub abort_word : List ℕ
abort_word = 97 ∷ 98 ∷ 111 ∷ 114 ∷ 116 ∷ []

-- "refuse"
abbrev pub refuse_word : List ℕ
refuse_word = 114 ∷ 101 ∷ 102 ∷ 117 ∷ 115 ∷ 101 ∷ []

-- "fault"
abbrev pub fault_word : List ℕ
fault_word = 102 ∷ 97 ∷ 117 ∷ 108 ∷ 116 ∷ []

-- "query"
abbrev pub query_word : List ℕ
query_word = 113 ∷ 117 ∷ 101 ∷ 114 ∷ 121 ∷ []

-- "unknown"
abbrev pub unknown_word : List ℕ
unknown_word = 117 ∷ 110 ∷ 107 ∷ 110 ∷ 111 ∷ 119 ∷ 110 ∷ []

-- "closed"
abbrev pub closed_word : List ℕ
closed_word = 99 ∷ 108 ∷ 111 ∷ 115 ∷ 101 ∷ 100 ∷ []

-- ---- roles
-- "responder"
abbrev pub responder_word : List ℕ
responder_word = 114 ∷ 101 ∷ 115 ∷ 112 ∷ 111 ∷ 110 ∷ 100 ∷ 101 ∷ 114 ∷ []

-- "authorizer"
abbrev pub authorizer_word : List ℕ
authorizer_word = 97 ∷ 117 ∷ 116 ∷ 104 ∷ 111 ∷ 114 ∷ 105 ∷ 122 ∷ 101 ∷ 114 ∷ []

-- "filter"
abbrev pub filter_word : List ℕ
filter_word = 102 ∷ 105 ∷ 108 ∷ 116 ∷ 101 ∷ 114 ∷ []

-- ---- whether the connection is kept
-- "keep"
abbrev pub keep_word : List ℕ
keep_word = 107 ∷ 101 ∷ 101 ∷ 112 ∷ []

-- "drop"
abbrev pub drop_word : List ℕ
drop_word = 100 ∷ 114 ∷ 111 ∷ 112 ∷ []

-- ---- a place
-- "at"
abbrev pub at_word : List ℕ
at_word = 97 ∷ 116 ∷ []

-- ---- streams
-- "stdin"
abbrev pub stdin_word : List ℕ
stdin_word = 115 ∷ 116 ∷ 100 ∷ 105 ∷ 110 ∷ []

-- "data"
abbrev pub data_word : List ℕ
data_word = 100 ∷ 97 ∷ 116 ∷ 97 ∷ []

-- ---- what came of a stream
-- "short"
abbrev pub short_word : List ℕ
short_word = 115 ∷ 104 ∷ 111 ∷ 114 ∷ 116 ∷ []

-- "exact"
abbrev pub exact_word : List ℕ
exact_word = 101 ∷ 120 ∷ 97 ∷ 99 ∷ 116 ∷ []

-- "over"
abbrev pub over_word : List ℕ
over_word = 111 ∷ 118 ∷ 101 ∷ 114 ∷ []

-- "unstated"
abbrev pub unstated_word : List ℕ
unstated_word = 117 ∷ 110 ∷ 115 ∷ 116 ∷ 97 ∷ 116 ∷ 101 ∷ 100 ∷ []
