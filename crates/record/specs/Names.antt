-- The numbers that have names in FastCGI 1.0, section 8. The code has the same names in src/names.rt.
use Rattle.std.specs.Prelude.{ℕ}

-- the length of a header
abbrev pub HEADER_LEN : ℕ
HEADER_LEN = 8

abbrev pub VERSION : ℕ
VERSION = 1

-- record types
abbrev pub BEGIN_REQUEST : ℕ
BEGIN_REQUEST = 1

abbrev pub ABORT_REQUEST : ℕ
ABORT_REQUEST = 2

abbrev pub END_REQUEST : ℕ
END_REQUEST = 3

abbrev pub PARAMS : ℕ
PARAMS = 4

abbrev pub STDIN : ℕ
STDIN = 5

abbrev pub STDOUT : ℕ
STDOUT = 6

abbrev pub STDERR : ℕ
STDERR = 7

abbrev pub DATA : ℕ
DATA = 8

abbrev pub GET_VALUES : ℕ
GET_VALUES = 9

abbrev pub GET_VALUES_RESULT : ℕ
GET_VALUES_RESULT = 10

abbrev pub UNKNOWN_TYPE : ℕ
UNKNOWN_TYPE = 11

-- roles
abbrev pub RESPONDER : ℕ
RESPONDER = 1

abbrev pub AUTHORIZER : ℕ
AUTHORIZER = 2

abbrev pub FILTER : ℕ
FILTER = 3

-- the flag of a BEGIN_REQUEST body: its lowest bit
abbrev pub KEEP_CONN : ℕ
KEEP_CONN = 1

-- protocol statuses of an END_REQUEST body
abbrev pub REQUEST_COMPLETE : ℕ
REQUEST_COMPLETE = 0

abbrev pub CANT_MPX_CONN : ℕ
CANT_MPX_CONN = 1

abbrev pub OVERLOADED : ℕ
OVERLOADED = 2

abbrev pub UNKNOWN_ROLE : ℕ
UNKNOWN_ROLE = 3

-- the most that a record's two-byte content length can say
abbrev pub MAX_CONTENT : ℕ
MAX_CONTENT = 65535
