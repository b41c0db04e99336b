-- What holds of a request as it is written: content in two parts, the stream whose turn it is, and what each part keeps.
use Rattle.std.specs.Prelude.{ℕ, ◌+◌, ◌≤◌, ◌≡◌, refl, Bool, true, false, List, [], ◌∷◌, ◌++◌, length, ltb, if◌then◌else◌}
use Rattle.std.proofs.Common.{sym, ap, ◌∙◌, arith, ltb-false, eqb-true, le-ltb}
use Rattle.wire.specs.Test.{◌=?◌, by_test}
use Rattle.record.specs.Names.{PARAMS, STDIN, DATA}
use Rattle.pair_list.proofs.ReadBackList.{Named, Writable}
use Rattle.connection.specs.declared.event.Stream.{Stream}
use Rattle.connection.specs.declared.request.Role.{Role}
use Rattle.connection.specs.declared.request.Turn.{Turn}
use Rattle.connection.specs.declared.request.Shown.{Shown}
use Rattle.connection.specs.Codes.{stream_due}
use Rattle.connection.specs.Request.{Held, MOST, counted, turn_type}
use Rattle.connection.proofs.Laws.Counting.{counted_most, showed_twice}
use Rattle.server.specs.declared.state.Input.{Input}
use Rattle.server.specs.Codes.{input_type, input_turn}
use Rattle.server.specs.Calls.{Part, APair, Content, EndOf, Abort, is_turn, too_long}
use Rattle.requests_read.specs.Parts.{SoFar, begun, so_far, all_so_far, Proper, ListFits}
use Rattle.requests_read.specs.StationHas.{state_so_far}
use Rattle.requests_read.proofs.PairsWritten.{longer_by, writable_more, differ_before}

-- ---- the stream whose turn it is
abbrev turn_of : ℕ → Turn
turn_of n = if n =? PARAMS then Turn.Params else if n =? STDIN then Turn.Stdin else if n =? DATA then Turn.Data else Turn.Done

turn_of_type : (t : Turn) → turn_of (turn_type t) ≡ t
turn_of_type Turn.Params = refl
turn_of_type Turn.Stdin = refl
turn_of_type Turn.Data = refl
turn_of_type Turn.Done = refl

turn_of_input : (input : Input) → turn_of (input_type input) ≡ input_turn input
turn_of_input Input.Params = refl
turn_of_input Input.Stdin = refl
turn_of_input Input.Data = refl

pub turn_is : (t : Turn) (input : Input) → is_turn t input ≡ true → t ≡ input_turn input
turn_is t input e = sym (turn_of_type t) ∙ ap turn_of (eqb-true (turn_type t) (input_type input) e) ∙ turn_of_input input

-- ---- what every part keeps
-- Names and values that can be written, and counts within the number that a count stays at.
pub record Possible (s : SoFar) : Type 0 where
  pub writable : Writable s.pairs
  pub stdin : s.shown.stdin ≤ MOST
  pub «data» : s.shown.«data» ≤ MOST

pub possible_begun : (role : Role) (keep : Bool) → Possible (begun role keep)
possible_begun role keep = record { writable = tt; stdin = omega arith; «data» = omega arith }

pub possible_part : (p : Part) (s : SoFar) → Proper p → Possible s → Possible (so_far s p)
possible_part (APair name value) s k w =
    record { writable = writable_more s.pairs (record { name = name; value = value }) w.writable k.2 k.3; stdin = w.stdin; «data» = w.«data» }
possible_part (Content Stream.Stdin x) s k w =
    record { writable = w.writable; stdin = counted_most s.shown.stdin _; «data» = w.«data» }
possible_part (Content Stream.Data x) s k w =
    record { writable = w.writable; stdin = w.stdin; «data» = counted_most s.shown.«data» _ }
possible_part (EndOf input) s k w = record { writable = w.writable; stdin = w.stdin; «data» = w.«data» }
possible_part Abort s k w = record { writable = w.writable; stdin = w.stdin; «data» = w.«data» }

-- a list that fits in the end fits before
fits_one : (p : Part) (s : SoFar) → ListFits (so_far s p) → ListFits s
fits_one (APair name value) s k =
    let q : Named = record { name = name; value = value } in
    (differ_before s.pairs q k.0, omega (arith, k.1, longer_by s.pairs q))
fits_one (Content stream x) s k = k
fits_one (EndOf input) s k = k
fits_one Abort s k = k

pub fits_before : (ps : List Part) (s : SoFar) → ListFits (all_so_far s ps) → ListFits s
unfolding all_so_far
fits_before [] s k = k
fits_before (p ∷ ps) s k = fits_one p s (fits_before ps (so_far s p) k)

pub proper_short : (p : Part) → Proper p → too_long p ≡ false
proper_short (APair name value) k = simp (le-ltb 65535 (length name) k.2, le-ltb 65535 (length value) k.3)
proper_short (Content stream x) k = refl
proper_short (EndOf input) k = refl
proper_short Abort k = refl

-- ---- content in parts
-- no content is not counted
counted_none : (n : ℕ) → n ≤ MOST → counted n 0 ≡ n
unfolding counted
counted_none n h = by_test (ltb (n + 0) MOST) (λ t. simp t (omega arith)) (λ t. simp t (omega (arith, ltb-false (n + 0) MOST t)))

abbrev with_shown : SoFar → Shown → SoFar
with_shown s c = record { role = s.role; keep = s.keep; turn = s.turn; life = s.life; pairs = s.pairs; shown = c }

pub content_none : (stream : Stream) (s : SoFar) → Possible s → so_far s (Content stream []) ≡ s
content_none Stream.Stdin s w =
    ap (λ (n : ℕ). with_shown s (record { stdin = n; «data» = s.shown.«data» })) (counted_none s.shown.stdin w.stdin)
content_none Stream.Data s w =
    ap (λ (n : ℕ). with_shown s (record { stdin = s.shown.stdin; «data» = n })) (counted_none s.shown.«data» w.«data»)

-- in two parts it is counted as at once
pub content_twice : (stream : Stream) (x y : List ℕ) (s : SoFar)
    → so_far (so_far s (Content stream x)) (Content stream y) ≡ so_far s (Content stream (x ++ y))
content_twice stream x y s =
    let h : Held = record { request = record { id = 0; length = 0; state = state_so_far s }; area = [] } in
    ap (λ (k : Held). with_shown s k.request.state.shown) (showed_twice (stream_due stream) x y h)
