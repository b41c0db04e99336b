-- What a call answers for one request: from its record, its own area and the call's arguments, and nothing else.
use Rattle.std.specs.Prelude.{ℕ, Bool, true, false, not, List, [], ◌∷◌, ◌++◌, length, if◌then◌else◌, Some, None, Option}
use Rattle.wire.specs.Test.{◌<?◌, ◌=?◌}
use Rattle.wire.specs.Buffer.{put_at}
use Rattle.record.specs.Names.{STDOUT, STDERR, END_REQUEST, REQUEST_COMPLETE}
use Rattle.record.specs.Body.{end_body_bytes}
use Rattle.record_writer.specs.Written.{record_bytes, stream_bytes}
use Rattle.pairs.specs.Pair.{value_of}
use Rattle.pair_list.specs.List.{first_named, pair_number}
use Rattle.pairs.specs.declared.pair.Pair.{Pair}
use Rattle.connection.specs.declared.request.Turn.{Turn}
use Rattle.connection.specs.declared.request.Life.{Life}
use Rattle.connection.specs.declared.request.RequestState.{RequestState}
use Rattle.connection.specs.declared.request.Request.{Request}
use Rattle.connection.specs.declared.answer.Output.{Output}
use Rattle.connection.specs.Sizes.{CHUNK}
use Rattle.connection.specs.Codes.{output_type}
use Rattle.connection.specs.Refusal.{◌when◌, refusal}
use Rattle.connection.specs.Request.{Held, list_of, is_spent, with_state}

-- PARAMS has not ended
abbrev pub in_params : Turn → Bool
in_params Turn.Params = true
in_params Turn.Stdin = false
in_params Turn.Data = false
in_params Turn.Done = false

abbrev pub is_faulted : Life → Bool
is_faulted Life.Live = false
is_faulted Life.Faulted = true
is_faulted Life.Aborted = false

-- ---- value and pairs. Row 4: PARAMS not ended, or the request faulted.
abbrev pub no_list : Request → Bool
no_list r = if in_params r.state.turn then true else is_faulted r.state.life

-- with the pair found, or else
abbrev pub on_found {ℓ} : {A : Type ℓ} → Option Pair → (Pair → A) → A → A
on_found (Some p) f other = f p
on_found None f other = other

-- Value by name: the first matching pair's value, or else the fallback, also when refused.
unfoldable pub value_in : Held → List ℕ → List ℕ → List ℕ
value_in h name fallback =
    if no_list h.request then fallback
    else on_found (first_named (list_of h) name) (value_of (list_of h)) fallback

-- Its sister call: the refusal's number, or whether the value is the store's.
pub data Source : Type 0 where
  FromStore : Source
  FromFallback : Source
  SourceRefused : ℕ → Source

unfoldable pub source_in : Held → List ℕ → Source
source_in h name =
    if no_list h.request then SourceRefused 4
    else on_found (first_named (list_of h) name) (λ p. FromStore) FromFallback

-- The pair of number k, its offsets counted in the request's area. Row 7: there is none.
pub data Numbered : Type 0 where
  PairIs : Pair → Numbered
  PairRefused : ℕ → Numbered

unfoldable pub pair_in : Held → ℕ → Numbered
pair_in h k = if no_list h.request then PairRefused 4 else on_found (pair_number (list_of h) k) PairIs (PairRefused 7)

-- The walk: the request's list, and the place 0; refused, no bytes and the number.
pub record Walk : Type 0 where
  pub list : List ℕ
  pub place : ℕ
  pub refusal : ℕ

abbrev pub no_walk : ℕ → Walk
no_walk n = record { list = []; place = 0; refusal = n }

unfoldable pub walk_in : Held → Walk
walk_in h = if no_list h.request then no_walk 4 else record { list = list_of h; place = 0; refusal = 0 }

-- What the request is: its id, the length of its list, and its state.
pub data RequestAnswer : Type 0 where
  RequestIs : Request → RequestAnswer
  RequestRefused : ℕ → RequestAnswer

-- ---- say and end. Row 4: PARAMS not ended and the request not spent. Row 5: that stream is ended.
abbrev pub no_output : Request → Bool
no_output r = if in_params r.state.turn then not (is_spent r.state.life) else false

abbrev pub is_ended : Output → RequestState → Bool
is_ended Output.Stdout m = m.out_ended
is_ended Output.Stderr m = m.err_ended

-- What a call that writes comes to: the number of its refusal, 0 for none; the bytes written; the request and the
-- lent buffer afterwards.
pub record Writing : Type 0 where
  pub refusal : ℕ
  pub written : ℕ
  pub request : Request
  pub buffer : List ℕ

-- Row 6: the output is longer than the buffer. Else it fills the buffer from its start, and the request is changed.
unfoldable pub writes : ℕ → List ℕ → Request → Request → List ℕ → Writing
writes n bytes after r buffer =
    if n =? 0 then record { refusal = 0; written = length bytes; request = after; buffer = put_at buffer 0 bytes }
    else record { refusal = n; written = 0; request = r; buffer = buffer }

abbrev pub output_refusal : Request → Output → List ℕ → List ℕ → ℕ
output_refusal r output bytes buffer =
    refusal ((4 when no_output r) ∷ (5 when is_ended output r.state) ∷ (6 when (length buffer <? length bytes)) ∷ [])

-- STDERR is used once data was said on it.
abbrev pub uses_err : Output → List ℕ → Bool → Bool
uses_err Output.Stdout bytes used = used
uses_err Output.Stderr [] used = used
uses_err Output.Stderr (b ∷ bytes) used = true

unfoldable pub said_on : Request → Output → List ℕ → Request
said_on r output bytes =
    let m = r.state in
    with_state r
    (record { role = m.role; turn = m.turn; life = m.life; keep = m.keep; out_ended = m.out_ended; err_used = uses_err output bytes m.err_used; err_ended = m.err_ended; shown = m.shown })

abbrev pub ends_out : Output → Bool → Bool
ends_out Output.Stdout ended = true
ends_out Output.Stderr ended = ended

abbrev pub ends_err : Output → Bool → Bool
ends_err Output.Stdout ended = ended
ends_err Output.Stderr ended = true

unfoldable pub ended_on : Request → Output → Request
ended_on r output =
    let m = r.state in
    with_state r
    (record { role = m.role; turn = m.turn; life = m.life; keep = m.keep; out_ended = ends_out output m.out_ended; err_used = m.err_used; err_ended = ends_err output m.err_ended; shown = m.shown })

-- Say: data in records of CHUNK content bytes, the last one shorter; empty data writes nothing.
abbrev pub say_bytes : Request → Output → List ℕ → List ℕ
say_bytes r output bytes = stream_bytes CHUNK (output_type output) r.id bytes

unfoldable pub say_in : Request → Output → List ℕ → List ℕ → Writing
say_in r output bytes buffer =
    writes (output_refusal r output (say_bytes r output bytes) buffer) (say_bytes r output bytes) (said_on r output bytes) r buffer

-- End a stream: one empty record.
abbrev pub end_bytes : Request → Output → List ℕ
end_bytes r output = record_bytes (output_type output) r.id []

unfoldable pub end_in : Request → Output → List ℕ → Writing
end_in r output buffer =
    writes (output_refusal r output (end_bytes r output) buffer) (end_bytes r output) (ended_on r output) r buffer

-- ---- finish: an empty STDOUT record if STDOUT isn't ended, an empty STDERR record if STDERR was used and isn't
-- ended, then END with status 0
unfoldable pub owes_out : RequestState → Bool
owes_out m = not m.out_ended

unfoldable pub owes_err : RequestState → Bool
owes_err m = if m.err_used then not m.err_ended else false

unfoldable pub finish_bytes : Request → ℕ → List ℕ
finish_bytes r appStatus =
    (if owes_out r.state then record_bytes STDOUT r.id [] else [])
    ++ ((if owes_err r.state then record_bytes STDERR r.id [] else []) ++ record_bytes END_REQUEST r.id (end_body_bytes appStatus REQUEST_COMPLETE))

unfoldable pub finish_in : Request → ℕ → List ℕ → Writing
finish_in r appStatus buffer =
    writes (refusal ((6 when (length buffer <? length (finish_bytes r appStatus))) ∷ [])) (finish_bytes r appStatus) r r buffer
