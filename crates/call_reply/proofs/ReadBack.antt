-- The replies read back, which events owe one, and the statuses that are ever sent.
use Rattle.std.specs.Prelude.{ℕ, ◌+◌, ◌≤◌, ◌<◌, Bool, true, false, List, [], ◌∷◌, ◌++◌, take, ltb, if◌then◌else◌}
use Rattle.std.proofs.Math.Path.{◌≡◌, refl, ap}
use Rattle.std.proofs.Common.{sym, ap₂, ◌∙◌, append-nil, append_assoc, arith, zero-add, take_at, drop_at}
use Rattle.std.proofs.Math.ListN.{length, drop}
use borrow.Author.Tests.{ltb-false}
use Rattle.wire.specs.Test.{by_test}
use Rattle.wire.specs.Buffer.{put_at}
use Rattle.wire.proofs.BufferLaws.{put_length}
use Rattle.record.specs.Names.{STDOUT, STDERR, END_REQUEST, GET_VALUES_RESULT, UNKNOWN_TYPE, REQUEST_COMPLETE}
use Rattle.record.specs.Body.{end_body_of, end_body_bytes, unknown_type_of, unknown_type_bytes}
use Rattle.record.proofs.BodyLaws.{end_read_back as end-body-read-back, unknown_read_back, unknown_length}
use Rattle.record.specs.Split.{Record, ◌then-split◌, split_in, split}
use Rattle.record_writer.specs.Written.{record_bytes}
use Rattle.record_writer.proofs.WrittenLaws.{record_length_lem}
use Rattle.record_writer.proofs.StreamLaws.{record_long}
use Rattle.record_writer.proofs.ReadBack.{record_of, record_read_back, end_record_read_back, unknown_record_read_back}
use Rattle.pairs.specs.Pair.{pair_bytes}
use Rattle.pair_list.specs.List.{well_formed}
use Rattle.pair_list.proofs.ReadBackList.{Named, Writable, written, contents, written_contents}
use Rattle.connection.specs.declared.request.Request.{Request}
use Rattle.connection.specs.declared.event.Status.{Status}
use Rattle.connection.specs.declared.event.Event.{Event as CodeEvent}
use Rattle.connection.specs.Event.{Event}
use Rattle.connection.specs.Codes.{status_number, event_of}
use Rattle.connection.specs.Step.{MAX_CONNS, MAX_REQS, MPXS_CONNS}
use Rattle.connection.specs.RequestCalls.{owes_out, owes_err, finish_bytes}
use Rattle.connection.specs.Calls.{Replied, values_of, owed, replied}
use Rattle.call_reply.proofs.Laws.{values_length}

-- ---- what was written
module _ (e : Event) (buffer : List ℕ) where
  abbrev reply : Replied
  reply = replied e buffer

  done : reply.refusal ≡ 0 → reply ≡ record { refusal = 0; written = length (owed e); buffer = put_at buffer 0 (owed e) }
  unfolding replied
  done h =
      by_test (ltb (length buffer) (length (owed e)))
      (λ t. let z : ◌≡◌ {A = ℕ} 6 0 = simp t at h in absurd (omega arith))
      (λ t. simp t)

  -- The bytes written are those owed.
  pub reply_front : reply.refusal ≡ 0 → take reply.written reply.buffer ≡ owed e
  reply_front h = rw (done h) (take_at (owed e) (drop (0 + length (owed e)) buffer) (length (owed e)) refl)

  -- Bytes after them stay, and the buffer keeps its length.
  pub reply_behind : (drop reply.written reply.buffer ≡ drop reply.written buffer) × (length reply.buffer ≡ length buffer)
  unfolding replied
  reply_behind =
      let x = owed e in
      by_test (ltb (length buffer) (length x))
      (λ t. simp t (refl, refl))
      (λ t. let room = ltb-false (length buffer) (length x) t in simp t (drop_at x (drop (0 + length x) buffer) (length x) refl ∙ ap (λ (n : ℕ). drop n buffer) (zero-add (length x)), put_length buffer 0 x (omega arith)))

-- one record by itself
alone : (bytes : List ℕ) (r : Record) → ((rest : List ℕ) → split (bytes ++ rest) ≡ (r ∷ []) then-split split rest) → split bytes ≡ record { records = r ∷ []; rest = [] }
unfolding split split_in
alone bytes r back = ap split (sym (append-nil bytes)) ∙ back []

-- ---- an END_REQUEST to a refused opening, and an UNKNOWN_TYPE
pub refuse_reads_back : (id n : ℕ) (buffer : List ℕ) → (replied (Event.Refuse id n) buffer).refusal ≡ 0 → id < 65536
    → (split (take (replied (Event.Refuse id n) buffer).written (replied (Event.Refuse id n) buffer).buffer) ≡ record { records = record_of END_REQUEST id (end_body_bytes 0 n) ∷ []; rest = [] })
    × (end_body_of (end_body_bytes 0 n) ≡ record { app_status = 0; protocol_status = n })
unfolding owed
refuse_reads_back id n buffer h hi =
    let x = end_body_bytes 0 n in
    let back : (rest : List ℕ) → split (record_bytes END_REQUEST id x ++ rest) ≡ (record_of END_REQUEST id x ∷ []) then-split split rest = λ rest. (end_record_read_back id 0 n rest hi (omega arith)).0 in
    (rw (reply_front (Event.Refuse id n) buffer h) (alone (record_bytes END_REQUEST id x) (record_of END_REQUEST id x) back), end-body-read-back 0 n (omega arith))

pub unknown_reads_back : (kind : ℕ) (buffer : List ℕ) → (replied (Event.Unknown kind) buffer).refusal ≡ 0
    → (split (take (replied (Event.Unknown kind) buffer).written (replied (Event.Unknown kind) buffer).buffer) ≡ record { records = record_of UNKNOWN_TYPE 0 (unknown_type_bytes kind) ∷ []; rest = [] })
    × (unknown_type_of (unknown_type_bytes kind) ≡ kind)
unfolding owed
unknown_reads_back kind buffer h =
    let x = unknown_type_bytes kind in
    let back : (rest : List ℕ) → split (record_bytes UNKNOWN_TYPE 0 x ++ rest) ≡ (record_of UNKNOWN_TYPE 0 x ∷ []) then-split split rest = λ rest. (unknown_record_read_back kind rest).0 in
    (rw (reply_front (Event.Unknown kind) buffer h) (alone (record_bytes UNKNOWN_TYPE 0 x) (record_of UNKNOWN_TYPE 0 x) back), unknown_read_back kind)

-- ---- the result of a query
-- a pair if it is asked for, and the three in their order: "1", "16", "1"
abbrev if_named : Bool → List ℕ → List ℕ → List Named
if_named asked name value = if asked then record { name = name; value = value } ∷ [] else []

abbrev pub asked_for : Bool → Bool → Bool → List Named
asked_for conns reqs mpxs =
    if_named conns MAX_CONNS (49 ∷ []) ++ (if_named reqs MAX_REQS (49 ∷ 54 ∷ []) ++ if_named mpxs MPXS_CONNS (49 ∷ []))

written_append : (ps qs : List Named) → written (ps ++ qs) ≡ written ps ++ written qs
unfolding written
written_append [] qs = refl
written_append (p ∷ ps) qs =
    ap (λ (l : List ℕ). pair_bytes p.name p.value ++ l) (written_append ps qs) ∙ sym (append_assoc (pair_bytes p.name p.value) (written ps) (written qs))

writable_append : (ps qs : List Named) → Writable ps → Writable qs → Writable (ps ++ qs)
writable_append [] qs a b = b
writable_append (p ∷ ps) qs a b = (a.0, a.1, writable_append ps qs a.2 b)

written_if : (asked : Bool) (name value : List ℕ) → written (if_named asked name value) ≡ (if asked then pair_bytes name value else [])
unfolding written
written_if true name value = append-nil (pair_bytes name value)
written_if false name value = refl

writable_if : (asked : Bool) (name value : List ℕ) → length name < 2147483648 → length value < 2147483648 → Writable (if_named asked name value)
writable_if true name value n v = (n, v, tt)
writable_if false name value n v = tt

values_written : (conns reqs mpxs : Bool) → values_of conns reqs mpxs ≡ written (asked_for conns reqs mpxs)
unfolding values_of
values_written conns reqs mpxs =
    let a = if_named conns MAX_CONNS (49 ∷ []) in
    let b = if_named reqs MAX_REQS (49 ∷ 54 ∷ []) in
    let d = if_named mpxs MPXS_CONNS (49 ∷ []) in
    sym
    (written_append a (b ++ d)
    ∙ ap₂ (λ (x y : List ℕ). x ++ y) (written_if conns MAX_CONNS (49 ∷ []))
    (written_append b d ∙ ap₂ (λ (x y : List ℕ). x ++ y) (written_if reqs MAX_REQS (49 ∷ 54 ∷ [])) (written_if mpxs MPXS_CONNS (49 ∷ []))))

-- The result reads back: one GET_VALUES_RESULT record of id 0, whose list is well formed and has exactly the
-- pairs asked for.
pub query_reads_back : (conns reqs mpxs : Bool) (buffer : List ℕ) → (replied (Event.Query conns reqs mpxs) buffer).refusal ≡ 0
    → (split (take (replied (Event.Query conns reqs mpxs) buffer).written (replied (Event.Query conns reqs mpxs) buffer).buffer) ≡ record { records = record_of GET_VALUES_RESULT 0 (values_of conns reqs mpxs) ∷ []; rest = [] })
    × (contents (values_of conns reqs mpxs) ≡ asked_for conns reqs mpxs)
    × (well_formed (values_of conns reqs mpxs) ≡ true)
unfolding owed
query_reads_back conns reqs mpxs buffer h =
    let x = values_of conns reqs mpxs in
    let short : length x < 65536 = omega (arith, values_length conns reqs mpxs) in
    let fits : Writable (asked_for conns reqs mpxs) =
    writable_append (if_named conns MAX_CONNS (49 ∷ [])) (if_named reqs MAX_REQS (49 ∷ 54 ∷ []) ++ if_named mpxs MPXS_CONNS (49 ∷ []))
    (writable_if conns MAX_CONNS (49 ∷ []) (omega arith) (omega arith))
    (writable_append (if_named reqs MAX_REQS (49 ∷ 54 ∷ [])) (if_named mpxs MPXS_CONNS (49 ∷ []))
    (writable_if reqs MAX_REQS (49 ∷ 54 ∷ []) (omega arith) (omega arith))
    (writable_if mpxs MPXS_CONNS (49 ∷ []) (omega arith) (omega arith))) in
    let back = written_contents (asked_for conns reqs mpxs) fits in (
      rw (reply_front (Event.Query conns reqs mpxs) buffer h) (alone (record_bytes GET_VALUES_RESULT 0 x) (record_of GET_VALUES_RESULT 0 x) (λ rest. record_read_back GET_VALUES_RESULT 0 x rest (omega arith) short)),
      ap contents (values_written conns reqs mpxs) ∙ back.0,
      ap well_formed (values_written conns reqs mpxs) ∙ back.1,
    )

-- ---- which events owe a reply
abbrev pub owes : Event → Bool
owes (Event.Refuse id n) = true
owes (Event.Query conns reqs mpxs) = true
owes (Event.Unknown kind) = true
owes Event.None = false
owes (Event.Open id role keep) = false
owes (Event.Ready id n) = false
owes (Event.Data id stream n) = false
owes (Event.End id stream measure) = false
owes (Event.Abort id) = false
owes (Event.Fault id n) = false
owes (Event.Closed n) = false

-- a record is not nothing
some_record : (kind id : ℕ) (x : List ℕ) → record_bytes kind id x ≡ [] → ⊥
some_record kind id x e = omega (arith, record_length_lem kind id x, record_long (length x), ap length e)

not_false : true ≡ false → ⊥
not_false e = let z : ◌≡◌ {A = ℕ} 0 1 = cc in omega arith

-- Replies are owed for exactly three kinds of event: refuse, query, unknown.
pub three_kinds : (e : Event) → (owes e ≡ false → owed e ≡ []) × (owed e ≡ [] → owes e ≡ false)
unfolding owed
three_kinds (Event.Refuse id n) = (λ e. absurd (not_false e), λ e. absurd (some_record END_REQUEST id (end_body_bytes 0 n) e))
three_kinds (Event.Query conns reqs mpxs) = (λ e. absurd (not_false e), λ e. absurd (some_record GET_VALUES_RESULT 0 (values_of conns reqs mpxs) e))
three_kinds (Event.Unknown kind) = (λ e. absurd (not_false e), λ e. absurd (some_record UNKNOWN_TYPE 0 (unknown_type_bytes kind) e))
three_kinds Event.None = (λ e. refl, λ e. refl)
three_kinds (Event.Open id role keep) = (λ e. refl, λ e. refl)
three_kinds (Event.Ready id n) = (λ e. refl, λ e. refl)
three_kinds (Event.Data id stream n) = (λ e. refl, λ e. refl)
three_kinds (Event.End id stream measure) = (λ e. refl, λ e. refl)
three_kinds (Event.Abort id) = (λ e. refl, λ e. refl)
three_kinds (Event.Fault id n) = (λ e. refl, λ e. refl)
three_kinds (Event.Closed n) = (λ e. refl, λ e. refl)

-- ---- statuses
-- each END_REQUEST among some records says a protocol status of that kind
abbrev pub Statuses : (ℕ → Type 0) → List Record → Type 0
Statuses P [] = Unit {0}
Statuses P (r ∷ rs) = (r.kind ≡ END_REQUEST → P (end_body_of r.content).protocol_status) × Statuses P rs

-- an END_REQUEST by itself, a record of another type by itself, and one in front of others
module _ (P : ℕ → Type 0) where
  status_end : (id appStatus n : ℕ) → id < 65536 → appStatus < 4294967296 → P n → Statuses P (split (record_bytes END_REQUEST id (end_body_bytes appStatus n))).records
  status_end id appStatus n hi ha p =
      let x = end_body_bytes appStatus n in
      let back : (rest : List ℕ) → split (record_bytes END_REQUEST id x ++ rest) ≡ (record_of END_REQUEST id x ∷ []) then-split split rest = λ rest. (end_record_read_back id appStatus n rest hi ha).0 in
      rw (alone (record_bytes END_REQUEST id x) (record_of END_REQUEST id x) back, end-body-read-back appStatus n ha) (λ e. p, tt)

  status_other : (kind id : ℕ) (x : List ℕ) → (kind ≡ END_REQUEST → ⊥) → id < 65536 → length x < 65536 → Statuses P (split (record_bytes kind id x)).records
  status_other kind id x ne hi hx =
      rw (alone (record_bytes kind id x) (record_of kind id x) (λ rest. record_read_back kind id x rest hi hx)) (λ e. absurd (ne e), tt)

  status_behind : (owed : Bool) (kind id : ℕ) → (kind ≡ END_REQUEST → ⊥) → id < 65536 → (rest : List ℕ)
      → Statuses P (split rest).records → Statuses P (split ((if owed then record_bytes kind id [] else []) ++ rest)).records
  status_behind true kind id ne hi rest h = rw (record_read_back kind id [] rest hi (omega arith)) (λ e. absurd (ne e), h)
  status_behind false kind id ne hi rest h = h

two_or_three : (s : Status) → (2 ≤ status_number s) × (status_number s ≤ 3)
two_or_three Status.Overloaded = (omega arith, omega arith)
two_or_three Status.UnknownRole = (omega arith, omega arith)

-- Status 1 cannot be sent: a reply's END_REQUEST says 2 or 3, whatever the event of the code (its id is a
-- number of two bytes).
pub reply_status : (e : CodeEvent) → ((id : ℕ) (status : Status) → e ≡ CodeEvent.Refuse id status → id < 65536)
    → Statuses (λ n. (2 ≤ n) × (n ≤ 3)) (split (owed (event_of e))).records
unfolding owed split split_in
reply_status (CodeEvent.Refuse id status) h = status_end (λ n. (2 ≤ n) × (n ≤ 3)) id 0 (status_number status) (h id status refl) (omega arith) (two_or_three status)
reply_status (CodeEvent.Query conns reqs mpxs) h =
    status_other (λ n. (2 ≤ n) × (n ≤ 3)) GET_VALUES_RESULT 0 (values_of conns reqs mpxs) (λ e. omega arith) (omega arith) (omega (arith, values_length conns reqs mpxs))
reply_status (CodeEvent.Unknown kind) h =
    status_other (λ n. (2 ≤ n) × (n ≤ 3)) UNKNOWN_TYPE 0 (unknown_type_bytes kind) (λ e. omega arith) (omega arith) (omega (arith, unknown_length kind))
reply_status CodeEvent.Nothing h = tt
reply_status (CodeEvent.Open id role keep) h = tt
reply_status (CodeEvent.Ready id n) h = tt
reply_status (CodeEvent.Data id stream n) h = tt
reply_status (CodeEvent.End id stream measure) h = tt
reply_status (CodeEvent.Abort id) h = tt
reply_status (CodeEvent.Fault id fault) h = tt
reply_status (CodeEvent.Closed close) h = tt

-- And that of a finished request says 0.
pub finish_status : (r : Request) (appStatus : ℕ) → r.id < 65536 → appStatus < 4294967296
    → Statuses (λ n. n ≡ REQUEST_COMPLETE) (split (finish_bytes r appStatus)).records
unfolding finish_bytes
finish_status r appStatus hi ha =
    let last = record_bytes END_REQUEST r.id (end_body_bytes appStatus REQUEST_COMPLETE) in
    status_behind (λ n. n ≡ REQUEST_COMPLETE) (owes_out r.state) STDOUT r.id (λ e. omega arith) hi ((if owes_err r.state then record_bytes STDERR r.id [] else []) ++ last)
    (status_behind (λ n. n ≡ REQUEST_COMPLETE) (owes_err r.state) STDERR r.id (λ e. omega arith) hi last (status_end (λ n. n ≡ REQUEST_COMPLETE) r.id appStatus REQUEST_COMPLETE hi ha refl))
