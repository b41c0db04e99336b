-- What the machine observes, as what a run of the receiver observes; and which request an event of the rules names.
use Rattle.std.specs.Prelude.{◌≡◌, refl, List, [], ◌∷◌, ◌++◌, map, Bool, true, false, ℕ, ◌<◌, eqb, if◌then◌else◌}
use Rattle.std.proofs.Common.{ap, ap₂, sym, ◌∙◌, append_assoc, arith, ne_eqb}
use Rattle.machine.specs.Machine.{Observation, RequestEvent, NoticeEvent, CloseEvent, CountAnswer, CallAnswer, event_from, as_list, concerns, observed}
use Rattle.connection.specs.declared.request.Due.{Due}
use Rattle.connection.specs.declared.event.Measure.{Measure}
use Rattle.connection.specs.Event.{Event}
use Rattle.connection.specs.Request.{Held, Ruled, faulted, aborted, turned, on_header, on_content}
use Rattle.connection.specs.Step.{query_of}
use Rattle.connection.specs.Bytewise.{Note, notes, showing}
use Rattle.connection.specs.Runs.Receiver.{QueryWith, UnknownType, notice_event, receiver, note_of, receive_byte}
use Rattle.connection.specs.Run.{Observed, Heard, Answered, event_id, id_of, seen_of}
use Rattle.connection.proofs.Laws.Rules.{by_rule}

-- ---- observations
-- an event of a request, with this id (the four that name no request are never one of a request)
abbrev pub with_id : ℕ → Event → Event
with_id id Event.None = Event.End id 0 Measure.Unstated
with_id id (Event.Open j role keep) = Event.Open id role keep
with_id id (Event.Ready j n) = Event.Ready id n
with_id id (Event.Data j stream n) = Event.Data id stream n
with_id id (Event.End j stream measure) = Event.End id stream measure
with_id id (Event.Abort j) = Event.Abort id
with_id id (Event.Refuse j n) = Event.Refuse id n
with_id id (Event.Fault j n) = Event.Fault id n
with_id id (Event.Query conns reqs mpxs) = Event.End id 0 Measure.Unstated
with_id id (Event.Unknown kind) = Event.End id 0 Measure.Unstated
with_id id (Event.Closed n) = Event.End id 0 Measure.Unstated

-- what is told of a request, with this id
abbrev pub note_with_id : ℕ → Note → Note
note_with_id id (Note.Told e) = Note.Told (with_id id e)
note_with_id id (Note.Shown j stream b) = Note.Shown id stream b

-- one observation of the machine
abbrev pub told : Observation receiver → List Observed
told (RequestEvent id n) = Heard (note_with_id id n) ∷ []
told (NoticeEvent w) = Heard (Note.Told (notice_event w)) ∷ []
told (CloseEvent n) = Heard (Note.Told (Event.Closed n)) ∷ []
told (CountAnswer T) = []
told (CallAnswer id a n v w) = Answered id a n v w ∷ []

-- all of them
unfoldable pub told_all : List (Observation receiver) → List Observed
told_all [] = []
told_all (o ∷ os) = told o ++ told_all os

-- of two lists
pub told_append : (os ps : List (Observation receiver)) → told_all (os ++ ps) ≡ told_all os ++ told_all ps
unfolding told_all
told_append [] ps = refl
told_append (o ∷ os) ps = ap (λ l. told o ++ l) (told_append os ps) ∙ sym (append_assoc (told o) (told_all os) (told_all ps))

-- ---- the events of the rules
-- an event that names the request of this id, or none; it shows no bytes
abbrev pub Names : ℕ → Event → Type 0
Names id Event.None = Unit {0}
Names id (Event.Open j role keep) = j ≡ id
Names id (Event.Ready j n) = j ≡ id
Names id (Event.Data j stream n) = ⊥
Names id (Event.End j stream measure) = j ≡ id
Names id (Event.Abort j) = j ≡ id
Names id (Event.Refuse j n) = j ≡ id
Names id (Event.Fault j n) = j ≡ id
Names id (Event.Query conns reqs mpxs) = ⊥
Names id (Event.Unknown kind) = ⊥
Names id (Event.Closed n) = ⊥

-- A header's event names the header's request.
pub names_header : (n : ℕ) (h : Held) (kind : ℕ) → Names h.request.id (on_header kind n h).event
unfolding faulted aborted turned
names_header n h kind =
    by_rule (λ (r : Ruled). Names h.request.id r.event) h (λ d. tt) (λ cause fault. refl) refl (λ t. refl) (λ t s m. refl) kind n

-- what the machine tells of it is what the step tells
pub header_told : (id : ℕ) (e : Event) (x : List ℕ) → Names id e → map Heard (notes e x) ≡ told_all (as_list receiver (event_from receiver id (note_of e 0)))
unfolding told_all as_list event_from
header_told id Event.None x h = refl
header_told id (Event.Open j role keep) x h = rw h
header_told id (Event.Ready j n) x h = rw h
header_told id (Event.Data j stream n) x h = absurd h
header_told id (Event.End j stream measure) x h = rw h
header_told id (Event.Abort j) x h = rw h
header_told id (Event.Refuse j n) x h = rw h
header_told id (Event.Fault j n) x h = rw h
header_told id (Event.Query conns reqs mpxs) x h = absurd h
header_told id (Event.Unknown kind) x h = absurd h
header_told id (Event.Closed n) x h = absurd h

-- the same of one content byte
pub byte_told : (due : Due) (b : ℕ) (h : Held)
    → map Heard (notes (on_content due (b ∷ []) h).event (b ∷ [])) ≡ told_all (as_list receiver (event_from receiver h.request.id (receive_byte due b h).1))
unfolding told_all as_list event_from receive_byte showing
byte_told Due.Skip b h = refl
byte_told Due.Params b h = refl
byte_told Due.Stdin b h = refl
byte_told Due.Data b h = refl

-- ---- what names R
pub names_id : (id : ℕ) (n : Note) → id_of (Heard (note_with_id id n)) ≡ id
names_id id (Note.Shown j stream b) = refl
names_id id (Note.Told Event.None) = refl
names_id id (Note.Told (Event.Open j role keep)) = refl
names_id id (Note.Told (Event.Ready j n)) = refl
names_id id (Note.Told (Event.Data j stream n)) = refl
names_id id (Note.Told (Event.End j stream measure)) = refl
names_id id (Note.Told (Event.Abort j)) = refl
names_id id (Note.Told (Event.Refuse j n)) = refl
names_id id (Note.Told (Event.Fault j n)) = refl
names_id id (Note.Told (Event.Query conns reqs mpxs)) = refl
names_id id (Note.Told (Event.Unknown kind)) = refl
names_id id (Note.Told (Event.Closed n)) = refl

seen_if : (b : Bool) (R : ℕ) (o : Observation receiver) (e : Observed) (os : List (Observation receiver)) (es : List Observed) → told o ≡ e ∷ []
    → es ≡ told_all (observed receiver R os)
    → (if b then e ∷ es else es) ≡ told_all (if b then o ∷ observed receiver R os else observed receiver R os)
unfolding told_all
seen_if true R o e os es a h = ap₂ (λ x y. x ++ y) (sym a) h
seen_if false R o e os es a h = h

pub query_nobody : (R : ℕ) (list : List ℕ) → 0 < R → eqb (event_id (query_of list)) R ≡ false
unfolding query_of
query_nobody R list h = ne_eqb 0 R (λ e. omega arith)

-- What names R is the same among both.
pub seen_observed : (R : ℕ) (os : List (Observation receiver)) → 0 < R → seen_of R (told_all os) ≡ told_all (observed receiver R os)
unfolding seen_of told_all observed concerns
seen_observed R [] h = refl
seen_observed R (RequestEvent id n ∷ os) h =
    rw (names_id id n) (seen_if (eqb id R) R (RequestEvent id n) (Heard (note_with_id id n)) os (seen_of R (told_all os)) refl (seen_observed R os h))
seen_observed R (NoticeEvent (QueryWith list) ∷ os) h = rw (query_nobody R list h) (seen_observed R os h)
seen_observed R (NoticeEvent (UnknownType kind) ∷ os) h = rw (ne_eqb 0 R (λ e. omega arith)) (seen_observed R os h)
seen_observed R (CloseEvent n ∷ os) h = rw (ne_eqb 0 R (λ e. omega arith)) (seen_observed R os h)
seen_observed R (CountAnswer T ∷ os) h = seen_observed R os h
seen_observed R (CallAnswer id a n v w ∷ os) h =
    seen_if (eqb id R) R (CallAnswer id a n v w) (Answered id a n v w) os (seen_of R (told_all os)) refl (seen_observed R os h)
