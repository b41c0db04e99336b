-- What a request says, the web server's end hears: in every joint run of a station with a queue, what is heard of a
-- request begins what it said, in one order: bytes on streams, ends of streams, END. It is all of it where the wire is
-- empty, nothing of the request waits and the connection is open.
--
-- The connection is open at the end, as in `NothingLost`, and no END_REQUEST of a refused opening of that id is among
-- the replies.
use Rattle.std.specs.Prelude.{ℕ, ◌≡◌, refl, Bool, true, false, List, [], ◌∷◌, ◌++◌, eqb, if◌then◌else◌}
use Rattle.std.proofs.Common.{sym, ap, ap₂, ◌∙◌, append_assoc, append-nil, ne_eqb}
use Rattle.connection.specs.Event.{Event as StationEvent}
use Rattle.connection.specs.Calls as C
use Rattle.server.specs.Event.{Note}
use Rattle.queue_slot.specs.Atoms.{Atom}
use Rattle.queue.specs.Calls.{conn_of}
use Rattle.queue.specs.Run as D
use Rattle.queue.specs.Run.{QueueOperation, bytes_in, written_all, waits_of, PiecesAreBytes, QueueRun, ending as left, written}
use Rattle.queue.specs.NothingLost.{said}
use Rattle.queue_link.proofs.LinkedWritten.{read_of, records_none}
use Rattle.queue_theorem.proofs.NothingLost.{nothing_lost}
use Rattle.replies_heard.specs.Moves.{reply_means}
use Rattle.queue_heard.specs.Moves.{Does, Replies, meant_by, move_fits}
use Rattle.queue_heard.specs.Joint.{Joint, JointMove, Station, Reads, Opens, Writes, Asks, after, heard, meant, ending, AllFair, Lent, fresh}
use Rattle.queue_heard.proofs.Accounts.{heard_of, heard_append, Tells}
use Rattle.queue_heard.proofs.Together.{Together, moves_on, does_tells}
use Rattle.queue_heard.proofs.JointTheorem.{fresh_together, writings_are_heard}

-- ---- the station's part of a joint run
abbrev pub operations_in : JointMove → List QueueOperation → List QueueOperation
operations_in (Station (Does o)) l = o ∷ l
operations_in (Station (Replies e buffer)) l = l
operations_in (Reads n) l = l
operations_in (Opens id role keep buffer) l = l
operations_in (Writes id part buffer) l = l
operations_in (Asks list buffer) l = l

unfoldable pub operations : List JointMove → List QueueOperation
operations [] = []
operations (x ∷ xs) = operations_in x (operations xs)

-- what this event is owed is not the END_REQUEST of a refused opening of R
abbrev pub not_its_refusal : ℕ → StationEvent → Type 0
not_its_refusal R (StationEvent.Refuse id status) = id ≡ R → ⊥
not_its_refusal R (StationEvent.Query conns reqs mpxs) = Unit {0}
not_its_refusal R (StationEvent.Unknown kind) = Unit {0}
not_its_refusal R StationEvent.None = Unit {0}
not_its_refusal R (StationEvent.Open id role keep) = Unit {0}
not_its_refusal R (StationEvent.Ready id n) = Unit {0}
not_its_refusal R (StationEvent.Data id stream n) = Unit {0}
not_its_refusal R (StationEvent.End id stream measure) = Unit {0}
not_its_refusal R (StationEvent.Abort id) = Unit {0}
not_its_refusal R (StationEvent.Fault id cause) = Unit {0}
not_its_refusal R (StationEvent.Closed cause) = Unit {0}

-- no reply among these moves is the END_REQUEST of a refused opening of R
abbrev pub NoRefusalOf : ℕ → List JointMove → Type 0
NoRefusalOf R [] = Unit {0}
NoRefusalOf R (Station (Replies e buffer) ∷ xs) = not_its_refusal R e × NoRefusalOf R xs
NoRefusalOf R (Station (Does o) ∷ xs) = NoRefusalOf R xs
NoRefusalOf R (Reads n ∷ xs) = NoRefusalOf R xs
NoRefusalOf R (Opens id role keep buffer ∷ xs) = NoRefusalOf R xs
NoRefusalOf R (Writes id part buffer ∷ xs) = NoRefusalOf R xs
NoRefusalOf R (Asks list buffer ∷ xs) = NoRefusalOf R xs

-- ---- what is meant of R is what was written of it
-- its own operation
own_written : (R : ℕ) (bytes : List ℕ) (l : List Note) → Tells bytes l → heard_of R l ≡ read_of R bytes
own_written R bytes l f =
    sym (append-nil (heard_of R l)) ∙ ap (λ (z : List Atom). heard_of R l ++ z) (sym (records_none R)) ∙ sym (f R []) ∙ ap (read_of R) (append-nil bytes)

-- no reply is of R
reply_none : (R : ℕ) (e : StationEvent) → not_its_refusal R e → heard_of R (reply_means e) ≡ []
unfolding heard_of
reply_none R (StationEvent.Refuse id status) f = simp (ne_eqb id R f)
reply_none R (StationEvent.Query conns reqs mpxs) f = refl
reply_none R (StationEvent.Unknown kind) f = refl
reply_none R StationEvent.None f = refl
reply_none R (StationEvent.Open id role keep) f = refl
reply_none R (StationEvent.Ready id n) f = refl
reply_none R (StationEvent.Data id stream n) f = refl
reply_none R (StationEvent.End id stream measure) f = refl
reply_none R (StationEvent.Abort id) f = refl
reply_none R (StationEvent.Fault id cause) f = refl
reply_none R (StationEvent.Closed cause) f = refl

unless_none : (R : ℕ) (b : Bool) (l : List Note) → heard_of R l ≡ [] → heard_of R (if b then l else []) ≡ []
unfolding heard_of
unless_none R true l e = e
unless_none R false l e = refl

run_written : (R : ℕ) (xs : List JointMove) (j : Joint) (left : List Note) → Together j left → AllFair j xs → NoRefusalOf R xs → heard_of R (meant j xs) ≡ written_all R j.station (operations xs)
unfolding meant operations written_all heard_of after
run_written R [] j left i f u = refl
run_written R (Station (Does o) ∷ xs) j left i f u =
    let k = moves_on (Station (Does o)) j left i f.0 in
    let m = meant_by j.station (Does o) in
    heard_append R m (meant (after j (Station (Does o))) xs)
    ∙ ap₂ (λ (y z : List Atom). y ++ z) (own_written R (bytes_in j.station o) m (does_tells j left o i f.0.0)) (run_written R xs (after j (Station (Does o))) k.left' k.together f.1 u)
run_written R (Station (Replies e buffer) ∷ xs) j left i f u =
    let k = moves_on (Station (Replies e buffer)) j left i f.0 in
    let m = meant_by j.station (Replies e buffer) in
    heard_append R m (meant (after j (Station (Replies e buffer))) xs)
    ∙ ap₂ (λ (y z : List Atom). y ++ z) (unless_none R (eqb (C.replied e buffer).refusal 0) (reply_means e) (reply_none R e u.0)) (run_written R xs (after j (Station (Replies e buffer))) k.left' k.together f.1 u.1)
run_written R (Reads n ∷ xs) j left i f u = let k = moves_on (Reads n) j left i f.0 in run_written R xs (after j (Reads n)) k.left' k.together f.1 u
run_written R (Opens id role keep buffer ∷ xs) j left i f u =
    let k = moves_on (Opens id role keep buffer) j left i f.0 in run_written R xs (after j (Opens id role keep buffer)) k.left' k.together f.1 u
run_written R (Writes id part buffer ∷ xs) j left i f u = let k = moves_on (Writes id part buffer) j left i f.0 in run_written R xs (after j (Writes id part buffer)) k.left' k.together f.1 u
run_written R (Asks list buffer ∷ xs) j left i f u = let k = moves_on (Asks list buffer) j left i f.0 in run_written R xs (after j (Asks list buffer)) k.left' k.together f.1 u

-- ---- the station's run
one_piece : (o : QueueOperation) (os : List QueueOperation) → move_fits (Does o) → PiecesAreBytes os → PiecesAreBytes (o ∷ os)
one_piece (D.StepOver piece) os f p = (f, p)
one_piece (D.CallFor id a) os f p = p
one_piece D.CountActive os f p = p
one_piece (D.TurnWith allowance buffer) os f p = p

-- its pieces are bytes
pub pieces : (xs : List JointMove) (j : Joint) → AllFair j xs → PiecesAreBytes (operations xs)
unfolding operations
pieces [] j f = tt
pieces (Station (Does o) ∷ xs) j f = one_piece o (operations xs) f.0.0 (pieces xs (after j (Station (Does o))) f.1)
pieces (Station (Replies e buffer) ∷ xs) j f = pieces xs (after j (Station (Replies e buffer))) f.1
pieces (Reads n ∷ xs) j f = pieces xs (after j (Reads n)) f.1
pieces (Opens id role keep buffer ∷ xs) j f = pieces xs (after j (Opens id role keep buffer)) f.1
pieces (Writes id part buffer ∷ xs) j f = pieces xs (after j (Writes id part buffer)) f.1
pieces (Asks list buffer ∷ xs) j f = pieces xs (after j (Asks list buffer)) f.1

-- as a run with a queue
abbrev pub station_run : (l : Lent) (xs : List JointMove) → AllFair (fresh l) xs → QueueRun
station_run l xs f =
    record {
      gathered = l.gathered;
      store = l.store;
      queue = l.queue;
      marks = l.marks;
      operations = operations xs;
      gathered_size = l.gathered_size;
      store_size = l.store_size;
      queue_size = l.queue_size;
      marks_size = l.marks_size;
      pieces = pieces xs (fresh l) f;
    }

-- ---- the theorem
pub record SaidIsHeard (R : ℕ) (l : Lent) (xs : List JointMove) (r : QueueRun) : Type 0 where
  -- what is heard of R begins what it said
  pub rest : List Atom
  pub in_order : heard_of R (heard (fresh l) xs) ++ rest ≡ said R r
  -- and is all of it once the wire is empty and nothing of R waits
  pub all : (ending (fresh l) xs).wire ≡ [] → waits_of R (left r) ≡ [] → heard_of R (heard (fresh l) xs) ≡ said R r

pub said_is_heard : (R : ℕ) (l : Lent) (xs : List JointMove) (f : AllFair (fresh l) xs) → NoRefusalOf R xs → (conn_of (left (station_run l xs f))).«open» ≡ true
    → SaidIsHeard R l xs (station_run l xs f)
said_is_heard R l xs f u o =
    let j = fresh l in
    let r = station_run l xs f in
    let k = writings_are_heard l xs f in
    let w : heard_of R (meant j xs) ≡ written R r = run_written R xs j [] (fresh_together l) f u in
    let n : said R r ≡ written R r ++ waits_of R (left r) = nothing_lost R r o in
    let h : heard_of R (heard j xs) ++ heard_of R k.rest ≡ written R r = sym (heard_append R (heard j xs) k.rest) ∙ ap (heard_of R) k.in_order ∙ w in
    record {
      rest = heard_of R k.rest ++ waits_of R (left r);
      in_order = sym (append_assoc (heard_of R (heard j xs)) (heard_of R k.rest) (waits_of R (left r))) ∙ ap (λ (z : List Atom). z ++ waits_of R (left r)) h ∙ sym n;
      all = λ e q. ap (heard_of R) (k.all e) ∙ w ∙ sym (append-nil (written R r)) ∙ ap (λ (z : List Atom). written R r ++ z) (sym q) ∙ sym n;
    }
