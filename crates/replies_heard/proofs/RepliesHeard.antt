-- The replies that events owe are heard as they were meant: values, unknown types, the ends of refused openings.
use Rattle.std.specs.Prelude.{ℕ, ◌≡◌, Bool, true, false, List, [], ◌∷◌, ◌++◌, length, take, ltb, eqb, if◌then◌else◌}
use Rattle.std.proofs.Math.Path.{refl}
use Rattle.std.proofs.Common.{sym, subst, arith, eqb-true}
use Rattle.std.proofs.lemmas.Bool.{eqb-false}
use Rattle.wire.specs.Test.{by_test}
use Rattle.wire.specs.Buffer.{copied}
use Rattle.wire.proofs.Bytes.{AllBytes, append_bytes}
use Rattle.record.specs.Names.{END_REQUEST, GET_VALUES_RESULT, UNKNOWN_TYPE}
use Rattle.record.specs.Body.{end_body_bytes, unknown_type_bytes}
use Rattle.pairs.specs.Pair.{pair_bytes}
use Rattle.connection.specs.declared.request.RequestState.{RequestState}
use Rattle.connection.specs.declared.state.Table.{Table}
use Rattle.connection.specs.Event.{Event as StationEvent}
use Rattle.connection.specs.Slots.{no_state, free_slot}
use Rattle.connection.specs.Step.{MAX_CONNS, MAX_REQS, MPXS_CONNS}
use Rattle.connection.specs.Calls as C
use Rattle.call_reply.proofs.Laws.{values_length}
use Rattle.call_reply.proofs.ReadBack.{reply_front, query_reads_back}
use Rattle.server.specs.Event.{Event, Note}
use Rattle.server.specs.Step.{idle}
use Rattle.server.proofs.Laws.{Ready}
use Rattle.server.proofs.WrittenBytes.{no_bytes, small_bytes, record_is_bytes, end_body_is_bytes, unknown_body_is_bytes, pair_is_bytes}
use Rattle.server.proofs.Meaning.{Heard, heard_nothing, heard_over, heard_values, heard_unknown}
use Rattle.replies_heard.proofs.Agree.{OpenWith, spares_free}
use Rattle.replies_heard.specs.Moves.{unless, reply_means, event_fits}
use Rattle.replies_heard.specs.Joint.{Opening, IsOpened, IsRefused, Neither, opening_in}

-- a request whose refused opening is answered is open at the server's end, with no output stream ended
abbrev pub AnswerOpen : Opening → Table → Type 0
AnswerOpen (IsOpened id) t = Unit {0}
AnswerOpen (IsRefused id) t = OpenWith t id no_state
AnswerOpen Neither t = Unit {0}

-- what a reply with such a refusal, 0 for none, spares: all but the id whose refused opening it answers
abbrev pub Unanswered : Opening → ℕ → ℕ → Type 0
Unanswered (IsOpened id) n b = Unit {0}
Unanswered (IsRefused id) n b = n ≡ 0 → b ≡ id → ⊥
Unanswered Neither n b = Unit {0}

-- values are bytes
values_are_bytes : (conns reqs mpxs : Bool) → AllBytes (C.values_of conns reqs mpxs)
unfolding C.values_of
values_are_bytes conns reqs mpxs =
    append_bytes (maybe conns MAX_CONNS (49 ∷ [])) (maybe reqs MAX_REQS (49 ∷ 54 ∷ []) ++ maybe mpxs MPXS_CONNS (49 ∷ [])) (one conns MAX_CONNS (49 ∷ []) (small_bytes MAX_CONNS refl) (small_bytes (49 ∷ []) refl))
    (append_bytes (maybe reqs MAX_REQS (49 ∷ 54 ∷ [])) (maybe mpxs MPXS_CONNS (49 ∷ [])) (one reqs MAX_REQS (49 ∷ 54 ∷ []) (small_bytes MAX_REQS refl) (small_bytes (49 ∷ 54 ∷ []) refl))
    (one mpxs MPXS_CONNS (49 ∷ []) (small_bytes MPXS_CONNS refl) (small_bytes (49 ∷ []) refl)))
  where
    maybe : Bool → List ℕ → List ℕ → List ℕ
    maybe asked name value = if asked then pair_bytes name value else []

    one : (asked : Bool) (name value : List ℕ) → AllBytes name → AllBytes value → AllBytes (if asked then pair_bytes name value else [])
    one true name value a b = pair_is_bytes name value a b
    one false name value a b = no_bytes

-- What a reply came to, at a server's end that stands between two records with table t and lent bytes v: the bytes are
-- heard as these notes, and what is open there and is spared stays open.
pub record Answered (Spared : ℕ → Type 0) (t : Table) (v bytes : List ℕ) (l : List Note) : Type 0 where
  pub table : Table
  pub values : List ℕ
  pub heard : Heard t v bytes table values l
  pub stays : (b : ℕ) (m : RequestState) → Spared b → OpenWith t b m → OpenWith table b m
  pub ok : AllBytes bytes

module _ (t : Table) (v : List ℕ) (ready : Ready (idle t true v) 0) (buffer : List ℕ) where
  abbrev w : StationEvent → C.Replied
  w e = C.replied e buffer

  abbrev Spared : StationEvent → ℕ → Type 0
  Spared e = Unanswered (opening_in e) (w e).refusal

  -- a refused reply writes nothing
  refused_writes : (e : StationEvent) → ((w e).refusal ≡ 0 → ⊥) → take (w e).written (w e).buffer ≡ []
  unfolding C.replied
  refused_writes e n = by_test (ltb (length buffer) (length (C.owed e))) (λ u. simp u) (λ u. absurd (n (simp u)))

  nothing : (P : ℕ → Type 0) → Answered P t v [] []
  nothing P = record { table = t; values = v; heard = heard_nothing t v ready; stays = λ b m k o. o; ok = no_bytes }

  -- a reply is heard, if it is heard where it is written
  by_reply : (e : StationEvent) (l : List Note) → ((w e).refusal ≡ 0 → Answered (Spared e) t v (C.owed e) l)
      → Answered (Spared e) t v (take (w e).written (w e).buffer) (unless (w e).refusal l)
  by_reply e l written =
      by_test (eqb (w e).refusal 0)
      (λ z. let ok = eqb-true (w e).refusal 0 z in rw (reply_front e buffer ok) (subst (λ (b : Bool). Answered (Spared e) t v (C.owed e) (if b then l else [])) (sym z) (written ok)))
      (λ z. rw (refused_writes e (eqb-false (w e).refusal 0 z)) (subst (λ (b : Bool). Answered (Spared e) t v [] (if b then l else [])) (sym z) (nothing (Spared e))))

  -- an event that owes nothing
  silent : (e : StationEvent) → C.owed e ≡ [] → Answered (Spared e) t v (take (w e).written (w e).buffer) (unless (w e).refusal [])
  silent e none = by_reply e [] (λ ok. rw none (nothing (Spared e)))

  pub reply_heard : (e : StationEvent) → event_fits e → AnswerOpen (opening_in e) t → Answered (Spared e) t v (take (w e).written (w e).buffer) (unless (w e).refusal (reply_means e))
  unfolding C.owed
  reply_heard (StationEvent.Query conns reqs mpxs) f r =
      let e = StationEvent.Query conns reqs mpxs in
      let x = C.values_of conns reqs mpxs in
      by_reply e (Note.Listed x ∷ [])
      (λ ok. record {
        table = t;
        values = copied v 0 x;
        heard = heard_values t v ready x (omega (arith, values_length conns reqs mpxs)) (query_reads_back conns reqs mpxs buffer ok).2;
        stays = λ b m k o. o;
        ok = record_is_bytes GET_VALUES_RESULT 0 x (omega arith) (values_are_bytes conns reqs mpxs);
      })
  reply_heard (StationEvent.Unknown kind) f r =
      by_reply (StationEvent.Unknown kind) (Note.Told (Event.Unknown kind) ∷ [])
      (λ ok. record {
        table = t;
        values = v;
        heard = heard_unknown t v ready kind;
        stays = λ b m k o. o;
        ok = record_is_bytes UNKNOWN_TYPE 0 (unknown_type_bytes kind) (omega arith) (unknown_body_is_bytes kind f);
      })
  reply_heard (StationEvent.Refuse id status) f r =
      let j = r.slot in
      let spares = spares_free t id j ready.sized ready.tidy r.found in
      by_reply (StationEvent.Refuse id status) (Note.Told (Event.Finished id 0 status) ∷ [])
      (λ ok. record {
        table = free_slot t j;
        values = v;
        heard = heard_over t v ready id j r.found f.0 0 status (omega arith);
        stays = λ b m k o. spares b m (k ok) o;
        ok = record_is_bytes END_REQUEST id (end_body_bytes 0 status) (omega arith) (end_body_is_bytes 0 status f.1);
      })
  reply_heard StationEvent.None f r = silent StationEvent.None refl
  reply_heard (StationEvent.Open id role keep) f r = silent (StationEvent.Open id role keep) refl
  reply_heard (StationEvent.Ready id n) f r = silent (StationEvent.Ready id n) refl
  reply_heard (StationEvent.Data id stream n) f r = silent (StationEvent.Data id stream n) refl
  reply_heard (StationEvent.End id stream measure) f r = silent (StationEvent.End id stream measure) refl
  reply_heard (StationEvent.Abort id) f r = silent (StationEvent.Abort id) refl
  reply_heard (StationEvent.Fault id cause) f r = silent (StationEvent.Fault id cause) refl
  reply_heard (StationEvent.Closed cause) f r = silent (StationEvent.Closed cause) refl
