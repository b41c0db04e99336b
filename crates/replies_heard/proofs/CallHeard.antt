-- What a call of one id comes to at both ends: the bytes are heard, and the two tables change so that they agree as
-- before.
use Rattle.std.specs.Prelude.{ℕ, ◌≡◌, refl, Bool, true, List, [], ◌∷◌, ◌++◌, Some}
use Rattle.std.proofs.Common.{sym, subst}
use Rattle.wire.proofs.Bytes.{AllBytes}
use Rattle.record.specs.Names.{STDOUT, STDERR, END_REQUEST, REQUEST_COMPLETE}
use Rattle.record.specs.Body.{end_body_bytes}
use Rattle.record_writer.specs.Written.{record_bytes, stream_bytes}
use Rattle.connection.specs.declared.answer.Output.{Output}
use Rattle.connection.specs.declared.request.Request.{Request}
use Rattle.connection.specs.declared.state.Table.{Table}
use Rattle.connection.specs.Sizes.{CHUNK}
use Rattle.connection.specs.Codes.{output_type}
use Rattle.connection.specs.Slots.{request_at, put_request, free_slot, no_requests, find}
use Rattle.connection.proofs.Laws.SlotsLaws.{Sized}
use Rattle.connection.proofs.Laws.ShapeLaws.{Tidy}
use Rattle.call_finish.specs.Answer.{end_if}
use Rattle.server.specs.Event.{Event, Note, showing}
use Rattle.server.specs.Step.{idle}
use Rattle.server.proofs.Laws.{Ready}
use Rattle.server.proofs.WrittenBytes.{no_bytes}
use Rattle.server.proofs.Meaning.{Heard, heard_nothing}
use Rattle.replies_heard.proofs.Agree.{OpenWith, Agree, Resting, each_none, inactive_put, inactive_freed, Spares, agree_changed, agree_freed, rests_still}
use Rattle.replies_heard.specs.Moves.{end_note}

-- What a call of one id does to the two tables, the station's s and that of the server's end, which is t before and u
-- after: nothing; a request is put back at the station, and is open at the server's end as it is there; it is given
-- back; the station closes. Other requests stay open at the server's end.
pub data Changes (id : ℕ) (s t u : Table) : Table → Type 0 where
  Stays : u ≡ t → Changes id s t u s
  Puts : (i : ℕ) (r : Request) → find s id ≡ Some i → r.id ≡ (request_at s i).id → Spares id t u → OpenWith u id r.state → Changes id s t u (put_request s i r)
  Frees : (i : ℕ) → find s id ≡ Some i → Tidy s → Spares id t u → Changes id s t u (free_slot s i)
  Shuts : (i : ℕ) → find s id ≡ Some i → Spares id t u → Changes id s t u no_requests

-- What a call of one id writes, and what it means: nothing; data; the end of a stream; a finish, with the ends that it
-- owes.
pub data Writing (id : ℕ) : List ℕ → List Note → Type 0 where
  WritesNothing : Writing id [] []
  WritesData : (o : Output) (x : List ℕ) → Writing id (stream_bytes CHUNK (output_type o) id x) (showing id (output_type o) x)
  WritesEnd : (o : Output) → Writing id (record_bytes (output_type o) id []) (Note.Told (Event.Ended id (output_type o)) ∷ [])
  WritesLast : (out err : Bool) (status : ℕ)
      → Writing id (end_if out STDOUT id ++ (end_if err STDERR id ++ record_bytes END_REQUEST id (end_body_bytes status REQUEST_COMPLETE)))
      (end_note out id STDOUT ++ (end_note err id STDERR ++ (Note.Told (Event.Finished id status REQUEST_COMPLETE) ∷ [])))

-- What a call of one id came to, from the station's table s to s' and from a server's end that stands between two records
-- with table t and lent bytes v: the bytes are heard as these notes, and the two tables change so.
pub record CallHeard (id : ℕ) (s t : Table) (v bytes : List ℕ) (l : List Note) (s' : Table) : Type 0 where
  pub table : Table
  pub heard : Heard t v bytes table v l
  pub wrote : Writing id bytes l
  pub changes : Changes id s t table s'
  pub ok : AllBytes bytes

-- nothing is written, and nothing changes
pub not_called : (id : ℕ) (s t : Table) (v : List ℕ) → Ready (idle t true v) 0 → CallHeard id s t v [] [] s
not_called id s t v ready = record { table = t; heard = heard_nothing t v ready; wrote = WritesNothing; changes = Stays refl; ok = no_bytes }

-- ---- what the two ends have in common
-- It is kept.
pub call_agrees : (id : ℕ) (s t u : Table) {s' : Table} → Sized s → Changes id s t u s' → Agree s t → Agree s' u
call_agrees id s t u sized (Stays e) a = subst (λ (x : Table). Agree s x) (sym e) a
call_agrees id s t u sized (Puts i r found same spares own) a = agree_changed s t u id i r sized found same a spares own
call_agrees id s t u sized (Frees i found tidy spares) a = agree_freed s t u id i tidy found a spares
call_agrees id s t u sized (Shuts i found spares) a = each_none (λ b k. OpenWith u b)

-- What rests, rests still.
pub call_rests : (id : ℕ) (s t u : Table) {s' : Table} → Changes id s t u s' → (b : ℕ) → Resting s t b → Resting s' u b
call_rests id s t u (Stays e) b k = subst (λ (x : Table). Resting s x b) (sym e) k
call_rests id s t u (Puts i r found same spares own) b k = rests_still s (put_request s i r) t u id i b found spares (inactive_put s i r b same) k
call_rests id s t u (Frees i found tidy spares) b k = rests_still s (free_slot s i) t u id i b found spares (inactive_freed s i b tidy) k
call_rests id s t u (Shuts i found spares) b k = rests_still s no_requests t u id i b found spares (λ none. each_none (λ a j m. a ≡ b → ⊥)) k
