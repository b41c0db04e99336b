-- What a station says, and the ends of its streams, are heard as they were meant.
use Rattle.std.specs.Prelude.{ℕ, ◌<◌, ◌≡◌, refl, true, false, List, [], ◌∷◌, take, eqb, Some}
use Rattle.std.proofs.Common.{sym, ap, ◌∙◌, subst, arith, eqb-true}
use Rattle.std.proofs.lemmas.Bool.{eqb-false}
use Rattle.wire.specs.Test.{by_test}
use Rattle.wire.proofs.Bytes.{AllBytes}
use Rattle.record_writer.specs.Written.{record_bytes, stream_bytes}
use Rattle.connection.specs.declared.answer.Output.{Output}
use Rattle.connection.specs.declared.request.Request.{Request}
use Rattle.connection.specs.declared.state.Conn.{Conn}
use Rattle.connection.specs.declared.state.Table.{Table}
use Rattle.connection.specs.Sizes.{CHUNK}
use Rattle.connection.specs.Codes.{output_type}
use Rattle.connection.specs.Slots.{request_at, put_request, find}
use Rattle.connection.specs.RequestCalls.{is_ended, said_on, ended_on}
use Rattle.connection.specs.Calls as C
use Rattle.connection.proofs.Laws.SlotsLaws.{only_slot, find_at, find_put, request_of_put}
use Rattle.connection.proofs.Laws.ShapeLaws.{shaped}
use Rattle.call_output.proofs.Outcome.{request_of, output_call, say_is, end_is, named_id, did, did_not, front}
use Rattle.server.specs.Event.{Event, Note, showing}
use Rattle.server.specs.Step.{idle}
use Rattle.server.proofs.Laws.{Ready}
use Rattle.server.proofs.WrittenBytes.{no_bytes, record_is_bytes, stream_is_bytes}
use Rattle.server.proofs.Meaning.{Heard, heard_end, heard_said}
use Rattle.replies_heard.proofs.Agree.{SameEnds, ends_trans, is_ended_lem, ended_id, ended_ends, OpenWith, Spares, spares_put}
use Rattle.replies_heard.proofs.CallHeard.{Puts, WritesData, WritesEnd, CallHeard, not_called}
use Rattle.replies_heard.specs.Moves.{unless}

pub output_small : (o : Output) → output_type o < 256
output_small Output.Stdout = omega arith
output_small Output.Stderr = omega arith

pub said_id : (r : Request) (o : Output) (x : List ℕ) → (said_on r o x).id ≡ r.id
unfolding said_on
said_id r o x = refl

pub said_ends : (r : Request) (o : Output) (x : List ℕ) → SameEnds r.state (said_on r o x).state
unfolding said_on
said_ends r o x = record { out = refl; err = refl }

-- ---- the end of a stream of a request that is open in slot j of the server's end
-- it is heard, the request is open with that stream ended, and others stay
pub record StreamEnded (t : Table) (v : List ℕ) (id : ℕ) (o : Output) (q : Request) (u : Table) : Type 0 where
  pub heard : Heard t v (record_bytes (output_type o) id []) u v (Note.Told (Event.Ended id (output_type o)) ∷ [])
  pub spares : Spares id t u
  pub there : OpenWith u id (ended_on q o).state

pub stream_ended_lem : (t : Table) (v : List ℕ) → Ready (idle t true v) 0 → (id j : ℕ) → find t id ≡ Some j → id < 65536 → (o : Output) → is_ended o (request_at t j).state ≡ false
    → (q : Request) → SameEnds (request_at t j).state q.state → StreamEnded t v id o q (put_request t j (ended_on (request_at t j) o))
stream_ended_lem t v ready id j found hi o live q same =
    let r = request_at t j in
    record {
      heard = heard_end t v ready id j found hi o live;
      spares = spares_put t id j (ended_on r o) found (ended_id r o);
      there = record {
        slot = j;
        found = find_put t j (ended_on r o) id (ended_id r o) ∙ found;
        ends = subst (λ (n : Request). SameEnds n.state (ended_on q o).state) (sym (request_of_put t j (ended_on r o) ready.sized (find_at t id j found).low)) (ended_ends r q o same);
      };
    }

-- ---- calls: the request that is called is open at the server's end
module _ (c : Conn) (id : ℕ) (t : Table) (v : List ℕ) (ready : Ready (idle t true v) 0) (mine : (i : ℕ) → find c.table id ≡ Some i → OpenWith t id (request_at c.table i).state) (hi : id < 65536) where
  abbrev own : Request
  own = request_of c id

  abbrev at : ℕ
  at = C.slot_of c id

  -- A call that is let through, of a stream that runs: its request is open at the server's end.
  record Let (o : Output) : Type 0 where
    pub slot : find c.table id ≡ Some at
    pub there : OpenWith t id own.state
    pub live : is_ended o (request_at t there.slot).state ≡ false

  -- Any call that writes output is heard, if it is heard where it is let through.
  module _ (o : Output) (f : ℕ → List ℕ) (g : Request → Request) (buffer : List ℕ) (l : List Note) where
    abbrev w : C.Written
    w = output_call c id o (λ r. f r.id) g buffer

    output_heard : (Let o → CallHeard id c.table t v (f id) l (put_request c.table at (g own))) → CallHeard id c.table t v (take w.written w.buffer) (unless w.refusal l) w.conn.table
    output_heard through =
        by_test (eqb w.refusal 0)
        (λ z.
        let e = eqb-true w.refusal 0 z in
        let d = did c id o (λ r. f r.id) g buffer e in
        let slot = only_slot c.table (shaped c d.called.shape).table.distinct id at d.called.holds in
        let p = mine at slot in
        let bytes : take w.written w.buffer ≡ f id = front c id o (λ r. f r.id) g buffer e ∙ ap f (named_id c id d.called) in
        let after : w.conn.table ≡ put_request c.table at (g own) = ap (λ (y : C.Written). y.conn.table) d.is in
        rw (z, bytes, after) (through (record { slot = slot; there = p; live = is_ended_lem o (request_at t p.slot).state own.state p.ends ∙ d.written.running })))
        (λ z.
        let n = did_not c id o (λ r. f r.id) g buffer (eqb-false w.refusal 0 z) in
        let bytes : take w.written w.buffer ≡ [] = ap (λ (y : C.Written). take y.written y.buffer) n in
        let after : w.conn.table ≡ c.table = ap (λ (y : C.Written). y.conn.table) n in
        rw (z, bytes, after) (not_called id c.table t v ready))

  -- Say.
  pub say_heard : (o : Output) (x buffer : List ℕ) → AllBytes x
      → CallHeard id c.table t v (take (C.say c id o x buffer).written (C.say c id o x buffer).buffer) (unless (C.say c id o x buffer).refusal (showing id (output_type o) x)) (C.say c id o x buffer).conn.table
  say_heard o x buffer all =
      rw (say_is c id o x buffer)
      (output_heard o (λ n. stream_bytes CHUNK (output_type o) n x) (λ r. said_on r o x) buffer (showing id (output_type o) x)
      (λ k.
      let p = k.there in
      let still : OpenWith t id (said_on own o x).state = record {
        slot = p.slot;
        found = p.found;
        ends = ends_trans (request_at t p.slot).state own.state (said_on own o x).state p.ends (said_ends own o x);
      } in
      record {
        table = t;
        heard = heard_said t v ready id p.slot p.found hi o k.live x;
        wrote = WritesData o x;
        changes = Puts at (said_on own o x) k.slot (said_id own o x) (λ b m ne z. z) still;
        ok = stream_is_bytes (output_type o) id (output_small o) x all;
      }))

  -- The end of a stream.
  pub end_heard : (o : Output) (buffer : List ℕ)
      → CallHeard id c.table t v (take (C.end_stream c id o buffer).written (C.end_stream c id o buffer).buffer) (unless (C.end_stream c id o buffer).refusal (Note.Told (Event.Ended id (output_type o)) ∷ [])) (C.end_stream c id o buffer).conn.table
  end_heard o buffer =
      rw (end_is c id o buffer)
      (output_heard o (λ n. record_bytes (output_type o) n []) (λ r. ended_on r o) buffer (Note.Told (Event.Ended id (output_type o)) ∷ [])
      (λ k.
      let j = k.there.slot in
      let e = stream_ended_lem t v ready id j k.there.found hi o k.live own k.there.ends in
      record {
        table = put_request t j (ended_on (request_at t j) o);
        heard = e.heard;
        wrote = WritesEnd o;
        changes = Puts at (ended_on own o) k.slot (ended_id own o) e.spares e.there;
        ok = record_is_bytes (output_type o) id [] (output_small o) no_bytes;
      }))
