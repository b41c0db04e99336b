-- A finish is heard as it was meant: the ends that are owed, then the end of the request with its status.
use Rattle.std.specs.Prelude.{ℕ, ◌+◌, ◌<◌, ◌≡◌, Bool, true, false, List, [], ◌++◌, drop, eqb, Some}
use Rattle.std.proofs.Math.Path.{refl, ap}
use Rattle.std.proofs.Common.{sym, ◌∙◌, ⊎_elim, arith}
use Rattle.std.proofs.Math.ListN.{length, take}
use Rattle.std.proofs.Math.Seq.{take_at}
use borrow.Author.Tests.{eqb-true, eqb-false}
use Rattle.wire.specs.Test.{by_test}
use Rattle.wire.proofs.Bytes.{AllBytes, append_bytes}
use Rattle.record.specs.Names.{STDOUT, STDERR, END_REQUEST, REQUEST_COMPLETE}
use Rattle.record.specs.Body.{end_body_bytes}
use Rattle.record_writer.specs.Written.{record_bytes}
use Rattle.connection.specs.declared.answer.Output.{Output}
use Rattle.connection.specs.declared.request.RequestState.{RequestState}
use Rattle.connection.specs.declared.request.Request.{Request}
use Rattle.connection.specs.declared.state.Conn.{Conn}
use Rattle.connection.specs.declared.state.Table.{Table}
use Rattle.connection.specs.Codes.{output_type}
use Rattle.connection.specs.Slots.{request_at, put_request, free_slot, no_requests, find}
use Rattle.connection.specs.RequestCalls.{is_ended, ended_on, owes_out, owes_err, finish_bytes, finish_in}
use Rattle.connection.specs.Calls as C
use Rattle.connection.proofs.Laws.SlotsLaws.{find_at, find_put, request_of_put}
use Rattle.connection.proofs.Laws.ShapeLaws.{shaped}
use Rattle.connection.proofs.Runs.Freed.{Kept, Shut, finish_done, finish_refused}
use Rattle.connection.proofs.Runs.LinkingCalls.{slot_found}
use Rattle.call_finish.specs.Answer.{end_if}
use Rattle.call_finish.proofs.ReadBack.{did}
use Rattle.server.specs.Step.{idle}
use Rattle.server.proofs.Laws.{Ready}
use Rattle.server.proofs.WrittenBytes.{no_bytes, record_is_bytes, end_body_is_bytes}
use Rattle.server.proofs.Meaning.{Heard, heard_nothing, then_heard, heard_end, heard_over}
use Rattle.replies_heard.proofs.Agree.{SameEnds, ended_id, OpenWith, Spares, spares_put, spares_free}
use Rattle.replies_heard.specs.Moves.{unless, end_note, finish_notes}
use Rattle.replies_heard.proofs.CallHeard.{Changes, Frees, Shuts, Writing, WritesLast, CallHeard, not_called}

-- ---- an end that is owed or not
-- what it came to, of the request of an id in slot j
record EndHeard (id j : ℕ) (v : List ℕ) (owed : Bool) (o : Output) (t : Table) : Type 0 where
  pub table : Table
  pub heard : Heard t v (end_if owed (output_type o) id) table v (end_note owed id (output_type o))
  pub slot : find table id ≡ Some j
  pub spares : Spares id t table
  pub err : o ≡ Output.Stdout → (request_at table j).state.err_ended ≡ (request_at t j).state.err_ended

err_stays : (q : Request) (o : Output) → o ≡ Output.Stdout → (ended_on q o).state.err_ended ≡ q.state.err_ended
unfolding ended_on
err_stays q Output.Stdout e = refl
err_stays q Output.Stderr e = let z : ◌≡◌ {A = ℕ} 0 1 = cc in absurd (omega arith)

end_if_lem : (id j : ℕ) (v : List ℕ) (owed : Bool) (o : Output) (t : Table) → id < 65536 → Ready (idle t true v) 0 → find t id ≡ Some j → (owed ≡ true → is_ended o (request_at t j).state ≡ false)
    → EndHeard id j v owed o t
end_if_lem id j v true o t hi ready slot live =
    let q = ended_on (request_at t j) o in
    let same = ended_id (request_at t j) o in
    record {
      table = put_request t j q;
      heard = heard_end t v ready id j slot hi o (live refl);
      slot = find_put t j q id same ∙ slot;
      spares = spares_put t id j q slot same;
      err = λ e. ap (λ (r : Request). r.state.err_ended) (request_of_put t j q ready.sized (find_at t id j slot).low) ∙ err_stays (request_at t j) o e;
    }
end_if_lem id j v false o t hi ready slot live = record { table = t; heard = heard_nothing t v ready; slot = slot; spares = λ b m ne k. k; err = λ e. refl }

end_is_bytes : (owed : Bool) (kind id : ℕ) → kind < 256 → AllBytes (end_if owed kind id)
end_is_bytes true kind id k = record_is_bytes kind id [] k no_bytes
end_is_bytes false kind id k = no_bytes

-- what is owed is not ended
pub owes_out_lem : (m : RequestState) → owes_out m ≡ true → m.out_ended ≡ false
unfolding owes_out
owes_out_lem m e = by_test m.out_ended (λ t. let z : ◌≡◌ {A = ℕ} 0 1 = cc (simp t at e) in absurd (omega arith)) (λ t. t)

pub owes_err_lem : (m : RequestState) → owes_err m ≡ true → m.err_ended ≡ false
unfolding owes_err
owes_err_lem m e =
    by_test m.err_used
    (λ u. by_test m.err_ended (λ t. let z : ◌≡◌ {A = ℕ} 0 1 = cc (simp (u, t) at e) in absurd (omega arith)) (λ t. t))
    (λ u. let z : ◌≡◌ {A = ℕ} 0 1 = cc (simp u at e) in absurd (omega arith))

-- ---- the bytes of a finish
record Over (r : Request) (id status : ℕ) (t : Table) (v : List ℕ) : Type 0 where
  pub table : Table
  pub heard : Heard t v (finish_bytes r status) table v (finish_notes r.state id status)
  pub wrote : Writing id (finish_bytes r status) (finish_notes r.state id status)
  pub spares : Spares id t table
  pub ok : AllBytes (finish_bytes r status)

over_heard : (r : Request) (id j status : ℕ) (t : Table) (v : List ℕ) → r.id ≡ id → id < 65536 → status < 4294967296 → Ready (idle t true v) 0 → find t id ≡ Some j
    → SameEnds (request_at t j).state r.state → Over r id status t v
unfolding finish_bytes
over_heard r id j status t v mine hi small ready slot same =
    let m = r.state in
    let one = end_if_lem id j v (owes_out m) Output.Stdout t hi ready slot (λ o. same.out ∙ owes_out_lem m o) in
    let two = end_if_lem id j v (owes_err m) Output.Stderr one.table hi one.heard.ready one.slot (λ o. one.err refl ∙ same.err ∙ owes_err_lem m o) in
    let u = two.table in
    let last = heard_over u v two.heard.ready id j two.slot hi status REQUEST_COMPLETE small in
    let end = record_bytes END_REQUEST id (end_body_bytes status REQUEST_COMPLETE) in
    let freed = spares_free u id j two.heard.ready.sized two.heard.ready.tidy two.slot in
    record {
      table = free_slot u j;
      heard = rw mine (then_heard t one.table (free_slot u j) v v v _ _ _ _ one.heard (then_heard one.table u (free_slot u j) v v v _ _ _ _ two.heard last));
      wrote = rw mine (WritesLast (owes_out m) (owes_err m) status);
      spares = λ b n ne k. freed b n ne (two.spares b n ne (one.spares b n ne k));
      ok = rw mine
          (append_bytes (end_if (owes_out m) STDOUT id) (end_if (owes_err m) STDERR id ++ end) (end_is_bytes (owes_out m) STDOUT id (omega arith))
          (append_bytes (end_if (owes_err m) STDERR id) end (end_is_bytes (owes_err m) STDERR id (omega arith))
          (record_is_bytes END_REQUEST id (end_body_bytes status REQUEST_COMPLETE) (omega arith) (end_body_is_bytes status REQUEST_COMPLETE (omega arith)))));
    }

-- ---- the call
-- refused, it writes nothing
refused_writes : (c : Conn) (store : List ℕ) (id status : ℕ) (buffer : List ℕ) → ((C.finish c store id status buffer).refusal ≡ 0 → ⊥) → (C.finish c store id status buffer).written ≡ 0
unfolding C.finish C.finishes
refused_writes c store id status buffer e =
    let r = request_at c.table (C.slot_of c id) in
    by_test (eqb (C.lent_refusal c store id) 0)
    (λ t. by_test (eqb (finish_in r status buffer).refusal 0)
    (λ n. by_test r.state.keep (λ k. absurd (e (simp (t, n, k)))) (λ k. absurd (e (simp (t, n, k)))))
    (λ n. simp (t, n)))
    (λ t. simp t)

module _ (c : Conn) (store : List ℕ) (id status : ℕ) (buffer : List ℕ) (t : Table) (v : List ℕ) (ready : Ready (idle t true v) 0)
    (mine : (i : ℕ) → find c.table id ≡ Some i → OpenWith t id (request_at c.table i).state) (hi : id < 65536) where
  abbrev w : C.Finished
  w = C.finish c store id status buffer

  abbrev own : Request
  own = request_at c.table (C.slot_of c id)

  pub finish_heard : status < 4294967296 → CallHeard id c.table t v (take w.written w.buffer) (unless w.refusal (finish_notes own.state id status)) w.conn.table
  unfolding C.released
  finish_heard small =
      by_test (eqb w.refusal 0)
      (λ z.
      let e = eqb-true w.refusal 0 z in
      let d = did c store id status buffer e in
      let f = finish_done c store id status buffer e in
      let i = f.admitted.slot in
      let slot : find c.table id ≡ Some (C.slot_of c id) = f.admitted.found ∙ ap Some (sym (slot_found c id i f.admitted.found)) in
      let p = mine (C.slot_of c id) slot in
      let k = over_heard own id p.slot status t v d.has_id hi small ready p.found p.ends in
      let bytes = finish_bytes own status in
      let wire : take w.written w.buffer ≡ bytes = ap (λ (n : ℕ). take n w.buffer) d.written ∙ ap (take (length bytes)) d.buffer ∙ take_at bytes (drop (0 + length bytes) buffer) (length bytes) refl in
      let tidy = (shaped c f.admitted.fits.shape).table in
      let came : (s' : Table) → Changes id c.table t k.table s' → CallHeard id c.table t v bytes (finish_notes own.state id status) s' =
      λ s' changes. record { table = k.table; heard = k.heard; wrote = k.wrote; changes = changes; ok = k.ok } in
      rw (z, wire)
      (⊎_elim
      (λ (q : Kept c store i w). rw q.conn (came (free_slot c.table i) (Frees i f.admitted.found tidy k.spares)))
      (λ (q : Shut store w). rw q.conn (came no_requests (Shuts i f.admitted.found k.spares)))
      f.way))
      (λ z.
      let no = eqb-false w.refusal 0 z in
      rw (z, refused_writes c store id status buffer no, (finish_refused c store id status buffer no).0) (not_called id c.table t v ready))
