-- What the records of a station mean to the server's end, between two records: output, the end of a stream, the end of a request, values, an unknown type.
use Rattle.std.specs.Prelude.{ℕ, ◌+◌, ◌≤◌, ◌<◌, ◌≡◌, false, drop, Some}
use Rattle.std.proofs.Math.Path.{refl, sym, ap, ap₂}
use Rattle.std.proofs.Common.{◌∙◌, subst, take-append-drop, take_all}
use Rattle.std.proofs.Math.Bool.{true}
use mathlib.Core.List.{List, [], ◌∷◌, ◌++◌, append_assoc}
use native.Mathlib.Omega.{arith}
use Rattle.std.proofs.Math.ListN.{length, take, length-take}
use Rattle.std.proofs.lemmas.List.{length-replicate}
use Rattle.std.proofs.Math.Seq.{take_at}
use borrow.Author.Tests.{le-ltb, ne_eqb}
use Rattle.wire.specs.Number.{number4_bytes}
use Rattle.wire.specs.Buffer.{put_at, zeros, copied}
use Rattle.wire.proofs.BufferLaws.{copied_room, put_none}
use Rattle.record.specs.Names.{VERSION, END_REQUEST, STDOUT, STDERR, GET_VALUES_RESULT, UNKNOWN_TYPE}
use Rattle.record.specs.Header.{header_of, header_bytes}
use Rattle.record.specs.Body.{end_body_of, end_body_bytes, unknown_type_of, unknown_type_bytes}
use Rattle.record.proofs.BodyLaws.{end_length, unknown_length}
use Rattle.record.specs.declared.header.Header.{Header}
use Rattle.record_writer.specs.Written.{padding_of, record_bytes, stream_bytes}
use Rattle.record_writer.proofs.WrittenLaws.{header_length}
use Rattle.record_writer.proofs.ReadBack.{header_read_back}
use Rattle.record_writer.proofs.StreamLaws.{by_chunks, stream_none, stream_more}
use Rattle.pair_list.specs.List.{pairs_in, pairs_from, ending_of, well_formed}
use Rattle.connection.specs.declared.answer.Output.{Output}
use Rattle.connection.specs.declared.state.Table.{Table}
use Rattle.connection.specs.Sizes.{QUERY, CHUNK}
use Rattle.connection.specs.Codes.{output_type}
use Rattle.connection.specs.RequestCalls.{is_ended, ended_on}
use Rattle.connection.specs.Slots.{request_at, put_request, free_slot, find}
use Rattle.connection.proofs.Laws.SlotsLaws.{find_at}
use Rattle.record_rules.specs.Rules.{Left, Reader, Run, and_then, by_byte, record_means}
use Rattle.record_rules.proofs.Laws.{by_byte_append, by_byte_none}
use Rattle.record_rules.proofs.Records.{between, record_read, record_ready}
use Rattle.server.specs.Event.{Event, Note, showing}
use Rattle.server.specs.Step.{Inner, idle, valued, on_management, on_output, on_request, judged, taken, of_values, rules}
use Rattle.server.proofs.Laws.{Ready, lawful}

-- ---- one written record
abbrev header_for : ℕ → ℕ → List ℕ → Header
header_for kind id x = record { version = VERSION; kind = kind; id = id; content = length x; padding = padding_of (length x) }

-- between two records, with a table and the lent bytes
abbrev pub idle_at : Table → List ℕ → Reader rules
idle_at t v = between rules lawful (idle t true v)

-- where bytes lead, to between two records again
abbrev pub ends : Table → List ℕ → List Note → Run rules
ends t v l = record { reader = idle_at t v; notes = l }

one_record : (s : Inner) (kind id : ℕ) (x : List ℕ) → Ready s 0 → s.«open» ≡ true → id < 65536 → length x < 65536
    → by_byte rules (between rules lawful s) (record_bytes kind id x)
    ≡ record { reader = between rules lawful (record_means rules s (header_for kind id x) x).state; notes = (record_means rules s (header_for kind id x) x).notes }
unfolding record_bytes
one_record s kind id x ready o hi hx =
    let p = padding_of (length x) in
    let h = header_bytes kind id (length x) p in
    let e : header_of h ≡ header_for kind id x = header_read_back kind id (length x) p hi hx in
    ap (by_byte rules (between rules lawful s)) (append_assoc h x (zeros p))
    ∙ record_read rules lawful s h x (zeros p) ready o (header_length kind id (length x) p) (sym (ap (λ (k : Header). k.content) e)) (length-replicate p 0 ∙ sym (ap (λ (k : Header). k.padding) e))
    ∙ ap (λ (k : Header). record { reader = between rules lawful (record_means rules s k x).state; notes = (record_means rules s k x).notes }) e

module _ (t : Table) (v : List ℕ) (ready : Ready (idle t true v) 0) where
  -- a record that means this
  record_heard : (kind id : ℕ) (x : List ℕ) (u : Table) (w : List ℕ) (l : List Note) → id < 65536 → length x < 65536
      → record_means rules (idle t true v) (header_for kind id x) x ≡ record { state = idle u true w; notes = l }
      → by_byte rules (idle_at t v) (record_bytes kind id x) ≡ ends u w l
  record_heard kind id x u w l hi hx e =
      one_record (idle t true v) kind id x ready refl hi hx
      ∙ ap (λ (k : Left Inner Note). record { reader = between rules lawful k.state; notes = k.notes }) e

  module _ (id i : ℕ) (slot : find t id ≡ Some i) (hi : id < 65536) where
    own_id : (request_at t i).id ≡ id
    unfolding request_at
    own_id = (find_at t id i slot).has_id

    -- output: shown, and nothing changes
    output_means : (o : Output) (x : List ℕ) → is_ended o (request_at t i).state ≡ false → 0 < length x
        → record_means rules (idle t true v) (header_for (output_type o) id x) x ≡ record { state = idle t true v; notes = showing id (output_type o) x }
    unfolding record_means judged on_request on_output taken
    output_means Output.Stdout x live some =
        let ne = ne_eqb (length x) 0 (λ z. omega arith) in
        simp (slot, live, ne)
        (ap₂ (λ (n : ℕ) (y : List ℕ). record { state = idle t true v; notes = showing n STDOUT y }) own_id (take_all (length x) x (omega arith)))
    output_means Output.Stderr x live some =
        let ne = ne_eqb (length x) 0 (λ z. omega arith) in
        simp (slot, live, ne)
        (ap₂ (λ (n : ℕ) (y : List ℕ). record { state = idle t true v; notes = showing n STDERR y }) own_id (take_all (length x) x (omega arith)))

    -- an empty record: the stream is ended
    abbrev ended_table : Output → Table
    ended_table o = put_request t i (ended_on (request_at t i) o)

    end_means : (o : Output) → is_ended o (request_at t i).state ≡ false
        → record_means rules (idle t true v) (header_for (output_type o) id []) [] ≡ record { state = idle (ended_table o) true v; notes = Note.Told (Event.Ended id (output_type o)) ∷ [] }
    unfolding record_means judged on_request on_output
    end_means Output.Stdout live = simp (slot, live) (ap (λ (n : ℕ). record { state = idle (ended_table Output.Stdout) true v; notes = Note.Told (Event.Ended n STDOUT) ∷ [] }) own_id)
    end_means Output.Stderr live = simp (slot, live) (ap (λ (n : ℕ). record { state = idle (ended_table Output.Stderr) true v; notes = Note.Told (Event.Ended n STDERR) ∷ [] }) own_id)

    -- END_REQUEST: the request is given back
    over_means : (a p : ℕ) → a < 4294967296
        → record_means rules (idle t true v) (header_for END_REQUEST id (end_body_bytes a p)) (end_body_bytes a p) ≡ record { state = idle (free_slot t i) true v; notes = Note.Told (Event.Finished id a p) ∷ [] }
    unfolding record_means judged on_request taken end_body_bytes copied end_body_of
    over_means a p small = simp (slot) (rw (own_id, number4_bytes a small))

  -- a result of values: its list, which is in the lent bytes
  none_means : record_means rules (idle t true v) (header_for GET_VALUES_RESULT 0 []) [] ≡ record { state = idle t true v; notes = Note.Listed [] ∷ [] }
  unfolding record_means judged on_management valued well_formed ending_of pairs_from pairs_in
  none_means = refl

  values_means : (x : List ℕ) → length x ≤ QUERY → well_formed x ≡ true
      → record_means rules (idle t true v) (header_for GET_VALUES_RESULT 0 x) x ≡ record { state = idle t true (copied v 0 x); notes = Note.Listed x ∷ [] }
  unfolding record_means judged on_management valued taken of_values
  values_means [] small well = none_means ∙ ap (λ (w : List ℕ). record { state = idle t true w; notes = Note.Listed [] ∷ [] }) (sym (copied_room v 0 [] (omega arith) ∙ put_none v 0))
  values_means (b ∷ x) small well =
      let y = b ∷ x in
      let ne = ne_eqb (length y) 0 (λ z. omega arith) in
      let put : copied v 0 y ≡ put_at v 0 y = copied_room v 0 y (omega (arith, ready.values)) in
      let n : 0 + length y ≡ length y = omega arith in
      let list : take (0 + length y) (copied v 0 y) ≡ y = ap₂ (λ (k : ℕ) (u : List ℕ). take k u) n put ∙ take_at y (drop (0 + length y) v) (length y) refl in
      let list2 : take (length y) (copied v 0 y) ≡ y = ap (take (length y)) put ∙ take_at y (drop (0 + length y) v) (length y) refl in
      simp (le-ltb QUERY (length y) small, ne, list, well, list2)

  -- an unknown type
  unknown_means : (k : ℕ) → record_means rules (idle t true v) (header_for UNKNOWN_TYPE 0 (unknown_type_bytes k)) (unknown_type_bytes k) ≡ record { state = idle t true v; notes = Note.Told (Event.Unknown k) ∷ [] }
  unfolding record_means judged on_management taken unknown_type_bytes copied unknown_type_of
  unknown_means k = refl

-- ---- bytes that lead from between two records to between two records
pub record Heard (t : Table) (v bytes : List ℕ) (u : Table) (w : List ℕ) (l : List Note) : Type 0 where
  pub same : by_byte rules (idle_at t v) bytes ≡ ends u w l
  pub ready : Ready (idle u true w) 0

pub heard_nothing : (t : Table) (v : List ℕ) → Ready (idle t true v) 0 → Heard t v [] t v []
heard_nothing t v r = record { same = by_byte_none rules lawful (idle_at t v); ready = r }

pub then_heard : (t u z : Table) (v w y a b : List ℕ) (l m : List Note) → Heard t v a u w l → Heard u w b z y m → Heard t v (a ++ b) z y (l ++ m)
then_heard t u z v w y a b l m first second =
    record {
      same =
          by_byte_append rules lawful a (idle_at t v) b
          ∙ ap (λ (r : Run rules). and_then rules r (λ c. by_byte rules c b)) first.same
          ∙ ap (λ (r : Run rules). record { reader = r.reader; notes = l ++ r.notes }) second.same;
      ready = second.ready;
    }

-- by what a record means
by_record_lem : (t : Table) (v : List ℕ) (kind id : ℕ) (x : List ℕ) (u : Table) (w : List ℕ) (l : List Note) → Ready (idle t true v) 0 → id < 65536 → length x < 65536
    → record_means rules (idle t true v) (header_for kind id x) x ≡ record { state = idle u true w; notes = l } → Heard t v (record_bytes kind id x) u w l
by_record_lem t v kind id x u w l ready hi hx e =
    record {
      same = record_heard t v ready kind id x u w l hi hx e;
      ready = subst (λ (k : Left Inner Note). Ready k.state 0) e (record_ready rules lawful (idle t true v) (header_for kind id x) x ready refl);
    }

module _ (t : Table) (v : List ℕ) (ready : Ready (idle t true v) 0) where
  module _ (id i : ℕ) (slot : find t id ≡ Some i) (hi : id < 65536) where
    pub heard_end : (o : Output) → is_ended o (request_at t i).state ≡ false
        → Heard t v (record_bytes (output_type o) id []) (put_request t i (ended_on (request_at t i) o)) v (Note.Told (Event.Ended id (output_type o)) ∷ [])
    heard_end o live = by_record_lem t v (output_type o) id [] _ v _ ready hi (omega arith) (end_means t v ready id i slot hi o live)

    pub heard_over : (a p : ℕ) → a < 4294967296 → Heard t v (record_bytes END_REQUEST id (end_body_bytes a p)) (free_slot t i) v (Note.Told (Event.Finished id a p) ∷ [])
    heard_over a p small = by_record_lem t v END_REQUEST id (end_body_bytes a p) _ v _ ready hi (omega (arith, end_length a p)) (over_means t v ready id i slot hi a p small)

    showing_append : (stream : ℕ) (x y : List ℕ) → showing id stream (x ++ y) ≡ showing id stream x ++ showing id stream y
    unfolding showing
    showing_append stream [] y = refl
    showing_append stream (b ∷ x) y = ap (λ (l : List Note). Note.Shown id stream b ∷ l) (showing_append stream x y)

    -- a stream's data, in records of CHUNK bytes
    pub heard_said : (o : Output) → is_ended o (request_at t i).state ≡ false → (x : List ℕ) → Heard t v (stream_bytes CHUNK (output_type o) id x) t v (showing id (output_type o) x)
    unfolding showing
    heard_said o live =
        let k = output_type o in
        by_chunks (λ x. Heard t v (stream_bytes CHUNK k id x) t v (showing id k x)) CHUNK (omega arith)
        (rw (stream_none CHUNK k id) (heard_nothing t v ready))
        (λ x some ih.
        let c = take CHUNK x in
        let first = by_record_lem t v k id c t v (showing id k c) ready hi (omega (arith, length-take CHUNK x)) (output_means t v ready id i slot hi o c live (omega (arith, length-take CHUNK x))) in
        let both = then_heard t t t v v v (record_bytes k id c) (stream_bytes CHUNK k id (drop CHUNK x)) (showing id k c) (showing id k (drop CHUNK x)) first ih in
        let e : showing id k c ++ showing id k (drop CHUNK x) ≡ showing id k x = sym (showing_append k c (drop CHUNK x)) ∙ ap (showing id k) (take-append-drop CHUNK x) in
        rw (stream_more CHUNK k id x (omega arith) some) (record { same = both.same ∙ ap (ends t v) e; ready = both.ready }))

  pub heard_values : (x : List ℕ) → length x ≤ QUERY → well_formed x ≡ true → Heard t v (record_bytes GET_VALUES_RESULT 0 x) t (copied v 0 x) (Note.Listed x ∷ [])
  heard_values x small well = by_record_lem t v GET_VALUES_RESULT 0 x _ _ _ ready (omega arith) (omega arith) (values_means t v ready x small well)

  pub heard_unknown : (k : ℕ) → Heard t v (record_bytes UNKNOWN_TYPE 0 (unknown_type_bytes k)) t v (Note.Told (Event.Unknown k) ∷ [])
  heard_unknown k = by_record_lem t v UNKNOWN_TYPE 0 (unknown_type_bytes k) _ v _ ready (omega arith) (omega (arith, unknown_length k)) (unknown_means t v ready k)
