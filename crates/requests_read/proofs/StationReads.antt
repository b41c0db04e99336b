-- What the station does with each part of a request that comes in its turn: it has the request with one part more, and
-- tells just that part.
use Rattle.std.specs.Prelude.{ℕ, ◌+◌, ◌≤◌, ◌<◌, true, false}
use Rattle.std.proofs.Math.Path.{◌≡◌, refl, sym, ap}
use Rattle.std.proofs.Common.{ap₂, ◌∙◌, subst, drop_of_length-le, take_all}
use mathlib.Core.List.{List, [], ◌∷◌, ◌++◌, append-nil}
use native.Mathlib.Omega.{arith}
use Rattle.std.proofs.Math.ListN.{length, take, drop, length-take, take-append-drop}
use Rattle.std.proofs.Math.Seq.{take_at}
use borrow.Author.Tests.{le-ltb, ne_eqb}
use Rattle.wire.specs.Buffer.{copied}
use Rattle.wire.proofs.BufferLaws.{copied_room}
use Rattle.wire.proofs.Bytes.{AllBytes, take_bytes, drop_bytes}
use Rattle.record.specs.Names.{ABORT_REQUEST, PARAMS}
use Rattle.record_writer.specs.Written.{record_bytes, stream_bytes}
use Rattle.record_writer.proofs.StreamLaws.{by_chunks, stream_none, stream_more}
use Rattle.pairs.specs.Pair.{pair_bytes}
use Rattle.pair_list.specs.List.{well_formed}
use Rattle.pair_list.proofs.ReadBackList.{Named, written, written_contents}
use Rattle.pair_repeats.specs.Repeats.{repeats}
use Rattle.connection.specs.declared.event.Stream.{Stream}
use Rattle.connection.specs.declared.request.Due.{Due}
use Rattle.connection.specs.declared.request.Turn.{Turn}
use Rattle.connection.specs.declared.request.Life.{Life}
use Rattle.connection.specs.declared.request.Request.{Request}
use Rattle.connection.specs.Sizes.{AREA, CHUNK}
use Rattle.connection.specs.Event.{Event}
use Rattle.connection.specs.Codes.{stream_type, stream_due}
use Rattle.connection.specs.Request.{Held, ruled, with_turn, with_life, aborted, turned, params_fault, params_ended, on_params, on_stdin, on_data, on_input, on_live, on_header, showed, on_content}
use Rattle.connection.specs.Slots.{request_at, area_at, held_at}
use Rattle.connection.specs.Step.{State}
use Rattle.connection.specs.Bytewise.{Note, notes, showing, by_byte}
use Rattle.connection.proofs.Laws.CuttingContent.{grown_room}
use Rattle.connection.proofs.Laws.StepSizes.{copied_length}
use Rattle.server.specs.declared.state.Input.{Input}
use Rattle.server.specs.Codes.{input_type, input_turn, stream_input}
use Rattle.server.specs.Calls.{Part, APair, Content, EndOf, Abort, in_turn, part_bytes, turn_after}
use Rattle.server.proofs.WrittenBytes.{pair_is_bytes}
use Rattle.requests_read.specs.Parts.{SoFar, so_far, list_so_far, end_told, part_told, Proper, ListFits}
use Rattle.requests_read.specs.StationHas.{StationHas}
use Rattle.requests_read.proofs.PairsWritten.{written_more, longer_by, some_pair, differ_written}
use Rattle.requests_read.proofs.PartsLaws.{turn_is, Possible, possible_part, content_none, content_twice}
use Rattle.requests_read.proofs.RecordRead.{Sent, sent_empty}
use Rattle.requests_read.proofs.StationLeads.{Leads, nothing_leads, then_leads, area_full, list_fits, by_empty, by_content}

-- ---- one record
module _ (st : State) (store : List ℕ) (id i : ℕ) (s : SoFar) (has : StationHas st store id i s) (live : s.life ≡ Life.Live) where
  abbrev now : Held
  now = held_at st.conn.table store i

  -- PARAMS content of a pair: the list grows by it
  pub pair_read : (q : Named) → s.turn ≡ Turn.Params → Sent PARAMS id (pair_bytes q.name q.value) → length (written (s.pairs ++ (q ∷ []))) ≤ AREA
      → Leads st store (record_bytes PARAMS id (pair_bytes q.name q.value)) id i (so_far s (APair q.name q.value)) []
  unfolding on_header on_live on_input on_params
  pair_read q turn sent room =
      let x = pair_bytes q.name q.value in
      let l = list_so_far s in
      let more = written_more s.pairs q in
      let two = longer_by s.pairs q in
      let r = has.request in
      let n : (request_at st.conn.table i).length ≡ length l = ap (λ (k : Request). k.length) r in
      let full = area_full st store id i s has in
      let put : copied (area_at store i) (length l) x ≡ l ++ x ++ drop (length l + length x) (area_at store i) =
      copied_room (area_at store i) (length l) x (omega arith) ∙ ap (λ (u : List ℕ). u ++ x ++ drop (length l + length x) (area_at store i)) has.list in
      by_content st store id i s has PARAMS Due.Params x _ Event.None (so_far s (APair q.name q.value)) sent (some_pair q.name q.value) (λ e. let z : ◌≡◌ {A = ℕ} 0 1 = cc in omega arith)
      (rw (r, live, turn) (simp (le-ltb AREA (length l + length x) (omega arith), ne_eqb (length x) 0 (λ z. omega (arith, some_pair q.name q.value)))))
      (ap (λ (h : Held). record { held = h; event = Event.None }) (grown_room now x (rw n (omega arith))))
      (rw (r, two))
      (rw n (ap₂ (λ (u v : List ℕ). take (length u) v) more put ∙ take_at (l ++ x) (drop (length l + length x) (area_at store i)) (length (l ++ x)) refl ∙ sym more))
      (copied_length (area_at store i) (request_at st.conn.table i).length x ∙ full)

  -- content of STDIN or DATA: shown, and counted
  content_rule : (stream : Stream) (n : ℕ) → 0 < n → s.turn ≡ input_turn (stream_input stream) → on_header (stream_type stream) n now ≡ ruled now (stream_due stream) Event.None
  unfolding on_header on_live on_input on_stdin on_data
  content_rule Stream.Stdin n some turn = rw (has.request, live, turn) (simp (ne_eqb n 0 (λ z. omega arith)))
  content_rule Stream.Data n some turn = rw (has.request, live, turn) (simp (ne_eqb n 0 (λ z. omega arith)))

  content_shown : (stream : Stream) (x : List ℕ)
      → on_content (stream_due stream) x now ≡ record { held = showed (stream_due stream) (length x) now; event = Event.Data now.request.id (stream_type stream) (length x) }
  content_shown Stream.Stdin x = refl
  content_shown Stream.Data x = refl

  not_skipped : (stream : Stream) → stream_due stream ≡ Due.Skip → ⊥
  not_skipped Stream.Stdin e = let z : ◌≡◌ {A = ℕ} 0 1 = cc in omega arith
  not_skipped Stream.Data e = let z : ◌≡◌ {A = ℕ} 0 1 = cc in omega arith

  pub content_read : (stream : Stream) (x : List ℕ) → s.turn ≡ input_turn (stream_input stream) → Sent (stream_type stream) id x → 0 < length x
      → Leads st store (record_bytes (stream_type stream) id x) id i (so_far s (Content stream x)) (showing id (stream_type stream) x)
  content_read stream x turn sent some =
      let r = has.request in
      let u = so_far s (Content stream x) in
      let shows : showing (request_at st.conn.table i).id (stream_type stream) (take (length x) x) ≡ showing id (stream_type stream) x =
      ap₂ (λ (n : ℕ) (y : List ℕ). showing n (stream_type stream) y) (ap (λ (k : Request). k.id) r) (take_all (length x) x (omega arith)) in
      subst (Leads st store (record_bytes (stream_type stream) id x) id i u) shows
      (by_content st store id i s has (stream_type stream) (stream_due stream) x (showed (stream_due stream) (length x) now) (Event.Data now.request.id (stream_type stream) (length x)) u sent some
      (not_skipped stream) (content_rule stream (length x) some turn) (content_shown stream x) (rw r) has.list (area_full st store id i s has))

  -- the end of a stream
  end_rule : (input : Input) → s.turn ≡ input_turn input → well_formed (list_so_far s) ≡ true → repeats (list_so_far s) ≡ false
      → on_header (input_type input) 0 now ≡ turned now (turn_after s.role input) (end_told id s input)
  unfolding on_header on_live on_input on_params params_ended params_fault on_stdin on_data
  end_rule Input.Params turn well once =
      let z : length (list_so_far s) + 0 ≡ length (list_so_far s) = omega arith in
      rw (has.request, live, turn, z, le-ltb AREA (length (list_so_far s)) (list_fits st store id i s has), has.list, well, once)
  end_rule Input.Stdin turn well once = rw (has.request, live, turn, has.list)
  end_rule Input.Data turn well once = rw (has.request, live, turn, has.list)

  end_notes : (input : Input) → notes (end_told id s input) [] ≡ Note.Told (end_told id s input) ∷ []
  end_notes Input.Params = refl
  end_notes Input.Stdin = refl
  end_notes Input.Data = refl

  kind_small : (input : Input) → input_type input < 256
  kind_small Input.Params = omega arith
  kind_small Input.Stdin = omega arith
  kind_small Input.Data = omega arith

  pub end_read : (input : Input) → id < 65536 → s.turn ≡ input_turn input → well_formed (list_so_far s) ≡ true → repeats (list_so_far s) ≡ false
      → Leads st store (record_bytes (input_type input) id []) id i (so_far s (EndOf input)) (Note.Told (end_told id s input) ∷ [])
  unfolding turned with_turn
  end_read input small turn well once =
      rw (← end_notes input)
      (by_empty st store id i s has (input_type input) (turned now (turn_after s.role input) (end_told id s input)) (so_far s (EndOf input)) (sent_empty (input_type input) id (kind_small input) small)
      (end_rule input turn well once) (rw has.request) refl refl)

  -- ABORT_REQUEST, in any turn
  pub abort_read : id < 65536 → Leads st store (record_bytes ABORT_REQUEST id []) id i (so_far s Abort) (Note.Told (Event.Abort id) ∷ [])
  unfolding on_header on_live aborted with_life
  abort_read small =
      by_empty st store id i s has ABORT_REQUEST (record { held = (aborted now).held; due = Due.Skip; event = Event.Abort id }) (so_far s Abort) (sent_empty ABORT_REQUEST id (omega arith) small)
      (rw (has.request, live)) (rw has.request) refl refl

-- ---- a part
module _ (id i : ℕ) (small : id < 65536) where
  -- what fits one record is one
  one_chunk : (kind : ℕ) (x : List ℕ) → 0 < length x → length x ≤ CHUNK → stream_bytes CHUNK kind id x ≡ record_bytes kind id x
  one_chunk kind x some short =
      stream_more CHUNK kind id x (omega arith) some
      ∙ ap₂ (λ (y z : List ℕ). record_bytes kind id y ++ stream_bytes CHUNK kind id z) (take_all CHUNK x short) (drop_of_length-le x short)
      ∙ ap (λ (y : List ℕ). record_bytes kind id x ++ y) (stream_none CHUNK kind id)
      ∙ append-nil (record_bytes kind id x)

  showing_append : (stream : ℕ) (x y : List ℕ) → showing id stream (x ++ y) ≡ showing id stream x ++ showing id stream y
  unfolding showing
  showing_append stream [] y = refl
  showing_append stream (b ∷ x) y = ap (λ (l : List Note). Note.Shown id stream b ∷ l) (showing_append stream x y)

  stream_small : (stream : Stream) → stream_type stream < 256
  stream_small Stream.Stdin = omega arith
  stream_small Stream.Data = omega arith

  -- content in records of CHUNK bytes
  abbrev StreamRead : Stream → List ℕ → Type 0
  StreamRead stream x =
      (st : State) (store : List ℕ) (s : SoFar) → StationHas st store id i s → s.life ≡ Life.Live → s.turn ≡ input_turn (stream_input stream) → AllBytes x → Possible s
      → Leads st store (stream_bytes CHUNK (stream_type stream) id x) id i (so_far s (Content stream x)) (showing id (stream_type stream) x)

  stream_read : (stream : Stream) (x : List ℕ) → StreamRead stream x
  unfolding showing
  stream_read stream =
      by_chunks (StreamRead stream) CHUNK (omega arith)
      (λ st store s has live turn all w. rw (stream_none CHUNK (stream_type stream) id, content_none stream s w) (nothing_leads st store id i s has))
      (λ x some ih st store s has live turn all w.
      let kind = stream_type stream in
      let y = take CHUNK x in
      let z = drop CHUNK x in
      let a = record_bytes kind id y in
      let u = so_far s (Content stream y) in
      let sent : Sent kind id y = record { kind_small = stream_small stream; id_small = small; short = omega (arith, length-take CHUNK x); bytes = take_bytes CHUNK x all } in
      let first = content_read st store id i s has live stream y turn sent (omega (arith, length-take CHUNK x)) in
      let rest = ih (by_byte st store a).state (by_byte st store a).store u first.has live turn (drop_bytes CHUNK x all) (possible_part (Content stream y) s (take_bytes CHUNK x all) w) in
      let both = then_leads st store a (stream_bytes CHUNK kind id z) id i u (so_far u (Content stream z)) (showing id kind y) (showing id kind z) first rest in
      let same = take-append-drop CHUNK x in
      rw (stream_more CHUNK kind id x (omega arith) some)
      (subst (λ (v : SoFar). Leads st store (a ++ stream_bytes CHUNK kind id z) id i v (showing id kind x)) (content_twice stream y z s ∙ ap (λ (v : List ℕ). so_far s (Content stream v)) same)
      (subst (Leads st store (a ++ stream_bytes CHUNK kind id z) id i (so_far u (Content stream z))) (sym (showing_append kind y z) ∙ ap (showing id kind) same) both)))

  -- A part in its turn, of a request that is not aborted.
  pub part_read : (p : Part) (st : State) (store : List ℕ) (s : SoFar) → StationHas st store id i s → s.life ≡ Life.Live → in_turn s.turn p ≡ true → Proper p → ListFits (so_far s p) → Possible s
      → Leads st store (part_bytes id p) id i (so_far s p) (part_told id s p)
  part_read (APair name value) st store s has live turn proper fits w =
      let x = pair_bytes name value in
      let q : Named = record { name = name; value = value } in
      let two = longer_by s.pairs q in
      let sent : Sent PARAMS id x = record { kind_small = omega arith; id_small = small; short = omega (arith, fits.1); bytes = pair_is_bytes name value proper.0 proper.1 } in
      rw (one_chunk PARAMS x (some_pair name value) (omega (arith, fits.1)))
      (pair_read st store id i s has live q (turn_is s.turn Input.Params turn) sent (omega (arith, fits.1)))
  part_read (Content stream x) st store s has live turn proper fits w = stream_read stream x st store s has live (turn_is s.turn (stream_input stream) turn) proper w
  part_read (EndOf input) st store s has live turn proper fits w =
      end_read st store id i s has live input small (turn_is s.turn input turn) (written_contents s.pairs w.writable).1 (differ_written s.pairs w.writable fits.0)
  part_read Abort st store s has live turn proper fits w = abort_read st store id i s has live small
