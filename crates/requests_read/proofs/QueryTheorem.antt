-- What the server's end asks, in any cutting, is told by the station as the query of just the names that were asked.
use Rattle.std.specs.Prelude.{ℕ, ◌+◌, ◌≤◌, ◌≡◌, true, drop}
use Rattle.std.proofs.Math.Path.{refl, ap, ap₂}
use Rattle.std.proofs.Common.{sym, ◌∙◌}
use mathlib.Core.List.{List, [], ◌∷◌}
use native.Mathlib.Omega.{arith}
use Rattle.std.proofs.Math.ListN.{length, take}
use Rattle.std.proofs.Math.Seq.{take_at}
use borrow.Author.Tests.{le-ltb, eq-eqb, ne_eqb}
use Rattle.wire.specs.Buffer.{put_at, copied}
use Rattle.wire.proofs.BufferLaws.{copied_room, put_none}
use Rattle.record.specs.Names.{GET_VALUES}
use Rattle.record_writer.specs.Written.{record_bytes}
use Rattle.pair_list.specs.List.{pairs_in, pairs_from, ending_of, well_formed}
use Rattle.pair_list.proofs.ReadBackList.{Named, Writable, written}
use Rattle.connection.specs.Sizes.{QUERY}
use Rattle.connection.specs.Event.{Event}
use Rattle.connection.specs.Step.{State, state_of, no_frame, open_with, MAX_CONNS, MAX_REQS, MPXS_CONNS, query_of, queried, on_management, judged, of_query}
use Rattle.connection.specs.Bytewise.{Note, Run, by_byte}
use Rattle.connection.proofs.Laws.Cutting.{pieces_by_byte}
use Rattle.meaning.specs.Meaning.{content_means, header_means}
use Rattle.meaning.proofs.Steps.{Between}
use Rattle.server.specs.declared.state.Server.{Server}
use Rattle.server.specs.Calls.{ask_refusal, ask_values}
use Rattle.server.proofs.LetThrough.{let_write, LetAsk, let_ask}
use Rattle.requests_read.specs.WrittenRequest.{bytes_in}
use Rattle.requests_read.specs.AskedNames.{query_for, NamesAreRead}
use Rattle.requests_read.proofs.PairsWritten.{short_writable, names_written}
use Rattle.requests_read.proofs.RecordRead.{header_for, one_record}
use Rattle.requests_read.proofs.ServerHas.{front_put}

-- ---- at the station
-- between two records, with these bytes gathered, and a query told
abbrev asked : State → List ℕ → List ℕ → Event → Run
asked st store gathered e = record { state = state_of (open_with st.conn.table no_frame) gathered; store = store; notes = Note.Told e ∷ [] }

module _ (st : State) (store : List ℕ) (between : Between st store) where
  none_means : header_means st store (header_for GET_VALUES 0 []) [] 0 0 ≡ asked st store st.gathered (query_of [])
  unfolding header_means content_means judged on_management queried well_formed ending_of pairs_from pairs_in query_of
  none_means = refl

  query_means : (list : List ℕ) → length list ≤ QUERY → well_formed list ≡ true
      → header_means st store (header_for GET_VALUES 0 list) list 0 0 ≡ asked st store (copied st.gathered 0 list) (query_of list)
  unfolding header_means content_means judged on_management of_query queried query_of
  query_means [] small well =
      none_means ∙ ap (λ (g : List ℕ). asked st store g (query_of [])) (sym (copied_room st.gathered 0 [] (omega arith) ∙ put_none st.gathered 0))
  query_means (b ∷ x) small well =
      let y = b ∷ x in
      let g = st.gathered in
      let put : copied g 0 y ≡ put_at g 0 y = copied_room g 0 y (omega (arith, between.sizes.gathered)) in
      let n : 0 + length y ≡ length y = omega arith in
      let list : take (0 + length y) (copied g 0 y) ≡ y = ap₂ (λ (k : ℕ) (u : List ℕ). take k u) n put ∙ take_at y (drop (0 + length y) g) (length y) refl in
      simp (le-ltb QUERY (length y) small, ne_eqb (length y) 0 (λ z. omega arith), list, well)

-- the query of a list that was written is that of its names
query_written : (ps : List Named) → Writable ps → query_of (written ps) ≡ query_for ps
unfolding query_of
query_written ps w = rw (names_written ps MAX_CONNS w, names_written ps MAX_REQS w, names_written ps MPXS_CONNS w)

-- ---- at the server's end
asked_it : (c : Server) (list buffer : List ℕ) → (ask_values c list buffer).refusal ≡ 0 → LetAsk list buffer × (bytes_in (ask_values c list buffer) ≡ record_bytes GET_VALUES 0 list)
unfolding ask_values
asked_it c list buffer e =
    let x = record_bytes GET_VALUES 0 list in
    let n = let_write (ask_refusal c list (length buffer)) c c x buffer e in
    (let_ask c list buffer n, simp (eq-eqb (ask_refusal c list (length buffer)) 0 n) (front_put x buffer))

pub names_are_read : NamesAreRead
names_are_read c ps buffer st store pieces e all between j =
    let list = written ps in
    let a = asked_it c list buffer e in
    let k = a.0 in
    pieces_by_byte pieces st store between.sizes
    ∙ ap (by_byte st store) (j ∙ a.1)
    ∙ one_record st store GET_VALUES 0 list between (record { kind_small = omega arith; id_small = omega arith; short = omega (arith, k.short); bytes = all })
    ∙ query_means st store between list k.short k.well
    ∙ ap (asked st store (copied st.gathered 0 list)) (query_written ps (short_writable ps (omega (arith, k.short))))
