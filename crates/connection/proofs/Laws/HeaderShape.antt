-- What a header leaves is in shape.
use Rattle.connection.specs.Slots.{Slot}
use Rattle.std.specs.Prelude.{◌≡◌, refl, ℕ, ◌≤◌, ◌<◌, ltb, eqb, Some, None}
use mathlib.Core.List.{List, []}
use Rattle.std.proofs.Common.{arith}
use borrow.Author.Tests.{ltb-false, eqb-true, eqb-false}
use Rattle.record.specs.Names.{VERSION, BEGIN_REQUEST, GET_VALUES}
use Rattle.record.specs.declared.header.Header.{Header}
use Rattle.connection.specs.declared.request.Request.{Request}
use Rattle.connection.specs.declared.request.Due.{Due}
use Rattle.connection.specs.declared.state.Table.{Table}
use Rattle.connection.specs.declared.state.Target.{Target}
use Rattle.connection.specs.Sizes.{AREA, QUERY}
use Rattle.connection.specs.Request.{on_header}
use Rattle.connection.specs.Slots.{request_at, held_at, put_request, find, on_slot}
use Rattle.connection.proofs.Laws.SlotsLaws.{find_at}
use Rattle.connection.specs.Fits.{InUse, Aimed}
use Rattle.connection.proofs.Laws.TableShape.{length_of, use_put, length_put}
use Rattle.connection.proofs.Laws.RequestShape.{Room, keeps_header}
use Rattle.wire.proofs.Bytes.{zeros_bytes}
use Rattle.connection.specs.Fits.{HeaderFits}
use Rattle.connection.proofs.Laws.StateShape.{GoodFrame, Good, aimed_if, either, good_closes, good_reads, good_back, good_queried}
use Rattle.connection.specs.Step.{State, frame_after, on_management, on_inactive, due_to, on_active, judged}
use Rattle.machine.specs.Cause.{Plain}

-- a frame after a header
good_behind : (t : Table) (h : Header) (target : Target) → HeaderFits h → (0 < h.content → Aimed target t 0 h.content) → GoodFrame t (frame_after h target)
good_behind t h target fits f =
    record {
      header = refl;
      bytes = zeros_bytes 8;
      body = refl;
      position = record { held = omega arith; content = fits.content; padding = fits.padding };
      target = aimed_if h.content 0 target t f;
    }

-- ---- rules 1 to 10
module _ (st : State) (store : List ℕ) (before : Good st.conn) (h : Header) (fits : HeaderFits h) where
  good_management : Good (on_management st store h).conn
  unfolding on_management
  good_management =
      either (eqb h.kind GET_VALUES) _ _
      (λ a. either (ltb QUERY h.content) _ _
      (λ b. good_closes st store (Plain 13))
      (λ b. either (eqb h.content 0) _ _
      (λ c. good_queried st.conn before st.gathered store [] (frame_after h Target.Skip) (good_behind _ h Target.Skip fits (λ _. tt)))
      (λ c. good_reads st.conn before (frame_after h Target.Query) (good_behind _ h Target.Query fits (λ _. omega (arith, ltb-false QUERY h.content b))))))
      (λ a. good_reads st.conn before (frame_after h Target.Skip) (good_behind _ h Target.Skip fits (λ _. tt)))

  good_inactive : (h.id ≡ 0 → ⊥) → find st.conn.table h.id ≡ None → Good (on_inactive st store h).conn
  unfolding on_inactive
  good_inactive some inactive =
      either (eqb h.kind BEGIN_REQUEST) _ _
      (λ a. either (eqb h.content 8) _ _
      (λ b. good_reads st.conn before (frame_after h (Target.Begin h.id))
      (good_behind _ h (Target.Begin h.id) fits (λ _. record { eight = omega (arith, eqb-true h.content 8 b); some = some; inactive = inactive })))
      (λ b. good_closes st store (Plain 12)))
      (λ a. good_reads st.conn before (frame_after h Target.Skip) (good_behind _ h Target.Skip fits (λ _. tt)))

  -- where the content of a request's record goes, it may
  aimed_due : (d : Due) (i : ℕ) (r : Request) → InUse st.conn.table i → Room d r.length h.content
      → Aimed (due_to d i) (put_request st.conn.table i r) 0 h.content
  aimed_due Due.Skip i r u room = tt
  aimed_due Due.Params i r u room = record { slot = use_put st.conn.table i i r u; room = rw (length_put st.conn.table i r before.sized u.low) room }
  aimed_due Due.Stdin i r u room = use_put st.conn.table i i r u
  aimed_due Due.Data i r u room = use_put st.conn.table i i r u

  good_active : (i : ℕ) → find st.conn.table h.id ≡ Some i → Good (on_active st store h i).conn
  unfolding on_active
  good_active i e =
      let u = find_at st.conn.table h.id i e in
      let r = on_header h.kind h.content (held_at st.conn.table store i) in
      let short : (request_at st.conn.table i).length ≤ AREA = rw (length_of st.conn.table i) (before.tidy.lengths i u.low) in
      let k = keeps_header h.content (held_at st.conn.table store i) short h.kind in
      good_back st.conn before i r.held.request (frame_after h (due_to r.due i)) k.id k.short
      (good_behind _ h (due_to r.due i) fits (λ _. aimed_due r.due i r.held.request (record { low = u.low; slot_taken = u.slot_taken }) k.room))

  -- Whatever the header, the state that it leaves is good.
  pub good_judged : Good (judged st store h).conn
  unfolding judged
  good_judged =
      either (eqb h.version VERSION) _ _
      (λ a. either (eqb h.id 0) _ _
      (λ b. good_management)
      (λ b. go (eqb-false h.id 0 b) (find st.conn.table h.id) refl))
      (λ a. good_closes st store (Plain 11))
    where
      go : (h.id ≡ 0 → ⊥) → (s : Slot) → find st.conn.table h.id ≡ s → Good (on_slot s (on_active st store h) (on_inactive st store h)).conn
      go some (Some i) e = good_active i e
      go some None e = good_inactive some e
