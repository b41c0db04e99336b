-- That the rows come to what the definition says, and what is known of a record's owner.
use Rattle.connection.specs.Slots.{Slot}
use Rattle.std.specs.Prelude.{ℕ, ◌≡◌, refl, Bool, true, false, List, get_or, if◌then◌else◌, Some, None}
use Rattle.std.proofs.Common.{sym, ap, ap₂, ◌∙◌, arith}
use Rattle.wire.specs.Test.{◌=?◌}
use Rattle.record.specs.Names.{VERSION}
use Rattle.record.specs.declared.header.Header.{Header}
use Rattle.slot_word.specs.Word.{taken}
use Rattle.connection.specs.declared.answer.Output.{Output}
use Rattle.connection.specs.declared.state.Table.{Table}
use Rattle.connection.specs.Sizes.{SLOTS}
use Rattle.connection.specs.Codes.{output_type}
use Rattle.connection.specs.RequestCalls.{is_ended}
use Rattle.connection.specs.Slots.{request_at, find_from, find, on_slot}
use Rattle.connection.proofs.Laws.SlotsLaws.{HoldsFrom, found_from}
use Rattle.server.specs.declared.state.Target.{Target}
use Rattle.server.specs.Event.{Event}
use Rattle.server.specs.declared.state.Frame.{Frame}
use Rattle.server.specs.Decision.{inner_in, stream_ended}
use Rattle.server.specs.Step.{Inner, no_body, told, aimed, closes, is_management, is_reply, output_target, on_management, on_output, on_request, judged}
use Rattle.server_header.specs.declared.Words.{Words}
use Rattle.server_header.specs.declared.Owner.{Owner}
use Rattle.server_header.specs.declared.OutputRow.{OutputRow}
use Rattle.server_header.specs.Rows.{Seen, slot_owner, owner_in, is_known, rows_of, checked_header, output_row, by_owner, by_check, judged_for, by_row}

-- A header judged by the rows is judged as the definition says.
pub judged_rows : (s : Inner) (h : Header) → judged_for (owner_in s.table.ids s.table.occupied h.kind h.id) s h ≡ judged s h
unfolding owner_in checked_header judged
judged_rows s h =
    rows (h.version =? VERSION) (is_reply h.kind) (is_management h.kind) (h.id =? 0) (find s.table h.id)
  where
    -- by the tests on the version, the type and the id, and the slot of the id
    rows : (version reply management none : Bool) (k : Slot)
        → (let owner = if management then (if none then Owner.Connection else Owner.Nobody) else slot_owner k in
        by_check (rows_of version reply (is_known owner)) s (by_owner owner s h.kind h.content))
        ≡ (if version then
        (if reply then
        (if management then (if none then on_management s h.kind h.content else closes s 53) else on_slot k (on_request s h.kind h.content) (closes s 53))
        else closes s 52)
        else closes s 51)
    rows false r m z k = refl
    rows true false m z k = refl
    rows true true true true k = refl
    rows true true true false k = refl
    rows true true false z (Some i) = refl
    rows true true false z None = refl

-- So is a record of output.
pub output_rows_lem : (s : Inner) (output : Output) (n i : ℕ) → by_row (output_row (is_ended output (request_at s.table i).state) n) s output n i ≡ on_output s output n i
unfolding output_row on_output
output_rows_lem s output n i = rows (is_ended output (request_at s.table i).state) (n =? 0)
  where
    -- by the tests on the stream's mark and on the length
    rows : (ended empty : Bool)
        → by_row (if ended then OutputRow.TooLate else if empty then OutputRow.Ends else OutputRow.Shows) s output n i
        ≡ (if ended then closes s 56
        else if empty then
        told (record { table = stream_ended s.table i output; target = if empty then Target.Skip else Target.Skip; gathered = 0; body = no_body; «open» = true; values = s.values }) (Event.Ended (request_at s.table i).id (output_type output))
        else told (aimed s s.table n (output_target output i)) Event.None)
    rows true empty = refl
    rows false true = refl
    rows false false = refl

-- A stream of the request in slot i is ended by its mark.
pub out_mark : (t : Table) (i : ℕ) → is_ended Output.Stdout (request_at t i).state ≡ taken i t.out_ended
unfolding request_at
out_mark t i = refl

pub err_mark : (t : Table) (i : ℕ) → is_ended Output.Stderr (request_at t i).state ≡ taken i t.err_ended
unfolding request_at
err_mark t i = refl

-- A record that is for a request is for the one in the slot of its id.
pub owner_slot : (all : List ℕ) (word kind id i : ℕ) → owner_in all word kind id ≡ Owner.Request i → HoldsFrom SLOTS all word id 0 i
unfolding owner_in
owner_slot all word kind id i e = go (is_management kind) (id =? 0) (find_from SLOTS all word id 0) refl e
  where
    go : (management none : Bool) (k : Slot) → find_from SLOTS all word id 0 ≡ k → (if management then (if none then Owner.Connection else Owner.Nobody) else slot_owner k) ≡ Owner.Request i
        → HoldsFrom SLOTS all word id 0 i
    go true true k f w = let z : ◌≡◌ {A = ℕ} 0 1 = cc in absurd (omega arith)
    go true false k f w = let z : ◌≡◌ {A = ℕ} 0 1 = cc in absurd (omega arith)
    go false none (Some j) f w = let same : j ≡ i = cc in found_from SLOTS all word id 0 i (f ∙ ap Some same)
    go false none None f w = let z : ◌≡◌ {A = ℕ} 0 1 = cc in absurd (omega arith)

pub slot_id : (t : Table) (all : List ℕ) (word id i : ℕ) → t.ids ≡ all → HoldsFrom SLOTS all word id 0 i → (request_at t i).id ≡ id
unfolding request_at
slot_id t all word id i e h = ap (λ (l : List ℕ). get_or l i 0) e ∙ h.has_id

-- The definition over a table that was seen.
pub judged_seen : (t : Table) (f : Frame) (values all : List ℕ) (w : Words) (h : Header) → Seen t all w
    → judged_for (owner_in all w.occupied h.kind h.id) (inner_in t f values) h ≡ judged (inner_in t f values) h
judged_seen t f values all w h seen =
    ap₂ (λ (l : List ℕ) (k : ℕ). judged_for (owner_in l k h.kind h.id) (inner_in t f values) h) (sym seen.ids) (sym seen.occupied) ∙ judged_rows (inner_in t f values) h
