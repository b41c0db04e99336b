-- What opening a request needs: whether BEGIN_REQUEST fits, what the rows say together, and what is written.
use Rattle.std.specs.Prelude.{ℕ, ◌≡◌, refl, Bool, true, false, not, List, [], ◌∷◌, length, ltb, eqb, if◌then◌else◌, Ok}
use Rattle.std.proofs.Common.{sym, ap, ◌∙◌, arith}
use Rattle.wire.specs.Test.{by_test}
use Rattle.record.specs.Names.{BEGIN_REQUEST}
use Rattle.record.specs.Body.{begin_body_bytes}
use Rattle.record.proofs.BodyLaws.{begin_length}
use Rattle.record_writer.specs.Written.{Placed, record_fits, record_placed}
use Rattle.connection.specs.declared.request.Role.{Role}
use Rattle.connection.specs.declared.request.Request.{Request}
use Rattle.connection.specs.declared.state.Table.{Table}
use Rattle.connection.specs.Sizes.{SLOTS}
use Rattle.connection.specs.Request.{opened}
use Rattle.connection.specs.Slots.{take_slot, free_slot_of, find, is_found}
use Rattle.connection.specs.Refusal.{◌when◌}
use Rattle.server.specs.declared.answer.ServerRefusal.{ServerRefusal}
use Rattle.server.specs.declared.state.Server.{Server}
use Rattle.server.specs.Shape.{in_shape}
use Rattle.server.specs.Step.{step_refusal}
use Rattle.server.specs.Codes.{refusal_number}
use Rattle.server.specs.Calls.{begin_bytes, is_role, role_of, with_taken, open_refusal, open_request}
use Rattle.server.specs.Answer.{written_by}
use Rattle.server_admit.proofs.Room.{record_room, record_filled, call_filled}
use Rattle.server_admit.proofs.AdmissionLaws.{Passed, refused_first}
use Rattle.server_open.specs.Rows.{own_rows}

-- whether the record fits
pub begin_fits : (id role : ℕ) (keep : Bool) (room : ℕ) → record_fits 8 0 room ≡ not (ltb room (length (begin_bytes id role keep)))
begin_fits id role keep room =
    let body = begin_length role keep in
    ap (λ (n : ℕ). record_fits n 0 room) (sym body) ∙ record_room BEGIN_REQUEST id (begin_body_bytes role keep) room (omega arith)

-- so a check of this buffer says what it says of this record
pub begin_checked : (c : Server) (id role : ℕ) (keep : Bool) (room : ℕ) {fits : Bool} {n : ℕ} → fits ≡ record_fits 8 0 room
    → ((room long : ℕ) → fits ≡ not (ltb room long) → n ≡ open_refusal c id role room long)
    → n ≡ open_refusal c id role room (length (begin_bytes id role keep))
begin_checked c id role keep room f checked = checked room (length (begin_bytes id role keep)) (f ∙ begin_fits id role keep room)

-- ---- the rows
-- rows 9 and 1 come first
pub rows_refused : (c : Server) (id role room long : ℕ) (why : ServerRefusal) → refusal_number why ≡ step_refusal c → open_refusal c id role room long ≡ refusal_number why
unfolding open_refusal
rows_refused c id role room long why e =
    refused_first c why
    ((57 when (eqb id 0))
    ∷ (58 when is_found (find c.table id))
    ∷ (59 when not (ltb (free_slot_of c.table) SLOTS))
    ∷ (60 when not (is_role role))
    ∷ (6 when (ltb room long))
    ∷ []) e

-- past them the others decide
pub rows_own : (c : Server) (id role room long : ℕ) (fits : Bool) → Passed c → fits ≡ not (ltb room long)
    → own_rows c.table.ids c.table.occupied id role fits ≡ open_refusal c id role room long
unfolding open_refusal own_rows
rows_own c id role room long fits p e =
    by_test (ltb room long)
    (λ t. let short : fits ≡ false = e ∙ ap not t in simp (p.shape, p.is_open, short, t))
    (λ t. let enough : fits ≡ true = e ∙ ap not t in simp (p.shape, p.is_open, enough, t))

-- where no row holds there is room
room_left : (c : Server) (id role room long : ℕ) → 0 ≡ open_refusal c id role room long → ltb room long ≡ false
unfolding open_refusal
room_left c id role room long e =
    rows (in_shape c) c.«open» (eqb id 0) (is_found (find c.table id)) (ltb (free_slot_of c.table) SLOTS) (is_role role) (ltb room long) e
  where
    rows : (a b z f s r o : Bool)
        → ◌≡◌ {A = ℕ} 0 (if not a then 9 else if not b then 1 else if z then 57 else if f then 58 else if not s then 59 else if not r then 60 else if o then 6 else 0)
        → o ≡ false
    rows a b z f s r false e = refl
    rows false b z f s r true e = absurd (omega arith)
    rows true false z f s r true e = absurd (omega arith)
    rows true true true f s r true e = absurd (omega arith)
    rows true true false true s r true e = absurd (omega arith)
    rows true true false false false r true e = absurd (omega arith)
    rows true true false false true false true e = absurd (omega arith)
    rows true true false false true true true e = absurd (omega arith)

-- ---- the call
-- what the code made of it
pub open_wrote : (c : Server) (id role : ℕ) (keep : Bool) (l : List ℕ) {n free : ℕ} {l' : List ℕ} {t : Table} {known : Role} {r : Request}
    → 0 ≡ open_refusal c id role (length l) (length (begin_bytes id role keep))
    → ◌≡◌ {A = Placed} (record { next = n; buffer = l' }) (record_placed l 0 BEGIN_REQUEST id (begin_body_bytes role keep))
    → known ≡ role_of role → r ≡ opened id known keep → free ≡ free_slot_of c.table → t ≡ take_slot c.table free r
    → written_by (record { wrote = Ok n; server = record { table = t; frame = c.frame; «open» = c.«open» } }) l' ≡ open_request c id role keep l
unfolding open_request
open_wrote c id role keep l e w ek er ef et =
    let begin = begin_bytes id role keep in
    let n = open_refusal c id role (length l) (length begin) in
    let body = begin_length role keep in
    rw (et, ef, er, ek)
    (call_filled n c (with_taken c (free_slot_of c.table) (opened id (role_of role) keep)) begin l e
    (record_filled l BEGIN_REQUEST id (begin_body_bytes role keep) (omega arith) (room_left c id role (length l) (length begin) e) w))
