-- What finish writes reads back as what was owed.
use Rattle.connection.specs.Slots.{Slot}
use Rattle.std.specs.Prelude.{ℕ, ◌+◌, ◌<◌, refl, Bool, true, false, not, List, [], ◌∷◌, ◌++◌, length, take, drop, ltb, if◌then◌else◌}
use Rattle.std.proofs.Math.Path.{◌≡◌}
use Rattle.std.proofs.Common.{sym, ap, ◌∙◌, append-nil, arith, take_at, eqb-true}
use Rattle.std.proofs.lemmas.Bool.{eqb-false}
use Rattle.wire.specs.Test.{◌=?◌, by_test}
use Rattle.wire.specs.Buffer.{put_at}
use Rattle.record.specs.Names.{STDOUT, STDERR, END_REQUEST, REQUEST_COMPLETE}
use Rattle.record.specs.Body.{end_body_of, end_body_bytes}
use Rattle.record.specs.Split.{Record, Split, ◌then-split◌, all_rest, split_in, split}
use Rattle.record_writer.proofs.ReadBack.{record_of, record_read_back, end_record_read_back}
use Rattle.connection.specs.declared.request.Request.{Request}
use Rattle.connection.specs.declared.state.Conn.{Conn}
use Rattle.connection.specs.Sizes.{SLOTS, STORE}
use Rattle.connection.specs.Slots.{request_at, find, on_slot, is_found}
use Rattle.connection.specs.Shape.{in_shape}
use Rattle.connection.proofs.Laws.SlotsLaws.{Holds, find_at, found_true}
use Rattle.connection.specs.RequestCalls.{owes_out, owes_err, finish_bytes, writes, finish_in}
use Rattle.connection.specs.Calls.{lent_refusal, slot_of, finishes, finish}
use Rattle.call_finish.specs.Answer.{end_if}
use Rattle.call_finish.proofs.Laws.{second_owed, last_owed}

-- ---- the records that are owed
-- an empty record, if it is owed
abbrev pub record_if : Bool → ℕ → ℕ → List Record
record_if owed kind id = if owed then record_of kind id [] ∷ [] else []

-- The end of STDOUT if it is owed, the end of STDERR if it is owed, then END_REQUEST with the application's status
-- and 0.
abbrev pub owed_records : Request → ℕ → ℕ → List Record
owed_records r id s =
    record_if (owes_out r.state) STDOUT id ++ (record_if (owes_err r.state) STDERR id ++ (record_of END_REQUEST id (end_body_bytes s REQUEST_COMPLETE) ∷ []))

if_read_back : (owed : Bool) (kind id : ℕ) (rest : List ℕ) → id < 65536 → split (end_if owed kind id ++ rest) ≡ record_if owed kind id then-split split rest
if_read_back true kind id rest h = record_read_back kind id [] rest h (omega arith)
if_read_back false kind id rest h = refl

no_rest : split [] ≡ all_rest []
unfolding split split_in
no_rest = refl

pub owed_read_back : (r : Request) (s : ℕ) → r.id < 65536 → s < 4294967296 → split (finish_bytes r s) ≡ record { records = owed_records r r.id s; rest = [] }
unfolding finish_bytes
owed_read_back r s hi hs =
    let a = owes_out r.state in
    let b = owes_err r.state in
    let last : split (last_owed r s) ≡ record { records = record_of END_REQUEST r.id (end_body_bytes s REQUEST_COMPLETE) ∷ []; rest = [] } =
    ap split (sym (append-nil (last_owed r s)))
    ∙ (end_record_read_back r.id s REQUEST_COMPLETE [] hi hs).0
    ∙ ap (λ (t : Split). (record_of END_REQUEST r.id (end_body_bytes s REQUEST_COMPLETE) ∷ []) then-split t) no_rest in
    if_read_back a STDOUT r.id (second_owed r s ++ last_owed r s) hi
    ∙ ap (λ (t : Split). record_if a STDOUT r.id then-split t)
    (if_read_back b STDERR r.id (last_owed r s) hi ∙ ap (λ (t : Split). record_if b STDERR r.id then-split t) last)

-- ---- the call
-- the request that it names
abbrev pub request_of : Conn → ℕ → Request
request_of c id = request_at c.table (slot_of c id)

-- where no row holds, the id was found
found : (a b d f : Bool) → ◌≡◌ {A = ℕ} (if not a then 2 else if not b then 9 else if not d then 1 else if not f then 3 else 0) 0 → f ≡ true
found false b d f e = absurd (omega arith)
found true false d f e = absurd (omega arith)
found true true false f e = absurd (omega arith)
found true true true false e = absurd (omega arith)
found true true true true e = refl

named_id : (c : Conn) (store : List ℕ) (id : ℕ) → lent_refusal c store id ≡ 0 → (request_of c id).id ≡ id
unfolding lent_refusal request_at
named_id c store id e =
    let f = found (length store =? STORE) (in_shape c) c.«open» (is_found (find c.table id)) e in
    let s = found_true (find c.table id) f in
    let at : slot_of c id ≡ s.0 = ap (λ (x : Slot). on_slot x (λ i. i) SLOTS) s.1 in
    let h : Holds c.table id (slot_of c id) = rw at (find_at c.table id s.0 s.1) in
    h.has_id

module _ (c : Conn) (store : List ℕ) (id s : ℕ) (l : List ℕ) where
  abbrev bytes : List ℕ
  bytes = finish_bytes (request_of c id) s

  -- A call that is not refused: its request has that id, and what it owes stands at the buffer's start.
  pub record Did : Type 0 where
    pub has_id : (request_of c id).id ≡ id
    pub written : (finish c store id s l).written ≡ length bytes
    pub buffer : (finish c store id s l).buffer ≡ put_at l 0 bytes

  pub did : (finish c store id s l).refusal ≡ 0 → Did
  unfolding finish finishes finish_in writes
  did e =
      by_test (lent_refusal c store id =? 0)
      (λ t. let own = named_id c store id (eqb-true (lent_refusal c store id) 0 t) in
      by_test (ltb (length l) (length bytes))
      (λ u. let z : ◌≡◌ {A = ℕ} 6 0 = simp (t, u) at e in absurd (omega arith))
      (λ u. by_test (request_of c id).state.keep
      (λ k. record { has_id = own; written = simp (t, u, k); buffer = simp (t, u, k) })
      (λ k. record { has_id = own; written = simp (t, u, k); buffer = simp (t, u, k) })))
      (λ t. absurd (eqb-false (lent_refusal c store id) 0 t (simp t at e)))

  -- Finish reads back: the bytes written split into the records owed, of that id, and END_REQUEST's body says
  -- the application's status and 0.
  pub finish_read_back : (finish c store id s l).refusal ≡ 0 → id < 65536 → s < 4294967296
      → (split (take (finish c store id s l).written (finish c store id s l).buffer) ≡ record { records = owed_records (request_of c id) id s; rest = [] })
      × (end_body_of (end_body_bytes s REQUEST_COMPLETE) ≡ record { app_status = s; protocol_status = 0 })
  finish_read_back e hi hs =
      let d = did e in
      let r = request_of c id in
      let few : r.id < 65536 = omega (arith, d.has_id) in
      let front : take (finish c store id s l).written (finish c store id s l).buffer ≡ bytes =
      ap (λ (n : ℕ). take n (finish c store id s l).buffer) d.written
      ∙ ap (take (length bytes)) d.buffer
      ∙ take_at bytes (drop (0 + length bytes) l) (length bytes) refl in
      let records : split (take (finish c store id s l).written (finish c store id s l).buffer) ≡ record { records = owed_records r id s; rest = [] } =
      ap split front ∙ owed_read_back r s few hs ∙ ap (λ (i : ℕ). record { records = owed_records r i s; rest = [] }) d.has_id in
      (records, (end_record_read_back id s REQUEST_COMPLETE [] hi hs).1)
