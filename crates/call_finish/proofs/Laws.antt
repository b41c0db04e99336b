-- What holds of finish: what is owed as it is written, and each way the call goes.
use Rattle.std.specs.Prelude.{ℕ, ◌+◌, ◌≤◌, ◌<◌, ◌≡◌, Bool, if◌then◌else◌}
use Rattle.std.proofs.Math.Path.{sym, ap, ap₂}
use Rattle.std.proofs.Common.{◌∙◌, add-zero, lt-ltb, le-ltb}
use Rattle.std.proofs.Math.Bool.{true, false}
use mathlib.Core.List.{List, [], ◌++◌, append_assoc}
use native.Mathlib.Omega.{arith}
use Rattle.std.proofs.Math.ListN.{length, length-append}
use Rattle.wire.specs.Buffer.{put_at, zeros}
use Rattle.wire.proofs.BufferLaws.{put_put, put_none}
use Rattle.record.specs.Names.{STDOUT, STDERR, END_REQUEST, REQUEST_COMPLETE}
use Rattle.record.specs.Body.{end_body_bytes}
use Rattle.record.proofs.BodyLaws.{end_length}
use Rattle.record_writer.specs.Written.{padding_of, record_length, record_bytes, Placed, record_fits, record_placed}
use Rattle.record_writer.proofs.WrittenLaws.{record_length_lem, fits_record}
use Rattle.connection.specs.declared.request.Request.{Request}
use Rattle.connection.specs.declared.state.Conn.{Conn}
use Rattle.connection.specs.declared.answer.Refusal.{Refusal}
use Rattle.connection.specs.Codes.{refusal_number}
use Rattle.connection.specs.Slots.{request_at, area_at, put_area}
use Rattle.connection.specs.Step.{closed_conn}
use Rattle.connection.specs.RequestCalls.{owes_out, owes_err, finish_bytes, writes, finish_in}
use Rattle.connection.specs.Calls.{lent_refusal, released, finishes, finish}
use Rattle.codes.proofs.Laws.{refusal_some}
use Rattle.call_list.proofs.Laws.{Through}
use Rattle.call_finish.specs.declared.FinishResult.{FinishResult}
use Rattle.call_finish.specs.Answer.{owed_length, end_if, finished_by}

-- ---- one record
-- a record that there is room for is put at its place
pub record_put : (l : List ℕ) (at kind id : ℕ) (x : List ℕ) {l' : List ℕ} {n : ℕ} → length x ≤ 65535 → at + length (record_bytes kind id x) ≤ length l
    → ◌≡◌ {A = Placed} (record { next = n; buffer = l' }) (record_placed l at kind id x)
    → (n ≡ at + length (record_bytes kind id x)) × (l' ≡ put_at l at (record_bytes kind id x))
unfolding record_placed
record_put l at kind id x {l'} {n} short room w =
    let fits : record_fits (length x) at (length l) ≡ true = fits_record (length x) at (length l) short (omega (arith, record_length_lem kind id x)) in
    let v : ◌≡◌ {A = Placed} (record { next = n; buffer = l' }) (record { next = at + length (record_bytes kind id x); buffer = put_at l at (record_bytes kind id x) }) = simp fits at w in
    (ap (λ (p : Placed). p.next) v, ap (λ (p : Placed). p.buffer) v)

-- an empty one, if it is owed
pub end_put : (l : List ℕ) (owed : Bool) (at kind id : ℕ) {l' : List ℕ} {n : ℕ} → owed ≡ true → at + length (end_if owed kind id) ≤ length l
    → ◌≡◌ {A = Placed} (record { next = n; buffer = l' }) (record_placed l at kind id [])
    → (n ≡ at + length (end_if owed kind id)) × (l' ≡ put_at l at (end_if owed kind id))
end_put l true at kind id e room w = record_put l at kind id [] (omega arith) room w
end_put l false at kind id e room w = let z : ◌≡◌ {A = ℕ} 0 1 = cc in absurd (omega arith)

pub end_unput : (l : List ℕ) (owed : Bool) (at kind id : ℕ) → owed ≡ false → (at ≡ at + length (end_if owed kind id)) × (l ≡ put_at l at (end_if owed kind id))
end_unput l true at kind id e = let z : ◌≡◌ {A = ℕ} 0 1 = cc in absurd (omega arith)
end_unput l false at kind id e = (sym (add-zero at), sym (put_none l at))

-- an empty one takes eight bytes, END_REQUEST sixteen
empty_takes : (kind id : ℕ) → length (record_bytes kind id []) ≡ 8
unfolding record_length padding_of
empty_takes kind id = record_length_lem kind id []

last_takes : (id s : ℕ) → length (record_bytes END_REQUEST id (end_body_bytes s REQUEST_COMPLETE)) ≡ 16
unfolding record_length padding_of
last_takes id s = record_length_lem END_REQUEST id (end_body_bytes s REQUEST_COMPLETE) ∙ ap record_length (end_length s REQUEST_COMPLETE)

-- ---- what is owed
module _ (r : Request) (s : ℕ) where
  -- its three parts
  abbrev pub first_owed : List ℕ
  first_owed = end_if (owes_out r.state) STDOUT r.id

  abbrev pub second_owed : List ℕ
  second_owed = end_if (owes_err r.state) STDERR r.id

  abbrev pub last_owed : List ℕ
  last_owed = record_bytes END_REQUEST r.id (end_body_bytes s REQUEST_COMPLETE)

  pub parts_length : length (finish_bytes r s) ≡ length first_owed + length second_owed + length last_owed
  unfolding finish_bytes
  parts_length =
      let xyz : length (finish_bytes r s) ≡ length first_owed + length (second_owed ++ last_owed) = length-append first_owed (second_owed ++ last_owed) in
      let yz : length (second_owed ++ last_owed) ≡ length second_owed + length last_owed = length-append second_owed last_owed in
      omega arith

  -- The code's count of them.
  pub owed_length_lem : length (finish_bytes r s) ≡ owed_length r.state
  unfolding owed_length
  owed_length_lem = parts_length ∙ counted (owes_out r.state) (owes_err r.state)
    where
      counted : (a b : Bool) → length (end_if a STDOUT r.id) + length (end_if b STDERR r.id) + length last_owed
          ≡ (if a then (if b then 32 else 24) else (if b then 24 else 16))
      counted true true = omega (arith, empty_takes STDOUT r.id, empty_takes STDERR r.id, last_takes r.id s)
      counted true false = omega (arith, empty_takes STDOUT r.id, last_takes r.id s)
      counted false true = omega (arith, empty_takes STDERR r.id, last_takes r.id s)
      counted false false = omega (arith, last_takes r.id s)

  -- the parts, put one after the other
  owed_put : (l : List ℕ) {l1 l2 l3 : List ℕ} {a b e : ℕ} → length (finish_bytes r s) ≤ length l
      → a ≡ 0 + length first_owed → l1 ≡ put_at l 0 first_owed
      → b ≡ a + length second_owed → l2 ≡ put_at l1 a second_owed
      → e ≡ b + length last_owed → l3 ≡ put_at l2 b last_owed
      → (e ≡ length (finish_bytes r s)) × (l3 ≡ put_at l 0 (finish_bytes r s))
  unfolding finish_bytes
  owed_put l {l1} {l2} {l3} {a} {b} {e} h ea e1 eb e2 ee e3 =
      let all = parts_length in
      let xy : length (first_owed ++ second_owed) ≡ length first_owed + length second_owed = length-append first_owed second_owed in
      let two : l2 ≡ put_at l 0 (first_owed ++ second_owed) = e2 ∙ ap (λ (u : List ℕ). put_at u a second_owed) e1 ∙ put_put l 0 a first_owed second_owed ea (omega arith) in
      let three : l3 ≡ put_at l 0 (first_owed ++ second_owed ++ last_owed) =
      e3 ∙ ap (λ (u : List ℕ). put_at u b last_owed) two ∙ put_put l 0 b (first_owed ++ second_owed) last_owed (omega arith) (omega arith) in
      (omega arith, three ∙ ap (put_at l 0) (append_assoc first_owed second_owed last_owed))

  -- room for each of them
  pub first_room : {x : Bool} (n : ℕ) → x ≡ owes_out r.state → length (finish_bytes r s) ≤ n → 0 + length (end_if x STDOUT r.id) ≤ n
  first_room n ex h = rw ex (omega (arith, parts_length))

  pub second_room : {x y : Bool} {a : ℕ} (n : ℕ) → x ≡ owes_out r.state → y ≡ owes_err r.state → a ≡ 0 + length (end_if x STDOUT r.id)
      → length (finish_bytes r s) ≤ n → a + length (end_if y STDERR r.id) ≤ n
  second_room n ex ey ea h = rw ey (omega (arith, parts_length, ap (λ (z : Bool). length (end_if z STDOUT r.id)) ex))

  -- all of them, as the code writes them
  pub owed_written : (l : List ℕ) {x y : Bool} {body l1 l2 l3 : List ℕ} {a b e : ℕ} → length (finish_bytes r s) ≤ length l
      → x ≡ owes_out r.state → (a ≡ 0 + length (end_if x STDOUT r.id)) × (l1 ≡ put_at l 0 (end_if x STDOUT r.id))
      → y ≡ owes_err r.state → (b ≡ a + length (end_if y STDERR r.id)) × (l2 ≡ put_at l1 a (end_if y STDERR r.id))
      → length l2 ≡ length l → body ≡ end_body_bytes s REQUEST_COMPLETE
      → ◌≡◌ {A = Placed} (record { next = e; buffer = l3 }) (record_placed l2 b END_REQUEST r.id body)
      → (e ≡ length (finish_bytes r s)) × (l3 ≡ put_at l 0 (finish_bytes r s))
  owed_written l {x} {y} {body} {l1} {l2} {l3} {a} {b} {e} h ex first ey second len eb w =
      let one : (a ≡ 0 + length first_owed) × (l1 ≡ put_at l 0 first_owed) = rw ex at first in
      let two : (b ≡ a + length second_owed) × (l2 ≡ put_at l1 a second_owed) = rw ey at second in
      let short : length (end_body_bytes s REQUEST_COMPLETE) ≤ 65535 = omega (arith, end_length s REQUEST_COMPLETE) in
      let last = record_put l2 b END_REQUEST r.id (end_body_bytes s REQUEST_COMPLETE) {l' = l3} {n = e} short (omega (arith, parts_length, one, two)) (rw eb at w) in
      owed_put l h one.0 one.1 two.0 two.1 last.0 last.1

  -- row 6, by the code's count
  in_short : (l : List ℕ) → length l < owed_length r.state → finish_in r s l ≡ record { refusal = 6; written = 0; request = r; buffer = l }
  unfolding finish_in writes
  in_short l h = simp (lt-ltb (length l) (length (finish_bytes r s)) (omega (arith, owed_length_lem)))

  in_room : (l : List ℕ) → owed_length r.state ≤ length l
      → finish_in r s l ≡ record { refusal = 0; written = length (finish_bytes r s); request = r; buffer = put_at l 0 (finish_bytes r s) }
  unfolding finish_in writes
  in_room l h = simp (le-ltb (length l) (length (finish_bytes r s)) (omega (arith, owed_length_lem)))

-- ---- the call
-- refused by one of the first rows
pub finish_refused : (c : Conn) (store : List ℕ) (id s : ℕ) (l : List ℕ) (why : Refusal) → lent_refusal c store id ≡ refusal_number why
    → finished_by (record { result = FinishResult.Refused why; conn = c }) store l ≡ finish c store id s l
unfolding finish
finish_refused c store id s l why e = simp (e, refusal_some why)

-- let through to its request
module _ {c : Conn} {store : List ℕ} {id i : ℕ} (s : ℕ) (l : List ℕ) (way : Through c store id i) {r : Request} (er : r ≡ request_at c.table i) where
  named : finish c store id s l ≡ finishes c store i r.state.keep (finish_in r s l)
  unfolding finish
  named = simp (way.none, way.slot) (ap (λ (x : Request). finishes c store i x.state.keep (finish_in x s l)) (sym er))

  -- without room it is refused
  pub finish_short : length l < owed_length r.state → finished_by (record { result = FinishResult.Refused Refusal.NoRoom; conn = c }) store l ≡ finish c store id s l
  unfolding finishes
  finish_short h = sym (named ∙ ap (finishes c store i r.state.keep) (in_short r s l h))

  -- with KEEP_CONN the slot and its area are given back
  pub finish_open : {n : ℕ} {l' store' : List ℕ} {c' : Conn} → owed_length r.state ≤ length l → r.state.keep ≡ true
      → (n ≡ length (finish_bytes r s)) × (l' ≡ put_at l 0 (finish_bytes r s)) → store' ≡ put_area store i (zeros (length (area_at store i))) → c' ≡ released c i
      → finished_by (record { result = FinishResult.Open n; conn = c' }) store' l' ≡ finish c store id s l
  unfolding finishes
  finish_open h keep w es ec = rw (w.0, w.1, es, ec) (sym (named ∙ ap₂ (finishes c store i) keep (in_room r s l h)))

  -- without it the connection closes
  pub finish_closed : {n : ℕ} {l' store' : List ℕ} {c' : Conn} → owed_length r.state ≤ length l → r.state.keep ≡ false
      → (n ≡ length (finish_bytes r s)) × (l' ≡ put_at l 0 (finish_bytes r s)) → store' ≡ zeros (length store) → c' ≡ closed_conn
      → finished_by (record { result = FinishResult.Closed n; conn = c' }) store' l' ≡ finish c store id s l
  unfolding finishes
  finish_closed h keep w es ec = rw (w.0, w.1, es, ec) (sym (named ∙ ap₂ (finishes c store i) keep (in_room r s l h)))
