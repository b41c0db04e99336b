-- What the proofs of this crate share.
use Rattle.std.specs.Prelude.{ℕ, suc, ◌+◌, ◌-◌, ◌^◌, ◌≤◌, ◌<◌, ◌≡◌, List, map, length, if◌then◌else◌, Some, None}
use Rattle.std.proofs.Common.{sym, ◌∙◌, arith}
use Rattle.std.proofs.lemmas.List.{length-map}
use Rattle.std.proofs.Math.ListN.{get_or-eq_default}
use Rattle.std.proofs.Math.Seq.{set_out}
use Rattle.slot_word.proofs.WordLaws.{taken_out, mark_out}
use Rattle.connection.specs.declared.request.Request.{Request}
use Rattle.connection.specs.declared.state.Table.{Table}
use Rattle.connection.specs.Sizes.{SLOTS}
use Rattle.connection.specs.Slots.{put_request, request_at, no_request, no_standing, standing_of, holds_id, find_from}
use Rattle.connection.proofs.Laws.SlotsLaws.{Sized}

-- there is no slot to put a request into after the last one
pub put_out : (t : Table) (i : ℕ) (r : Request) → Sized t → SLOTS ≤ i → t ≡ put_request t i r
unfolding put_request
put_out t i r s h =
    let m = r.state in
    sym
    (rw (
      set_out t.ids i r.id (omega arith),
      set_out t.lengths i r.length (omega arith),
      set_out t.standings i (standing_of m) (omega arith),
      mark_out i m.keep t.keep h,
      mark_out i m.out_ended t.out_ended h,
      mark_out i m.err_used t.err_used h,
      mark_out i m.err_ended t.err_ended h,
      set_out t.stdin_shown i m.shown.stdin (omega arith),
      set_out t.data_shown i m.shown.«data» (omega arith),
    ))

-- The words of a table have a bit for each slot, and no more.
pub record Narrow (t : Table) : Type 0 where
  pub keep : t.keep < 2 ^ SLOTS
  pub out_ended : t.out_ended < 2 ^ SLOTS
  pub err_used : t.err_used < 2 ^ SLOTS
  pub err_ended : t.err_ended < 2 ^ SLOTS

-- so there is no request to read after the last slot
pub request_out : (t : Table) (i : ℕ) → Sized t → Narrow t → SLOTS ≤ i → no_request ≡ request_at t i
unfolding request_at
request_out t i s n h =
    sym
    (rw (
      get_or-eq_default t.ids 0 {n = i} (omega arith),
      get_or-eq_default t.lengths 0 {n = i} (omega arith),
      get_or-eq_default t.standings no_standing {n = i} (omega arith),
      taken_out SLOTS i t.keep n.keep h,
      taken_out SLOTS i t.out_ended n.out_ended h,
      taken_out SLOTS i t.err_used n.err_used h,
      taken_out SLOTS i t.err_ended n.err_ended h,
      get_or-eq_default t.stdin_shown 0 {n = i} (omega arith),
      get_or-eq_default t.data_shown 0 {n = i} (omega arith),
    ))

-- the length of an array of structs
pub mapped_length {ℓ κ} : {A : Type ℓ} {B : Type κ} (f : A → B) (l : List A) (n : ℕ) → length (map f l) ≡ n → length l ≡ n
mapped_length f l n e = sym (length-map l f) ∙ e

-- a turn of the search for an id, and its end
pub find_turn : (ids : List ℕ) (occupied id i : ℕ) → i < SLOTS
    → find_from (SLOTS - i) ids occupied id i ≡ (if holds_id ids occupied id i then Some i else find_from (SLOTS - (i + 1)) ids occupied id (i + 1))
unfolding find_from
find_turn ids occupied id i h = let n : SLOTS - i ≡ suc (SLOTS - (i + 1)) = omega arith in rw n

pub find_end : (ids : List ℕ) (occupied id i : ℕ) → SLOTS ≤ i → find_from (SLOTS - i) ids occupied id i ≡ None
unfolding find_from
find_end ids occupied id i h = let n : SLOTS - i ≡ 0 = omega arith in rw n
