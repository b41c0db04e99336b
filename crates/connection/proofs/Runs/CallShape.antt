-- What calls keep of a memory: sizes, arrays and shape.
use Rattle.std.specs.Prelude.{◌≡◌, refl, true, false, ℕ, ◌≤◌, ◌<◌, length, eqb}
use Rattle.std.proofs.Common.{ap, sym, ◌∙◌, arith, eqb-true}
use Rattle.std.proofs.lemmas.List.{length-replicate}
use Rattle.std.proofs.Math.Seq.{set-get_or}
use Rattle.std.proofs.lemmas.Bool.{eqb-false}
use Rattle.wire.specs.Test.{by_test}
use Rattle.wire.specs.Buffer.{zeros}
use Rattle.slot_word.specs.Word.{taken}
use Rattle.connection.specs.declared.request.Request.{Request}
use Rattle.connection.specs.declared.state.Table.{Table}
use Rattle.connection.specs.declared.state.Target.{Target as Aim}
use Rattle.connection.specs.Sizes.{SLOTS, AREA}
use Rattle.connection.specs.Slots.{request_at, area_at, put_request, put_area, free_slot}
use Rattle.connection.specs.Step.{closed_conn}
use Rattle.connection.specs.Calls.{puts_request, redirected, released}
use Rattle.connection.proofs.Laws.SlotsLaws.{Holds, put_sized, find_put, free_sized, other_of_free, taken_of_free, taken_of_free_other, area_length, put_area_length, find_nowhere, nowhere_find}
use Rattle.connection.specs.Fits.{InUse, Grows, Aimed}
use Rattle.connection.proofs.Laws.ShapeLaws.{shaped, in_shape_lem, closed_in_shape}
use Rattle.connection.proofs.Laws.TableShape.{length_of, tidy_put, use_put, tidy_free}
use Rattle.connection.proofs.Laws.StateShape.{fresh_arrays}
use Rattle.connection.proofs.Runs.ReceiverLaws.{SameList}
use Rattle.connection.specs.Run.{Memory}
use Rattle.connection.proofs.Runs.LinkingStep.{Steady}

-- ---- a request put back with its id and its length
module _ (t : Table) (i : ℕ) (r : Request) (same : SameList (request_at t i) r) where
  -- No length changes.
  pub lengths_stay : (put_request t i r).lengths ≡ t.lengths
  unfolding put_request request_at
  lengths_stay = rw (same.length, set-get_or t.lengths i 0)

  -- What the content left is for stays.
  pub aimed_put : (target : Aim) (gathered left : ℕ) → Aimed target t gathered left → Aimed target (put_request t i r) gathered left
  aimed_put Aim.Skip gathered left a = tt
  aimed_put (Aim.Begin id) gathered left a = record { eight = a.eight; some = a.some; inactive = find_put t i r id same.id ∙ a.inactive }
  aimed_put Aim.Query gathered left a = a
  aimed_put (Aim.Params j) gathered left a = record { slot = use_put t i j r a.slot; room = rw lengths_stay a.room }
  aimed_put (Aim.Stdin j) gathered left a = use_put t i j r a
  aimed_put (Aim.Data j) gathered left a = use_put t i j r a

-- a memory whose request in slot i is put back
abbrev pub with_request : Memory → ℕ → Request → Memory
with_request m i r = record { state = record { conn = puts_request m.state.conn i r; gathered = m.state.gathered }; store = m.store }

-- It stays steady.
pub steady_put : (m : Memory) (i : ℕ) (r : Request) → i < SLOTS → SameList (request_at m.state.conn.table i) r → Steady m → Steady (with_request m i r)
steady_put m i r low same z =
    let c = m.state.conn in
    let t = c.table in
    let s = shaped c z.shape in
    let a = put_sized t i r z.sizes.table in
    let short : r.length ≤ AREA = omega (arith, same.length, length_of t i, s.table.lengths i low) in
    record {
      sizes = record { table = a; header = z.sizes.header; body = z.sizes.body; gathered = z.sizes.gathered; full = z.sizes.full };
      arrays = record { table = a; header = z.arrays.header; bytes = z.arrays.bytes; body = z.arrays.body };
      shape = in_shape_lem (puts_request c i r)
          (record {
            table = tidy_put t i r same.id z.sizes.table s.table short;
            position = s.position;
            target = aimed_put t i r same c.frame.target c.frame.gathered c.frame.position.content s.target;
          });
      header = z.header;
    }

-- ---- a slot freed
-- what a table with a slot freed holds, it held, and in another slot
pub record HeldElsewhere (t : Table) (i id j : ℕ) : Type 0 where
  pub other : j ≡ i → ⊥
  pub held : Holds t id j

-- What it holds.
pub free_holds : (t : Table) (i id j : ℕ) → Holds (free_slot t i) id j → HeldElsewhere t i id j
unfolding request_at
free_holds t i id j h = by_test (eqb j i) (λ e. absurd (freed (eqb-true j i e))) (λ e. elsewhere (eqb-false j i e))
  where
    freed : j ≡ i → ⊥
    freed e =
        let low : i < SLOTS = rw e at h.low in
        let is : taken i (free_slot t i).occupied ≡ true = rw e at h.slot_taken in
        let y : ◌≡◌ {A = ℕ} 0 1 = cc (taken_of_free t i low) in
        omega arith

    elsewhere : (j ≡ i → ⊥) → HeldElsewhere t i id j
    elsewhere ne =
        record {
          other = ne;
          held = record {
            low = h.low;
            slot_taken = sym (taken_of_free_other t i j ne) ∙ h.slot_taken;
            has_id = ap (λ (x : Request). x.id) (sym (other_of_free t i j ne)) ∙ h.has_id;
          };
        }

use_free : (t : Table) (i j : ℕ) → (j ≡ i → ⊥) → InUse t j → InUse (free_slot t i) j
use_free t i j ne u = record { low = u.low; slot_taken = taken_of_free_other t i j ne ∙ u.slot_taken }

grows_free : (t : Table) (i j left : ℕ) → (j ≡ i → ⊥) → Grows t j left → Grows (free_slot t i) j left
grows_free t i j left ne g =
    record { slot = use_free t i j ne g.slot; room = omega (arith, length_of t j, length_of (free_slot t i) j, ap (λ (x : Request). x.length) (other_of_free t i j ne), g.room) }

-- What the content left is for, with slot i given back.
pub aimed_free : (t : Table) (i : ℕ) (target : Aim) (gathered left : ℕ) → Aimed target t gathered left → Aimed (redirected i target) (free_slot t i) gathered left
aimed_free t i Aim.Skip gathered left a = tt
aimed_free t i (Aim.Begin id) gathered left a =
    record {
      eight = a.eight;
      some = a.some;
      inactive = nowhere_find (free_slot t i) id (λ j h. find_nowhere t id a.inactive j (free_holds t i id j h).held);
    }
aimed_free t i Aim.Query gathered left a = a
aimed_free t i (Aim.Params j) gathered left a =
    by_test (eqb j i) (λ e. simp e tt) (λ e. simp e (grows_free t i j left (eqb-false j i e) a))
aimed_free t i (Aim.Stdin j) gathered left a = by_test (eqb j i) (λ e. simp e tt) (λ e. simp e (use_free t i j (eqb-false j i e) a))
aimed_free t i (Aim.Data j) gathered left a = by_test (eqb j i) (λ e. simp e tt) (λ e. simp e (use_free t i j (eqb-false j i e) a))

-- a memory whose slot i is given back
abbrev pub without_request : Memory → ℕ → Memory
without_request m i =
    record {
      state = record { conn = released m.state.conn i; gathered = m.state.gathered };
      store = put_area m.store i (zeros (length (area_at m.store i)));
    }

-- It stays steady.
pub steady_free : (m : Memory) (i : ℕ) → i < SLOTS → Steady m → Steady (without_request m i)
unfolding released
steady_free m i low z =
    let c = m.state.conn in
    let t = c.table in
    let s = shaped c z.shape in
    let a = free_sized t i z.sizes.table in
    let n : length (zeros (length (area_at m.store i))) ≡ AREA = length-replicate (length (area_at m.store i)) 0 ∙ area_length m.store i z.sizes.full low in
    record {
      sizes = record {
        table = a;
        header = z.sizes.header;
        body = z.sizes.body;
        gathered = z.sizes.gathered;
        full = put_area_length m.store i (zeros (length (area_at m.store i))) z.sizes.full low n;
      };
      arrays = record { table = a; header = z.arrays.header; bytes = z.arrays.bytes; body = z.arrays.body };
      shape = in_shape_lem (released c i)
          (record {
            table = tidy_free t i z.sizes.table s.table;
            position = s.position;
            target = aimed_free t i c.frame.target c.frame.gathered c.frame.position.content s.target;
          });
      header = z.header;
    }

-- ---- a close
-- a memory that is closed
abbrev pub closed_memory : Memory → Memory
closed_memory m = record { state = record { conn = closed_conn; gathered = m.state.gathered }; store = zeros (length m.store) }

-- It stays steady.
pub steady_closed : (m : Memory) → Steady m → Steady (closed_memory m)
steady_closed m z =
    let a = fresh_arrays false in
    record {
      sizes = record {
        table = a.table;
        header = refl;
        body = refl;
        gathered = z.sizes.gathered;
        full = length-replicate (length m.store) 0 ∙ z.sizes.full;
      };
      arrays = a;
      shape = closed_in_shape;
      header = λ w. refl;
    }
