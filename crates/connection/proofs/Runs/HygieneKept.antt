-- Hygiene is kept by each single operation, from every memory in shape, also from one that no run reaches.
use Rattle.std.specs.Prelude.{◌≡◌, refl, ◌⊎◌, List, [], ◌∷◌, true, false, ℕ, ◌-◌, ◌≤◌, ◌<◌, length, drop, get_or, eqb}
use Rattle.std.proofs.Common.{ap, ap₂, sym, ◌∙◌, subst, inl, inr, arith, eq-eqb, eqb-true}
use Rattle.std.proofs.lemmas.List.{length-replicate}
use Rattle.std.proofs.lemmas.Bool.{eqb-false}
use Rattle.wire.specs.Test.{by_test}
use Rattle.wire.specs.Buffer.{zeros}
use Rattle.slot_word.specs.Word.{taken}
use Rattle.connection.specs.declared.request.Request.{Request}
use Rattle.connection.specs.declared.state.Conn.{Conn}
use Rattle.connection.specs.Sizes.{SLOTS, AREA, STORE, QUERY}
use Rattle.connection.specs.Shape.{in_shape}
use Rattle.connection.specs.Slots.{request_at, area_at, put_request, find, is_found}
use Rattle.connection.specs.Step.{started}
use Rattle.connection.specs.RequestCalls as Of
use Rattle.connection.specs.Calls as C
use Rattle.connection.specs.Arguments.{Argument, ForRead, ForSay, ForEnd, ForFinish}
use Rattle.connection.specs.Run.{Memory, Operation, StepOver, CallFor, CountActive, finished_by, called, step_of, memory_of, memory_after, start_of, PiecesOk}
use Rattle.connection.proofs.Laws.SlotsLaws.{put_sized, free_sized, put_occupied, area_length, put_area_length, find_at, found_true}
use Rattle.connection.proofs.Laws.ShapeLaws.{shaped, in_shape_lem}
use Rattle.connection.proofs.Laws.TableShape.{length_of, tidy_put}
use Rattle.connection.proofs.Laws.StateShape.{Arrays, fresh_arrays}
use Rattle.connection.proofs.Laws.StepSizes.{Sizes, sizes_stay, start_sizes}
use Rattle.connection.proofs.Laws.StepShape.{start_in_shape, start_arrays, step_in_shape, step_keeps_arrays}
use Rattle.connection.proofs.Runs.ReceiverLaws.{SameList, say_same, end_same}
use Rattle.connection.proofs.Runs.CallShape.{lengths_stay, aimed_put, with_request, without_request, closed_memory}
use Rattle.connection.proofs.Runs.CallEnds.{finish_in_shape}
use Rattle.connection.proofs.Runs.LinkingCalls.{slot_found}
use Rattle.connection.proofs.Runs.Hygiene.{CleanAreas}
use Rattle.connection.proofs.Runs.CleanSlots.{CleanSlots, clean_none, clean_free, clean_step}
use Rattle.connection.proofs.Runs.Freed.{Kept, Shut, Done, finish_done, finish_refused}

-- Sizes and arrays are those of the code's types, the state is in shape, free areas are zero, and each area is zero
-- beyond its length. Nothing is asked of how the memory came about.
pub record Orderly (m : Memory) : Type 0 where
  pub sizes : Sizes m.state m.store
  pub arrays : Arrays m.state.conn
  pub shape : in_shape m.state.conn ≡ true
  pub areas : CleanAreas m

slots_of_lem : (m : Memory) → CleanAreas m → CleanSlots m.state.conn.table m.store
slots_of_lem m c = record { free = c.free; beyond = c.beyond }

areas_of : (m : Memory) → CleanSlots m.state.conn.table m.store → CleanAreas m
areas_of m c = record { free = c.free; beyond = c.beyond }

-- ---- a step
orderly_step : (m : Memory) (piece : List ℕ) → PiecesOk (StepOver piece ∷ []) → Orderly m → Orderly (memory_of (step_of m piece))
orderly_step m piece p o =
    record {
      sizes = sizes_stay m.state m.store piece o.sizes;
      arrays = step_keeps_arrays m.state m.store piece o.arrays p.0;
      shape = step_in_shape m.state m.store piece o.arrays p.0 o.shape;
      areas = areas_of (memory_of (step_of m piece)) (clean_step m.state m.store piece o.sizes.table (slots_of_lem m o.areas));
    }

-- ---- a call that writes
orderly_put : (m : Memory) (i : ℕ) (r : Request) → i < SLOTS → SameList (request_at m.state.conn.table i) r → Orderly m → Orderly (with_request m i r)
unfolding request_at
orderly_put m i r low same o =
    let c = m.state.conn in
    let t = c.table in
    let s = shaped c o.shape in
    let a = put_sized t i r o.sizes.table in
    let short : r.length ≤ AREA = omega (arith, same.length, length_of t i, s.table.lengths i low) in
    let stay : (put_request t i r).lengths ≡ t.lengths = lengths_stay t i r same in
    let busy : (j : ℕ) → taken j (put_request t i r).occupied ≡ taken j t.occupied = λ j. ap (taken j) (put_occupied t i r) in
    record {
      sizes = record { table = a; header = o.sizes.header; body = o.sizes.body; gathered = o.sizes.gathered; full = o.sizes.full };
      arrays = record { table = a; header = o.arrays.header; bytes = o.arrays.bytes; body = o.arrays.body };
      shape = in_shape_lem (C.puts_request c i r)
          (record {
            table = tidy_put t i r same.id o.sizes.table s.table short;
            position = s.position;
            target = aimed_put t i r same c.frame.target c.frame.gathered c.frame.position.content s.target;
          });
      areas = record {
        free = λ j l f. o.areas.free j l (sym (busy j) ∙ f);
        beyond = λ j l f. subst (λ (ls : List ℕ). drop (get_or ls j 0) (area_at m.store j) ≡ zeros (AREA - get_or ls j 0)) (sym stay) (o.areas.beyond j l (sym (busy j) ∙ f));
      };
    }

-- a call that is not lent the store and is not refused has a slot
call_slot : (c : Conn) (id : ℕ) → C.call_refusal c id ≡ 0 → C.slot_of c id < SLOTS
unfolding C.call_refusal
call_slot c id e =
    by_test (is_found (find c.table id))
    (λ f. let w = found_true (find c.table id) f in subst (λ n. n < SLOTS) (sym (slot_found c id w.0 w.1)) (find_at c.table id w.0 w.1).low)
    (λ f.
    by_test (in_shape c)
    (λ i. by_test c.«open» (λ o. let z : ◌≡◌ {A = ℕ} 3 0 = simp (i, o, f) at e in absurd (omega arith)) (λ o. let z : ◌≡◌ {A = ℕ} 1 0 = simp (i, o) at e in absurd (omega arith)))
    (λ i. let z : ◌≡◌ {A = ℕ} 9 0 = simp i at e in absurd (omega arith)))

-- ---- finish
orderly_free : (m : Memory) (i : ℕ) → i < SLOTS → in_shape (C.released m.state.conn i) ≡ true → Orderly m → Orderly (without_request m i)
unfolding C.released
orderly_free m i low shape o =
    let a = free_sized m.state.conn.table i o.sizes.table in
    let n : length (zeros (length (area_at m.store i))) ≡ AREA = length-replicate (length (area_at m.store i)) 0 ∙ area_length m.store i o.sizes.full low in
    record {
      sizes = record {
        table = a;
        header = o.sizes.header;
        body = o.sizes.body;
        gathered = o.sizes.gathered;
        full = put_area_length m.store i (zeros (length (area_at m.store i))) o.sizes.full low n;
      };
      arrays = record { table = a; header = o.arrays.header; bytes = o.arrays.bytes; body = o.arrays.body };
      shape = shape;
      areas = areas_of (without_request m i) (clean_free m.state.conn.table m.store i o.sizes.full low (slots_of_lem m o.areas));
    }

orderly_closed : (m : Memory) → in_shape (closed_memory m).state.conn ≡ true → Orderly m → Orderly (closed_memory m)
orderly_closed m shape o =
    let a = fresh_arrays false in
    record {
      sizes = record { table = a.table; header = refl; body = refl; gathered = o.sizes.gathered; full = length-replicate (length m.store) 0 ∙ o.sizes.full };
      arrays = a;
      shape = shape;
      areas = areas_of (closed_memory m) (clean_none (length m.store) o.sizes.full);
    }

orderly_finish : (m : Memory) (id status : ℕ) (buffer : List ℕ) → Orderly m → Orderly (called m id (ForFinish status buffer)).memory
unfolding called
orderly_finish m id status buffer o =
    by_test (eqb w.refusal 0)
    (λ t. let d = finish_done c m.store id status buffer (eqb-true w.refusal 0 t) in done d d.way)
    (λ t. let k = finish_refused c m.store id status buffer (eqb-false w.refusal 0 t) in subst Orderly (sym (ap₂ left k.0 k.1)) o)
  where
    c : Conn
    c = m.state.conn

    w : C.Finished
    w = C.finish c m.store id status buffer

    left : Conn → List ℕ → Memory
    left x s = record { state = record { conn = x; gathered = m.state.gathered }; store = s }

    shape : in_shape w.conn ≡ true
    shape = finish_in_shape c m.store id status buffer o.sizes.table o.shape

    done : (d : Done c m.store id w) → Kept c m.store d.admitted.slot w ⊎ Shut m.store w → Orderly (finished_by m w).memory
    done d (inl k) =
        let i = d.admitted.slot in
        subst Orderly (sym (ap₂ left k.conn k.store_after_lem)) (orderly_free m i (find_at c.table id i d.admitted.found).low (subst (λ x. in_shape x ≡ true) k.conn shape) o)
    done d (inr k) = subst Orderly (sym (ap₂ left k.conn k.store_after_lem)) (orderly_closed m (subst (λ x. in_shape x ≡ true) k.conn shape) o)

orderly_call : (m : Memory) (id : ℕ) (a : Argument) → Orderly m → Orderly (called m id a).memory
unfolding called C.say C.end_stream
orderly_call m id (ForRead q) o = o
orderly_call m id (ForSay output bytes buffer) o =
    let i = C.slot_of m.state.conn id in
    let r = request_at m.state.conn.table i in
    by_test (eqb (C.call_refusal m.state.conn id) 0)
    (λ t. simp t (orderly_put m i (Of.say_in r output bytes buffer).request (call_slot m.state.conn id (eqb-true (C.call_refusal m.state.conn id) 0 t)) (say_same r output bytes buffer) o))
    (λ t. simp t o)
orderly_call m id (ForEnd output buffer) o =
    let i = C.slot_of m.state.conn id in
    let r = request_at m.state.conn.table i in
    by_test (eqb (C.call_refusal m.state.conn id) 0)
    (λ t. simp t (orderly_put m i (Of.end_in r output buffer).request (call_slot m.state.conn id (eqb-true (C.call_refusal m.state.conn id) 0 t)) (end_same r output buffer) o))
    (λ t. simp t o)
orderly_call m id (ForFinish status buffer) o = orderly_finish m id status buffer o

-- ---- every operation
-- Each operation keeps all of it: a step over any bytes, a call with any arguments, refused or not.
pub hygiene_kept : (m : Memory) (o : Operation) → PiecesOk (o ∷ []) → Orderly m → Orderly (memory_after m o)
unfolding memory_after
hygiene_kept m (StepOver piece) p o = orderly_step m piece p o
hygiene_kept m (CallFor id a) p o = orderly_call m id a o
hygiene_kept m CountActive p o = o

clean_start : (gathered store : List ℕ) → length store ≡ STORE → CleanSlots (started gathered store).state.conn.table (started gathered store).store
unfolding started
clean_start gathered store full = simp (eq-eqb (length store) STORE full) (clean_none (length store) full)

-- A start has it, whatever the store and the gathered bytes held before.
pub start_orderly : (gathered store : List ℕ) → length gathered ≡ QUERY → length store ≡ STORE → Orderly (start_of gathered store)
unfolding start_of
start_orderly gathered store size full =
    record {
      sizes = start_sizes gathered store size full;
      arrays = start_arrays gathered store;
      shape = start_in_shape gathered store;
      areas = areas_of (start_of gathered store) (clean_start gathered store full);
    }
