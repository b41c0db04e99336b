-- A step over a piece is the machine's items of the bytes that it used.
use Rattle.std.specs.Prelude.{◌≡◌, refl, List, [], ◌∷◌, ◌++◌, map, true, false, ℕ, suc}
use Rattle.std.proofs.Common.{ap, ap₂, sym, ◌∙◌, subst, arith}
use Rattle.wire.specs.Test.{by_test}
use Rattle.machine.specs.Timeline.{ByteItem, byte_items}
use Rattle.machine.specs.Machine.{Connection, Open, Closed, on_item, state_after, observations, as_list}
use Rattle.connection.specs.Shape.{in_shape}
use Rattle.connection.specs.Step.{Stepped, step_refusal}
use Rattle.connection.specs.Bytewise.{Note, notes, Run, single, by_byte}
use Rattle.wire.proofs.Bytes.{AllBytes, take_bytes}
use Rattle.connection.proofs.Laws.StateShape.{Arrays}
use Rattle.connection.proofs.Laws.StepShape.{step_in_shape, step_keeps_arrays}
use Rattle.connection.proofs.Laws.Progress.{admitted_fits, step_refused}
use Rattle.connection.proofs.Laws.StepSizes.{Sizes, sizes_stay}
use Rattle.connection.proofs.Laws.Cutting.{step_by_byte}
use Rattle.connection.specs.Runs.Receiver.{receiver}
use Rattle.connection.proofs.Runs.Loading.{loaded_slots, loaded_reading, loaded_when, loaded}
use Rattle.connection.specs.Run.{Memory, Operation, StepOver, Heard, step_of, memory_of, used_of, memory_after, seen_in, items_of}
use Rattle.connection.proofs.Runs.Telling.{told_all, told_append}
use Rattle.connection.proofs.Runs.Linking.{HeaderUsed}
use Rattle.connection.proofs.Runs.LinkingByte.{byte_linked}

-- the machine's connection of a memory
abbrev pub loaded_of : Memory → Connection receiver
loaded_of m = loaded m.state m.store

-- where it is open
pub open_loaded : (m : Memory) → m.state.conn.«open» ≡ true
    → loaded_of m ≡ Open (loaded_slots m.state.conn.table m.store) (loaded_reading m.state.conn.frame m.state.gathered)
unfolding loaded_when
open_loaded m e = rw e

-- where it is closed
pub closed_loaded : (m : Memory) → m.state.conn.«open» ≡ false → loaded_of m ≡ Closed
unfolding loaded_when
closed_loaded m e = rw e

-- What every memory of a run fulfils: the arrays and the store have their sizes, the state is in shape, and no header
-- bytes are held within a record.
pub record Steady (m : Memory) : Type 0 where
  pub sizes : Sizes m.state m.store
  pub arrays : Arrays m.state.conn
  pub shape : in_shape m.state.conn ≡ true
  pub header : HeaderUsed m.state.conn.frame.position

-- ---- one byte
-- A step over a byte, also where the connection is closed.
record ByteStep (m : Memory) (b : ℕ) : Type 0 where
  state : loaded_of (memory_of (step_of m (b ∷ []))) ≡ (on_item receiver (loaded_of m) (ByteItem b)).0
  tells : map Heard (notes (step_of m (b ∷ [])).event (b ∷ [])) ≡ told_all (as_list receiver (on_item receiver (loaded_of m) (ByteItem b)).1)
  header : HeaderUsed (step_of m (b ∷ [])).state.conn.frame.position

byte_closed : (m : Memory) (b : ℕ) → m.state.conn.«open» ≡ false → Steady m → ByteStep m b
unfolding on_item told_all as_list
byte_closed m b e z =
    let no_step : step_refusal m.state.conn m.store ≡ 0 → ⊥ = λ a. let y : ◌≡◌ {A = ℕ} 0 1 = cc ((admitted_fits m.state.conn m.store a).is_open, e) in omega arith in
    let r = step_refused m.state m.store (b ∷ []) no_step in
    let c = closed_loaded m e in
    record {
      state = ap (λ (s : Stepped). loaded_of (memory_of s)) r ∙ c ∙ sym (ap (λ w. (on_item receiver w (ByteItem b)).0) c);
      tells = ap (λ (s : Stepped). map Heard (notes s.event (b ∷ []))) r ∙ sym (ap (λ w. told_all (as_list receiver (on_item receiver w (ByteItem b)).1)) c);
      header = subst (λ (s : Stepped). HeaderUsed s.state.conn.frame.position) (sym r) z.header;
    }

byte_open : (m : Memory) (b : ℕ) → m.state.conn.«open» ≡ true → Steady m → ByteStep m b
byte_open m b e z =
    let k = byte_linked m.state m.store b z.sizes (record { size = z.sizes.full; shape = z.shape; is_open = e }) z.header in
    record {
      state = ap (λ (s : Stepped). loaded_of (memory_of s)) k.is ∙ k.links.state;
      tells = ap (λ (s : Stepped). map Heard (notes s.event (b ∷ []))) k.is ∙ k.links.tells;
      header = subst (λ (s : Stepped). HeaderUsed s.state.conn.frame.position) (sym k.is) k.links.header;
    }

byte_step : (m : Memory) (b : ℕ) → Steady m → ByteStep m b
byte_step m b z = by_test m.state.conn.«open» (λ e. byte_open m b e z) (λ e. byte_closed m b e z)

steady_byte : (m : Memory) (b : ℕ) → Steady m → AllBytes (b ∷ []) → Steady (memory_of (step_of m (b ∷ [])))
steady_byte m b z all =
    record {
      sizes = sizes_stay m.state m.store (b ∷ []) z.sizes;
      arrays = step_keeps_arrays m.state m.store (b ∷ []) z.arrays all;
      shape = step_in_shape m.state m.store (b ∷ []) z.arrays all z.shape;
      header = (byte_step m b z).header;
    }

-- ---- bytes one by one
-- what bytes come to
abbrev ran_of : Memory → List ℕ → Run
ran_of m x = by_byte m.state m.store x

-- the memory of a run of bytes
abbrev run_memory : Run → Memory
run_memory r = record { state = r.state; store = r.store }

-- They come to their items on the machine, and keep the memory steady.
record Bytes (m : Memory) (x : List ℕ) : Type 0 where
  state : loaded_of (run_memory (ran_of m x)) ≡ state_after receiver (loaded_of m) (byte_items x)
  tells : map Heard (ran_of m x).notes ≡ told_all (observations receiver (loaded_of m) (byte_items x))
  steady : Steady (run_memory (ran_of m x))

-- what is heard of two lists
pub map_append : (x y : List Note) → map Heard (x ++ y) ≡ map Heard x ++ map Heard y
map_append [] y = refl
map_append (a ∷ x) y = ap (λ l. Heard a ∷ l) (map_append x y)

bytes_linked : (x : List ℕ) (m : Memory) → Steady m → AllBytes x → Bytes m x
unfolding by_byte byte_items state_after observations told_all
bytes_linked [] m z all = record { state = refl; tells = refl; steady = z }
bytes_linked (b ∷ x) m z all =
    let k = byte_step m b z in
    let m' = memory_of (step_of m (b ∷ [])) in
    let i = bytes_linked x m' (steady_byte m b z (take_bytes 1 (b ∷ x) all)) (λ j. all (suc j)) in
    let s = (on_item receiver (loaded_of m) (ByteItem b)).0 in
    let o = as_list receiver (on_item receiver (loaded_of m) (ByteItem b)).1 in
    record {
      state = i.state ∙ ap (λ w. state_after receiver w (byte_items x)) k.state;
      tells =
          map_append (notes (step_of m (b ∷ [])).event (b ∷ [])) (ran_of m' x).notes
          ∙ ap₂ (λ u v. u ++ v) k.tells (i.tells ∙ ap (λ w. told_all (observations receiver w (byte_items x))) k.state)
          ∙ sym (told_append o (observations receiver s (byte_items x)));
      steady = i.steady;
    }

-- ---- one operation
-- An operation of a run is its items on the machine, and it keeps the memory steady.
pub record Linked (m : Memory) (o : Operation) : Type 0 where
  pub state : loaded_of (memory_after m o) ≡ state_after receiver (loaded_of m) (items_of m o)
  pub tells : seen_in m o ≡ told_all (observations receiver (loaded_of m) (items_of m o))
  pub steady : Steady (memory_after m o)

-- A step.
pub step_linked : (m : Memory) (piece : List ℕ) → Steady m → AllBytes piece → Linked m (StepOver piece)
unfolding memory_after seen_in items_of
step_linked m piece z all =
    let x = used_of m piece in
    let e : single (step_of m piece) x ≡ ran_of m x = step_by_byte m.state m.store piece z.sizes in
    let k = bytes_linked x m z (take_bytes (step_of m piece).used piece all) in
    record {
      state = ap (λ (r : Run). loaded_of (run_memory r)) e ∙ k.state;
      tells = ap (λ (r : Run). map Heard r.notes) e ∙ k.tells;
      steady = subst (λ (r : Run). Steady (run_memory r)) (sym e) k.steady;
    }
