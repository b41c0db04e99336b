-- What start, step and calls keep of a state: its arrays as the types in code have them, and its shape.
use Rattle.std.specs.Prelude.{◌≡◌, refl, ℕ, ◌≤◌, ◌<◌, Bool, true, false, List, length, eqb, if◌then◌else◌}
use Rattle.std.proofs.Common.{arith}
use Rattle.std.proofs.lemmas.Bool.{eqb-false}
use Rattle.wire.specs.Test.{by_test}
use Rattle.pair_list.specs.List.{well_formed, broken_at}
use Rattle.connection.specs.declared.request.Request.{Request}
use Rattle.connection.specs.declared.state.Table.{Table}
use Rattle.connection.specs.declared.state.Target.{Target}
use Rattle.connection.specs.declared.state.Frame.{Frame}
use Rattle.connection.specs.declared.state.Conn.{Conn}
use Rattle.connection.specs.Sizes.{AREA}
use Rattle.connection.specs.Slots.{request_at, put_request, no_requests}
use Rattle.connection.proofs.Laws.SlotsLaws.{Sized, put_sized}
use Rattle.connection.specs.Shape.{in_shape}
use Rattle.connection.proofs.Laws.ShapeLaws.{Tidy, Placed, Shaped, shaped, in_shape_lem, closed_in_shape}
use Rattle.connection.specs.Fits.{Aimed}
use Rattle.connection.proofs.Laws.TableShape.{tidy_put}
use Rattle.wire.proofs.Bytes.{AllBytes, zeros_bytes}
use Rattle.connection.specs.Step.{State, Left, no_frame, target_if, open_with, closed_conn, closes, queried}
use Rattle.machine.specs.Cause.{Cause, At}

-- The arrays have their lengths, and the header bytes held are bytes.
pub record Arrays (c : Conn) : Type 0 where
  pub table : Sized c.table
  pub header : length c.frame.position.header ≡ 8
  pub bytes : AllBytes c.frame.position.header
  pub body : length c.frame.body ≡ 8

-- A frame beside a table: arrays and shape.
pub record GoodFrame (t : Table) (f : Frame) : Type 0 where
  pub header : length f.position.header ≡ 8
  pub bytes : AllBytes f.position.header
  pub body : length f.body ≡ 8
  pub position : Placed f.position
  pub target : Aimed f.target t f.gathered f.position.content

-- A state: arrays and shape, of the table and of the frame.
pub record Good (c : Conn) : Type 0 where
  pub sized : Sized c.table
  pub tidy : Tidy c.table
  pub frame : GoodFrame c.table c.frame

-- A state is good where its arrays and its shape are.
pub good : (c : Conn) → Arrays c → Shaped c → Good c
good c a s =
    record {
      sized = a.table;
      tidy = s.table;
      frame = record { header = a.header; bytes = a.bytes; body = a.body; position = s.position; target = s.target };
    }

-- Its arrays.
pub good_arrays : (c : Conn) → Good c → Arrays c
good_arrays c g = record { table = g.sized; header = g.frame.header; bytes = g.frame.bytes; body = g.frame.body }

-- Its shape.
pub good_shape : (c : Conn) → Good c → in_shape c ≡ true
good_shape c g = in_shape_lem c (record { table = g.tidy; position = g.frame.position; target = g.frame.target })

-- The arrays of a connection with no requests, open or closed.
pub fresh_arrays : (is_open : Bool) → Arrays (record { table = no_requests; frame = no_frame; «open» = is_open })
fresh_arrays is_open = record { table = record { ids = refl; lengths = refl; standings = refl; stdin = refl; «data» = refl }; header = refl; bytes = zeros_bytes 8; body = refl }

-- The closed one is good.
pub good_closed : Good closed_conn
good_closed = good closed_conn (fresh_arrays false) (shaped closed_conn closed_in_shape)

-- ---- frames
-- With no content left a target is forgotten, so it need fit only where some is left.
pub aimed_if : (left gathered : ℕ) (target : Target) (t : Table) → (0 < left → Aimed target t gathered left) → Aimed (target_if left target) t gathered left
aimed_if left gathered target t f =
    by_test (eqb left 0) (λ e. simp e tt) (λ e. simp e (f (let q = eqb-false left 0 e in omega arith)))

-- ---- what the answers are made of
-- By the two outcomes of a test.
pub either : (b : Bool) (x y : Left) → (b ≡ true → Good x.conn) → (b ≡ false → Good y.conn) → Good (if b then x else y).conn
either true x y f g = f refl
either false x y f g = g refl

-- Closing.
pub good_closes : (st : State) (store : List ℕ) (cause : Cause) → Good (closes st store cause).conn
unfolding closes
good_closes st store n = good_closed

module _ (c : Conn) (before : Good c) where
  -- Only the frame changes.
  pub good_reads : (f : Frame) → GoodFrame c.table f → Good (open_with c.table f)
  good_reads f g = record { sized = before.sized; tidy = before.tidy; frame = g }

  -- A request is put back with its id and a length not over AREA.
  pub good_back : (i : ℕ) (r : Request) (f : Frame) → r.id ≡ (request_at c.table i).id → r.length ≤ AREA
      → GoodFrame (put_request c.table i r) f → Good (open_with (put_request c.table i r) f)
  good_back i r f same short g =
      record { sized = put_sized c.table i r before.sized; tidy = tidy_put c.table i r same before.sized before.tidy short; frame = g }

  -- A query is answered, or closes the connection.
  pub good_queried : (gathered store list : List ℕ) (f : Frame) → GoodFrame c.table f → Good (queried (record { conn = c; gathered = gathered }) store list f).conn
  unfolding queried
  good_queried gathered store list f g = either (well_formed list) _ _ (λ e. good_reads f g) (λ e. good_closes _ store (At 14 (broken_at list)))
