-- In a run every id is a number of two bytes.
use Rattle.std.specs.Prelude.{List, [], ◌∷◌, ◌++◌, ℕ, ◌<◌}
use Rattle.std.proofs.Common.{arith}
use Rattle.record.specs.Header.{header_of}
use Rattle.machine.specs.Slots.{SlotState, Vacant, HeldBy, lookup}
use Rattle.machine.specs.Timeline.{RequestCall, CountCall, Item, ByteItem, CallItem, header_id}
use Rattle.machine.specs.Machine.{HeaderOutcome, Decided, BeginOutcome, Declined, Accepted, CallOutcome, Stays, Retires, Leaves, Closes, Machine, AtHeader, PastHeader, Slots, Connection, Open, Closed, on_item, state_after, fresh}
use Rattle.machine.specs.Laws.{Laws}
use Rattle.machine.specs.Shape.{BytesOk, ItemOk, ItemsOk, ItemsEnd, ItemsMore, WellShaped}
use Rattle.machine.proofs.ShapeContent.{bytes_one_more}
use Rattle.machine.proofs.ShapeKept.{shape_item}
use Rattle.machine_queue.proofs.Everywhere.{AfterHeader, AfterBegin, AfterCall, Property, SlotsHold, Holds, HeaderIdOk, LookupHolds, lookup_holds, byte_holds, call_holds, fresh_holds}

id_below : (h : List ℕ) → BytesOk h → header_id h < 65536
unfolding header_id header_of
id_below h b = omega (arith, b 2, b 3)

module _ (M : Machine) where
  open M use {Request, Stream, Event, Leftover, Answer, Argument, on_header, on_begin, on_call}

  -- the id of whoever holds a slot
  abbrev pub HolderBelow : SlotState Leftover Request → Type 0
  HolderBelow (Vacant x) = Unit {0}
  HolderBelow (HeldBy id r) = id < 65536

  -- whatever a header, a BEGIN body or a call comes to, the id stays
  pub header_below : (id : ℕ) (o : HeaderOutcome Request Stream Event) → id < 65536 → AfterHeader M (λ q. id < 65536) o
  header_below id (Decided r e k) b = b

  pub begin_below : (id : ℕ) (o : BeginOutcome Leftover Request Event) → id < 65536 → AfterBegin M (λ f. id < 65536) o
  begin_below id (Declined e) b = tt
  begin_below id (Accepted f e) b = b

  call_below : (id : ℕ) (o : CallOutcome Request Answer) → id < 65536 → AfterCall M HolderBelow id o
  call_below id (Stays r n) b = b
  call_below id (Retires r n) b = b
  call_below id (Leaves n) b = tt
  call_below id (Closes n) b = tt

  -- the property
  abbrev pub two_bytes_lem : Property M
  two_bytes_lem =
      record {
        IdOk = λ id. id < 65536;
        Ok = λ i s. HolderBelow s;
        header_keeps = λ t c i id r b. header_below id (on_header t c r) b;
        byte_keeps = λ k x i id r b. b;
        begin_keeps = λ id g i x b v. begin_below id (on_begin id g) b;
      }

  -- every id is a number of two bytes
  abbrev pub IdsBelow : Connection M → Type 0
  IdsBelow s = Holds M two_bytes_lem s

  -- an id that is found
  pub lookup_below : (id : ℕ) (T : Slots M) → SlotsHold M two_bytes_lem T → LookupHolds M two_bytes_lem id (lookup id T)
  lookup_below id T h = lookup_holds M two_bytes_lem id T h

  -- a fresh start
  pub below_fresh : (n : ℕ) → IdsBelow (fresh M n)
  below_fresh n = fresh_holds M two_bytes_lem n (λ i. tt)

  module _ (L : Laws M) where
    -- a header's bytes are bytes
    header_id_below : (s : Connection M) (b : ℕ) → b < 256 → WellShaped M L s → HeaderIdOk M two_bytes_lem s b
    header_id_below Closed b l w = tt
    header_id_below (Open T (AtHeader g)) b l w = id_below (g ++ b ∷ []) (bytes_one_more M L g b w.1.1 l)
    header_id_below (Open T (PastHeader s c p)) b l w = tt

    -- an item keeps it
    pub below_item : (s : Connection M) (x : Item Argument) → ItemOk M x → WellShaped M L s → IdsBelow s → IdsBelow (on_item M s x).0
    unfolding on_item
    below_item s (ByteItem b) i w h = byte_holds M two_bytes_lem s b (header_id_below s b i w) h
    below_item s (CallItem (RequestCall id a)) i w h = call_holds M two_bytes_lem s id a (λ i r b. call_below id (on_call a r) b) h
    below_item Closed (CallItem CountCall) i w h = tt
    below_item (Open T F) (CallItem CountCall) i w h = h

    -- so do items one after another
    pub below_after : (s : Connection M) {t : List (Item Argument)} → ItemsOk M t → WellShaped M L s → IdsBelow s → IdsBelow (state_after M s t)
    unfolding state_after
    below_after s ItemsEnd w h = h
    below_after s (ItemsMore {x = x} i k) w h = below_after (on_item M s x).0 k (shape_item M L s x i w) (below_item s x i w h)
