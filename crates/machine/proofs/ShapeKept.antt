-- Every state of a run is in shape.
use Rattle.std.proofs.Math.Path.{◌≡◌, sym}
use Rattle.std.specs.Prelude.{refl, ℕ, zero, suc, replicate}
use Rattle.std.proofs.Common.{◌∙◌}
use mathlib.Core.List.{List, [], ◌∷◌}
use native.Mathlib.Omega.{arith}
use Rattle.std.proofs.Math.ListN.{length-replicate}
use Rattle.machine.specs.Slots.{SlotState, Vacant, HeldBy, lookup, slot_at, lookup_right}
use Rattle.machine.specs.Timeline.{RequestCall, CountCall, Item, ByteItem, CallItem, byte_items}
use Rattle.machine.specs.Machine.{Machine, Connection, Open, Closed, fresh, on_item, state_after}
use Rattle.machine.specs.Laws.{Laws}
use Rattle.machine.specs.Shape.{BytesOk, ItemOk, ItemsOk, ItemsEnd, ItemsMore, SlotsOk, WellShaped}
use Rattle.machine.proofs.ShapeContent.{shape_record_byte}
use Rattle.machine.proofs.ShapeCalls.{shape_call}

module _ (M : Machine) where
  open M use {Leftover, clean, Request}

  -- in a fresh start every slot is free
  pub fresh_vacant : (n j : ℕ) → ◌≡◌ {A = SlotState Leftover Request} (slot_at clean (replicate n (Vacant clean)) j) (Vacant clean)
  fresh_vacant zero j = refl
  fresh_vacant (suc n) zero = refl
  fresh_vacant (suc n) (suc j) = fresh_vacant n j

module _ (M : Machine) (L : Laws M) where
  open M use {Leftover, clean, Request}
  open L use {slot_count, clean_ok}

  -- one item
  pub shape_item : (s : Connection M) (x : Item M.Argument) → ItemOk M x → WellShaped M L s → WellShaped M L (on_item M s x).0
  unfolding on_item
  shape_item Closed (ByteItem b) p h = tt
  shape_item Closed (CallItem (RequestCall id a)) p h = tt
  shape_item Closed (CallItem CountCall) p h = tt
  shape_item (Open T F) (ByteItem b) p h = shape_record_byte M L T F b h.0 h.1 p
  shape_item (Open T F) (CallItem (RequestCall id a)) p h = shape_call M L (lookup id T) id a T F h.0 h.1 (lookup_right clean id T)
  shape_item (Open T F) (CallItem CountCall) p h = h

  -- a timeline
  pub shape_after : (s : Connection M) {t : List (Item M.Argument)} → ItemsOk M t → WellShaped M L s → WellShaped M L (state_after M s t)
  unfolding state_after
  shape_after s ItemsEnd h = h
  shape_after s (ItemsMore {x = x} p q) h = shape_after (on_item M s x).0 q (shape_item s x p h)

  -- a fresh start is in shape
  pub shape_fresh : WellShaped M L (fresh M slot_count)
  unfolding fresh
  shape_fresh =
      let none_held : (i id : ℕ) (r : Request) → slot_at clean (replicate slot_count (Vacant clean)) i ≡ HeldBy id r → ⊥ =
      λ i id r x. let z : ◌≡◌ {A = SlotState Leftover Request} (Vacant clean) (HeldBy id r) = sym (fresh_vacant M slot_count i) ∙ x in let w : ◌≡◌ {A = ℕ} 0 1 = cc in omega arith in
      let slots : SlotsOk M L (replicate slot_count (Vacant clean)) = record {
        size = length-replicate slot_count (Vacant clean);
        fits = λ j. rw (fresh_vacant M slot_count j) clean_ok;
        once = λ i j id r q x y. absurd (none_held i id r x);
      } in
      (slots, (omega arith, λ j. omega arith))

module _ (M : Machine) where
  -- bytes as items
  pub items_all : (x : List ℕ) → BytesOk x → ItemsOk M (byte_items x)
  unfolding byte_items
  items_all [] h = ItemsEnd
  items_all (b ∷ x) h = ItemsMore (h 0) (items_all x (λ i. h (suc i)))
