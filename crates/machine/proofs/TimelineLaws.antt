-- Bytes as items of a timeline: in parts, and back.
use Rattle.std.specs.Prelude.{◌≡◌, refl, List, [], ◌∷◌, ◌++◌, ℕ}
use Rattle.std.proofs.Common.{ap}
use Rattle.machine.specs.Timeline.{Item, ByteItem, byte_items, item_bytes}

-- the items of two pieces
pub byte_items_append : {Argument : Type 0} (x y : List ℕ) → byte_items {Argument = Argument} (x ++ y) ≡ byte_items x ++ byte_items y
unfolding byte_items
byte_items_append [] y = refl
byte_items_append (b ∷ x) y = ap (λ l. ByteItem b ∷ l) (byte_items_append x y)

-- the bytes of items that begin with those of a piece
pub bytes_of_items : {Argument : Type 0} (x : List ℕ) (t : List (Item Argument)) → item_bytes (byte_items x ++ t) ≡ x ++ item_bytes t
unfolding item_bytes byte_items
bytes_of_items [] t = refl
bytes_of_items (b ∷ x) t = ap (λ l. b ∷ l) (bytes_of_items x t)
