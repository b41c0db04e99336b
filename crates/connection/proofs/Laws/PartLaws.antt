-- A slot's area lent as a part of the store, and given back.
use Rattle.std.specs.Prelude.{ℕ, ◌+◌, ◌*◌, ◌-◌, ◌≡◌, List, ◌++◌, take}
use Rattle.std.proofs.Common.{ap, arith, drop-drop}
use borrow.Rule.Slice.PartMut.{put_mid, mid_of}
use Rattle.connection.specs.Sizes.{AREA}
use Rattle.connection.specs.Slots.{area_at, put_area}

-- the part that is lent
pub part_lent : (store : List ℕ) (i : ℕ) → area_at store i ≡ mid_of (i * AREA) (i * AREA + AREA - i * AREA) store
unfolding area_at
part_lent store i = let n : i * AREA + AREA - i * AREA ≡ AREA = omega arith in rw n

-- the store with the part as it came back
pub part_back : (store : List ℕ) (i : ℕ) (area : List ℕ) → put_mid (i * AREA) (i * AREA + AREA - i * AREA) store area ≡ put_area store i area
unfolding put_area
part_back store i area =
    let n : i * AREA + AREA - i * AREA ≡ AREA = omega arith in
    rw n (ap (λ (l : List ℕ). take (i * AREA) store ++ (area ++ l)) (drop-drop AREA (i * AREA) store))
