-- The numbers of a slot: what is put is read back, and the other slots and the pump's place stay.
use Rattle.std.specs.Prelude.{◌≡◌, refl, ℕ, suc, ◌+◌, ◌-◌, ◌*◌, ◌/◌, ◌%◌, ◌≤◌, ◌<◌, Bool, not, List, set, if◌then◌else◌}
use Rattle.std.proofs.Common.{sym, ◌∙◌, length-set, eqb-true}
use Rattle.std.proofs.Math.Path.{ap, ap₂}
use native.Mathlib.Omega.{arith}
use Rattle.std.proofs.Math.ListN.{length, get_or}
use Rattle.std.proofs.Math.Seq.{get_or-set_same, get_or-set_other}
use Rattle.std.proofs.lemmas.Bool.{eqb-false}
use Rattle.wire.specs.Test.{◌=?◌, by_test}
use Rattle.slot_word.specs.Word.{taken, marked}
use Rattle.slot_word.proofs.WordLaws.{mark_read, mark_other}
use Rattle.connection.specs.Sizes.{SLOTS}
use Rattle.queue_slot.specs.declared.Ends.{Ends}
use Rattle.queue_slot.specs.Wait.{Wait}
use Rattle.queue.specs.Numbers.{HIGH, LOW, HOLDING, OUT_ENDS, ERR_ENDS, ERR_FIRST, LEAVING, NEXT, WAITS, bit_at, count_at, ends_by, front_at, last_at, status_at, put_bit, put_count, has_out, has_err, err_first, put_front, put_last, numbers_at}

-- ---- one bit
-- The bit put is read back.
bit_put : (w : List ℕ) (p i : ℕ) (b : Bool) → p < length w → i < SLOTS → bit_at (put_bit w p i b) p i ≡ b
bit_put w p i b h low = ap (taken i) (get_or-set_same w p (marked i b (get_or w p 0)) 0 h) ∙ mark_read i b (get_or w p 0) low

-- Another slot's bit stays.
bit_kept : (w : List ℕ) (p i j : ℕ) (b : Bool) → p < length w → (j ≡ i → ⊥) → bit_at (put_bit w p i b) p j ≡ bit_at w p j
bit_kept w p i j b h d = ap (taken j) (get_or-set_same w p (marked i b (get_or w p 0)) 0 h) ∙ mark_other i j b (get_or w p 0) d

-- ---- what a reader reads
-- Lists that are the same at a slot's places have the same numbers for it.
count_same : (v w : List ℕ) (j : ℕ) → bit_at v HOLDING j ≡ bit_at w HOLDING j → get_or v j 0 ≡ get_or w j 0 → count_at v j ≡ count_at w j
unfolding count_at
count_same v w j a b = ap₂ (λ (t : Bool) (n : ℕ). if t then suc n else 0) a b

front_same : (v w : List ℕ) (j : ℕ) → bit_at v OUT_ENDS j ≡ bit_at w OUT_ENDS j → bit_at v ERR_ENDS j ≡ bit_at w ERR_ENDS j
    → bit_at v ERR_FIRST j ≡ bit_at w ERR_FIRST j → front_at v j ≡ front_at w j
unfolding front_at
front_same v w j a b c = rw (a, b, c)

status_same : (v w : List ℕ) (j : ℕ) → get_or v (HIGH + j) 0 ≡ get_or w (HIGH + j) 0 → get_or v (LOW + j) 0 ≡ get_or w (LOW + j) 0 → status_at v j ≡ status_at w j
unfolding status_at
status_same v w j a b = ap₂ (λ (m n : ℕ). m * 65536 + n) a b

-- ---- how many data bytes
-- a count, read from what it says
count_read : (n : ℕ) → (if not (n =? 0) then suc (n - 1) else 0) ≡ n
count_read n = by_test (n =? 0) (λ e. rw e (sym (eqb-true n 0 e))) (λ e. let h : (n ≡ 0 → ⊥) = eqb-false n 0 e in rw e (omega arith))

-- What other places have stays, and the length.
count_skips : (w : List ℕ) (i n q : ℕ) → (q ≡ i → ⊥) → (q ≡ HOLDING → ⊥) → get_or (put_count w i n) q 0 ≡ get_or w q 0
unfolding put_count
count_skips w i n q a b = get_or-set_other (set w i (n - 1)) HOLDING q _ 0 b ∙ get_or-set_other w i q (n - 1) 0 a

count_length : (w : List ℕ) (i n : ℕ) → length (put_count w i n) ≡ length w
unfolding put_count
count_length w i n = length-set (set w i (n - 1)) HOLDING _ ∙ length-set w i (n - 1)

-- The count put is read back.
count_put : (w : List ℕ) (i n : ℕ) → length w ≡ WAITS → i < SLOTS → count_at (put_count w i n) i ≡ n
unfolding count_at put_count
count_put w i n full low =
    let one : List ℕ = set w i (n - 1) in
    let long : HOLDING < length one = rw (length-set w i (n - 1)) (omega arith) in
    rw (bit_put one HOLDING i (not (n =? 0)) long low, get_or-set_other one HOLDING i (marked i (not (n =? 0)) (get_or one HOLDING 0)) 0 (λ e. omega arith), get_or-set_same w i (n - 1) 0 (omega arith))
    (count_read n)

-- Another slot's stays.
count_kept : (w : List ℕ) (i n j : ℕ) → length w ≡ WAITS → i < SLOTS → j < SLOTS → (j ≡ i → ⊥) → count_at (put_count w i n) j ≡ count_at w j
unfolding put_count
count_kept w i n j full low h d =
    let one : List ℕ = set w i (n - 1) in
    let long : HOLDING < length one = rw (length-set w i (n - 1)) (omega arith) in
    count_same (put_count w i n) w j
    (bit_kept one HOLDING i j (not (n =? 0)) long d ∙ ap (taken j) (get_or-set_other w i HOLDING (n - 1) 0 (λ e. omega arith)))
    (count_skips w i n j d (λ e. omega arith))

-- ---- the ends before all data
-- ends, read from what they say
ends_read : (e : Ends) → ends_by (has_out e) (has_err e) (err_first e) ≡ e
ends_read Ends.None = refl
ends_read Ends.Out = refl
ends_read Ends.Err = refl
ends_read Ends.OutErr = refl
ends_read Ends.ErrOut = refl

-- What other places have stays, and the length.
front_skips : (w : List ℕ) (i q : ℕ) (e : Ends) → (q ≡ OUT_ENDS → ⊥) → (q ≡ ERR_ENDS → ⊥) → (q ≡ ERR_FIRST → ⊥) → get_or (put_front w i e) q 0 ≡ get_or w q 0
unfolding put_front
front_skips w i q e a b c =
    get_or-set_other (put_bit (put_bit w OUT_ENDS i (has_out e)) ERR_ENDS i (has_err e)) ERR_FIRST q _ 0 c
    ∙ get_or-set_other (put_bit w OUT_ENDS i (has_out e)) ERR_ENDS q _ 0 b
    ∙ get_or-set_other w OUT_ENDS q _ 0 a

bit_length : (w : List ℕ) (p i : ℕ) (b : Bool) → length (put_bit w p i b) ≡ length w
bit_length w p i b = length-set w p (marked i b (get_or w p 0))

front_length_lem : (w : List ℕ) (i : ℕ) (e : Ends) → length (put_front w i e) ≡ length w
unfolding put_front
front_length_lem w i e =
    bit_length (put_bit (put_bit w OUT_ENDS i (has_out e)) ERR_ENDS i (has_err e)) ERR_FIRST i (err_first e)
    ∙ bit_length (put_bit w OUT_ENDS i (has_out e)) ERR_ENDS i (has_err e)
    ∙ bit_length w OUT_ENDS i (has_out e)

-- The bits that were put, where each of the three words is read as its own put left it.
module _ (w : List ℕ) (i : ℕ) (e : Ends) (full : length w ≡ WAITS) where
  abbrev two : List ℕ
  two = put_bit w OUT_ENDS i (has_out e)

  abbrev three : List ℕ
  three = put_bit two ERR_ENDS i (has_err e)

  long_two : ERR_ENDS < length two
  long_two = rw (bit_length w OUT_ENDS i (has_out e)) (omega arith)

  long_three : ERR_FIRST < length three
  long_three = rw (bit_length two ERR_ENDS i (has_err e), bit_length w OUT_ENDS i (has_out e)) (omega arith)

  out_bit : (j : ℕ) → bit_at (put_front w i e) OUT_ENDS j ≡ bit_at two OUT_ENDS j
  unfolding put_front
  out_bit j = ap (taken j) (get_or-set_other three ERR_FIRST OUT_ENDS _ 0 (λ e. omega arith) ∙ get_or-set_other two ERR_ENDS OUT_ENDS _ 0 (λ e. omega arith))

  err_bit : (j : ℕ) → bit_at (put_front w i e) ERR_ENDS j ≡ bit_at three ERR_ENDS j
  unfolding put_front
  err_bit j = ap (taken j) (get_or-set_other three ERR_FIRST ERR_ENDS _ 0 (λ e. omega arith))

  -- The ends put are read back.
  front_put : i < SLOTS → front_at (put_front w i e) i ≡ e
  unfolding front_at put_front
  front_put low =
      rw (
        out_bit i ∙ bit_put w OUT_ENDS i (has_out e) (omega arith) low,
        err_bit i ∙ bit_put two ERR_ENDS i (has_err e) long_two low,
        bit_put three ERR_FIRST i (err_first e) long_three low,
      )
      (ends_read e)

  -- Another slot's stay.
  front_kept : (j : ℕ) → (j ≡ i → ⊥) → front_at (put_front w i e) j ≡ front_at w j
  unfolding put_front
  front_kept j d =
      front_same (put_front w i e) w j
      (out_bit j ∙ bit_kept w OUT_ENDS i j (has_out e) (omega arith) d)
      (err_bit j ∙ bit_kept two ERR_ENDS i j (has_err e) long_two d ∙ ap (taken j) (get_or-set_other w OUT_ENDS ERR_ENDS _ 0 (λ e. omega arith)))
      (bit_kept three ERR_FIRST i j (err_first e) long_three d
      ∙ ap (taken j) (get_or-set_other two ERR_ENDS ERR_FIRST _ 0 (λ e. omega arith) ∙ get_or-set_other w OUT_ENDS ERR_FIRST _ 0 (λ e. omega arith)))

-- ---- END and its status
module _ (w : List ℕ) (i : ℕ) (b : Bool) (n : ℕ) where
  abbrev high : List ℕ
  high = set w (HIGH + i) (n / 65536)

  abbrev low_too : List ℕ
  low_too = set high (LOW + i) (n % 65536)

  -- What other places have stays, and the length.
  last_skips : (q : ℕ) → (q ≡ HIGH + i → ⊥) → (q ≡ LOW + i → ⊥) → (q ≡ LEAVING → ⊥) → get_or (put_last w i b n) q 0 ≡ get_or w q 0
  unfolding put_last
  last_skips q x y z = get_or-set_other low_too LEAVING q _ 0 z ∙ get_or-set_other high (LOW + i) q _ 0 y ∙ get_or-set_other w (HIGH + i) q _ 0 x

  two_length : length low_too ≡ length w
  two_length = length-set high (LOW + i) (n % 65536) ∙ length-set w (HIGH + i) (n / 65536)

  last_length : length (put_last w i b n) ≡ length w
  unfolding put_last
  last_length = bit_length low_too LEAVING i b ∙ two_length

  module _ (full : length w ≡ WAITS) (low : i < SLOTS) where
    -- Both are read back.
    last_put : last_at (put_last w i b n) i ≡ b
    unfolding last_at put_last
    last_put = bit_put low_too LEAVING i b (rw two_length (omega arith)) low

    status_put : status_at (put_last w i b n) i ≡ n
    unfolding status_at put_last
    status_put =
        let long : LOW + i < length high = rw (length-set w (HIGH + i) (n / 65536)) (omega arith) in
        let a : get_or (put_last w i b n) (HIGH + i) 0 ≡ n / 65536 =
        get_or-set_other low_too LEAVING (HIGH + i) _ 0 (λ e. omega arith)
        ∙ get_or-set_other high (LOW + i) (HIGH + i) _ 0 (λ e. omega arith)
        ∙ get_or-set_same w (HIGH + i) (n / 65536) 0 (omega arith)
        in
        let c : get_or (put_last w i b n) (LOW + i) 0 ≡ n % 65536 =
        get_or-set_other low_too LEAVING (LOW + i) _ 0 (λ e. omega arith) ∙ get_or-set_same high (LOW + i) (n % 65536) 0 long
        in
        ap₂ (λ (h l : ℕ). h * 65536 + l) a c ∙ omega arith

    -- Another slot's stay.
    last_kept : (j : ℕ) → (j ≡ i → ⊥) → last_at (put_last w i b n) j ≡ last_at w j
    unfolding last_at put_last
    last_kept j d =
        bit_kept low_too LEAVING i j b (rw two_length (omega arith)) d
        ∙ ap (taken j) (get_or-set_other high (LOW + i) LEAVING _ 0 (λ e. omega arith) ∙ get_or-set_other w (HIGH + i) LEAVING _ 0 (λ e. omega arith))

    status_kept : (j : ℕ) → j < SLOTS → (j ≡ i → ⊥) → status_at (put_last w i b n) j ≡ status_at w j
    status_kept j h d =
        status_same (put_last w i b n) w j
        (last_skips (HIGH + j) (λ e. d (omega arith)) (λ e. omega arith) (λ e. omega arith))
        (last_skips (LOW + j) (λ e. omega arith) (λ e. d (omega arith)) (λ e. omega arith))

-- ---- all numbers of a slot
module _ (w : List ℕ) (i : ℕ) (x : Wait) (full : length w ≡ WAITS) (low : i < SLOTS) where
  -- with the count, and with the ends too
  abbrev counted : List ℕ
  counted = put_count w i x.count

  abbrev fronted : List ℕ
  fronted = put_front counted i x.front

  full_counted : length counted ≡ WAITS
  full_counted = count_length w i x.count ∙ full

  full_fronted : length fronted ≡ WAITS
  full_fronted = front_length_lem counted i x.front ∙ full_counted

  -- There are as many numbers as before.
  pub numbers_length : length (numbers_at w i x) ≡ WAITS
  unfolding numbers_at
  numbers_length = last_length fronted i x.last x.status ∙ full_fronted

  -- places that END and its status do not have; those that the ends do not have either
  past_last : (q : ℕ) → (q ≡ HIGH + i → ⊥) → (q ≡ LOW + i → ⊥) → (q ≡ LEAVING → ⊥) → get_or (numbers_at w i x) q 0 ≡ get_or fronted q 0
  unfolding numbers_at
  past_last q a b c = last_skips fronted i x.last x.status q a b c

  past_ends : (q : ℕ) → (q ≡ HIGH + i → ⊥) → (q ≡ LOW + i → ⊥) → q < OUT_ENDS → get_or (numbers_at w i x) q 0 ≡ get_or counted q 0
  past_ends q a b h = past_last q a b (λ e. omega arith) ∙ front_skips counted i q x.front (λ e. omega arith) (λ e. omega arith) (λ e. omega arith)

  -- places that neither the ends nor the count have
  past_front : (q : ℕ) → HIGH ≤ q → (q ≡ HOLDING → ⊥) → (q ≡ OUT_ENDS → ⊥) → (q ≡ ERR_ENDS → ⊥) → (q ≡ ERR_FIRST → ⊥) → get_or fronted q 0 ≡ get_or w q 0
  past_front q h a b c d = front_skips counted i q x.front b c d ∙ count_skips w i x.count q (λ e. omega arith) a

  count_numbers : (j : ℕ) → j < SLOTS → count_at (numbers_at w i x) j ≡ count_at counted j
  count_numbers j h =
      count_same (numbers_at w i x) counted j
      (ap (taken j) (past_ends HOLDING (λ e. omega arith) (λ e. omega arith) (omega arith)))
      (past_ends j (λ e. omega arith) (λ e. omega arith) (omega arith))

  front_numbers : (j : ℕ) → front_at (numbers_at w i x) j ≡ front_at fronted j
  front_numbers j =
      front_same (numbers_at w i x) fronted j
      (ap (taken j) (past_last OUT_ENDS (λ e. omega arith) (λ e. omega arith) (λ e. omega arith)))
      (ap (taken j) (past_last ERR_ENDS (λ e. omega arith) (λ e. omega arith) (λ e. omega arith)))
      (ap (taken j) (past_last ERR_FIRST (λ e. omega arith) (λ e. omega arith) (λ e. omega arith)))

  -- What is put is read back.
  pub count_of_put : count_at (numbers_at w i x) i ≡ x.count
  count_of_put = count_numbers i low ∙ count_put w i x.count full low

  pub front_of_put : front_at (numbers_at w i x) i ≡ x.front
  front_of_put = front_numbers i ∙ front_put counted i x.front full_counted low

  pub last_of_put : last_at (numbers_at w i x) i ≡ x.last
  unfolding numbers_at
  last_of_put = last_put fronted i x.last x.status full_fronted low

  pub status_of_put : status_at (numbers_at w i x) i ≡ x.status
  unfolding numbers_at
  status_of_put = status_put fronted i x.last x.status full_fronted low

  -- The numbers of another slot stay.
  module _ (j : ℕ) (h : j < SLOTS) (d : (j ≡ i → ⊥)) where
    pub count_of_other : count_at (numbers_at w i x) j ≡ count_at w j
    count_of_other = count_numbers j h ∙ count_kept w i x.count j full low h d

    -- a bit that the count does not have
    bit_counted : (p : ℕ) → HOLDING < p → bit_at counted p j ≡ bit_at w p j
    bit_counted p l = ap (taken j) (count_skips w i x.count p (λ e. omega arith) (λ e. omega arith))

    pub front_of_other : front_at (numbers_at w i x) j ≡ front_at w j
    front_of_other =
        front_numbers j ∙ front_kept counted i x.front full_counted j d
        ∙ front_same counted w j (bit_counted OUT_ENDS (omega arith)) (bit_counted ERR_ENDS (omega arith)) (bit_counted ERR_FIRST (omega arith))

    pub last_of_other : last_at (numbers_at w i x) j ≡ last_at w j
    unfolding numbers_at last_at
    last_of_other =
        last_kept fronted i x.last x.status full_fronted low j d
        ∙ ap (taken j) (past_front LEAVING (omega arith) (λ e. omega arith) (λ e. omega arith) (λ e. omega arith) (λ e. omega arith))

    pub status_of_other : status_at (numbers_at w i x) j ≡ status_at w j
    unfolding numbers_at
    status_of_other =
        status_kept fronted i x.last x.status full_fronted low j h d
        ∙ status_same fronted w j
        (past_front (HIGH + j) (omega arith) (λ e. omega arith) (λ e. omega arith) (λ e. omega arith) (λ e. omega arith))
        (past_front (LOW + j) (omega arith) (λ e. omega arith) (λ e. omega arith) (λ e. omega arith) (λ e. omega arith))

-- ---- the slot that the pump looks at first
-- It stays where the numbers of a slot are put.
pub next_of_put : (w : List ℕ) (i : ℕ) (x : Wait) → i ≤ SLOTS → get_or (numbers_at w i x) NEXT 0 ≡ get_or w NEXT 0
unfolding numbers_at
next_of_put w i x h =
    last_skips (put_front (put_count w i x.count) i x.front) i x.last x.status NEXT (λ e. omega arith) (λ e. omega arith) (λ e. omega arith)
    ∙ front_skips (put_count w i x.count) i NEXT x.front (λ e. omega arith) (λ e. omega arith) (λ e. omega arith)
    ∙ count_skips w i x.count NEXT (λ e. omega arith) (λ e. omega arith)

-- Where it alone changes, the numbers of all slots stay.
module _ (w : List ℕ) (n j : ℕ) where
  skips_next : (q : ℕ) → q < NEXT → get_or (set w NEXT n) q 0 ≡ get_or w q 0
  skips_next q h = get_or-set_other w NEXT q n 0 (λ e. omega arith)

  pub front_of_next : front_at (set w NEXT n) j ≡ front_at w j
  front_of_next =
      front_same (set w NEXT n) w j
      (ap (taken j) (skips_next OUT_ENDS (omega arith)))
      (ap (taken j) (skips_next ERR_ENDS (omega arith)))
      (ap (taken j) (skips_next ERR_FIRST (omega arith)))

  pub last_of_next : last_at (set w NEXT n) j ≡ last_at w j
  unfolding last_at
  last_of_next = ap (taken j) (skips_next LEAVING (omega arith))

  pub count_of_next : j < SLOTS → count_at (set w NEXT n) j ≡ count_at w j
  count_of_next h = count_same (set w NEXT n) w j (ap (taken j) (skips_next HOLDING (omega arith))) (skips_next j (omega arith))

  pub status_of_next : j < SLOTS → status_at (set w NEXT n) j ≡ status_at w j
  status_of_next h = status_same (set w NEXT n) w j (skips_next (HIGH + j) (omega arith)) (skips_next (LOW + j) (omega arith))
