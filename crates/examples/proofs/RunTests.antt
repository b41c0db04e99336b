-- Tests of the premises of isolation and of any shuffle, for runs that are written out.
use Rattle.std.specs.Prelude.{◌≡◌, refl, Bool, true, false, ℕ, zero, suc, ◌≤◌, length, drop, eqb, ltb, if◌then◌else◌}
use Rattle.std.proofs.Common.{ap, ◌∙◌, arith, drop_of_length-le, eq-eqb, eqb-true, ltb-true}
use mathlib.Core.List.{List, [], ◌∷◌, Memᴰ}
use Rattle.wire.specs.Test.{◌<?◌, ◌=?◌}
use Rattle.record.specs.Split.{front_length, whole_front, front, ◌then-split◌, split_in, split}
use Rattle.record.proofs.SplitLaws.{split_whole}
use Rattle.machine.specs.Timeline.{Item, ByteItem, CallItem, item_bytes, is_own_call}
use Rattle.machine.specs.Interleaving.{Part, RecordPart, CallPart, IsRecordOf, AllWhole, own_in, own_of}
use Rattle.connection.specs.Event.{Event}
use Rattle.connection.specs.Bytewise.{Note}
use Rattle.wire.proofs.Bytes.{AllBytes}
use Rattle.connection.specs.Arguments.{Argument}
use Rattle.connection.specs.Run.{Operation, StepOver, CallFor, CountActive, Observed, Heard, Answered, PiecesOk}
use Rattle.connection.specs.Isolation.{overloaded_for}

-- all are bytes
unfoldable pub all_below : List ℕ → Bool
all_below [] = true
all_below (b ∷ x) = if b <? 256 then all_below x else false

below_bytes : (x : List ℕ) → all_below x ≡ true → AllBytes x
unfolding all_below
below_bytes [] e = λ i. omega arith
below_bytes (b ∷ x) e = go (ltb b 256) refl e (below_bytes x)
  where
    go : (w : Bool) → ltb b 256 ≡ w → (if w then all_below x else false) ≡ true → (all_below x ≡ true → AllBytes x) → AllBytes (b ∷ x)
    go true v d f zero = ltb-true b 256 v
    go true v d f (suc i) = f d i
    go false v d f i = let z : ◌≡◌ {A = ℕ} 0 1 = cc in absurd (omega arith)

-- the pieces of a run
unfoldable pub pieces_below : List Operation → Bool
pieces_below [] = true
pieces_below (StepOver x ∷ os) = if all_below x then pieces_below os else false
pieces_below (CallFor id a ∷ os) = pieces_below os
pieces_below (CountActive ∷ os) = pieces_below os

-- They are bytes.
pub below_pieces : (os : List Operation) → pieces_below os ≡ true → PiecesOk os
unfolding pieces_below
below_pieces [] e = tt
below_pieces (StepOver x ∷ os) e = go (all_below x) refl e (below_pieces os)
  where
    go : (w : Bool) → all_below x ≡ w → (if w then pieces_below os else false) ≡ true → (pieces_below os ≡ true → PiecesOk os) → AllBytes x × PiecesOk os
    go true v d f = (below_bytes x v, f d)
    go false v d f = let z : ◌≡◌ {A = ℕ} 0 1 = cc in absurd (omega arith)
below_pieces (CallFor id a ∷ os) e = below_pieces os e
below_pieces (CountActive ∷ os) e = below_pieces os e

-- what is told, without the calls
unfoldable pub heard_in : List Observed → List Note
heard_in [] = []
heard_in (Heard n ∷ os) = n ∷ heard_in os
heard_in (Answered id a answer before after ∷ os) = heard_in os

-- R is refused
abbrev pub is_refusal : ℕ → Event → Bool
is_refusal R (Event.Refuse id n) = id =? R
is_refusal R Event.None = false
is_refusal R (Event.Open id role keep) = false
is_refusal R (Event.Ready id n) = false
is_refusal R (Event.Data id stream n) = false
is_refusal R (Event.End id stream measure) = false
is_refusal R (Event.Abort id) = false
is_refusal R (Event.Fault id n) = false
is_refusal R (Event.Query conns reqs mpxs) = false
is_refusal R (Event.Unknown kind) = false
is_refusal R (Event.Closed n) = false

-- this tells it
abbrev pub tells_refusal : ℕ → Observed → Bool
tells_refusal R (Heard (Note.Told e)) = is_refusal R e
tells_refusal R (Heard (Note.Shown id stream b)) = false
tells_refusal R (Answered id a answer before after) = false

-- one of these tells it
unfoldable pub refused_in : ℕ → List Observed → Bool
refused_in R [] = false
refused_in R (o ∷ os) = if tells_refusal R o then true else refused_in R os

-- Where none does, R is not refused for want of a slot.
pub never_refused : (R : ℕ) (os : List Observed) → refused_in R os ≡ false → Memᴰ (overloaded_for R) os → ⊥
unfolding refused_in
never_refused R (o ∷ os) e (Memᴰ.head h) =
    let d : (if eqb R R then true else refused_in R os) ≡ false = ap (λ x. if tells_refusal R x then true else refused_in R os) h ∙ e in
    let y : ◌≡◌ {A = Bool} true false = rw (eq-eqb R R refl) at d in
    let z : ◌≡◌ {A = ℕ} 0 1 = cc in
    omega arith
never_refused R (o ∷ os) e (Memᴰ.tail m) = go (tells_refusal R o) e (λ d. never_refused R os d m)
  where
    go : (w : Bool) → (if w then true else refused_in R os) ≡ false → (refused_in R os ≡ false → ⊥) → ⊥
    go true d f = let z : ◌≡◌ {A = ℕ} 0 1 = cc in omega arith
    go false d f = f d
never_refused R [] e x'' = elim x'' [ ]

-- a call among these items names R
unfoldable pub names_in : ℕ → List (Item Argument) → Bool
names_in R [] = false
names_in R (ByteItem b ∷ t) = names_in R t
names_in R (CallItem c ∷ t) = if is_own_call R c then true else names_in R t

-- a record or a call of these parts does
unfoldable pub names : ℕ → List (Part Argument) → Bool
names R [] = false
names R (RecordPart id t ∷ ps) = if id =? R then true else if names_in R t then true else names R ps
names R (CallPart c ∷ ps) = if is_own_call R c then true else names R ps

-- both tests fail
neither : (a b : Bool) → (if a then true else b) ≡ false → (a ≡ false) × (b ≡ false)
neither true b e = let z : ◌≡◌ {A = ℕ} 0 1 = cc in absurd (omega arith)
neither false b e = (refl, e)

nothing_in_lem : (R : ℕ) (t : List (Item Argument)) → names_in R t ≡ false → own_in false R t ≡ []
unfolding names_in own_in
nothing_in_lem R [] e = refl
nothing_in_lem R (ByteItem b ∷ t) e = nothing_in_lem R t e
nothing_in_lem R (CallItem c ∷ t) e = let n = neither (is_own_call R c) (names_in R t) e in rw n.0 (nothing_in_lem R t n.1)

-- Where none does, nothing is R's.
pub nothing_of : (R : ℕ) (ps : List (Part Argument)) → names R ps ≡ false → own_of R ps ≡ []
unfolding names own_of
nothing_of R [] e = refl
nothing_of R (RecordPart id t ∷ ps) e =
    let n = neither (eqb id R) (if names_in R t then true else names R ps) e in
    let m = neither (names_in R t) (names R ps) n.1 in
    rw (n.0, nothing_in_lem R t m.0) (nothing_of R ps m.1)
nothing_of R (CallPart c ∷ ps) e = let n = neither (is_own_call R c) (names R ps) e in rw n.0 (nothing_of R ps n.1)

-- the bytes are one whole record of that id
unfoldable pub is_record : ℕ → List ℕ → Bool
is_record id b = if whole_front b then (if front_length b =? length b then (front b).id =? id else false) else false

-- every record of these parts is
unfoldable pub whole_parts : List (Part Argument) → Bool
whole_parts [] = true
whole_parts (RecordPart id t ∷ ps) = if is_record id (item_bytes t) then whole_parts ps else false
whole_parts (CallPart c ∷ ps) = whole_parts ps

-- both tests hold
both : (a b : Bool) → (if a then b else false) ≡ true → (a ≡ true) × (b ≡ true)
both true b e = (refl, e)
both false b e = let z : ◌≡◌ {A = ℕ} 0 1 = cc in absurd (omega arith)

is_record_lem : (id : ℕ) (b : List ℕ) → is_record id b ≡ true → IsRecordOf id b
unfolding is_record split split_in
is_record_lem id b e =
    let n = front_length b in
    let f = both (whole_front b) (if n =? length b then (front b).id =? id else false) e in
    let g = both (n =? length b) ((front b).id =? id) f.1 in
    let l : length b ≤ n = omega (arith, eqb-true n (length b) g.0) in
    let d : drop n b ≡ [] = drop_of_length-le b {i = n} l in
    record {
      whole = front b;
      is_split = split_whole b f.0 ∙ ap (λ x. (front b ∷ []) then-split split x) d;
      is_id = eqb-true (front b).id id g.1;
    }

-- They are whole.
pub whole_parts_lem : (ps : List (Part Argument)) → whole_parts ps ≡ true → AllWhole ps
unfolding whole_parts
whole_parts_lem [] e = tt
whole_parts_lem (RecordPart id t ∷ ps) e =
    let f = both (is_record id (item_bytes t)) (whole_parts ps) e in
    (is_record_lem id (item_bytes t) f.0, whole_parts_lem ps f.1)
whole_parts_lem (CallPart c ∷ ps) e = (tt, whole_parts_lem ps e)
