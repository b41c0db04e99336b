-- Where a lift stands in a capture: behind some whole records, in a part of the next one. What the whole records come
-- to is known, and the rest is what the part comes to.
use Rattle.std.specs.Prelude.{ℕ, ◌+◌, ◌≤◌, ◌<◌, min, ◌≡◌, refl, Bool, true, false, ◌||◌, List, [], ◌++◌, ◌⊎◌, length, drop, ltb, if◌then◌else◌}
use Rattle.std.proofs.Common.{sym, ap, ap₂, ◌∙◌, subst, append-nil, append_assoc, inl, inr, arith, length-append, drop_of_length-le, ltb-true, ltb-false}
use Rattle.std.proofs.Math.Option.{Option, none, some}
use Rattle.wire.specs.Test.{by_test, ◌≤?◌, ◌=?◌}
use Rattle.machine.specs.Cause.{Cause}
use Rattle.record_reader.specs.declared.Position.{Position}
use Rattle.record_reader.specs.Position.{between_records, after}
use Rattle.connection.specs.Bytewise.{Note}
use Rattle.plain.specs.Plain as P
use Rattle.plain.specs.Plain.{Request, Said, record_size}
use Rattle.plain_agrees.specs.Agreement.{is_between, word_at}
use Rattle.lifting.specs.Lift as L
use Rattle.lifting.specs.Lift.{Verdict, Clean, Cut, ClosedAt, LARGEST_PLACE, is_copied, copy_of_record, ends, copies, lift_of}
use Rattle.lifting.specs.Call.{Lifting, position_of, verdict_now, on_closing}
use Rattle.lifting_agrees.proofs.CopyRecords.{said_of}
use Rattle.lifting_agrees.specs.Statement.{word_of}
use Rattle.lifting_agrees.proofs.LiftLaws.{lift_from, lift_short, lift_header, next_nothing, lift_whole, GoingOn, clean_or_cut}
use Rattle.lifting_agrees.proofs.PartPosition.{Unfinished, at_end}

-- ---- what a part of a record comes to
-- a part, or a record that is just whole
abbrev pub Within : List ℕ → Type 0
Within b = (length b < 8) ⊎ ((8 ≤ length b) × (length b ≤ record_size b))

-- Its header is not all there; or it goes on, and what is there of it is copied if its header says so; or it closes, at
-- its first byte, and nothing of it is copied.
pub data Comes (R at : ℕ) (begun : Bool) (rs : List Request) (b : List ℕ) : Type 0 where
  Short : length b < 8 → (lift_from R at begun rs b).copy ≡ [] → GoingOn (lift_from R at begun rs b).verdict
      → Comes R at begun rs b
  Goes : (es : List Note) (rs' : List Request) → 8 ≤ length b → said_of rs b ≡ Said.Goes es rs'
      → (lift_from R at begun rs b).copy ≡ copy_of_record (is_copied R begun b) b
      → GoingOn (lift_from R at begun rs b).verdict → Comes R at begun rs b
  Closes : (cause : Cause) → 8 ≤ length b → said_of rs b ≡ Said.Closes cause → (lift_from R at begun rs b).copy ≡ []
      → (lift_from R at begun rs b).verdict ≡ ClosedAt cause (min at LARGEST_PLACE) → Comes R at begun rs b

pub comes : (R at : ℕ) (begun : Bool) (rs : List Request) (b : List ℕ) → Within b → Comes R at begun rs b
comes R at begun rs b (inl short) =
    let e = lift_short (length b) R at begun rs b (omega arith) short in
    Short short (ap (λ (l : L.Lifted). l.copy) e)
    (subst (λ (l : L.Lifted). GoingOn l.verdict) (sym e) (clean_or_cut (length b =? 0)))
comes R at begun rs b (inr (header, room)) = go (said_of rs b) refl
  where
    go : (s : Said) → said_of rs b ≡ s → Comes R at begun rs b
    go (Said.Goes es rs') said =
        let c = is_copied R begun b in
        let e : lift_from R at begun rs b
        ≡ copies (copy_of_record c b) (ends (if record_size b ≤? length b then Clean else Cut)) =
        lift_header R at begun rs b header
        ∙ rw said (ap (copies (copy_of_record c b)) (next_nothing R at (begun || c) rs' b room)) in
        Goes es rs' header said (ap (λ (l : L.Lifted). l.copy) e ∙ append-nil (copy_of_record c b))
        (subst (λ (l : L.Lifted). GoingOn l.verdict) (sym e) (clean_or_cut (record_size b ≤? length b)))
    go (Said.Closes cause) said =
        let e : lift_from R at begun rs b ≡ ends (ClosedAt cause (min at LARGEST_PLACE)) =
        lift_header R at begun rs b header ∙ rw said refl in
        Closes cause header said (ap (λ (l : L.Lifted). l.copy) e) (ap (λ (l : L.Lifted). l.verdict) e)

-- ---- the verdict
-- The verdict of a lift is that of the bytes, if its last word is theirs, and a close is at its place.
pub verdict_is : (l : Lifting) (v : Verdict) → word_at l.closing (position_of l) ≡ word_of v
    → ((cause : Cause) (place : ℕ) → v ≡ ClosedAt cause place → l.start ≡ place) → verdict_now l ≡ v
unfolding verdict_now
verdict_is l v word place = go l.closing v word place
  where
    between : (t : Bool) (v : Verdict) → (if t then P.Open else P.Cut) ≡ word_of v → (if t then Clean else Cut) ≡ v
    between true Clean e = refl
    between true Cut e = let z : ◌≡◌ {A = ℕ} 0 1 = cc in absurd (omega arith)
    between true (ClosedAt cause place) e = let z : ◌≡◌ {A = ℕ} 0 1 = cc in absurd (omega arith)
    between false Clean e = let z : ◌≡◌ {A = ℕ} 0 1 = cc in absurd (omega arith)
    between false Cut e = refl
    between false (ClosedAt cause place) e = let z : ◌≡◌ {A = ℕ} 0 1 = cc in absurd (omega arith)

    go : (closing : Option Cause) (v : Verdict) → word_at closing (position_of l) ≡ word_of v
        → ((cause : Cause) (place : ℕ) → v ≡ ClosedAt cause place → l.start ≡ place)
        → on_closing closing (λ cause. ClosedAt cause l.start) (if is_between (position_of l) then Clean else Cut) ≡ v
    go none v e f = between (is_between (position_of l)) v e
    go (some other) Clean e f = let z : ◌≡◌ {A = ℕ} 0 1 = cc in absurd (omega arith)
    go (some other) Cut e f = let z : ◌≡◌ {A = ℕ} 0 1 = cc in absurd (omega arith)
    go (some other) (ClosedAt cause place) e f =
        let same : other ≡ cause = cc in ap₂ ClosedAt same (f cause place refl)

-- A last word that is no close was told without one, and one that is, with it.
pub none_told : (closing : Option Cause) (p : Position) (v : Verdict) → word_at closing p ≡ word_of v → GoingOn v
    → closing ≡ none
none_told none p v e g = refl
none_told (some cause) p v e g = absurd (g cause (sym e))

pub some_told : (closing : Option Cause) (p : Position) (cause : Cause) → word_at closing p ≡ P.Closed cause
    → closing ≡ none → ⊥
some_told none p cause e n = between (is_between p) e
  where
    between : (t : Bool) → (if t then P.Open else P.Cut) ≡ P.Closed cause → ⊥
    between true e = let z : ◌≡◌ {A = ℕ} 0 1 = cc in omega arith
    between false e = let z : ◌≡◌ {A = ℕ} 0 1 = cc in omega arith
some_told (some other) p cause e n = let z : ◌≡◌ {A = ℕ} 0 1 = cc (n) in omega arith

-- ---- where a lift stands
pub record Reading (R : ℕ) (x : List ℕ) (l : Lifting) : Type 0 where
  -- the whole records, and the part of the next one
  pub before : List ℕ
  pub part : List ℕ
  pub joined : x ≡ before ++ part
  -- after the whole records: the requests, whether R's first BEGIN record has come, and what was copied
  pub requests : List Request
  pub begun : Bool
  pub copy : List ℕ
  pub goes : (y : List ℕ) → lift_of R (before ++ y) ≡ copies copy (lift_from R (length before) begun requests y)
  -- the state of the lift
  pub position : position_of l ≡ after between_records part
  pub begun_before_lem : length part < 8 → l.begun ≡ begun
  pub begun_now : 8 ≤ length part → l.begun ≡ (begun || is_copied R begun part)
  pub copied : 8 ≤ length part → l.copied ≡ is_copied R begun part
  pub start : 0 < length part → l.start ≡ min (length before) LARGEST_PLACE

-- with the part unfinished
abbrev pub Stands : ℕ → List ℕ → Lifting → Type 0
Stands R x l = (r : Reading R x l) × Unfinished r.part

-- A part that is just whole is one more of the whole records.
shift : (R : ℕ) (x : List ℕ) (l : Lifting) (r : Reading R x l) (es : List Note) (rs' : List Request)
    → 8 ≤ length r.part → length r.part ≡ record_size r.part
    → said_of r.requests r.part ≡ Said.Goes es rs' → Stands R x l
unfolding after
shift R x l r es rs' header whole said =
    let b = r.part in
    let c = is_copied R r.begun b in
    let long = length-append r.before b in
    let none : drop (record_size b) b ≡ [] = drop_of_length-le b {i = record_size b} (omega arith) in
    let next : Reading R x l = record {
      before = r.before ++ b;
      part = [];
      joined = r.joined ∙ sym (append-nil (r.before ++ b));
      requests = rs';
      begun = r.begun || c;
      copy = r.copy ++ copy_of_record c b;
      goes = λ y.
          let at : length r.before + record_size b ≡ length (r.before ++ b) = omega arith in
          let one : lift_from R (length r.before) r.begun r.requests (b ++ y)
          ≡ copies (copy_of_record c b) (lift_from R (length (r.before ++ b)) (r.begun || c) rs' y) =
          lift_whole R (length r.before) r.begun r.requests rs' es b y header (omega arith) said
          ∙ ap₂
          (λ (n : ℕ) (u : List ℕ). copies (copy_of_record c b) (lift_from R n (r.begun || c) rs' (u ++ y))) at none in
          ap (lift_of R) (append_assoc r.before b y)
          ∙ r.goes (b ++ y)
          ∙ ap (copies r.copy) one
          ∙ (let w = lift_from R (length (r.before ++ b)) (r.begun || c) rs' y in
          ap (λ (u : List ℕ). record { copy = u; verdict = w.verdict })
          (sym (append_assoc r.copy (copy_of_record c b) w.copy)));
      position = r.position ∙ at_end b header whole;
      begun_before_lem = λ short. r.begun_now header;
      begun_now = λ long. absurd (omega arith);
      copied = λ long. absurd (omega arith);
      start = λ some. absurd (omega arith);
    } in
    (next, inl (omega arith))

-- So it stands, if what its part says goes on.
pub settle : (R : ℕ) (x : List ℕ) (l : Lifting) (r : Reading R x l) → Within r.part
    → (8 ≤ length r.part
    → (es : List Note) × (rs' : List Request) × (said_of r.requests r.part ≡ Said.Goes es rs'))
    → Stands R x l
settle R x l r (inl short) said = (r, inl short)
settle R x l r (inr (header, room)) said =
    by_test (ltb (length r.part) (record_size r.part))
    (λ t. (r, inr (header, ltb-true (length r.part) (record_size r.part) t)))
    (λ t.
    let m = ltb-false (length r.part) (record_size r.part) t in
    let g = said header in
    shift R x l r g.0 g.1 header (omega arith) g.2)
