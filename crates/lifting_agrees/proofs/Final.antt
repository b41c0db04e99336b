-- A record that closes ends a capture: what comes after it changes neither the copy nor the verdict.
use Rattle.std.specs.Prelude.{ℕ, zero, suc, ◌+◌, ◌≤◌, ◌<◌, min, ◌≡◌, refl, Bool, false, ◌||◌, List, [], ◌++◌, length, drop, get_or, ltb, leb}
use Rattle.std.proofs.Common.{sym, ap, ◌∙◌, arith, length-append, length-take, length-drop, ltb-true, ltb-false, leb-true, leb-false}
use Rattle.wire.specs.Test.{by_test, ◌=?◌}
use Rattle.machine.specs.Cause.{Cause}
use Rattle.plain.specs.Plain.{Request, Said, two, record_size}
use Rattle.lifting.specs.Lift.{ClosedAt, LARGEST_PLACE, Lifted, content_of, is_copied, copy_of_record, ends, copies, on_said, lift_of, copy_of, verdict_of}
use Rattle.lifting_agrees.proofs.CopyRecords.{said_of}
use Rattle.lifting_agrees.proofs.FrontLaws.{said_by_lem, said_stays}
use Rattle.lifting_agrees.proofs.Closings.{close_of, closes_by, early_close}
use Rattle.lifting_agrees.specs.Statement.{word_of}
use Rattle.lifting_agrees.proofs.LiftLaws.{lift_from, lift_next, lift_short, lift_header, next_whole, next_cut, lift_whole, clean_or_cut, verdict_any}

-- A record that is cut and closes all the same: more of it changes nothing.
closes_cut : (rs : List Request) (b y : List ℕ) (cause : Cause) → 8 ≤ length b → length b < record_size b
    → said_of rs b ≡ Said.Closes cause → said_of rs (b ++ y) ≡ Said.Closes cause
closes_cut rs b y cause header cut said =
    by_test (ltb (length (content_of b)) (two b 4))
    (λ t.
    closes_by (said_of rs (b ++ y)) cause
    (ap close_of (said_by_lem b y header rs)
    ∙ early_close rs (get_or b 1 0) (two b 4) (get_or b 0 0) (two b 2) (content_of b) (content_of (b ++ y)) cause
    (ltb-true (length (content_of b)) (two b 4) t) (ap close_of said)))
    (λ t.
    let l : 8 + two b 4 ≤ length b =
    omega (arith, ltb-false (length (content_of b)) (two b 4) t, length-take (two b 4) (drop 8 b), length-drop 8 b) in
    said_stays b y header rs l ∙ said)

-- ---- all records
module _ (R at : ℕ) (begun : Bool) (rs : List Request) (b y : List ℕ) (cause : Cause) (place : ℕ)
    (header : 8 ≤ length b) where
  abbrev c : Bool
  c = is_copied R begun b

  abbrev by_record : Said → Lifted
  by_record s =
      on_said s (λ rs'. copies (copy_of_record c b) (lift_next R at (begun || c) b rs'))
      (λ cause. ends (ClosedAt cause (min at LARGEST_PLACE)))

  -- the bytes after the record, if they close, stay as they are
  abbrev Later : Type 0
  Later =
      (rs' : List Request)
      → (lift_from R (at + record_size b) (begun || c) rs' (drop (record_size b) b)).verdict ≡ ClosedAt cause place
      → lift_from R (at + record_size b) (begun || c) rs' (drop (record_size b) b ++ y)
      ≡ lift_from R (at + record_size b) (begun || c) rs' (drop (record_size b) b)

  by_said : (s : Said) → said_of rs b ≡ s → (by_record s).verdict ≡ ClosedAt cause place → Later
      → lift_from R at begun rs (b ++ y) ≡ by_record s
  by_said (Said.Closes other) said closed later =
      let more : said_of rs (b ++ y) ≡ Said.Closes other =
      by_test (leb (record_size b) (length b))
      (λ w. said_stays b y header rs (omega (arith, leb-true (record_size b) (length b) w)) ∙ said)
      (λ w. closes_cut rs b y other header (leb-false (record_size b) (length b) w) said) in
      lift_header R at begun rs (b ++ y) (omega (arith, length-append b y)) ∙ rw more refl
  by_said (Said.Goes es rs') said closed later =
      by_test (leb (record_size b) (length b))
      (λ w.
      let whole = leb-true (record_size b) (length b) w in
      let n = next_whole R at (begun || c) rs' b whole in
      lift_whole R at begun rs rs' es b y header whole said
      ∙ ap (copies (copy_of_record c b)) (later rs' (sym (ap (λ (l : Lifted). l.verdict) n) ∙ closed) ∙ sym n))
      (λ w.
      let n = next_cut R at (begun || c) rs' b (leb-false (record_size b) (length b) w) in
      absurd (clean_or_cut false cause (ap word_of (sym (ap (λ (l : Lifted). l.verdict) n) ∙ closed))))

final_short : (R at : ℕ) (begun : Bool) (rs : List Request) (b : List ℕ) (cause : Cause) (place : ℕ) {A : Type 0}
    → length b < 8 → (lift_from R at begun rs b).verdict ≡ ClosedAt cause place → A
final_short R at begun rs b cause place short closed =
    let e = lift_short (length b) R at begun rs b (omega arith) short in
    absurd (clean_or_cut (length b =? 0) cause (ap word_of (sym (ap (λ (l : Lifted). l.verdict) e) ∙ closed)))

final_in : (k R at : ℕ) (begun : Bool) (rs : List Request) (b y : List ℕ) (cause : Cause) (place : ℕ) → length b ≤ k
    → (lift_from R at begun rs b).verdict ≡ ClosedAt cause place
    → lift_from R at begun rs (b ++ y) ≡ lift_from R at begun rs b
final_in zero R at begun rs b y cause place few closed =
    final_short R at begun rs b cause place (omega arith) closed
final_in (suc k) R at begun rs b y cause place few closed =
    by_test (ltb (length b) 8) (λ t. final_short R at begun rs b cause place (ltb-true (length b) 8 t) closed)
    (λ t.
    let header = ltb-false (length b) 8 t in
    let h = lift_header R at begun rs b header in
    let d = length-drop (record_size b) b in
    by_said R at begun rs b y cause place header (said_of rs b) refl (sym (ap (λ (l : Lifted). l.verdict) h) ∙ closed)
    (λ rs'.
    final_in k R (at + record_size b) (begun || is_copied R begun b) rs' (drop (record_size b) b) y cause place
    (omega arith))
    ∙ sym h)

pub lift_final : (R : ℕ) (b y : List ℕ) (cause : Cause) (place : ℕ) → verdict_of b ≡ ClosedAt cause place
    → lift_of R (b ++ y) ≡ lift_of R b
unfolding lift_of
lift_final R b y cause place closed =
    final_in (length b) R 0 false [] b y cause place (omega arith) (sym (verdict_any R b) ∙ closed)

pub close_is_final : (R : ℕ) (b more : List ℕ) (cause : Cause) (at : ℕ) → verdict_of b ≡ ClosedAt cause at
    → (copy_of R (b ++ more) ≡ copy_of R b) × (verdict_of (b ++ more) ≡ ClosedAt cause at)
close_is_final R b more cause at closed = (
  ap (λ (l : Lifted). l.copy) (lift_final R b more cause at closed),
  ap (λ (l : Lifted). l.verdict) (lift_final 1 b more cause at closed) ∙ closed,
)
