-- The lift of a whole capture without its bound: the record at the front, and what comes after it. The verdict does not
-- depend on the request that is lifted, and it is the last word of the plain receiver, with a place for a close.
use Rattle.std.specs.Prelude.{ℕ, zero, suc, ◌+◌, ◌≤◌, ◌<◌, min, ◌≡◌, refl, Bool, true, false, ◌||◌, List, [], ◌++◌, length, drop, ltb, leb, eqb, if◌then◌else◌}
use Rattle.std.proofs.Common.{sym, ap, ap₂, ◌∙◌, arith, length-append, length-drop, drop_of_length-le, lt-ltb, le-ltb, ltb-true, ltb-false, le-leb, eq-eqb, ne_eqb}
use Rattle.std.proofs.lemmas.List.{drop-append-le}
use Rattle.std.proofs.lemmas.Bool.{lt-leb}
use Rattle.wire.specs.Test.{by_test, ◌≤?◌, ◌=?◌}
use Rattle.machine.specs.Cause.{Cause}
use Rattle.connection.specs.Bytewise.{Note}
use Rattle.plain.specs.Plain as P
use Rattle.plain.specs.Plain.{Word, Heard, Request, Said, record_size, follow, hear_in, heard}
use Rattle.lifting.specs.Lift.{Verdict, Clean, Cut, ClosedAt, LARGEST_PLACE, Lifted, is_copied, copy_of_record, ends, copies, on_said, lift_in, lift_of, verdict_of}
use Rattle.lifting_agrees.proofs.CopyRecords.{said_of}
use Rattle.lifting_agrees.proofs.FrontLaws.{size_stays, copied_stays, said_stays, copy_stays}
use Rattle.lifting_agrees.specs.Statement.{word_of}

-- ---- one record, with a bound
-- what is lifted after it
abbrev pub lift_rest : ℕ → ℕ → ℕ → Bool → List ℕ → List Request → Lifted
lift_rest k R at begun b rs =
    if record_size b ≤? length b then lift_in k R (at + record_size b) begun rs (drop (record_size b) b) else ends Cut

pub lift_step : (k R at : ℕ) (begun : Bool) (rs : List Request) (b : List ℕ) → 8 ≤ length b
    → lift_in (suc k) R at begun rs b
    ≡ on_said (said_of rs b)
    (λ rs'. copies (copy_of_record (is_copied R begun b) b) (lift_rest k R at (begun || is_copied R begun b) b rs'))
    (λ cause. ends (ClosedAt cause (min at LARGEST_PLACE)))
unfolding lift_in
lift_step k R at begun rs b header = simp (ne_eqb (length b) 0 (λ z. omega arith), le-ltb (length b) 8 header)

-- less than a header
pub lift_short : (k R at : ℕ) (begun : Bool) (rs : List Request) (b : List ℕ) → length b ≤ k → length b < 8
    → lift_in k R at begun rs b ≡ ends (if length b =? 0 then Clean else Cut)
unfolding lift_in
lift_short zero R at begun rs b few short = simp (eq-eqb (length b) 0 (omega arith))
lift_short (suc k) R at begun rs b few short =
    by_test (eqb (length b) 0) (λ e. simp e) (λ e. simp (e, lt-ltb (length b) 8 short))

-- ---- without the bound
abbrev pub lift_from : ℕ → ℕ → Bool → List Request → List ℕ → Lifted
lift_from R at begun rs b = lift_in (length b) R at begun rs b

same_after : (s : Said) (f g : List Request → Lifted) (h : Cause → Lifted) → ((rs : List Request) → f rs ≡ g rs)
    → on_said s f h ≡ on_said s g h
same_after (Said.Goes es rs) f g h e = e rs
same_after (Said.Closes cause) f g h e = refl

-- Any bound that suffices gives the same.
pub enough : (k m R at : ℕ) (begun : Bool) (rs : List Request) (b : List ℕ) → length b ≤ k → length b ≤ m
    → lift_in k R at begun rs b ≡ lift_in m R at begun rs b
enough zero m R at begun rs b few fits =
    lift_short zero R at begun rs b few (omega arith) ∙ sym (lift_short m R at begun rs b fits (omega arith))
enough (suc k) zero R at begun rs b few fits =
    lift_short (suc k) R at begun rs b few (omega arith) ∙ sym (lift_short zero R at begun rs b fits (omega arith))
enough (suc k) (suc m) R at begun rs b few fits =
    by_test (ltb (length b) 8)
    (λ t.
    let l = ltb-true (length b) 8 t in
    lift_short (suc k) R at begun rs b few l ∙ sym (lift_short (suc m) R at begun rs b fits l))
    (λ t.
    let l = ltb-false (length b) 8 t in
    let d = length-drop (record_size b) b in
    let c = is_copied R begun b in
    lift_step k R at begun rs b l
    ∙ same_after (said_of rs b) _ _ _
    (λ rs'.
    ap
    (λ (w : Lifted). copies (copy_of_record c b) (if record_size b ≤? length b then w else ends Cut))
    (enough k m R (at + record_size b) (begun || c) rs' (drop (record_size b) b) (omega arith) (omega arith)))
    ∙ sym (lift_step m R at begun rs b l))

-- of nothing
pub lift_none : (R at : ℕ) (begun : Bool) (rs : List Request) → lift_from R at begun rs [] ≡ ends Clean
unfolding lift_in
lift_none R at begun rs = refl

-- a record with its header
abbrev pub lift_next : ℕ → ℕ → Bool → List ℕ → List Request → Lifted
lift_next R at begun b rs =
    if record_size b ≤? length b then lift_from R (at + record_size b) begun rs (drop (record_size b) b) else ends Cut

pub lift_header : (R at : ℕ) (begun : Bool) (rs : List Request) (b : List ℕ) → 8 ≤ length b
    → lift_from R at begun rs b
    ≡ on_said (said_of rs b)
    (λ rs'. copies (copy_of_record (is_copied R begun b) b) (lift_next R at (begun || is_copied R begun b) b rs'))
    (λ cause. ends (ClosedAt cause (min at LARGEST_PLACE)))
lift_header R at begun rs b header =
    let c = is_copied R begun b in
    let d = length-drop (record_size b) b in
    enough (length b) (suc (length b)) R at begun rs b (omega arith) (omega arith)
    ∙ lift_step (length b) R at begun rs b header
    ∙ same_after (said_of rs b) _ _ _
    (λ rs'.
    ap
    (λ (w : Lifted). copies (copy_of_record c b) (if record_size b ≤? length b then w else ends Cut))
    (enough (length b) (length (drop (record_size b) b)) R (at + record_size b) (begun || c) rs' (drop (record_size b) b)
    (omega arith) (omega arith)))

-- what is lifted after a record, by whether it is whole
pub next_whole : (R at : ℕ) (begun : Bool) (rs : List Request) (b : List ℕ) → record_size b ≤ length b
    → lift_next R at begun b rs ≡ lift_from R (at + record_size b) begun rs (drop (record_size b) b)
next_whole R at begun rs b whole = simp (le-leb (record_size b) (length b) whole)

pub next_cut : (R at : ℕ) (begun : Bool) (rs : List Request) (b : List ℕ) → length b < record_size b
    → lift_next R at begun b rs ≡ ends Cut
next_cut R at begun rs b cut = simp (lt-leb (record_size b) (length b) cut)

-- nothing is lifted after a record that is not longer than its header says
pub next_nothing : (R at : ℕ) (begun : Bool) (rs : List Request) (b : List ℕ) → length b ≤ record_size b
    → lift_next R at begun b rs ≡ ends (if record_size b ≤? length b then Clean else Cut)
next_nothing R at begun rs b room =
    let none : drop (record_size b) b ≡ [] = drop_of_length-le b {i = record_size b} room in
    by_test (leb (record_size b) (length b))
    (λ w. simp w (ap (lift_from R (at + record_size b) begun rs) none ∙ lift_none R (at + record_size b) begun rs))
    (λ w. simp w)

-- A record that is whole, and bytes after it: what is lifted is the record, and then what they come to.
pub lift_whole : (R at : ℕ) (begun : Bool) (rs rs' : List Request) (es : List Note) (b y : List ℕ) → 8 ≤ length b
    → record_size b ≤ length b → said_of rs b ≡ Said.Goes es rs'
    → lift_from R at begun rs (b ++ y)
    ≡ copies (copy_of_record (is_copied R begun b) b)
    (lift_from R (at + record_size b) (begun || is_copied R begun b) rs' (drop (record_size b) b ++ y))
lift_whole R at begun rs rs' es b y header whole said =
    let n = record_size b in
    let c = is_copied R begun b in
    let long = length-append b y in
    let size = size_stays b y header in
    let t : leb (record_size (b ++ y)) (length (b ++ y)) ≡ true =
    le-leb (record_size (b ++ y)) (length (b ++ y)) (omega arith) in
    let next : lift_next R at (begun || is_copied R begun (b ++ y)) (b ++ y) rs'
    ≡ lift_from R (at + n) (begun || c) rs' (drop n b ++ y) =
    simp t
    (ap₂ (λ (m : ℕ) (k : Bool). lift_from R (at + m) (begun || k) rs' (drop m (b ++ y))) size
    (copied_stays b y header R begun)
    ∙ ap (lift_from R (at + n) (begun || c) rs') (drop-append-le n b y whole)) in
    lift_header R at begun rs (b ++ y) (omega arith)
    ∙ ap
    (λ (s : Said).
    on_said s
    (λ rs'.
    copies (copy_of_record (is_copied R begun (b ++ y)) (b ++ y))
    (lift_next R at (begun || is_copied R begun (b ++ y)) (b ++ y) rs'))
    (λ cause. ends (ClosedAt cause (min at LARGEST_PLACE))))
    (said_stays b y header rs (omega arith) ∙ said)
    ∙ ap₂ copies
    (ap (λ (k : Bool). copy_of_record k (b ++ y)) (copied_stays b y header R begun)
    ∙ copy_stays b y header c (omega arith))
    next

-- ---- the verdict
-- a verdict that is no close
abbrev pub GoingOn : Verdict → Type 0
GoingOn v = (cause : Cause) → word_of v ≡ P.Closed cause → ⊥

-- clean and cut are none
pub clean_or_cut : (t : Bool) → GoingOn (if t then Clean else Cut)
clean_or_cut true cause e = let z : ◌≡◌ {A = ℕ} 0 1 = cc in omega arith
clean_or_cut false cause e = let z : ◌≡◌ {A = ℕ} 0 1 = cc in omega arith

by_word : (s : Said) (f : List Request → Lifted) (h : List Request → Heard) (at : ℕ)
    → ((rs : List Request) → word_of (f rs).verdict ≡ (h rs).word)
    → word_of (on_said s f (λ cause. ends (ClosedAt cause at))).verdict ≡ (follow s h).word
by_word (Said.Goes es rs) f h at e = e rs
by_word (Said.Closes cause) f h at e = refl

-- by a test
verdict_if : (t : Bool) (v w : Lifted) (f g : Heard) → word_of v.verdict ≡ f.word → word_of w.verdict ≡ g.word
    → word_of (if t then v else w).verdict ≡ (if t then f else g).word
verdict_if true v w f g p q = p
verdict_if false v w f g p q = q

lift_word : (k R at : ℕ) (begun : Bool) (rs : List Request) (b : List ℕ)
    → word_of (lift_in k R at begun rs b).verdict ≡ (hear_in k rs b).word
unfolding lift_in hear_in
lift_word zero R at begun rs b = refl
lift_word (suc k) R at begun rs b =
    verdict_if (eqb (length b) 0) _ _ _ _ refl
    (verdict_if (ltb (length b) 8) _ _ _ _ refl
    (by_word (said_of rs b) _ _ _
    (λ rs'.
    verdict_if (leb (record_size b) (length b)) _ _ _ _
    (lift_word k R (at + record_size b) (begun || is_copied R begun b) rs' (drop (record_size b) b)) refl)))

-- A capture's verdict is the last word of the plain receiver.
pub verdict_word : (b : List ℕ) → word_of (verdict_of b) ≡ (heard b).word
unfolding lift_of heard
verdict_word b = lift_word (length b) 1 0 false [] b

-- The verdict is the same for every request.
by_verdict : (s : Said) (f g : List Request → Lifted) (h : Cause → Lifted)
    → ((rs : List Request) → (f rs).verdict ≡ (g rs).verdict) → (on_said s f h).verdict ≡ (on_said s g h).verdict
by_verdict (Said.Goes es rs) f g h e = e rs
by_verdict (Said.Closes cause) f g h e = refl

same_if : (t : Bool) (v w v' w' : Lifted) → v.verdict ≡ v'.verdict → w.verdict ≡ w'.verdict
    → (if t then v else w).verdict ≡ (if t then v' else w').verdict
same_if true v w v' w' p q = p
same_if false v w v' w' p q = q

any_request : (k R S at : ℕ) (begun started : Bool) (rs : List Request) (b : List ℕ)
    → (lift_in k R at begun rs b).verdict ≡ (lift_in k S at started rs b).verdict
unfolding lift_in
any_request zero R S at begun started rs b = refl
any_request (suc k) R S at begun started rs b =
    same_if (eqb (length b) 0) _ _ _ _ refl
    (same_if (ltb (length b) 8) _ _ _ _ refl
    (by_verdict (said_of rs b) _ _ _
    (λ rs'.
    same_if (leb (record_size b) (length b)) _ _ _ _
    (any_request k R S (at + record_size b) (begun || is_copied R begun b) (started || is_copied S started b) rs'
    (drop (record_size b) b))
    refl)))

pub verdict_any : (R : ℕ) (b : List ℕ) → verdict_of b ≡ (lift_of R b).verdict
unfolding lift_of
verdict_any R b = any_request (length b) 1 R 0 false false [] b
