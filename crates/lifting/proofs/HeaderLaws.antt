-- What the code's numbers say of a header: when it is whole, what it is then, and what is written of one that waits.
use Rattle.std.specs.Prelude.{ℕ, ◌+◌, ◌-◌, min, ◌≡◌, refl, true, List, [], ◌++◌, length, take, drop, eqb, leb}
use Rattle.std.proofs.Common.{sym, ap, ◌∙◌, append-nil, arith, length-append, length-take, length-drop, drop_of_length-le, take_all, eqb-true, eq-eqb, ne_eqb, leb-true, leb-false}
use Rattle.std.proofs.lemmas.Bool.{eqb-false}
use Rattle.wire.specs.Test.{by_test}
use Rattle.wire.specs.Buffer.{copied, put_at}
use Rattle.wire.proofs.BufferLaws.{copied_room}
use Rattle.record_reader.specs.declared.Position.{Position}
use Rattle.lifting.specs.Call.{Lifting, Lifted, header_with, completes, waiting_bytes, with_waiting, header_written}

-- the first n, where there may be fewer
pub take_short : (n : ℕ) (l : List ℕ) → take (min n (length l)) l ≡ take n l
take_short n l =
    by_test (leb n (length l))
    (λ t. let h = leb-true n (length l) t in let m : min n (length l) ≡ n = omega arith in ap (λ (k : ℕ). take k l) m)
    (λ t.
    let h = leb-false n (length l) t in
    take_all (min n (length l)) l (omega arith) ∙ sym (take_all n l (omega arith)))

-- ---- a header that bytes make whole
header_length : (p : Position) (x : List ℕ) → length p.header ≡ 8
    → length (header_with p x) ≡ min p.held 8 + length x
header_length p x l =
    length-append (take p.held p.header) x
    ∙ ap (λ (k : ℕ). k + length x) (length-take p.held p.header ∙ ap (min p.held) l)

pub whole_test : (p : Position) (x : List ℕ) → length p.header ≡ 8
    → eqb (8 - min p.held 8) (length x) ≡ eqb (length (header_with p x)) 8
whole_test p x l =
    let n = header_length p x l in
    by_test (eqb (8 - min p.held 8) (length x))
    (λ t. t ∙ sym (eq-eqb (length (header_with p x)) 8 (omega (arith, n, eqb-true (8 - min p.held 8) (length x) t))))
    (λ t.
    let other = eqb-false (8 - min p.held 8) (length x) t in
    t ∙ sym (ne_eqb (length (header_with p x)) 8 (λ e. other (omega (arith, n, e)))))

completed : (p : Position) (x : List ℕ) → completes p x ≡ true → length (header_with p x) ≡ 8
completed p x e =
    by_test (eqb p.content 0)
    (λ a.
    by_test (eqb p.padding 0)
    (λ b. eqb-true (length (header_with p x)) 8 (simp (a, b) at e))
    (λ b. let z : ◌≡◌ {A = ℕ} 0 1 = cc (simp (a, b) at e) in absurd (omega arith)))
    (λ a. let z : ◌≡◌ {A = ℕ} 0 1 = cc (simp a at e) in absurd (omega arith))

pub whole_header : (p : Position) (x : List ℕ) → length p.header ≡ 8 → completes p x ≡ true
    → copied p.header (min p.held 8) x ≡ header_with p x
whole_header p x l e =
    let n = header_length p x l in
    let w = completed p x e in
    let d : drop (min p.held 8 + length x) p.header ≡ [] =
    drop_of_length-le p.header {i = min p.held 8 + length x} (omega (arith, n, w)) in
    let t : take (min p.held 8) p.header ≡ take p.held p.header =
    ap (λ (k : ℕ). take (min p.held k) p.header) (sym l) ∙ take_short p.held p.header in
    copied_room p.header (min p.held 8) x (omega (arith, n, w))
    ∙ ap (λ (u : List ℕ). take (min p.held 8) p.header ++ x ++ u) d
    ∙ append-nil (take (min p.held 8) p.header ++ x)
    ∙ ap (λ (u : List ℕ). u ++ x) t

-- ---- a header that waits
-- its last bytes, and how many they are
waiting_length : (header : List ℕ) (waiting : ℕ) → length header ≡ 8
    → length (drop (8 - waiting) header) ≡ min waiting 8
waiting_length header waiting l =
    let n : 8 - (8 - waiting) ≡ min waiting 8 = omega arith in
    length-drop (8 - waiting) header ∙ ap (λ (k : ℕ). k - (8 - waiting)) l ∙ n

unless_more : (waiting : ℕ) → 8 - min waiting 8 ≡ 8 - waiting
unless_more waiting = omega arith

span : (a e n w room : ℕ) → n ≡ min w room → e ≡ a + n → e - a ≡ min room w
span a e n w room nn en = omega arith

-- of its w last bytes the first n
pub waiting_part : (header : List ℕ) (waiting room w n a e : ℕ) → length header ≡ 8 → w ≡ min waiting 8
    → n ≡ min w room → a ≡ 8 - w → e ≡ a + n
    → take (e - a) (drop a header) ≡ take room (drop (8 - waiting) header)
waiting_part header waiting room w n a e l wn nn an en =
    let same = unless_more waiting in
    let b = drop (8 - waiting) header in
    let k = span a e n w room nn en in
    ap (λ (i : ℕ). take (e - a) (drop i header)) (an ∙ ap (λ (i : ℕ). 8 - i) wn ∙ same)
    ∙ ap (λ (i : ℕ). take i b) (k ∙ ap (min room) (wn ∙ sym (waiting_length header waiting l)))
    ∙ take_short room b

abbrev pub wrote : ℕ → Lifting → List ℕ → List ℕ → Lifted
wrote n l store buffer =
    record { refusal = 0; used = 0; written = n; lifting = l; store = store; buffer = buffer }

pub header_written_lem : (l : Lifting) (store buffer x : List ℕ) (w n : ℕ) → length l.header ≡ 8
    → x ≡ take (length buffer) (waiting_bytes l) → w ≡ min l.waiting 8 → n ≡ min w (length buffer)
    → wrote n (with_waiting l (w - n)) store (copied buffer 0 x) ≡ header_written l store buffer
unfolding header_written
header_written_lem l store buffer x w n h xe we ne =
    let y = take (length buffer) (waiting_bytes l) in
    let len : w ≡ length (waiting_bytes l) = we ∙ sym (waiting_length l.header l.waiting h) in
    let got = length-take (length buffer) (waiting_bytes l) in
    let n' : n ≡ length y = ne ∙ ap (λ (k : ℕ). min k (length buffer)) len ∙ omega (arith, got) in
    let b : copied buffer 0 x ≡ put_at buffer 0 y =
    ap (copied buffer 0) xe ∙ copied_room buffer 0 y (omega (arith, got)) in
    rw (n', len, b) refl
