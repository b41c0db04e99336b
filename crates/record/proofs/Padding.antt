-- Padding and reserved bytes say nothing, and padding can be dropped (FastCGI 1.0, section 3.3).
use Rattle.std.specs.Prelude.{ℕ, zero, suc, ◌+◌, ◌*◌, ◌-◌, ◌≤◌, ◌<◌, ◌≡◌, refl, true, false, List, [], ◌∷◌, ◌++◌, map, length, take, drop, if◌then◌else◌}
use Rattle.std.proofs.Common.{sym, ap, ap₂, ◌∙◌, arith, length-append, length-drop, length-take, length-take-le, get_or-take}
use Rattle.std.proofs.Math.ListN.{get_or-append}
use Rattle.std.proofs.lemmas.List.{get_or_at}
use Rattle.wire.specs.Test.{by_test}
use Rattle.wire.specs.Buffer.{byte_at}
use Rattle.record.specs.declared.header.Header.{Header}
use Rattle.record.specs.Names.{HEADER_LEN}
use Rattle.record.specs.Header.{header_of}
use Rattle.record.specs.Split.{Record, Split, front_length, whole_front, front, ◌then-split◌, split}
use Rattle.record.proofs.SplitLaws.{whole_front_lem, by_records, split_whole, split_cut, front_long, record_with, split_record}

-- Two lists of bytes that differ only in a reserved byte and in padding bytes split alike.
pub padding_says_nothing : (v k i1 i0 c1 c0 p r r' : ℕ) (x y y' rest : List ℕ) → length x ≡ c1 * 256 + c0 → length y ≡ p → length y' ≡ p
    → split ((v ∷ k ∷ i1 ∷ i0 ∷ c1 ∷ c0 ∷ p ∷ r ∷ []) ++ (x ++ (y ++ rest))) ≡ split ((v ∷ k ∷ i1 ∷ i0 ∷ c1 ∷ c0 ∷ p ∷ r' ∷ []) ++ (x ++ (y' ++ rest)))
unfolding header_of
padding_says_nothing v k i1 i0 c1 c0 p r r' x y y' rest hx hy hy' =
    split_record (v ∷ k ∷ i1 ∷ i0 ∷ c1 ∷ c0 ∷ p ∷ r ∷ []) x y rest refl hx hy ∙ sym (split_record (v ∷ k ∷ i1 ∷ i0 ∷ c1 ∷ c0 ∷ p ∷ r' ∷ []) x y' rest refl hx hy')

-- ---- dropping padding
-- a header with its padding length made 0, all else as it is
abbrev pub bare_header : List ℕ → List ℕ
bare_header b = take 6 b ++ (0 ∷ drop 7 (take HEADER_LEN b))

-- Every whole record without its padding, then the rest as it is. (The first argument bounds the number of records.)
unfoldable pub unpadded_in : ℕ → List ℕ → List ℕ
unpadded_in zero b = b
unpadded_in (suc k) b =
    if whole_front b then bare_header b ++ (take (header_of b).content (drop HEADER_LEN b) ++ unpadded_in k (drop (front_length b) b))
    else b

unfoldable pub unpadded : List ℕ → List ℕ
unfolding unpadded_in
unpadded b = unpadded_in (length b) b

enough : (k k' : ℕ) (b : List ℕ) → length b ≤ k → length b ≤ k' → unpadded_in k b ≡ unpadded_in k' b
unfolding unpadded_in
enough zero zero b h h' = refl
enough zero (suc k') b h h' = by_test (whole_front b) (λ t. absurd (omega (arith, (whole_front_lem b t).header))) (λ t. simp t)
enough (suc k) zero b h h' = by_test (whole_front b) (λ t. absurd (omega (arith, (whole_front_lem b t).header))) (λ t. simp t)
enough (suc k) (suc k') b h h' = by_test (whole_front b) (λ t. go t (enough k k' (drop (front_length b) b))) (λ t. simp t)
  where
    go : whole_front b ≡ true → (length (drop (front_length b) b) ≤ k → length (drop (front_length b) b) ≤ k' → unpadded_in k (drop (front_length b) b) ≡ unpadded_in k' (drop (front_length b) b))
        → unpadded_in (suc k) b ≡ unpadded_in (suc k') b
    go t f =
        let d : length (drop (front_length b) b) ≡ length b - front_length b = length-drop (front_length b) b in
        let w = whole_front_lem b t in
        simp t (ap (λ (u : List ℕ). bare_header b ++ (take (header_of b).content (drop 8 b) ++ u)) (f (omega (arith, front_long b)) (omega (arith, front_long b))))

unpadded_whole : (b : List ℕ) → whole_front b ≡ true
    → unpadded b ≡ bare_header b ++ (take (header_of b).content (drop HEADER_LEN b) ++ unpadded (drop (front_length b) b))
unfolding unpadded unpadded_in
unpadded_whole b t =
    let d : length (drop (front_length b) b) ≡ length b - front_length b = length-drop (front_length b) b in
    let w = whole_front_lem b t in
    enough (length b) (suc (length b)) b (omega arith) (omega arith)
    ∙ simp t
    (ap (λ (u : List ℕ). bare_header b ++ (take (header_of b).content (drop 8 b) ++ u)) (enough (length b) (length (drop (front_length b) b)) (drop (front_length b) b) (omega arith) (omega arith)))

unpadded_cut : (b : List ℕ) → whole_front b ≡ false → unpadded b ≡ b
unfolding unpadded unpadded_in
unpadded_cut b t = enough (length b) (suc (length b)) b (omega arith) (omega arith) ∙ simp t

-- the header so made says the same, but no padding
abbrev bare_header_lem : Header → Header
bare_header_lem h = record { version = h.version; kind = h.kind; id = h.id; content = h.content; padding = 0 }

bare_says : (b : List ℕ) → 8 ≤ length b → header_of (bare_header b) ≡ bare_header_lem (header_of b)
unfolding header_of
bare_says b h =
    let six : length (take 6 b) ≡ 6 = length-take-le 6 b (omega arith) in
    let at : (k : ℕ) → k < 6 → byte_at (bare_header b) k ≡ byte_at b k =
    λ k l. get_or-append (take 6 b) (0 ∷ drop 7 (take 8 b)) 0 k (omega arith) ∙ get_or-take 6 b k 0 l in
    let none : byte_at (bare_header b) 6 ≡ 0 = get_or_at (take 6 b) 0 (drop 7 (take 8 b)) 0 6 six in
    rw (at 0 (omega arith), at 1 (omega arith), at 2 (omega arith), at 3 (omega arith), at 4 (omega arith), at 5 (omega arith), none)

bare_length : (b : List ℕ) → 8 ≤ length b → length (bare_header b) ≡ 8
bare_length b h = simp (length-append, length-take, length-drop) (omega arith)

-- a record without its padding
abbrev pub bare : Record → Record
bare r = record { version = r.version; kind = r.kind; id = r.id; content = r.content; padding = 0 }

-- Dropping padding changes no record's version, type, id and content, and leaves the rest.
pub padding_dropped : (b : List ℕ) → split (unpadded b) ≡ record { records = map bare (split b).records; rest = (split b).rest }
unfolding front front_length
padding_dropped =
    by_records (λ b. split (unpadded b) ≡ record { records = map bare (split b).records; rest = (split b).rest })
    (λ b t. rw (unpadded_cut b t, split_cut b t))
    (λ b t ih.
    let w = whole_front_lem b t in
    let says = bare_says b w.header in
    let x = take (header_of b).content (drop 8 b) in
    let l : length x ≡ (header_of b).content = length-take-le (header_of b).content (drop 8 b) (omega (arith, length-drop 8 b, w.within)) in
    ap split (unpadded_whole b t)
    ∙ split_record (bare_header b) x [] (unpadded (drop (front_length b) b)) (bare_length b w.header) (l ∙ sym (ap (λ (h : Header). h.content) says)) (sym (ap (λ (h : Header). h.padding) says))
    ∙ ap₂ (λ (h : Header) (s : Split). (record_with h x ∷ []) then-split s) says ih
    ∙ rw (split_whole b t))
