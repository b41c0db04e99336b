-- Bytes fed in any cutting come to what their records mean.
use Rattle.std.specs.Prelude.{ℕ, ◌+◌, ◌-◌, ◌≤◌, ◌<◌, ◌≡◌, refl, Bool, true, false, List, [], ◌∷◌, ◌++◌, length, take, drop, ltb, leb}
use Rattle.std.proofs.Common.{sym, ap, ap₂, ◌∙◌, subst, append_assoc, arith, length-drop, take-append-drop, take_all, length-take-le, drop-drop, lt-ltb, ltb-true, ltb-false, leb-true, leb-false, eq-eqb}
use Rattle.wire.specs.Test.{by_test}
use Rattle.record.specs.Header.{header_of}
use Rattle.record.specs.declared.header.Header.{Header}
use Rattle.record.specs.Split.{Record, Split, front_length, whole_front, front, split}
use Rattle.record.proofs.SplitLaws.{whole_front_lem, front_whole, header_front, by_records, split_whole, split_cut}
use Rattle.connection.specs.declared.state.Frame.{Frame}
use Rattle.connection.specs.Sizes.{QUERY, STORE}
use Rattle.connection.specs.Step.{State, state_of, no_frame, frame_at, started}
use Rattle.connection.specs.Bytewise.{Run, resting, ◌then-run◌, by_byte, fed, fed_pieces, joined}
use Rattle.wire.proofs.Bytes.{AllBytes, take_bytes, drop_bytes, append_bytes}
use Rattle.connection.proofs.Laws.StepShape.{start_in_shape}
use Rattle.connection.proofs.Laws.StepSizes.{start_sizes}
use Rattle.connection.proofs.Laws.Cutting.{by_byte_append, by_byte_closed, cutting, pieces_by_byte}
use Rattle.meaning.specs.Meaning.{header_means, header_for, record_means, rest_means, records_mean, means}
use Rattle.meaning.proofs.Steps.{Between, part_bytes_lem}
use Rattle.meaning.proofs.OneRecord.{Sound, stays_sound, reading, follows, header_content_lem, ends_between, record_bytes_lem}

-- ---- the fold, from an open state and from a closed one
records_shut : (rs : List Record) (rest : List ℕ) (st : State) (store : List ℕ) → st.conn.«open» ≡ false → records_mean rs rest st store ≡ resting st store
unfolding records_mean
records_shut [] rest st store o = simp o
records_shut (r ∷ rs) rest st store o = simp o

records_next : (r : Record) (rs : List Record) (rest : List ℕ) (st : State) (store : List ℕ) → st.conn.«open» ≡ true
    → records_mean (r ∷ rs) rest st store ≡ record_means st store r then-run records_mean rs rest
unfolding records_mean
records_next r rs rest st store o = simp o

records_rest : (rest : List ℕ) (st : State) (store : List ℕ) → st.conn.«open» ≡ true → records_mean [] rest st store ≡ rest_means st store rest
unfolding records_mean
records_rest rest st store o = simp o

-- ---- the cut rest
-- the first eight bytes say what the header says
first_says_lem : (b : List ℕ) → 8 ≤ length b → header_of (take 8 b) ≡ header_of b
first_says_lem b l = sym (header_front (take 8 b) (drop 8 b) (omega (arith, length-take-le 8 b l))) ∙ ap header_of (take-append-drop 8 b)

rest_part : (st : State) (store b : List ℕ) → Between st store → length b < 8 → by_byte st store b ≡ rest_means st store b
unfolding rest_means by_byte
rest_part st store [] k l =
    let same : st.conn.frame ≡ frame_at st.conn.frame no_frame.position = k.frame ∙ sym (ap (λ (f : Frame). frame_at f no_frame.position) k.frame) in
    ap₂ (λ (f : Frame) (o : Bool). resting (state_of (record { table = st.conn.table; frame = f; «open» = o }) st.gathered) store) same k.is_open
rest_part st store (b ∷ x) k l = simp (lt-ltb (length (b ∷ x)) 8 l) (part_bytes_lem st store (b ∷ x) k (omega arith) l)

module _ (st : State) (store b : List ℕ) (k : Between st store) (all : AllBytes b) (header : 8 ≤ length b) where
  abbrev c : ℕ
  c = (header_of b).content

  abbrev p : ℕ
  p = (header_of b).padding

  eight : length (take 8 b) ≡ 8
  eight = length-take-le 8 b header

  behind : length (drop 8 b) ≡ length b - 8
  behind = length-drop 8 b

  -- a part of its content
  rest_content : length b - 8 ≤ c → by_byte st store b ≡ header_means st store (header_of b) (take c (drop 8 b)) (c - (length b - 8)) (p - (length b - 8 - c))
  rest_content l =
      let says = first_says_lem b header in
      let x : take c (drop 8 b) ≡ drop 8 b = take_all c (drop 8 b) (omega (arith, behind)) in
      let n : c - length (drop 8 b) ≡ c - (length b - 8) = omega (arith, behind) in
      let m : p ≡ p - (length b - 8 - c) = omega arith in
      ap (by_byte st store) (sym (take-append-drop 8 b))
      ∙ header_content_lem st store (take 8 b) (drop 8 b) k (take_bytes 8 b all) eight (rw says (omega (arith, behind)))
      ∙ ap (λ (h : Header). header_means st store h (drop 8 b) (h.content - length (drop 8 b)) h.padding) says
      ∙ ap₂ (header_means st store (header_of b) (drop 8 b)) n m
      ∙ ap (λ (u : List ℕ). header_means st store (header_of b) u (c - (length b - 8)) (p - (length b - 8 - c))) (sym x)

  -- all of its content, and a part of its padding or all of it
  rest_padding : c ≤ length b - 8 → length b - 8 - c ≤ p
      → by_byte st store b ≡ header_means st store (header_of b) (take c (drop 8 b)) 0 (p - (length b - 8 - c))
  rest_padding l room =
      let says = first_says_lem b header in
      let x = take c (drop 8 b) in
      let y = drop c (drop 8 b) in
      let hx : length x ≡ c = length-take-le c (drop 8 b) (omega (arith, behind)) in
      let hy : length y ≡ length b - 8 - c = length-drop c (drop 8 b) ∙ ap (λ (n : ℕ). n - c) behind in
      ap (by_byte st store) (sym (ap (λ (u : List ℕ). take 8 b ++ u) (take-append-drop c (drop 8 b)) ∙ take-append-drop 8 b))
      ∙ record_bytes_lem st store (take 8 b) x y k (take_bytes 8 b all) (take_bytes c (drop 8 b) (drop_bytes 8 b all)) eight
      (hx ∙ sym (ap (λ (h : Header). h.content) says)) (rw says (omega arith))
      ∙ ap (λ (h : Header). header_means st store h x 0 (h.padding - length y)) says
      ∙ ap (λ (n : ℕ). header_means st store (header_of b) x 0 (p - n)) hy

rest_read : (st : State) (store b : List ℕ) → Between st store → AllBytes b → whole_front b ≡ false → by_byte st store b ≡ rest_means st store b
unfolding rest_means front_length
rest_read st store b k all t =
    by_test (ltb (length b) 8) (λ e. rest_part st store b k (ltb-true (length b) 8 e))
    (λ e.
    let header = ltb-false (length b) 8 e in
    let c = (header_of b).content in
    let p = (header_of b).padding in
    by_test (leb c (length b - 8))
    (λ f.
    let within = leb-true c (length b - 8) f in
    let z : 0 ≡ c - (length b - 8) = omega arith in
    simp e
    (by_test (leb (front_length b) (length b))
    (λ g. let w : ◌≡◌ {A = ℕ} 0 1 = cc (front_whole b header (leb-true (front_length b) (length b) g), t) in absurd (omega arith))
    (λ g.
    rest_padding st store b k all header within (omega (arith, leb-false (front_length b) (length b) g))
    ∙ ap (λ (n : ℕ). header_means st store (header_of b) (take c (drop 8 b)) n (p - (length b - 8 - c))) z)))
    (λ f. simp e (rest_content st store b k all header (omega (arith, leb-false c (length b - 8) f)))))

-- ---- a whole record at the front
-- its bytes: header, content, padding
abbrev front_bytes : List ℕ → ℕ → ℕ → List ℕ
front_bytes b c p = take 8 b ++ (take c (drop 8 b) ++ take p (drop (8 + c) b))

taken_apart : (b : List ℕ) (c p : ℕ) → b ≡ front_bytes b c p ++ drop (8 + c + p) b
taken_apart b c p =
    let y = take p (drop (8 + c) b) in
    let rest = drop (8 + c + p) b in
    sym
    (append_assoc (take 8 b) (take c (drop 8 b) ++ y) rest
    ∙ ap (λ (u : List ℕ). take 8 b ++ u)
    (append_assoc (take c (drop 8 b)) y rest
    ∙ ap (λ (u : List ℕ). take c (drop 8 b) ++ u)
    (ap (λ (u : List ℕ). y ++ u) (sym (drop-drop p (8 + c) b)) ∙ take-append-drop p (drop (8 + c) b) ∙ sym (drop-drop c 8 b))
    ∙ take-append-drop c (drop 8 b))
    ∙ take-append-drop 8 b)

front_read : (st : State) (store b : List ℕ) → Between st store → AllBytes b → whole_front b ≡ true
    → by_byte st store (front_bytes b (header_of b).content (header_of b).padding) ≡ record_means st store (front b)
unfolding front_length front
front_read st store b k all t =
    let w = whole_front_lem b t in
    let c = (header_of b).content in
    let p = (header_of b).padding in
    let x = take c (drop 8 b) in
    let y = take p (drop (8 + c) b) in
    let says = first_says_lem b w.header in
    let hx : length x ≡ c = length-take-le c (drop 8 b) (omega (arith, length-drop 8 b, w.within)) in
    let hy : length y ≡ p = length-take-le p (drop (8 + c) b) (omega (arith, length-drop (8 + c) b, w.within)) in
    let z : p - length y ≡ 0 = omega arith in
    record_bytes_lem st store (take 8 b) x y k (take_bytes 8 b all) (take_bytes c (drop 8 b) (drop_bytes 8 b all)) (length-take-le 8 b w.header)
    (hx ∙ sym (ap (λ (h : Header). h.content) says)) (rw says (omega arith))
    ∙ ap (λ (h : Header). header_means st store h x 0 (h.padding - length y)) says
    ∙ ap (header_means st store (header_of b) x 0) z
    ∙ ap (λ (n : ℕ). header_means st store (record { version = (header_of b).version; kind = (header_of b).kind; id = (header_of b).id; content = n; padding = p }) x 0 0) (sym hx)

-- ---- all of the bytes
-- Where a whole record left the connection open it stands between two records, and what holds from there holds; a
-- closed one stays as it is.
behind_front : (st : State) (store b rest : List ℕ) (s : Split) → Between st store → AllBytes b → whole_front b ≡ true
    → ((st' : State) (store' : List ℕ) → Between st' store' → by_byte st' store' rest ≡ records_mean s.records s.rest st' store')
    → record_means st store (front b) then-run reading rest ≡ record_means st store (front b) then-run records_mean s.records s.rest
unfolding front_length front
behind_front st store b rest s k all t ih =
    let c = (header_of b).content in
    let p = (header_of b).padding in
    let r = record_means st store (front b) in
    let bytes : AllBytes (front_bytes b c p) =
    append_bytes (take 8 b) (take c (drop 8 b) ++ take p (drop (8 + c) b)) (take_bytes 8 b all)
    (append_bytes (take c (drop 8 b)) (take p (drop (8 + c) b)) (take_bytes c (drop 8 b) (drop_bytes 8 b all)) (take_bytes p (drop (8 + c) b) (drop_bytes (8 + c) b all))) in
    let sound : Sound r = subst Sound (front_read st store b k all t) (stays_sound st store (front_bytes b c p) k bytes) in
    follows r (reading rest) (records_mean s.records s.rest)
    (by_test r.state.conn.«open»
    (λ o.
    ih r.state r.store
    (record { frame = ends_between st store (header_for (front b)) (front b).content refl; is_open = o; shape = sound.shape; sizes = sound.sizes }))
    (λ o. by_byte_closed rest r.state r.store o ∙ sym (records_shut s.records s.rest r.state r.store o)))

-- The bytes one by one, from a state between two records, come to what they mean.
pub byte_by_byte_means : (b : List ℕ) (st : State) (store : List ℕ) → Between st store → AllBytes b → by_byte st store b ≡ means st store b
unfolding means front_length
byte_by_byte_means =
    by_records (λ b. (st : State) (store : List ℕ) → Between st store → AllBytes b → by_byte st store b ≡ means st store b)
    (λ b t st store k all.
    rest_read st store b k all t
    ∙ sym (records_rest b st store k.is_open)
    ∙ ap (λ (s : Split). records_mean s.records s.rest st store) (sym (split_cut b t)))
    (λ b t ih st store k all.
    let c = (header_of b).content in
    let p = (header_of b).padding in
    let rest = drop (8 + c + p) b in
    let s = split rest in
    ap (by_byte st store) (taken_apart b c p)
    ∙ by_byte_append (front_bytes b c p) st store rest
    ∙ ap (λ (r : Run). r then-run reading rest) (front_read st store b k all t)
    ∙ behind_front st store b rest s k all t (λ st' store' k'. ih st' store' k' (drop_bytes (8 + c + p) b all))
    ∙ sym (records_next (front b) s.records s.rest st store k.is_open)
    ∙ ap (λ (s : Split). records_mean s.records s.rest st store) (sym (split_whole b t)))

-- Fed in any pieces, from a state between two records, bytes come to what they mean: the same state, the same store,
-- the same notes.
pub any_cutting_means : (pieces : List (List ℕ)) (st : State) (store : List ℕ) → Between st store → AllBytes (joined pieces)
    → fed_pieces st store pieces ≡ means st store (joined pieces)
any_cutting_means pieces st store k all = pieces_by_byte pieces st store k.sizes ∙ byte_by_byte_means (joined pieces) st store k all

-- In one piece, with as many steps as bytes or more, too.
pub one_piece_means : (k : ℕ) (b : List ℕ) (st : State) (store : List ℕ) → Between st store → AllBytes b → length b ≤ k → fed k st store b ≡ means st store b
one_piece_means k b st store between all l = cutting k st store b between.sizes l ∙ byte_by_byte_means b st store between all

-- A fresh start stands between two records.
pub start_between : (gathered store : List ℕ) → length gathered ≡ QUERY → length store ≡ STORE
    → Between (started gathered store).state (started gathered store).store
unfolding started
start_between gathered store g s =
    let e = eq-eqb (length store) STORE s in
    record { frame = simp e; is_open = simp e; shape = start_in_shape gathered store; sizes = start_sizes gathered store g s }

-- So it is from a fresh start.
pub from_a_start : (pieces : List (List ℕ)) (gathered store : List ℕ) → length gathered ≡ QUERY → length store ≡ STORE → AllBytes (joined pieces)
    → fed_pieces (started gathered store).state (started gathered store).store pieces
    ≡ means (started gathered store).state (started gathered store).store (joined pieces)
from_a_start pieces gathered store g s all =
    any_cutting_means pieces (started gathered store).state (started gathered store).store (start_between gathered store g s) all
