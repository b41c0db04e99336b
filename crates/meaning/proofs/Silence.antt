-- What a meaning does not rest on: padding, and records of an id that is not active. And where whole records end.
use Rattle.std.specs.Prelude.{ℕ, zero, suc, ◌≡◌, refl, Bool, true, List, [], ◌∷◌, ◌++◌, map, length, take, drop, None}
use Rattle.std.proofs.Common.{sym, ap, ap₂, ◌∙◌, subst, arith, eq-eqb, ne_eqb}
use Rattle.wire.specs.Test.{by_test}
use Rattle.record.specs.Names.{VERSION, BEGIN_REQUEST}
use Rattle.record.specs.Split.{Record, Split, front_length, whole_front, split}
use Rattle.record.proofs.Padding.{bare_header, unpadded_in, unpadded, bare, padding_dropped}
use Rattle.record.specs.Header.{header_of}
use Rattle.connection.specs.declared.state.Frame.{Frame}
use Rattle.connection.specs.Slots.{find}
use Rattle.connection.specs.Step.{State, state_of, no_frame, open_with, on_inactive, judged}
use Rattle.connection.specs.Bytewise.{Run, resting, ◌then-run◌, by_byte, fed_pieces, joined}
use Rattle.wire.proofs.Bytes.{AllBytes, zeros_bytes, take_bytes, drop_bytes, append_bytes}
use Rattle.meaning.specs.Meaning.{content_means, header_means, header_for, record_means, rest_means, records_mean, means}
use Rattle.meaning.proofs.Steps.{Between}
use Rattle.meaning.proofs.OneRecord.{follows, stays_sound, ends_between}
use Rattle.meaning.proofs.Theorem.{byte_by_byte_means, any_cutting_means}

-- ---- padding
-- a record means the same without its padding
bare_means : (r : Record) (st : State) (store : List ℕ) → record_means st store (bare r) ≡ record_means st store r
unfolding header_means
bare_means r st store = refl

bares_mean : (rs : List Record) (rest : List ℕ) (st : State) (store : List ℕ) → records_mean (map bare rs) rest st store ≡ records_mean rs rest st store
unfolding records_mean
bares_mean [] rest st store = refl
bares_mean (r ∷ rs) rest st store =
    let m = record_means st store r in
    let e : record_means st store (bare r) then-run records_mean (map bare rs) rest ≡ m then-run records_mean rs rest =
    ap (λ (w : Run). w then-run records_mean (map bare rs) rest) (bare_means r st store)
    ∙ follows m (records_mean (map bare rs) rest) (records_mean rs rest) (bares_mean rs rest m.state m.store) in
    by_test st.conn.«open» (λ o. simp o e) (λ o. simp o)

-- Bytes mean the same when the padding of every whole record is dropped.
pub unpadded_means : (b : List ℕ) (st : State) (store : List ℕ) → means st store (unpadded b) ≡ means st store b
unfolding means
unpadded_means b st store =
    ap (λ (s : Split). records_mean s.records s.rest st store) (padding_dropped b) ∙ bares_mean (split b).records (split b).rest st store

-- Bytes whose records differ in padding alone, and whose rests are the same, mean the same.
pub same_but_padding : (b c : List ℕ) (st : State) (store : List ℕ) → map bare (split b).records ≡ map bare (split c).records → (split b).rest ≡ (split c).rest
    → means st store b ≡ means st store c
unfolding means
same_but_padding b c st store records rest =
    sym (bares_mean (split b).records (split b).rest st store)
    ∙ ap₂ (λ (rs : List Record) (l : List ℕ). records_mean rs l st store) records rest
    ∙ bares_mean (split c).records (split c).rest st store

-- what is left are bytes
unpadded_bytes : (n : ℕ) (b : List ℕ) → AllBytes b → AllBytes (unpadded_in n b)
unfolding unpadded_in
unpadded_bytes zero b all = all
unpadded_bytes (suc n) b all =
    let c = (header_of b).content in
    let header : AllBytes (bare_header b) =
    append_bytes (take 6 b) ((0 ∷ []) ++ drop 7 (take 8 b)) (take_bytes 6 b all)
    (append_bytes (0 ∷ []) (drop 7 (take 8 b)) (zeros_bytes 1) (drop_bytes 7 (take 8 b) (take_bytes 8 b all))) in
    by_test (whole_front b)
    (λ t. simp t
    (append_bytes (bare_header b) (take c (drop 8 b) ++ unpadded_in n (drop (front_length b) b)) header
    (append_bytes (take c (drop 8 b)) (unpadded_in n (drop (front_length b) b)) (take_bytes c (drop 8 b) (drop_bytes 8 b all))
    (unpadded_bytes n (drop (front_length b) b) (drop_bytes (front_length b) b all)))))
    (λ t. simp t all)

-- So padding does not matter, in any cutting: the same state, the same store, the same notes without it.
pub padding_does_not_matter : (pieces others : List (List ℕ)) (st : State) (store : List ℕ) → Between st store → AllBytes (joined pieces)
    → joined others ≡ unpadded (joined pieces) → fed_pieces st store others ≡ fed_pieces st store pieces
unfolding unpadded
padding_does_not_matter pieces others st store k all e =
    any_cutting_means others st store k (subst AllBytes (sym e) (unpadded_bytes (length (joined pieces)) (joined pieces) all))
    ∙ ap (means st store) e
    ∙ unpadded_means (joined pieces) st store
    ∙ sym (any_cutting_means pieces st store k all)

-- Nor do the bytes of padding and of reserved header bytes: pieces whose bytes split alike come to the same.
pub split_alike : (pieces others : List (List ℕ)) (st : State) (store : List ℕ) → Between st store → AllBytes (joined pieces) → AllBytes (joined others)
    → split (joined others) ≡ split (joined pieces) → fed_pieces st store others ≡ fed_pieces st store pieces
unfolding means
split_alike pieces others st store k all all' e =
    any_cutting_means others st store k all'
    ∙ ap (λ (s : Split). records_mean s.records s.rest st store) e
    ∙ sym (any_cutting_means pieces st store k all)

-- ---- an id that is not active
-- a state between two records is its table and its gathered bytes
between_is : (st : State) (store : List ℕ) → Between st store → state_of (open_with st.conn.table no_frame) st.gathered ≡ st
between_is st store k =
    ap₂ (λ (f : Frame) (o : Bool). state_of (record { table = st.conn.table; frame = f; «open» = o }) st.gathered) (sym k.frame) (sym k.is_open)

-- A record of an id that is neither 0 nor active, and no BEGIN_REQUEST, changes nothing and tells nothing.
pub inactive_says_nothing : (r : Record) (st : State) (store : List ℕ) → Between st store → r.version ≡ VERSION → (r.id ≡ 0 → ⊥)
    → find st.conn.table r.id ≡ None → (r.kind ≡ BEGIN_REQUEST → ⊥) → record_means st store r ≡ resting st store
unfolding header_means content_means judged on_inactive
inactive_says_nothing r st store k version id none kind = go r.content
  where
    go : (x : List ℕ) → header_means st store (record { version = r.version; kind = r.kind; id = r.id; content = length x; padding = r.padding }) x 0 0 ≡ resting st store
    go [] =
        simp (eq-eqb r.version VERSION version, ne_eqb r.id 0 id, none, ne_eqb r.kind BEGIN_REQUEST kind)
        (ap (λ (u : State). resting u store) (between_is st store k))
    go (b ∷ x) =
        simp (eq-eqb r.version VERSION version, ne_eqb r.id 0 id, none, ne_eqb r.kind BEGIN_REQUEST kind, ne_eqb (length (b ∷ x)) 0 (λ z. omega arith))
        (ap (λ (u : State). resting u store) (between_is st store k))

-- ---- where whole records end
records_end : (rs : List Record) (st : State) (store : List ℕ) → st.conn.frame ≡ no_frame → (records_mean rs [] st store).state.conn.frame ≡ no_frame
unfolding records_mean rest_means
records_end [] st store f = by_test st.conn.«open» (λ o. simp o (rw f)) (λ o. simp o f)
records_end (r ∷ rs) st store f =
    let m = record_means st store r in
    by_test st.conn.«open»
    (λ o. simp o (records_end rs m.state m.store (ends_between st store (header_for r) r.content refl)))
    (λ o. simp o f)

-- Whole records, with no rest, that leave the connection open leave it between two records.
pub whole_records_end : (b : List ℕ) (st : State) (store : List ℕ) → Between st store → AllBytes b → (split b).rest ≡ [] → (by_byte st store b).state.conn.«open» ≡ true
    → Between (by_byte st store b).state (by_byte st store b).store
unfolding means
whole_records_end b st store k all none o =
    let s = stays_sound st store b k all in
    let e : by_byte st store b ≡ records_mean (split b).records [] st store =
    byte_by_byte_means b st store k all ∙ ap (λ (l : List ℕ). records_mean (split b).records l st store) none in
    record {
      frame = ap (λ (r : Run). r.state.conn.frame) e ∙ records_end (split b).records st store k.frame;
      is_open = o;
      shape = s.shape;
      sizes = s.sizes;
    }
