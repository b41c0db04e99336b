-- What purging leaves of an interleaving: just the records and calls of that id, in their order. So parts of different
-- requests may change places.
use Rattle.std.specs.Prelude.{◌≡◌, Bool, true, false, ◌⊎◌, drop, eqb, ltb, if◌then◌else◌}
use Rattle.std.proofs.Math.Path.{refl, ap, sym}
use Rattle.std.proofs.Common.{◌∙◌, inl, inr, arith, length-drop}
use mathlib.Core.List.{List, [], ◌∷◌, ◌++◌, append_assoc, append-nil}
use Prim.Native.Nat.{ℕ, zero, suc, ◌+◌, ◌≤◌, ◌<◌}
use Rattle.std.proofs.Math.ListN.{length, length-append}
use borrow.Author.Tests.{eqb-true, eqb-false, ne_eqb, ltb-true, ltb-false}
use Rattle.wire.specs.Test.{by_test, ◌<?◌, ◌=?◌}
use Rattle.record.specs.Header.{header_of}
use Rattle.record.specs.Split.{Record, Split, front_length, whole_front, front, split}
use Rattle.record.proofs.SplitLaws.{header_front, whole_front_lem, split_whole, split_cut}
use Rattle.machine.specs.Timeline.{Call, RequestCall, CountCall, Item, ByteItem, CallItem, item_bytes, header_id, header_content, header_padding, Scan, ScanHeader, scan_left, scan_whole, scan_next, is_own, is_own_call, purge_from, purge}
use Rattle.machine.proofs.Purge.{header_id_known}
use Rattle.machine.specs.Interleaving.{Part, RecordPart, CallPart, IsRecordOf, AllWhole, all_items, own_in, own_of_part, own_of, AllCallsOf, IsOf}

-- ---- bytes that are one record
-- They are a header, and as many bytes of content and padding as it says.
record OneRecord (id : ℕ) (b : List ℕ) : Type 0 where
  header : 8 ≤ length b
  long : length b ≡ 8 + header_content b + header_padding b
  is_id : header_id b ≡ id

no_record : {A : Type 0} (r : Record) (rs : List Record) → r ∷ rs ≡ [] → A
no_record r rs e = let z : ◌≡◌ {A = ℕ} 0 1 = cc in absurd (omega arith)

-- bytes that split into nothing are none
split_nothing : (b : List ℕ) → (split b).records ≡ [] → (split b).rest ≡ [] → b ≡ []
split_nothing b no-records no_rest =
    by_test (whole_front b)
    (λ t. no_record (front b) _ (ap (λ (s : Split). s.records) (sym (split_whole b t)) ∙ no-records))
    (λ t. ap (λ (s : Split). s.rest) (sym (split_cut b t)) ∙ no_rest)

one_record : (id : ℕ) (b : List ℕ) → IsRecordOf id b → OneRecord id b
unfolding front_length front header_content header_padding header_id
one_record id b r =
    by_test (whole_front b) is_whole
    (λ t. no_record r.whole [] (sym records ∙ ap (λ (s : Split). s.records) (split_cut b t)))
  where
    records : (split b).records ≡ r.whole ∷ []
    records = ap (λ (s : Split). s.records) r.is_split

    is_whole : whole_front b ≡ true → OneRecord id b
    is_whole t =
        let n = front_length b in
        let s = split_whole b t in
        let w = whole_front_lem b t in
        let all : front b ∷ (split (drop n b)).records ≡ r.whole ∷ [] =
        ap (λ (s : Split). s.records) (sym s) ∙ records in
        let first : front b ≡ r.whole = cc all in
        let no_other : (split (drop n b)).records ≡ [] = cc all in
        let no_rest : (split (drop n b)).rest ≡ [] = ap (λ (s : Split). s.rest) (sym s ∙ r.is_split) in
        let no_more : length (drop n b) ≡ 0 = ap length (split_nothing (drop n b) no_other no_rest) in
        record {
          header = w.header;
          long = omega (arith, length-drop n b, w.within);
          is_id = ap (λ (x : Record). x.id) first ∙ r.is_id;
        }

module _ {Argument : Type 0} (R : ℕ) where
  -- ---- purging through one record
  -- an item that stays or goes, before others
  if_append : (k : Bool) (x : Item Argument) (y z : List (Item Argument))
      → (if k then x ∷ (y ++ z) else y ++ z) ≡ (if k then x ∷ y else y) ++ z
  if_append true x y z = refl
  if_append false x y z = refl

  -- the bytes of two timelines
  bytes_append : (t u : List (Item Argument)) → item_bytes (t ++ u) ≡ item_bytes t ++ item_bytes u
  unfolding item_bytes
  bytes_append [] u = refl
  bytes_append (ByteItem b ∷ t) u = ap (λ l. b ∷ l) (bytes_append t u)
  bytes_append (CallItem c ∷ t) u = bytes_append t u

  -- a byte goes by whose record it is in
  through_byte : (of_r : Bool) (b : ℕ) (t x z : List (Item Argument)) → x ≡ own_in of_r R t ++ z
      → (if of_r then ByteItem b ∷ x else x) ≡ own_in of_r R (ByteItem b ∷ t) ++ z
  unfolding own_in
  through_byte of_r b t x z e = rw e (if_append of_r (ByteItem b) (own_in of_r R t) z)

  -- a call by whom it names, wherever it stands
  through_call : (m : Scan) (of_r : Bool) (c : Call Argument) (t u z : List (Item Argument))
      → purge_from R m (t ++ u) ≡ own_in of_r R t ++ z
      → purge_from R m (CallItem c ∷ (t ++ u)) ≡ own_in of_r R (CallItem c ∷ t) ++ z
  unfolding purge_from own_in
  through_call m of_r c t u z e = rw e (if_append (is_own_call R c) (CallItem c) (own_in of_r R t) z)

  -- past the header: content and padding, with calls between them
  through_rest : (of_r : Bool) (c p : ℕ) (t u : List (Item Argument)) → length (item_bytes t) ≡ c + p
      → purge_from R (scan_left of_r c p) (t ++ u) ≡ own_in of_r R t ++ purge R u
  unfolding item_bytes purge_from own_in scan_left scan_next is_own
  through_rest of_r zero zero [] u e = refl
  through_rest of_r zero (suc p) [] u e = absurd (omega arith)
  through_rest of_r (suc c) p [] u e = absurd (omega arith)
  through_rest of_r c p (CallItem a ∷ t) u e =
      through_call (scan_left of_r c p) of_r a t u (purge R u) (through_rest of_r c p t u e)
  through_rest of_r zero zero (ByteItem b ∷ t) u e = absurd (omega arith)
  through_rest of_r zero (suc p) (ByteItem b ∷ t) u e =
      through_byte of_r b t _ (purge R u) (through_rest of_r zero p t u (omega arith))
  through_rest of_r (suc c) p (ByteItem b ∷ t) u e =
      through_byte of_r b t _ (purge R u) (through_rest of_r c p t u (omega arith))

  -- In the header, of which the bytes g are in; w is the whole record. Whose it is, is known from its first byte on.
  module _ (id : ℕ) (w : List ℕ) (whole : OneRecord id w) (u : List (Item Argument)) where
    abbrev of_r : Bool
    of_r = id =? R

    own_known : (g : List ℕ) (b : ℕ) (t : List (Item Argument)) → g ++ b ∷ item_bytes t ≡ w
        → is_own R (ScanHeader g) (b ∷ item_bytes (t ++ u)) ≡ of_r
    unfolding is_own
    own_known g b t e =
        let f : g ++ b ∷ item_bytes (t ++ u) ≡ w ++ item_bytes u =
        ap (λ l. g ++ b ∷ l) (bytes_append t u) ∙ sym (append_assoc g (b ∷ item_bytes t) (item_bytes u))
        ∙ ap (λ l. l ++ item_bytes u) e in
        ap (λ n. n =? R) (ap header_id f ∙ header_id_known w (item_bytes u) whole.header ∙ whole.is_id)

    -- after a byte of it: the header goes on, or that was its eighth
    after_byte : (h : List ℕ) (t : List (Item Argument)) → length h ≤ 8 → h ++ item_bytes t ≡ w
        → (length h < 8 → purge_from R (ScanHeader h) (t ++ u) ≡ own_in of_r R t ++ purge R u)
        → purge_from R (scan_whole (length h <? 8) R h) (t ++ u) ≡ own_in of_r R t ++ purge R u
    unfolding scan_whole header_id header_content header_padding
    after_byte h t n e goes_on_lem =
        by_test (ltb (length h) 8)
        (λ y. rw y (goes_on_lem (ltb-true (length h) 8 y)))
        (λ y. rw y (eighth (ltb-false (length h) 8 y)))
      where
        eighth : 8 ≤ length h
            → purge_from R (scan_left ((header_of h).id =? R) (header_of h).content (header_of h).padding) (t ++ u)
            ≡ own_in of_r R t ++ purge R u
        eighth m =
            let f : header_of w ≡ header_of h = ap header_of (sym e) ∙ header_front h (item_bytes t) m in
            let l : length w ≡ length h + length (item_bytes t) = ap length (sym e) ∙ length-append h (item_bytes t) in
            let c = (header_of w).content in
            let p = (header_of w).padding in
            rw (← f, whole.is_id) (through_rest of_r c p t u (omega (arith, whole.long)))

    through_header : (g : List ℕ) (t : List (Item Argument)) → length g < 8 → g ++ item_bytes t ≡ w
        → purge_from R (ScanHeader g) (t ++ u) ≡ own_in of_r R t ++ purge R u
    unfolding item_bytes purge_from own_in scan_next
    through_header g [] n e = absurd (omega (arith, whole.header, ap length (append-nil g), ap length e))
    through_header g (CallItem a ∷ t) n e = through_call (ScanHeader g) of_r a t u (purge R u) (through_header g t n e)
    through_header g (ByteItem b ∷ t) n e =
        let h = g ++ b ∷ [] in
        let f : h ++ item_bytes t ≡ w = append_assoc g (b ∷ []) (item_bytes t) ∙ e in
        let m : length h ≤ 8 = omega (arith, length-append g (b ∷ [])) in
        rw (own_known g b t e)
        (through_byte of_r b t _ (purge R u) (after_byte h t m f (λ l. through_header h t l f)))

  -- A whole record with calls between its bytes is purged to what is R's of it, and purging goes on after it as between
  -- two records.
  through_record : (id : ℕ) (t u : List (Item Argument)) → IsRecordOf id (item_bytes t)
      → purge R (t ++ u) ≡ own_in (id =? R) R t ++ purge R u
  through_record id t u r =
      through_header id (item_bytes t) (one_record id (item_bytes t) r) u [] t (omega arith) refl

  -- Purging leaves of an interleaving just the records and calls of R, in their order.
  pub own_is_left : (ps : List (Part Argument)) → AllWhole ps → purge R (all_items ps) ≡ own_of R ps
  unfolding all_items own_of purge_from
  own_is_left [] w = refl
  own_is_left (RecordPart id t ∷ ps) w =
      through_record id t (all_items ps) w.0 ∙ ap (λ l. own_in (id =? R) R t ++ l) (own_is_left ps w.1)
  own_is_left (CallPart c ∷ ps) w =
      rw (own_is_left ps w.1) (if_append (is_own_call R c) (CallItem c) [] (own_of R ps))

  -- ---- parts of others
  -- a call that names an id does not name another
  other_call : (id : ℕ) (c : Call Argument) → (id ≡ R → ⊥) → is_own_call id c ≡ true → is_own_call R c ≡ false
  unfolding is_own_call
  other_call id (RequestCall n a) ne e = ne_eqb n R (λ d. ne (sym (eqb-true n id e) ∙ d))
  other_call id CountCall ne e = refl

  others_items : (id : ℕ) (t : List (Item Argument)) → (id ≡ R → ⊥) → AllCallsOf id t → own_in false R t ≡ []
  unfolding own_in
  others_items id [] ne a = refl
  others_items id (ByteItem b ∷ t) ne a = others_items id t ne a
  others_items id (CallItem c ∷ t) ne a = rw (other_call id c ne a.0) (others_items id t ne a.1)

  -- nothing of a part of another request is R's
  others_part : (id : ℕ) (p : Part Argument) → (id ≡ R → ⊥) → IsOf id p → own_of_part R p ≡ []
  others_part id (RecordPart r t) ne o = rw (ne_eqb r R (λ d. ne (sym o.0 ∙ d))) (others_items id t ne o.1)
  others_part id (CallPart c) ne o = rw (other_call id c ne o)

  -- R is not both: one of the two parts has nothing of it
  not_both : (i j : ℕ) (p q : Part Argument) → IsOf i p → IsOf j q → (i ≡ j → ⊥)
      → (own_of_part R p ≡ []) ⊎ (own_of_part R q ≡ [])
  not_both i j p q a b ne =
      by_test (eqb i R)
      (λ e. inr (others_part j q (λ d. ne (eqb-true i R e ∙ sym d)) b))
      (λ e. inl (others_part i p (eqb-false i R e) a))

  swapped : (p q : Part Argument) (after : List (Part Argument)) → (own_of_part R p ≡ []) ⊎ (own_of_part R q ≡ [])
      → own_of R (p ∷ q ∷ after) ≡ own_of R (q ∷ p ∷ after)
  unfolding own_of
  swapped p q after (inl e) = rw e
  swapped p q after (inr e) = rw e

  -- Neighbours of different requests may change places.
  pub neighbours : (i j : ℕ) (before after : List (Part Argument)) (p q : Part Argument)
      → IsOf i p → IsOf j q → (i ≡ j → ⊥)
      → own_of R (before ++ (p ∷ q ∷ after)) ≡ own_of R (before ++ (q ∷ p ∷ after))
  unfolding own_of
  neighbours i j [] after p q a b ne = swapped p q after (not_both i j p q a b ne)
  neighbours i j (x ∷ before) after p q a b ne =
      ap (λ l. own_of_part R x ++ l) (neighbours i j before after p q a b ne)
