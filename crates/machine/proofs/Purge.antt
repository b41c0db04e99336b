-- What purging leaves of a timeline is R's records, whole and in order, and R's calls.
use Rattle.std.specs.Prelude.{◌≡◌, Bool, if◌then◌else◌}
use Rattle.std.proofs.Math.Path.{refl, sym}
use Rattle.std.proofs.Common.{ap, ◌∙◌, arith}
use mathlib.Core.List.{List, [], ◌∷◌, ◌++◌, append_assoc}
use Rattle.std.proofs.Math.Bool.{true, false}
use Prim.Native.Nat.{ℕ, zero, suc, ◌+◌, ◌≤◌, ◌<◌}
use Rattle.std.proofs.Math.ListN.{length, get_or-append, length-append}
use Rattle.std.proofs.Math.Dec.{eqb}
use borrow.Author.Tests.{lt-ltb, le-ltb}
use Rattle.wire.specs.Test.{◌=?◌}
use Rattle.record.specs.Header.{header_of}
use Rattle.machine.specs.Timeline.{Call, Item, ByteItem, CallItem, item_bytes, header_id, header_content, header_padding, Scan, ScanHeader, scan_left, scan_whole, scan_next, is_own, is_own_call, purge_from, purge}

-- a header's first eight bytes tell its id
pub header_id_known : (h l : List ℕ) → 8 ≤ length h → header_id (h ++ l) ≡ header_id h
unfolding header_id header_of
header_id_known h l n =
    let n2 : 2 < length h = omega arith in
    let n3 : 3 < length h = omega arith in
    rw (get_or-append h l 0 2 n2, get_or-append h l 0 3 n3)

-- ---- a check: records
-- A record: its header of eight bytes, then as many bytes of content and padding as the header says.
pub record WireRecord : Type 0 where
  pub head : List ℕ
  pub body : List ℕ
  pub head_whole : length head ≡ 8
  pub body_whole : length body ≡ header_content head + header_padding head

-- records one after another
unfoldable pub on_wire : List WireRecord → List ℕ
on_wire [] = []
on_wire (r ∷ rs) = r.head ++ (r.body ++ on_wire rs)

-- those whose header has the id R
unfoldable pub records_of : ℕ → List WireRecord → List WireRecord
records_of R [] = []
records_of R (r ∷ rs) = if header_id r.head =? R then r ∷ records_of R rs else records_of R rs

-- all of it, or nothing
keep_if : {A : Type 0} → Bool → List A → List A
keep_if true l = l
keep_if false l = []

keep_cons : {A : Type 0} (k : Bool) (x : A) (y l : List A) → (if k then x ∷ (keep_if k y ++ l) else keep_if k y ++ l) ≡ keep_if k (x ∷ y) ++ l
unfolding keep_if
keep_cons true x y l = refl
keep_cons false x y l = refl

keep_nil : {A : Type 0} (k : Bool) (l : List A) → keep_if k [] ++ l ≡ l
unfolding keep_if
keep_nil true l = refl
keep_nil false l = refl

module _ (Argument : Type 0) (R : ℕ) where
  -- the bytes that stay, without calls among them
  kept_bytes : Scan → List ℕ → List ℕ
  kept_bytes m [] = []
  kept_bytes m (b ∷ l) = if is_own R m (b ∷ l) then b ∷ kept_bytes (scan_next R m b) l else kept_bytes (scan_next R m b) l

  bytes_if_byte : (k : Bool) (b : ℕ) (t : List (Item Argument)) → item_bytes (if k then ByteItem b ∷ t else t) ≡ (if k then b ∷ item_bytes t else item_bytes t)
  unfolding item_bytes
  bytes_if_byte true b t = refl
  bytes_if_byte false b t = refl

  bytes_if_call : (k : Bool) (c : Call Argument) (t : List (Item Argument)) → item_bytes (if k then CallItem c ∷ t else t) ≡ item_bytes t
  unfolding item_bytes
  bytes_if_call true c t = refl
  bytes_if_call false c t = refl

  bytes_purged : (m : Scan) (t : List (Item Argument)) → item_bytes (purge_from R m t) ≡ kept_bytes m (item_bytes t)
  unfolding item_bytes purge_from kept_bytes
  bytes_purged m [] = refl
  bytes_purged m (ByteItem b ∷ t) = bytes_if_byte (is_own R m (b ∷ item_bytes t)) b (purge_from R (scan_next R m b) t) ∙ rw (bytes_purged (scan_next R m b) t)
  bytes_purged m (CallItem c ∷ t) = bytes_if_call (is_own_call R c) c (purge_from R m t) ∙ bytes_purged m t

  -- the rest of a record
  kept_past_header : (k : Bool) (c p : ℕ) (y l : List ℕ) → length y ≡ c + p → kept_bytes (scan_left k c p) (y ++ l) ≡ keep_if k y ++ kept_bytes (ScanHeader []) l
  unfolding kept_bytes scan_left is_own scan_next
  kept_past_header k zero zero [] l e = sym (keep_nil k (kept_bytes (ScanHeader []) l))
  kept_past_header k zero zero (b ∷ y) l e = absurd (omega arith)
  kept_past_header k zero (suc p) [] l e = absurd (omega arith)
  kept_past_header k zero (suc p) (b ∷ y) l e = rw (kept_past_header k zero p y l (omega arith)) (keep_cons k b y (kept_bytes (ScanHeader []) l))
  kept_past_header k (suc c) p [] l e = absurd (omega arith)
  kept_past_header k (suc c) p (b ∷ y) l e = rw (kept_past_header k c p y l (omega arith)) (keep_cons k b y (kept_bytes (ScanHeader []) l))

  -- a header, of which g is in
  known_id : (g : List ℕ) (b : ℕ) (x z : List ℕ) → length (g ++ b ∷ x) ≡ 8 → header_id (g ++ b ∷ (x ++ z)) ≡ header_id (g ++ b ∷ x)
  known_id g b x z e = ap header_id (sym (append_assoc g (b ∷ x) z)) ∙ header_id_known (g ++ b ∷ x) z (omega arith)

  kept_header : (g : List ℕ) (b : ℕ) (x y l : List ℕ) → length (g ++ b ∷ x) ≡ 8 → length y ≡ header_content (g ++ b ∷ x) + header_padding (g ++ b ∷ x)
      → kept_bytes (ScanHeader g) (b ∷ (x ++ (y ++ l))) ≡ keep_if (eqb (header_id (g ++ b ∷ x)) R) (b ∷ (x ++ y)) ++ kept_bytes (ScanHeader []) l
  unfolding kept_bytes is_own scan_next scan_whole
  kept_header g b [] y l e d =
      let h = g ++ b ∷ [] in
      let own = eqb (header_id h) R in
      rw (known_id g b [] (y ++ l) e, le-ltb (length h) 8 (omega arith), kept_past_header own (header_content h) (header_padding h) y l d)
      (keep_cons own b y (kept_bytes (ScanHeader []) l))
  kept_header g b (a ∷ x) y l e d =
      let f : (g ++ b ∷ []) ++ a ∷ x ≡ g ++ b ∷ a ∷ x = append_assoc g (b ∷ []) (a ∷ x) in
      let n : length (g ++ b ∷ []) < 8 = simp length-append (omega (arith, simp length-append at e)) in
      let i = kept_header (g ++ b ∷ []) a x y l (rw f e) (rw f d) in
      rw (known_id g b (a ∷ x) (y ++ l) e, lt-ltb (length (g ++ b ∷ [])) 8 n, i, f) (keep_cons (eqb (header_id (g ++ b ∷ a ∷ x)) R) b (a ∷ (x ++ y)) (kept_bytes (ScanHeader []) l))

  kept_record : (head y l : List ℕ) → length head ≡ 8 → length y ≡ header_content head + header_padding head
      → kept_bytes (ScanHeader []) (head ++ (y ++ l)) ≡ keep_if (eqb (header_id head) R) (head ++ y) ++ kept_bytes (ScanHeader []) l
  kept_record [] y l e d = absurd (omega arith)
  kept_record (b ∷ x) y l e d = kept_header [] b x y l e d

  kept_on_wire : (rs : List WireRecord) → kept_bytes (ScanHeader []) (on_wire rs) ≡ on_wire (records_of R rs)
  unfolding on_wire records_of kept_bytes keep_if
  kept_on_wire [] = refl
  kept_on_wire (r ∷ rs) = kept_record r.head r.body (on_wire rs) r.head_whole r.body_whole ∙ rw (kept_on_wire rs) (go (eqb (header_id r.head) R))
    where
      go : (k : Bool) → keep_if k (r.head ++ r.body) ++ on_wire (records_of R rs) ≡ on_wire (if k then r ∷ records_of R rs else records_of R rs)
      go true = append_assoc r.head r.body (on_wire (records_of R rs))
      go false = refl

  -- Where the bytes of a timeline are whole records, purging leaves just the records of R, in their order.
  pub purge_leaves_records : (t : List (Item Argument)) (rs : List WireRecord) → item_bytes t ≡ on_wire rs → item_bytes (purge R t) ≡ on_wire (records_of R rs)
  purge_leaves_records t rs e = bytes_purged (ScanHeader []) t ∙ ap (kept_bytes (ScanHeader [])) e ∙ kept_on_wire rs

  -- ---- a check: calls
  -- the calls of a timeline, without its bytes
  unfoldable pub calls_in : List (Item Argument) → List (Call Argument)
  calls_in [] = []
  calls_in (ByteItem b ∷ t) = calls_in t
  calls_in (CallItem c ∷ t) = c ∷ calls_in t

  -- those that name R
  unfoldable pub own_calls : List (Call Argument) → List (Call Argument)
  own_calls [] = []
  own_calls (c ∷ cs) = if is_own_call R c then c ∷ own_calls cs else own_calls cs

  calls_if_byte : (k : Bool) (b : ℕ) (t : List (Item Argument)) → calls_in (if k then ByteItem b ∷ t else t) ≡ calls_in t
  unfolding calls_in
  calls_if_byte true b t = refl
  calls_if_byte false b t = refl

  calls_if_call : (k : Bool) (c : Call Argument) (t : List (Item Argument)) → calls_in (if k then CallItem c ∷ t else t) ≡ (if k then c ∷ calls_in t else calls_in t)
  unfolding calls_in
  calls_if_call true c t = refl
  calls_if_call false c t = refl

  -- Of the calls purging leaves just those that name R, in their order.
  pub purge_leaves_calls : (m : Scan) (t : List (Item Argument)) → calls_in (purge_from R m t) ≡ own_calls (calls_in t)
  unfolding calls_in own_calls purge_from
  purge_leaves_calls m [] = refl
  purge_leaves_calls m (ByteItem b ∷ t) = calls_if_byte (is_own R m (b ∷ item_bytes t)) b (purge_from R (scan_next R m b) t) ∙ purge_leaves_calls (scan_next R m b) t
  purge_leaves_calls m (CallItem c ∷ t) = calls_if_call (is_own_call R c) c (purge_from R m t) ∙ rw (purge_leaves_calls m t)
