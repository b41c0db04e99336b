-- Where one run has R's items of another and both may serve at any time, their items go together.
use Rattle.std.specs.Prelude.{◌≡◌, Bool, ℕ, if◌then◌else◌}
use Rattle.std.proofs.Math.Path.{refl}
use Rattle.std.proofs.Common.{sym, ◌∙◌, arith}
use mathlib.Core.List.{List, [], ◌∷◌, ◌++◌}
use Rattle.std.proofs.Math.Bool.{true, false}
use borrow.Author.Tests.{eqb-true}
use Rattle.machine.specs.Timeline.{Call, RequestCall, CountCall, Item, ByteItem, CallItem, item_bytes, Scan, scan_next, is_own, is_own_call, purge_from}
use Rattle.machine.specs.Machine.{Machine}
use Rattle.machine_queue.specs.Waiting.{Queue, unserved}
use Rattle.machine_queue.proofs.AlikeRuns.{Along, AlongDone, AlongStop, AlongByte, AlongOthersByte, AlongCall, AlongOthersCall, AlongServe, AlongServeAlone}

module _ (M : Machine) (Q : Queue M) (R : ℕ) where
  open M use {Argument}
  open Q use {is_serve}

  -- the two go together, and the second has all of R's items just where no rest is left
  pub record Aligned (m : Scan) (t u rest : List (Item Argument)) : Type 0 where
    pub whole : Bool
    pub along : Along M Q R whole m t u
    pub all : whole ≡ true → rest ≡ []
    pub some_left : whole ≡ false → rest ≡ [] → ⊥

  -- with another item in front
  follow : {m m' : Scan} {t t' u u' rest : List (Item Argument)} → ((whole : Bool) → Along M Q R whole m t u → Along M Q R whole m' t' u') → Aligned m t u rest → Aligned m' t' u' rest
  follow f a = record { whole = a.whole; along = f a.whole a.along; all = a.all; some_left = a.some_left }

  true_is_not : ◌≡◌ {A = Bool} true false → ⊥
  true_is_not e = let z : ◌≡◌ {A = ℕ} 0 1 = cc in omega arith

  nil_is_not : {A : Type 0} {x : A} {l : List A} → x ∷ l ≡ [] → ⊥
  nil_is_not e = let z : ◌≡◌ {A = ℕ} 0 1 = cc in omega arith

  head_same : {A : Type 0} {x y : A} {l k : List A} → x ∷ l ≡ y ∷ k → x ≡ y
  head_same e = cc

  tail_same : {A : Type 0} {x y : A} {l k : List A} → x ∷ l ≡ y ∷ k → l ≡ k
  tail_same e = cc

  -- serves at the end
  serves_left : (m : Scan) (u rest : List (Item Argument)) → unserved M Q u ++ rest ≡ [] → Aligned m [] u rest
  unfolding unserved
  serves_left m [] rest e = record { whole = true; along = AlongDone refl; all = λ k. e; some_left = λ k. absurd (true_is_not k) }
  serves_left m (ByteItem b ∷ u) rest e = absurd (nil_is_not e)
  serves_left m (CallItem CountCall ∷ u) rest e = absurd (nil_is_not e)
  serves_left m (CallItem (RequestCall id a) ∷ u) rest e = go (is_serve a) refl e (λ d. serves_left m u rest d)
    where
      go : (s : Bool) → is_serve a ≡ s → (if s then unserved M Q u else CallItem (RequestCall id a) ∷ unserved M Q u) ++ rest ≡ [] → (unserved M Q u ++ rest ≡ [] → Aligned m [] u rest)
          → Aligned m [] (CallItem (RequestCall id a) ∷ u) rest
      go true s e f = follow (λ whole x. AlongServeAlone s x) (f e)
      go false s e f = absurd (nil_is_not e)

  -- serves before an item x that is in both
  before_item : (m : Scan) (t : List (Item Argument)) (x : Item Argument) (l rest : List (Item Argument)) → ((u : List (Item Argument)) → unserved M Q u ++ rest ≡ l → Aligned m t (x ∷ u) rest)
      → (u : List (Item Argument)) → unserved M Q u ++ rest ≡ x ∷ l → Aligned m t u rest
  unfolding unserved
  before_item m t x l rest k [] e = record { whole = false; along = AlongStop refl; all = λ d. absurd (true_is_not (sym d)); some_left = λ d y. nil_is_not (sym e ∙ y) }
  before_item m t x l rest k (ByteItem b ∷ u) e = rw (head_same e) (k u (tail_same e))
  before_item m t x l rest k (CallItem CountCall ∷ u) e = rw (head_same e) (k u (tail_same e))
  before_item m t x l rest k (CallItem (RequestCall id a) ∷ u) e = go (is_serve a) refl e (λ d. before_item m t x l rest k u d)
    where
      go : (s : Bool) → is_serve a ≡ s → (if s then unserved M Q u else CallItem (RequestCall id a) ∷ unserved M Q u) ++ rest ≡ x ∷ l → (unserved M Q u ++ rest ≡ x ∷ l → Aligned m t u rest)
          → Aligned m t (CallItem (RequestCall id a) ∷ u) rest
      go true s e f = follow (λ whole x. AlongServeAlone s x) (f e)
      go false s e f = rw (head_same e) (k u (tail_same e))

  -- a byte in front
  byte_aligned : (m : Scan) (b : ℕ) (t u rest : List (Item Argument)) (own : Bool) → is_own R m (b ∷ item_bytes t) ≡ own
      → ((u : List (Item Argument)) → unserved M Q u ++ rest ≡ unserved M Q (purge_from R (scan_next R m b) t) → Aligned (scan_next R m b) t u rest)
      → unserved M Q u ++ rest ≡ unserved M Q (if own then ByteItem b ∷ purge_from R (scan_next R m b) t else purge_from R (scan_next R m b) t)
      → Aligned m (ByteItem b ∷ t) u rest
  unfolding unserved
  byte_aligned m b t u rest true o k e = before_item m (ByteItem b ∷ t) (ByteItem b) (unserved M Q (purge_from R (scan_next R m b) t)) rest (λ u d. follow (λ whole x. AlongByte o x) (k u d)) u e
  byte_aligned m b t u rest false o k e = follow (λ whole x. AlongOthersByte o x) (k u e)

  -- a call of R in front
  own_aligned : (m : Scan) (a : Argument) (t u rest : List (Item Argument)) (serve : Bool) → is_serve a ≡ serve
      → ((u : List (Item Argument)) → unserved M Q u ++ rest ≡ unserved M Q (purge_from R m t) → Aligned m t u rest)
      → unserved M Q u ++ rest ≡ (if serve then unserved M Q (purge_from R m t) else CallItem (RequestCall R a) ∷ unserved M Q (purge_from R m t))
      → Aligned m (CallItem (RequestCall R a) ∷ t) u rest
  own_aligned m a t u rest true s k e = follow (λ whole x. AlongServe s x) (k u e)
  own_aligned m a t u rest false s k e =
      before_item m (CallItem (RequestCall R a) ∷ t) (CallItem (RequestCall R a)) (unserved M Q (purge_from R m t)) rest (λ u d. follow (λ whole x. AlongCall s x) (k u d)) u e

  -- a call in front
  call_aligned : (m : Scan) (c : Call Argument) (t u rest : List (Item Argument)) (own : Bool) → is_own_call R c ≡ own
      → ((u : List (Item Argument)) → unserved M Q u ++ rest ≡ unserved M Q (purge_from R m t) → Aligned m t u rest)
      → unserved M Q u ++ rest ≡ unserved M Q (if own then CallItem c ∷ purge_from R m t else purge_from R m t)
      → Aligned m (CallItem c ∷ t) u rest
  unfolding unserved is_own_call
  call_aligned m c t u rest false o k e = follow (λ whole x. AlongOthersCall o x) (k u e)
  call_aligned m CountCall t u rest true o k e = absurd (true_is_not (sym o))
  call_aligned m (RequestCall id a) t u rest true o k e =
      let i : id ≡ R = eqb-true id R o in rw i (own_aligned m a t u rest (is_serve a) refl k (rw i at e))

  -- Items that are the same but for serves go along each other.
  pub aligned : (t : List (Item Argument)) (m : Scan) (u rest : List (Item Argument)) → unserved M Q u ++ rest ≡ unserved M Q (purge_from R m t) → Aligned m t u rest
  unfolding purge_from unserved
  aligned [] m u rest e = serves_left m u rest e
  aligned (ByteItem b ∷ t) m u rest e = byte_aligned m b t u rest (is_own R m (b ∷ item_bytes t)) refl (λ u d. aligned t (scan_next R m b) u rest d) e
  aligned (CallItem c ∷ t) m u rest e = call_aligned m c t u rest (is_own_call R c) refl (λ u d. aligned t m u rest d) e
