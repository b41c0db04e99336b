-- The pump: slots are served in turn, a record each. A turn is a list of serves; whoever waits is served within as many
-- records as there are slots.
use Rattle.std.proofs.Math.Path.{◌≡◌, refl}
use Rattle.std.proofs.Common.{ap, sym, ◌∙◌}
use mathlib.Core.List.{List, [], ◌∷◌, ◌++◌}
use Rattle.std.proofs.Math.Option.{Option, none, some}
use Rattle.std.specs.Prelude.{Bool, ◌⊎◌, length, eqb, if◌then◌else◌}
use Rattle.std.proofs.Math.Bool.{true, false}
use Rattle.std.proofs.Math.Logic.{inl, inr}
use Prim.Native.Nat.{ℕ, zero, suc, ◌+◌, ◌-◌, ◌≤◌, ◌<◌}
use native.Mathlib.Omega.{arith}
use Rattle.std.proofs.Math.Dec.{ltb, leb}
use borrow.Author.Tests.{eqb-true, eqb-false, ltb-true, ltb-false, leb-true, leb-false, le-leb, lt-leb}
use Rattle.wire.specs.Test.{by_test}
use Rattle.machine.specs.Timeline.{RequestCall, Item, CallItem}
use Rattle.machine.specs.Slots.{SlotState, Vacant, HeldBy, slot_at}
use Rattle.machine.specs.Machine.{Machine, Slots, Connection, Open, Closed, on_item, state_after}
use Rattle.machine_queue.specs.Waiting.{Queue, unserved}
use Rattle.machine_queue.specs.Pump.{slot_after, next_waiting, distance}

-- ---- going round
module _ (N : ℕ) where
  -- they are fewer than all
  pub distance_below : (i p : ℕ) → i < N → p < N → distance N i p < N
  unfolding distance
  distance_below i p a b = by_test (leb p i) (λ e. rw e (omega arith)) (λ e. let h = leb-false p i e in rw e (omega arith))

  -- one slot on, it is one less
  pub distance_after : (i p : ℕ) → i < N → p < N → (p ≡ i → ⊥) → distance N i (slot_after N p) + 1 ≡ distance N i p
  unfolding distance slot_after
  distance_after i p a b d = by_test (ltb (p + 1) N) inside around
    where
      low : leb p i ≡ true → ltb (p + 1) N ≡ true → leb (p + 1) i ≡ true → (if leb (if ltb (p + 1) N then p + 1 else 0) i then i - (if ltb (p + 1) N then p + 1 else 0) else i + N - (if ltb (p + 1) N then p + 1 else 0)) + 1 ≡ (if leb p i then i - p else i + N - p)
      low x y z = let h = leb-true (p + 1) i z in rw (y, x, z) (omega arith)

      inside : ltb (p + 1) N ≡ true → (if leb (if ltb (p + 1) N then p + 1 else 0) i then i - (if ltb (p + 1) N then p + 1 else 0) else i + N - (if ltb (p + 1) N then p + 1 else 0)) + 1 ≡ (if leb p i then i - p else i + N - p)
      inside y = by_test (leb p i)
          (λ x. let h = leb-true p i x in let z : p + 1 ≤ i = omega arith in low x y (le-leb (p + 1) i z))
          (λ x. let h = leb-false p i x in let z : i < p + 1 = omega arith in let w = ltb-true (p + 1) N y in rw (y, x, lt-leb (p + 1) i z) (omega arith))

      around : ltb (p + 1) N ≡ false → (if leb (if ltb (p + 1) N then p + 1 else 0) i then i - (if ltb (p + 1) N then p + 1 else 0) else i + N - (if ltb (p + 1) N then p + 1 else 0)) + 1 ≡ (if leb p i then i - p else i + N - p)
      around y = let h = ltb-false (p + 1) N y in let z : i < p = omega arith in let o : 0 ≤ i = omega arith in rw (y, lt-leb p i z, le-leb 0 i o) (omega arith)

  -- it is a slot
  pub after_below : (p : ℕ) → p < N → slot_after N p < N
  unfolding slot_after
  after_below p b = by_test (ltb (p + 1) N) (λ e. let h = ltb-true (p + 1) N e in rw e h) (λ e. rw e (omega arith))

  -- Where slot i waits, the slot that is served next is i, or one that brings the turn nearer to i.
  pub record Nearer (i p j : ℕ) : Type 0 where
    pub below : j < N
    pub itself_or_nearer : (j ≡ i) ⊎ (distance N i (slot_after N j) < distance N i p)

  -- there is such a slot
  pub nearer : (k : ℕ) (waits : ℕ → Bool) (i p : ℕ) → i < N → p < N → waits i ≡ true → distance N i p < k → (j : ℕ) × (next_waiting N k waits p ≡ some j) × Nearer i p j
  unfolding next_waiting
  nearer zero waits i p a b w d = absurd (omega arith)
  nearer (suc k) waits i p a b w d = go (waits p) refl (λ x. nearer k waits i (slot_after N p) a (after_below p b) w (let e = distance_after i p a b x in omega arith))
    where
      go : (o : Bool) → waits p ≡ o
          → ((p ≡ i → ⊥) → (j : ℕ) × (next_waiting N k waits (slot_after N p) ≡ some j) × Nearer i (slot_after N p) j)
          → (j : ℕ) × ((if o then some p else next_waiting N k waits (slot_after N p)) ≡ some j) × Nearer i p j
      go true o f = (p, refl, record { below = b; itself_or_nearer = by_test (eqb p i) (λ e. inl (eqb-true p i e)) (λ e. inr (let x = distance_after i p a b (eqb-false p i e) in omega arith)) })
      go false o f =
          let x : p ≡ i → ⊥ = λ e. let z : ◌≡◌ {A = ℕ} 0 1 = cc (o, w, e) in omega arith in
          let r = f x in
          let y = distance_after i p a b x in
          (r.0, r.1, record { below = r.2.below; itself_or_nearer = closer r.2.itself_or_nearer y })
        where
          closer : {j : ℕ} → (j ≡ i) ⊎ (distance N i (slot_after N j) < distance N i (slot_after N p)) → distance N i (slot_after N p) + 1 ≡ distance N i p → (j ≡ i) ⊎ (distance N i (slot_after N j) < distance N i p)
          closer (inl e) y = inl e
          closer (inr e) y = inr (omega arith)

  -- ---- fairness
  -- From place p on, k records were pumped one after another, whatever came between them; slot i waited before each of
  -- them, and none was its own.
  pub data PassedOver (i : ℕ) : ℕ → ℕ → Type 0 where
    PassedNobody : {p : ℕ} → PassedOver i p 0
    PassedOnce : {p k j : ℕ} (waits : ℕ → Bool) → waits i ≡ true → next_waiting N N waits p ≡ some j → (j ≡ i → ⊥) → PassedOver i (slot_after N j) k → PassedOver i p (suc k)

  some_same : {x y : ℕ} → ◌≡◌ {A = Option ℕ} (some x) (some y) → x ≡ y
  some_same e = cc

  -- They are fewer than the slots: whoever waits is served within N records.
  pub passed_few : (i p k : ℕ) → i < N → p < N → PassedOver i p k → k ≤ distance N i p
  passed_few i p zero a b PassedNobody = omega arith
  passed_few i p (suc k) a b (PassedOnce {j = j} waits w e d h) =
      let n = nearer N waits i p a b w (distance_below i p a b) in
      let x : n.0 ≡ j = some_same (sym n.1 ∙ e) in
      go (rw x at n.2) (λ b. passed_few i (slot_after N j) k a b h)
    where
      go : Nearer i p j → (slot_after N j < N → k ≤ distance N i (slot_after N j)) → suc k ≤ distance N i p
      go n f = closer n.itself_or_nearer (f (after_below j n.below))
        where
          closer : (j ≡ i) ⊎ (distance N i (slot_after N j) < distance N i p) → k ≤ distance N i (slot_after N j) → suc k ≤ distance N i p
          closer (inl x) y = absurd (d x)
          closer (inr x) y = omega arith

  -- Fewer than N records pass whoever waits.
  pub served_within : (i p k : ℕ) → i < N → p < N → PassedOver i p k → k < N
  served_within i p k a b h = let x = passed_few i p k a b h in let y = distance_below i p a b in omega arith

  -- what the search finds is a slot
  pub waiting_below : (k : ℕ) (waits : ℕ → Bool) (p j : ℕ) → p < N → next_waiting N k waits p ≡ some j → j < N
  unfolding next_waiting
  waiting_below zero waits p j b e = let z : ◌≡◌ {A = ℕ} 0 1 = cc in absurd (omega arith)
  waiting_below (suc k) waits p j b e = go (waits p) e (λ d. waiting_below k waits (slot_after N p) j (after_below p b) d)
    where
      go : (o : Bool) → (if o then some p else next_waiting N k waits (slot_after N p)) ≡ some j → (next_waiting N k waits (slot_after N p) ≡ some j → j < N) → j < N
      go true e f = let x : p ≡ j = cc in omega arith
      go false e f = f e

  -- where the search finds nobody, nobody waits
  pub nobody_waits_lem : (waits : ℕ → Bool) (i p : ℕ) → i < N → p < N → next_waiting N N waits p ≡ none → waits i ≡ false
  nobody_waits_lem waits i p a b e = go (waits i) refl
    where
      go : (o : Bool) → waits i ≡ o → o ≡ false
      go false w = refl
      go true w = let n = nearer N waits i p a b w (distance_below i p a b) in let z : ◌≡◌ {A = ℕ} 0 1 = cc (n.1, e) in absurd (omega arith)

-- ---- turns
module _ (M : Machine) (Q : Queue M) (N : ℕ) (serve : M.Argument) where
  open M use {Leftover, clean, Request, Argument}
  open Q use {Atom, waits}

  -- is there anything?
  unfoldable pub is_some : List Atom → Bool
  is_some [] = false
  is_some (x ∷ l) = true

  -- does something wait in a slot?
  unfoldable pub waits_here : SlotState Leftover Request → Bool
  waits_here (Vacant x) = false
  waits_here (HeldBy id r) = is_some (waits r)

  -- does something wait in slot i?
  abbrev pub slot_waits : Slots M → ℕ → Bool
  slot_waits T i = waits_here (slot_at clean T i)

  -- whose slot it is
  unfoldable pub holder : SlotState Leftover Request → ℕ
  holder (Vacant x) = 0
  holder (HeldBy id r) = id

  -- What a turn leaves: the connection, the slot that is looked at first in the next turn, and the ids that were
  -- served, in order.
  pub record Turn : Type 0 where
    pub state : Connection M
    pub next : ℕ
    pub served : List ℕ

  -- one record before a turn
  abbrev pub and_then : ℕ → Turn → Turn
  and_then id t = record { state = t.state; next = t.next; served = id ∷ t.served }

  -- the serve of an id
  abbrev pub serve_of : ℕ → Item Argument
  serve_of id = CallItem (RequestCall id serve)

  -- by the slot that is served, if any
  abbrev pub on_next : Option ℕ → (ℕ → Turn) → Turn → Turn
  on_next none f other = other
  on_next (some i) f other = f i

  -- no record
  abbrev pub no_turn : Connection M → ℕ → Turn
  no_turn s p = record { state = s; next = p; served = [] }

  -- a turn with an allowance of so many records
  unfoldable pub pumped : ℕ → Connection M → ℕ → Turn
  pumped zero s p = no_turn s p
  pumped (suc k) Closed p = no_turn Closed p
  pumped (suc k) (Open T F) p =
      on_next (next_waiting N N (slot_waits T) p)
      (λ i. let id = holder (slot_at clean T i) in and_then id (pumped k (on_item M (Open T F) (serve_of id)).0 (slot_after N i)))
      (no_turn (Open T F) p)

  -- the serves of these ids
  unfoldable pub serve_items : List ℕ → List (Item Argument)
  serve_items [] = []
  serve_items (id ∷ l) = serve_of id ∷ serve_items l

  -- A turn is its serves, one after another.
  pub turn_is_serves : (k : ℕ) (s : Connection M) (p : ℕ) → (pumped k s p).state ≡ state_after M s (serve_items (pumped k s p).served)
  unfolding pumped serve_items state_after
  turn_is_serves zero s p = refl
  turn_is_serves (suc k) Closed p = refl
  turn_is_serves (suc k) (Open T F) p = go (next_waiting N N (slot_waits T) p) (λ s q. turn_is_serves k s q)
    where
      turned : Option ℕ → Turn
      turned o = on_next o (λ i. let id = holder (slot_at clean T i) in and_then id (pumped k (on_item M (Open T F) (serve_of id)).0 (slot_after N i))) (no_turn (Open T F) p)

      go : (o : Option ℕ) → ((s : Connection M) (q : ℕ) → (pumped k s q).state ≡ state_after M s (serve_items (pumped k s q).served))
          → (turned o).state ≡ state_after M (Open T F) (serve_items (turned o).served)
      go none f = refl
      go (some i) f = f (on_item M (Open T F) (serve_of (holder (slot_at clean T i)))).0 (slot_after N i)

  -- It writes as many records as it may, or stops because nobody waits, or the connection is closed.
  abbrev pub NobodyWaits : Connection M → Type 0
  NobodyWaits Closed = Unit {0}
  NobodyWaits (Open T F) = (i : ℕ) → i < N → slot_waits T i ≡ false

  -- As many records as allowed, or nobody waits.
  pub stops_early : (k : ℕ) (s : Connection M) (p : ℕ) → p < N → (length (pumped k s p).served ≡ k) ⊎ NobodyWaits (pumped k s p).state
  unfolding pumped
  stops_early zero s p b = inl refl
  stops_early (suc k) Closed p b = inr tt
  stops_early (suc k) (Open T F) p b = go (next_waiting N N (slot_waits T) p) refl (λ s q c. stops_early k s q c)
    where
      turned : Option ℕ → Turn
      turned o = on_next o (λ i. let id = holder (slot_at clean T i) in and_then id (pumped k (on_item M (Open T F) (serve_of id)).0 (slot_after N i))) (no_turn (Open T F) p)

      more : (t : Turn) (id : ℕ) → (length t.served ≡ k) ⊎ NobodyWaits t.state → (length (id ∷ t.served) ≡ suc k) ⊎ NobodyWaits t.state
      more t id (inl e) = inl (ap suc e)
      more t id (inr e) = inr e

      go : (o : Option ℕ) → next_waiting N N (slot_waits T) p ≡ o → ((s : Connection M) (q : ℕ) → q < N → (length (pumped k s q).served ≡ k) ⊎ NobodyWaits (pumped k s q).state)
          → (length (turned o).served ≡ suc k) ⊎ NobodyWaits (turned o).state
      go none e f = inr (λ i a. nobody_waits_lem N (slot_waits T) i p a b e)
      go (some i) e f = more (pumped k (on_item M (Open T F) (serve_of (holder (slot_at clean T i)))).0 (slot_after N i)) (holder (slot_at clean T i)) (f (on_item M (Open T F) (serve_of (holder (slot_at clean T i)))).0 (slot_after N i) (found_below i e))
        where
          found_below : (i : ℕ) → next_waiting N N (slot_waits T) p ≡ some i → slot_after N i < N
          found_below i e = after_below N i (waiting_below N N (slot_waits T) p i b e)

  -- Turns are no items: without its serves a timeline with a turn in it is the timeline without it.
  pub turn_unserved : (l : List ℕ) (t : List (Item Argument)) → Q.is_serve serve ≡ true → unserved M Q (serve_items l ++ t) ≡ unserved M Q t
  unfolding serve_items unserved
  turn_unserved [] t e = refl
  turn_unserved (id ∷ l) t e = rw e (turn_unserved l t e)
