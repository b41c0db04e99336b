-- A call keeps a state in shape.
use Rattle.std.proofs.Math.Path.{◌≡◌, refl}
use Rattle.std.proofs.Common.{sym, ◌∙◌, inl, inr, arith}
use Rattle.std.specs.Prelude.{Bool, ◌⊎◌, ℕ, set, if◌then◌else◌}
use Rattle.std.proofs.Math.Bool.{true, false}
use Rattle.std.proofs.Math.Dec.{eqb}
use Rattle.std.proofs.lemmas.Bool.{eqb-false}
use Rattle.machine.specs.Slots.{Vacant, HeldBy, Lookup, Absent, FoundAt, slot_at, LookupRight}
use Rattle.machine.specs.Machine.{CallOutcome, Stays, Retires, Leaves, Closes, Machine, Target, Skip, ToBegin, ToQuery, ToSlot, Reading, AtHeader, PastHeader, Slots, target_without, reading_without, call_decided, request_called}
use Rattle.machine.specs.Laws.{CallOutcomeOk, Laws}
use Rattle.machine.specs.Shape.{SlotOk, SlotsOk, TargetOk, ReadingOk, EffectOk}
use Rattle.machine.proofs.ShapeSlots.{written_or_not, slots_kept, slots_freed, absent_kept}

module _ (M : Machine) (L : Laws M) where
  open M use {clean, Request, Stream, Argument, Answer, on_call}
  open L use {RequestOk, StreamOk, call_ok}

  -- ---- where a reader stands, when a slot is written between two bytes
  -- a request is put back
  target_kept : (T : Slots M) (i id : ℕ) (r q : Request) (s : Target M) (c : ℕ) → slot_at clean T i ≡ HeldBy id r → ((k : Stream) → StreamOk k c r → StreamOk k c q)
      → TargetOk M L T s c
      → TargetOk M L (set T i (HeldBy id q)) s c
  target_kept T i id r q Skip c e d s = tt
  target_kept T i id r q (ToBegin id' g) c e d s = (s.0, s.1, absent_kept M L T i (HeldBy id q) id' s.2 (λ x y. let z : id ≡ id' = cc in s.2 i r (rw (← z) e)))
  target_kept T i id r q (ToQuery g) c e d s = s
  target_kept T i id r q (ToSlot j k) c e d s = go (written_or_not (Vacant clean) T i j (HeldBy id q))
    where
      go : ((j ≡ i) × (slot_at clean (set T i (HeldBy id q)) j ≡ HeldBy id q)) ⊎ (slot_at clean (set T i (HeldBy id q)) j ≡ slot_at clean T j)
          → TargetOk M L (set T i (HeldBy id q)) (ToSlot j k) c
      go (inl h) =
          let x : slot_at clean T j ≡ HeldBy id r = rw h.0 e in
          let y : r ≡ s.1 = cc s.2 in
          (id, q, h.1, d k (rw y s.3))
      go (inr h) = (s.0, s.1, h ∙ s.2, s.3)

  reading_kept : (T : Slots M) (i id : ℕ) (r q : Request) (F : Reading M) → slot_at clean T i ≡ HeldBy id r → ((k : Stream) (c : ℕ) → StreamOk k c r → StreamOk k c q)
      → ReadingOk M L T F
      → ReadingOk M L (set T i (HeldBy id q)) F
  reading_kept T i id r q (AtHeader h) e d f = f
  reading_kept T i id r q (PastHeader s c p) e d f =
      record { some_left = f.some_left; content_left = f.content_left; padding_left = f.padding_left; target_ok = target_kept T i id r q s c e (λ k. d k c) f.target_ok }

  -- a slot is freed
  target_released : (T : Slots M) (i : ℕ) (s : Target M) (c : ℕ) → TargetOk M L T s c → TargetOk M L (set T i (Vacant clean)) (target_without M i s) c
  unfolding target_without
  target_released T i Skip c s = tt
  target_released T i (ToBegin id g) c s = (s.0, s.1, absent_kept M L T i (Vacant clean) id s.2 (λ x y. let z : ◌≡◌ {A = ℕ} 0 1 = cc in omega arith))
  target_released T i (ToQuery g) c s = s
  target_released T i (ToSlot j k) c s = go (eqb i j) refl (written_or_not (Vacant clean) T i j (Vacant clean))
    where
      go : (o : Bool) → eqb i j ≡ o → ((j ≡ i) × (slot_at clean (set T i (Vacant clean)) j ≡ Vacant clean)) ⊎ (slot_at clean (set T i (Vacant clean)) j ≡ slot_at clean T j)
          → TargetOk M L (set T i (Vacant clean)) (if o then Skip else ToSlot j k) c
      go true e h = tt
      go false e (inl h) = absurd (eqb-false i j e (sym h.0))
      go false e (inr h) = (s.0, s.1, h ∙ s.2, s.3)

  reading_released : (T : Slots M) (i : ℕ) (F : Reading M) → ReadingOk M L T F → ReadingOk M L (set T i (Vacant clean)) (reading_without M i F)
  unfolding reading_without
  reading_released T i (AtHeader h) f = f
  reading_released T i (PastHeader s c p) f =
      record { some_left = f.some_left; content_left = f.content_left; padding_left = f.padding_left; target_ok = target_released T i s c f.target_ok }

  -- a request is put back, and content for it is skipped
  target_retired : (T : Slots M) (i id : ℕ) (r q : Request) (s : Target M) (c : ℕ) → slot_at clean T i ≡ HeldBy id r → TargetOk M L T s c
      → TargetOk M L (set T i (HeldBy id q)) (target_without M i s) c
  unfolding target_without
  target_retired T i id r q Skip c e s = tt
  target_retired T i id r q (ToBegin id' g) c e s = (s.0, s.1, absent_kept M L T i (HeldBy id q) id' s.2 (λ x y. let z : id ≡ id' = cc in s.2 i r (rw (← z) e)))
  target_retired T i id r q (ToQuery g) c e s = s
  target_retired T i id r q (ToSlot j k) c e s = go (eqb i j) refl (written_or_not (Vacant clean) T i j (HeldBy id q))
    where
      go : (o : Bool) → eqb i j ≡ o → ((j ≡ i) × (slot_at clean (set T i (HeldBy id q)) j ≡ HeldBy id q)) ⊎ (slot_at clean (set T i (HeldBy id q)) j ≡ slot_at clean T j)
          → TargetOk M L (set T i (HeldBy id q)) (if o then Skip else ToSlot j k) c
      go true e h = tt
      go false e (inl h) = absurd (eqb-false i j e (sym h.0))
      go false e (inr h) = (s.0, s.1, h ∙ s.2, s.3)

  reading_retired : (T : Slots M) (i id : ℕ) (r q : Request) (F : Reading M) → slot_at clean T i ≡ HeldBy id r → ReadingOk M L T F
      → ReadingOk M L (set T i (HeldBy id q)) (reading_without M i F)
  unfolding reading_without
  reading_retired T i id r q (AtHeader h) e f = f
  reading_retired T i id r q (PastHeader s c p) e f =
      record { some_left = f.some_left; content_left = f.content_left; padding_left = f.padding_left; target_ok = target_retired T i id r q s c e f.target_ok }

  -- ---- calls
  shape_call_decided : (o : CallOutcome Request Answer) (i : ℕ) (r : Request) (id : ℕ) (a : Argument) (T : Slots M) (F : Reading M) → SlotsOk M L T → ReadingOk M L T F
      → slot_at clean T i ≡ HeldBy id r → CallOutcomeOk RequestOk StreamOk r o
      → EffectOk M L (call_decided M o i r id a T F)
  unfolding call_decided
  shape_call_decided (Stays q n) i r id a T F t f e d = (slots_kept M L T i id r q t e d.0, reading_kept T i id r q F e d.1 f)
  shape_call_decided (Retires q n) i r id a T F t f e d = (slots_kept M L T i id r q t e d, reading_retired T i id r q F e f)
  shape_call_decided (Leaves n) i r id a T F t f e d = (slots_freed M L T i t, reading_released T i F f)
  shape_call_decided (Closes n) i r id a T F t f e d = tt

  pub shape_call : (o : Lookup Request) (id : ℕ) (a : Argument) (T : Slots M) (F : Reading M) → SlotsOk M L T → ReadingOk M L T F → LookupRight clean id T o
      → EffectOk M L (request_called M o id a T F)
  unfolding request_called
  shape_call Absent id a T F t f s = (t, f)
  shape_call (FoundAt i r) id a T F t f s =
      let y : SlotOk M L (HeldBy id r) = rw s at (t.fits i) in shape_call_decided (on_call a r) i r id a T F t f s (call_ok a r y.1)
