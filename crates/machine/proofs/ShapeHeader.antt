-- A header byte keeps a state in shape.
use Rattle.std.specs.Prelude.{◌≡◌, List, [], Bool, length, eqb, ltb}
use Rattle.std.proofs.Math.Path.{refl}
use Rattle.std.proofs.Math.Option.{none, some}
use Rattle.std.proofs.Math.Bool.{true, false}
use Prim.Native.Nat.{ℕ, zero, suc, ◌≤◌, ◌<◌}
use native.Mathlib.Omega.{arith}
use borrow.Author.Tests.{eqb-false, ltb-true}
use Rattle.machine.specs.Slots.{HeldBy, Lookup, Absent, FoundAt, lookup, slot_at, LookupRight, lookup_right, slot_written}
use Rattle.record.specs.Header.{header_of}
use Rattle.machine.specs.Timeline.{header_version, header_type, header_id, header_content, header_padding}
use Rattle.machine.specs.Machine.{HeaderOutcome, Decided, InactiveOutcome, WrongBegin, NewBegin, PassedOver, ManagementOutcome, QueryTooLong, Notices, Gathers, QueryOutcome, Asks, Breaks, Machine, Target, Skip, ToBegin, ToSlot, Reading, Slots, with_left, query_whole, query_header, management_header, inactive_header, target_at, header_decided, header_found, header_routed, header_versioned, header_byte}
use Rattle.machine.specs.Laws.{HeaderOutcomeOk, InactiveOutcomeOk, ManagementOutcomeOk, Laws}
use Rattle.machine.specs.Shape.{BytesOk, SlotOk, IsAbsent, SlotsOk, TargetOk, ReadingOk, EffectOk}
use Rattle.machine.proofs.ShapeSlots.{slots_kept, lookup_absent}

module _ (M : Machine) (L : Laws M) where
  open M use {clean, Request, Stream, Event, Notice, on_header, on_inactive, on_management, on_query}
  open L use {query_limit, RequestOk, StreamOk, header_ok, inactive_ok, management_ok}

  -- ---- what a header can say
  header_content_bound : (h : List ℕ) → BytesOk h → header_content h ≤ 65535
  unfolding header_content header_of
  header_content_bound h b = omega (arith, b 4, b 5)

  header_padding_bound : (h : List ℕ) → BytesOk h → header_padding h ≤ 255
  unfolding header_padding header_of
  header_padding_bound h b = omega (arith, b 6)

  -- so much left of a record
  pub reading_left_lem : (T : Slots M) (s : Target M) (c p : ℕ) → c ≤ 65535 → p ≤ 255 → TargetOk M L T s c → ReadingOk M L T (with_left M s c p)
  unfolding with_left
  reading_left_lem T s zero zero x y z = (omega arith, λ j. omega arith)
  reading_left_lem T s zero (suc p) x y z = record { some_left = omega arith; content_left = x; padding_left = y; target_ok = tt }
  reading_left_lem T s (suc c) p x y z = record { some_left = omega arith; content_left = x; padding_left = y; target_ok = z }

  -- ---- the eighth byte
  pub shape_query : (o : QueryOutcome Notice) (T : Slots M) (F : Reading M) → SlotsOk M L T → ReadingOk M L T F → EffectOk M L (query_whole M o T F)
  unfolding query_whole
  shape_query (Breaks place) T F t f = tt
  shape_query (Asks w) T F t f = (t, f)

  shape_query_header : (c : ℕ) (T : Slots M) (p : ℕ) → SlotsOk M L T → c ≤ 65535 → c ≤ query_limit → p ≤ 255 → EffectOk M L (query_header M c T p)
  unfolding query_header
  shape_query_header zero T p t w x y = shape_query (on_query []) T (with_left M Skip zero p) t (reading_left_lem T Skip zero p (omega arith) y tt)
  shape_query_header (suc c) T p t w x y = (t, record { some_left = omega arith; content_left = w; padding_left = y; target_ok = omega arith })

  shape_management : (o : ManagementOutcome Notice) (T : Slots M) (h : List ℕ) → SlotsOk M L T → BytesOk h → ManagementOutcomeOk query_limit (header_content h) o
      → EffectOk M L (management_header M o T h)
  unfolding management_header
  shape_management QueryTooLong T h t b e = tt
  shape_management (Notices w) T h t b e = (t, reading_left_lem T Skip (header_content h) (header_padding h) (header_content_bound h b) (header_padding_bound h b) tt)
  shape_management Gathers T h t b e = shape_query_header (header_content h) T (header_padding h) t (header_content_bound h b) e (header_padding_bound h b)

  shape_inactive : (o : InactiveOutcome) (T : Slots M) (h : List ℕ) → SlotsOk M L T → BytesOk h → 0 < header_id h → IsAbsent M L (header_id h) T
      → InactiveOutcomeOk (header_content h) o
      → EffectOk M L (inactive_header M o T h)
  unfolding inactive_header
  shape_inactive WrongBegin T h t b z l e = tt
  shape_inactive PassedOver T h t b z l e = (t, reading_left_lem T Skip (header_content h) (header_padding h) (header_content_bound h b) (header_padding_bound h b) tt)
  shape_inactive NewBegin T h t b z l e =
      (t, reading_left_lem T (ToBegin (header_id h) []) (header_content h) (header_padding h) (header_content_bound h b) (header_padding_bound h b) (omega arith, z, l))

  shape_decided : (o : HeaderOutcome Request Stream Event) (i : ℕ) (r : Request) (T : Slots M) (h : List ℕ) → SlotsOk M L T → BytesOk h
      → slot_at clean T i ≡ HeldBy (header_id h) r → HeaderOutcomeOk RequestOk StreamOk (header_content h) o
      → EffectOk M L (header_decided M o i T h)
  unfolding header_decided target_at
  shape_decided (Decided q x none) i r T h t b e d =
      (slots_kept M L T i (header_id h) r q t e d, reading_left_lem _ Skip (header_content h) (header_padding h) (header_content_bound h b) (header_padding_bound h b) tt)
  shape_decided (Decided q x (some k)) i r T h t b e d =
      let there = slot_written clean T i (header_id h) r (HeldBy (header_id h) q) e in (
        slots_kept M L T i (header_id h) r q t e d.0,
        reading_left_lem _ (ToSlot i k) (header_content h) (header_padding h) (header_content_bound h b) (header_padding_bound h b) (header_id h, q, there, d.1),
      )

  shape_found : (o : Lookup Request) (T : Slots M) (h : List ℕ) → SlotsOk M L T → BytesOk h → 0 < header_id h → lookup (header_id h) T ≡ o
      → LookupRight clean (header_id h) T o
      → EffectOk M L (header_found M o T h)
  unfolding header_found
  shape_found Absent T h t b z e s =
      shape_inactive (on_inactive (header_type h) (header_content h)) T h t b z (lookup_absent M L (header_id h) T e) (inactive_ok (header_type h) (header_content h))
  shape_found (FoundAt i r) T h t b z e s =
      let y : SlotOk M L (HeldBy (header_id h) r) = rw s at (t.fits i) in
      shape_decided (on_header (header_type h) (header_content h) r) i r T h t b s (header_ok (header_type h) (header_content h) r (header_content_bound h b) y.1)

  shape_routed : (o : Bool) (T : Slots M) (h : List ℕ) → SlotsOk M L T → BytesOk h → eqb (header_id h) 0 ≡ o → EffectOk M L (header_routed M o T h)
  unfolding header_routed
  shape_routed true T h t b e = shape_management (on_management (header_type h) (header_content h)) T h t b (management_ok (header_type h) (header_content h))
  shape_routed false T h t b e = let n = eqb-false (header_id h) 0 e in shape_found (lookup (header_id h) T) T h t b (omega arith) refl (lookup_right clean (header_id h) T)

  shape_versioned : (o : Bool) (T : Slots M) (h : List ℕ) → SlotsOk M L T → BytesOk h → EffectOk M L (header_versioned M o T h)
  unfolding header_versioned
  shape_versioned false T h t b = tt
  shape_versioned true T h t b = shape_routed (eqb (header_id h) 0) T h t b refl

  pub shape_header_byte : (o : Bool) (T : Slots M) (h : List ℕ) → SlotsOk M L T → BytesOk h → ltb (length h) 8 ≡ o → EffectOk M L (header_byte M o T h)
  unfolding header_byte
  shape_header_byte true T h t b e = (t, (ltb-true (length h) 8 e, b))
  shape_header_byte false T h t b e = shape_versioned (eqb (header_version h) 1) T h t b
