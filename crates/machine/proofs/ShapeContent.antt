-- A byte past the header keeps a state in shape, and so does any byte.
use Rattle.std.specs.Prelude.{◌≡◌, List, [], ◌∷◌, ◌++◌, ltb}
use Rattle.std.proofs.Math.Path.{refl}
use Prim.Native.Nat.{ℕ, zero, suc, ◌+◌, ◌≤◌, ◌<◌}
use native.Mathlib.Omega.{arith}
use Rattle.std.proofs.Math.ListN.{length, length-append}
use Rattle.machine.specs.Slots.{SlotState, Vacant, HeldBy, Vacancy, NoVacancy, VacancyAt, first_vacancy, slot_at, slot_written}
use Rattle.machine.specs.Machine.{BeginOutcome, Declined, Accepted, Machine, Target, Skip, ToBegin, ToQuery, ToSlot, Reading, AtHeader, PastHeader, Slots, with_left, request_seated, begin_whole, stream_byte, content_byte, record_byte}
use Rattle.machine.specs.Laws.{BeginOutcomeOk, Laws}
use Rattle.machine.specs.Shape.{BytesOk, SlotOk, IsAbsent, SlotsOk, TargetOk, RestOk, ReadingOk, EffectOk}
use Rattle.machine.proofs.ShapeSlots.{slots_kept, slots_opened, VacancyThere, vacancy_there}
use Rattle.machine.proofs.ShapeHeader.{reading_left_lem, shape_query, shape_header_byte}

module _ (M : Machine) (L : Laws M) where
  open M use {Leftover, clean, Request, Stream, Event, on_begin, on_query}
  open L use {RequestOk, LeftoverOk, StreamOk, byte_ok, begin_ok}

  -- ---- content
  shape_seated : (o : Vacancy Leftover) (id : ℕ) (r : Leftover → Request) (e : Event) (T : Slots M) (p : ℕ) → SlotsOk M L T → p ≤ 255 → 0 < id → IsAbsent M L id T
      → VacancyThere M T o → ((x : Leftover) → LeftoverOk x → RequestOk (r x))
      → EffectOk M L (request_seated M o id r e T (with_left M Skip zero p))
  unfolding request_seated
  shape_seated NoVacancy id r e T p t y z l w f = (t, reading_left_lem M L T Skip zero p (omega arith) y tt)
  shape_seated (VacancyAt i x) id r e T p t y z l w f =
      let n : LeftoverOk x = rw w at (t.fits i) in
      (slots_opened M L T i id (r x) t z l (f x n), reading_left_lem M L _ Skip zero p (omega arith) y tt)

  shape_begin : (o : BeginOutcome Leftover Request Event) (id : ℕ) (T : Slots M) (p : ℕ) → SlotsOk M L T → p ≤ 255 → 0 < id → IsAbsent M L id T
      → BeginOutcomeOk RequestOk LeftoverOk o
      → EffectOk M L (begin_whole M o id T (with_left M Skip zero p))
  unfolding begin_whole
  shape_begin (Declined e) id T p t y z l d = (t, reading_left_lem M L T Skip zero p (omega arith) y tt)
  shape_begin (Accepted r e) id T p t y z l d = shape_seated (first_vacancy T) id r e T p t y z l (vacancy_there M T) d

  shape_stream_byte : (o : SlotState Leftover Request) (i : ℕ) (k : Stream) (c p b : ℕ) (T : Slots M) → SlotsOk M L T → b < 256 → c ≤ 65535 → p ≤ 255
      → slot_at clean T i ≡ o → TargetOk M L T (ToSlot i k) (suc c)
      → EffectOk M L (stream_byte M o i k c p b T)
  unfolding stream_byte
  shape_stream_byte (Vacant x) i k c p b T t w y z e s = (t, reading_left_lem M L T Skip c p y z tt)
  shape_stream_byte (HeldBy id r) i k c p b T t w y z e s =
      let f : SlotOk M L (HeldBy id r) = rw e at (t.fits i) in
      let q : r ≡ s.1 = cc s.2 in
      let d : StreamOk k (suc c) r = rw q s.3 in
      let o = byte_ok k b c r w f.1 d in
      (slots_kept M L T i id r _ t e o.0, reading_left_lem M L _ (ToSlot i k) c p y z (id, _, slot_written clean T i id r _ e, o.1))

  shape_content_byte : (s : Target M) (c p b : ℕ) (T : Slots M) → SlotsOk M L T → b < 256 → RestOk M L T s (suc c) p → EffectOk M L (content_byte M s c p b T)
  unfolding content_byte
  shape_content_byte Skip c p b T t w y = (t, reading_left_lem M L T Skip c p (omega arith) y.padding_left tt)
  shape_content_byte (ToBegin id g) zero p b T t w y =
      shape_begin (on_begin id (g ++ b ∷ [])) id T p t y.padding_left y.target_ok.1 y.target_ok.2 (begin_ok id (g ++ b ∷ []))
  shape_content_byte (ToBegin id g) (suc c) p b T t w y =
      let eight : length (g ++ b ∷ []) + suc c ≡ 8 = simp length-append (omega (arith, y.target_ok.0)) in
      (t, record { some_left = omega arith; content_left = omega arith; padding_left = y.padding_left; target_ok = (eight, y.target_ok.1, y.target_ok.2) })
  shape_content_byte (ToQuery g) zero p b T t w y =
      shape_query M L (on_query (g ++ b ∷ [])) T (with_left M Skip zero p) t (reading_left_lem M L T Skip zero p (omega arith) y.padding_left tt)
  shape_content_byte (ToQuery g) (suc c) p b T t w y =
      (t, record { some_left = omega arith; content_left = omega arith; padding_left = y.padding_left; target_ok = simp length-append (omega (arith, y.target_ok)) })
  shape_content_byte (ToSlot i k) c p b T t w y = shape_stream_byte (slot_at clean T i) i k c p b T t w (omega arith) y.padding_left refl y.target_ok

  -- ---- any byte
  pub bytes_one_more : (h : List ℕ) (b : ℕ) → BytesOk h → b < 256 → BytesOk (h ++ b ∷ [])
  bytes_one_more [] b x w zero = w
  bytes_one_more [] b x w (suc j) = omega arith
  bytes_one_more (y ∷ h) b x w zero = x 0
  bytes_one_more (y ∷ h) b x w (suc j) = bytes_one_more h b (λ i. x (suc i)) w j

  pub shape_record_byte : (T : Slots M) (F : Reading M) (b : ℕ) → SlotsOk M L T → ReadingOk M L T F → b < 256 → EffectOk M L (record_byte M T F b)
  unfolding record_byte
  shape_record_byte T (AtHeader h) b t f w = shape_header_byte M L (ltb (length (h ++ b ∷ [])) 8) T (h ++ b ∷ []) t (bytes_one_more h b f.1 w) refl
  shape_record_byte T (PastHeader s (suc c) p) b t f w = shape_content_byte s c p b T t w f
  shape_record_byte T (PastHeader s zero (suc p)) b t f w = (t, reading_left_lem M L T s zero p (omega arith) (omega arith) f.target_ok)
  shape_record_byte T (PastHeader s zero zero) b t f w = (t, (omega arith, λ j. omega arith))
