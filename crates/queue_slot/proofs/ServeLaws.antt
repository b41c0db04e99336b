-- What is written next is what waits first: the longest run of bytes of one stream, or an end, or END.
use Rattle.std.specs.Prelude.{◌≡◌, refl, List, [], ◌∷◌, ◌++◌, map, Bool, true, false, ◌⊎◌, ℕ, zero, suc, ◌+◌, ◌-◌, ◌%◌, ◌≤◌, ◌<◌, length, take, drop, eqb, if◌then◌else◌}
use Rattle.std.proofs.Common.{ap, sym, ◌∙◌, append_assoc, inl, inr, arith, length-drop, take_at, length-take-le, take-take, get_or-take, eqb-true}
use Rattle.std.proofs.lemmas.Bool.{eqb-false}
use Rattle.wire.specs.Test.{by_test}
use Rattle.wire.specs.Buffer.{put_at, byte_at}
use Rattle.wire.proofs.BufferLaws.{put_length}
use Rattle.connection.specs.declared.answer.Output.{Output}
use Rattle.queue_slot.specs.Atoms.{RUN, Atom, ByteOn, EndOf, EndRequest, finish_of, is_same}
use Rattle.queue_slot.specs.declared.Ends.{Ends}
use Rattle.queue_slot.specs.Wait.{mark_stream, mark_ends, Wait, no_ends, anything, run_length, Served, ServesNothing, ServesEnd, ServesData, ServesLast, with_front, without_first, serve_run, serve_data, serve_from, served, end_atoms, byte_atoms, last_atoms, atoms_in}
use Rattle.queue_slot.proofs.WaitLaws.{Sized}

-- ---- the run at the front
-- no byte of that stream comes first
abbrev pub Stops : Output → List Atom → Type 0
Stops o [] = Unit {0}
Stops o (ByteOn p b ∷ l) = is_same o p ≡ false
Stops o (EndOf p ∷ l) = Unit {0}
Stops o (EndRequest c ∷ l) = Unit {0}

stops_ends : (o : Output) (e : Ends) (l : List Atom) → no_ends e ≡ false → Stops o (end_atoms e ++ l)
stops_ends o Ends.None l h = let z : ◌≡◌ {A = ℕ} 0 1 = cc in absurd (omega arith)
stops_ends o Ends.Out l h = tt
stops_ends o Ends.Err l h = tt
stops_ends o Ends.OutErr l h = tt
stops_ends o Ends.ErrOut l h = tt

ends_or_not : (o : Output) (e : Ends) (l : List Atom) → Stops o l → Stops o (end_atoms e ++ l)
ends_or_not o Ends.None l h = h
ends_or_not o Ends.Out l h = tt
ends_or_not o Ends.Err l h = tt
ends_or_not o Ends.OutErr l h = tt
ends_or_not o Ends.ErrOut l h = tt

other_stream : (m next : ℕ) → eqb (m % 2) (next % 2) ≡ false → is_same (mark_stream m) (mark_stream next) ≡ false
unfolding mark_stream
other_stream m next d =
    let n = eqb-false (m % 2) (next % 2) d in
    by_test (eqb (m % 2) 0)
    (λ a. by_test (eqb (next % 2) 0) (λ b. absurd (n (eqb-true (m % 2) 0 a ∙ sym (eqb-true (next % 2) 0 b)))) (λ b. rw (a, b)))
    (λ a. by_test (eqb (next % 2) 0) (λ b. rw (a, b)) (λ b. absurd (both_odd (eqb-false (m % 2) 0 a) (eqb-false (next % 2) 0 b) n)))
  where
    odd : (k : ℕ) → (k % 2 ≡ 0 → ⊥) → k % 2 ≡ 1
    odd k f = go (k % 2) (omega arith) f
      where
        go : (j : ℕ) → j < 2 → (j ≡ 0 → ⊥) → j ≡ 1
        go zero h f = absurd (f refl)
        go (suc zero) h f = refl
        go (suc (suc j)) h f = absurd (omega arith)

    both_odd : (m % 2 ≡ 0 → ⊥) → (next % 2 ≡ 0 → ⊥) → (m % 2 ≡ next % 2 → ⊥) → ⊥
    both_odd f g n = n (odd m f ∙ sym (odd next g))

-- the longest run of bytes x with marks y, up to k
pub record RunOf (k : ℕ) (x y : List ℕ) : Type 0 where
  pub past : ℕ
  pub is_run : run_length k y ≡ suc past
  pub within : suc past ≤ length y
  pub short : suc past ≤ k
  -- it is the longest: up to the limit, or up to what is no byte of that stream
  pub longest : (suc past ≡ k) ⊎ Stops (mark_stream (byte_at y 0)) (end_atoms (mark_ends (byte_at y past)) ++ byte_atoms (drop (suc past) x) (drop (suc past) y))
  pub atoms : byte_atoms x y ≡ map (ByteOn (mark_stream (byte_at y 0))) (take (suc past) x) ++ (end_atoms (mark_ends (byte_at y past)) ++ byte_atoms (drop (suc past) x) (drop (suc past) y))

-- one byte is the run
one_run : (b m : ℕ) (x y : List ℕ) → byte_atoms (b ∷ x) (m ∷ y) ≡ map (ByteOn (mark_stream m)) (b ∷ []) ++ (end_atoms (mark_ends m) ++ byte_atoms x y)
unfolding byte_atoms
one_run b m x y = refl

no_ends_atoms : (e : Ends) → no_ends e ≡ true → end_atoms e ≡ []
no_ends_atoms Ends.None h = refl
no_ends_atoms Ends.Out h = let z : ◌≡◌ {A = ℕ} 0 1 = cc in absurd (omega arith)
no_ends_atoms Ends.Err h = let z : ◌≡◌ {A = ℕ} 0 1 = cc in absurd (omega arith)
no_ends_atoms Ends.OutErr h = let z : ◌≡◌ {A = ℕ} 0 1 = cc in absurd (omega arith)
no_ends_atoms Ends.ErrOut h = let z : ◌≡◌ {A = ℕ} 0 1 = cc in absurd (omega arith)

same_stream : (m next : ℕ) → eqb (m % 2) (next % 2) ≡ true → mark_stream next ≡ mark_stream m
unfolding mark_stream
same_stream m next e = rw (eqb-true (m % 2) (next % 2) e)

-- one byte, where the run ends behind it
run_of_one : (k b m : ℕ) (x y : List ℕ) → run_length (suc k) (m ∷ y) ≡ 1 → (1 ≡ suc k) ⊎ Stops (mark_stream m) (end_atoms (mark_ends m) ++ byte_atoms x y) → RunOf (suc k) (b ∷ x) (m ∷ y)
run_of_one k b m x y e f = record { past = 0; is_run = e; within = omega arith; short = omega arith; longest = f; atoms = one_run b m x y }

-- one byte more, where it goes on
run_of_more : (k b m next : ℕ) (x y : List ℕ) → no_ends (mark_ends m) ≡ true → eqb (m % 2) (next % 2) ≡ true → RunOf k x (next ∷ y) → RunOf (suc k) (b ∷ x) (m ∷ (next ∷ y))
unfolding run_length byte_atoms
run_of_more k b m next x y n p r = record {
  past = suc r.past;
  is_run = rw (n, p, r.is_run);
  within = omega (arith, r.within);
  short = omega (arith, r.short);
  longest = goes_on_lem r.longest;
  atoms = ap (λ l. ByteOn (mark_stream m) b ∷ l) (rw (no_ends_atoms (mark_ends m) n) (r.atoms ∙ rw (same_stream m next p)));
}
  where
    rest : List Atom
    rest = end_atoms (mark_ends (byte_at (next ∷ y) r.past)) ++ byte_atoms (drop (suc r.past) x) (drop (suc r.past) (next ∷ y))

    goes_on_lem : (suc r.past ≡ k) ⊎ Stops (mark_stream next) rest → (suc (suc r.past) ≡ suc k) ⊎ Stops (mark_stream m) rest
    goes_on_lem (inl e) = inl (ap suc e)
    goes_on_lem (inr e) = inr (rw (← (same_stream m next p)) e)

nothing_behind : (x : List ℕ) (o : Output) → Stops o (byte_atoms x [])
unfolding byte_atoms
nothing_behind [] o = tt
nothing_behind (b ∷ x) o = tt

another_stream : (m next c : ℕ) (x y : List ℕ) → eqb (m % 2) (next % 2) ≡ false → Stops (mark_stream m) (byte_atoms (c ∷ x) (next ∷ y))
unfolding byte_atoms
another_stream m next c x y d = other_stream m next d

-- it is found
pub run_of : (k : ℕ) (x y : List ℕ) → length x ≡ length y → 0 < length y → RunOf (suc k) x y
unfolding run_length
run_of k x [] e h = absurd (omega arith)
run_of k [] (m ∷ y) e h = absurd (omega arith)
run_of k (b ∷ x) (m ∷ []) e h = run_of_one k b m x [] refl (inr (ends_or_not (mark_stream m) (mark_ends m) (byte_atoms x []) (nothing_behind x (mark_stream m))))
run_of k (b ∷ []) (m ∷ (next ∷ y)) e h = absurd (omega arith)
run_of zero (b ∷ (c ∷ x)) (m ∷ (next ∷ y)) e h = run_of_one zero b m (c ∷ x) (next ∷ y) (by_test (no_ends (mark_ends m)) (λ n. by_test (eqb (m % 2) (next % 2)) (λ p. rw (n, p)) (λ p. rw (n, p))) (λ n. rw n)) (inl refl)
run_of (suc k) (b ∷ (c ∷ x)) (m ∷ (next ∷ y)) e h =
    let r = run_of k (c ∷ x) (next ∷ y) (omega arith) (omega arith) in
    by_test (no_ends (mark_ends m))
    (λ n. by_test (eqb (m % 2) (next % 2)) (λ p. run_of_more (suc k) b m next (c ∷ x) y n p r)
    (λ p. run_of_one (suc k) b m (c ∷ x) (next ∷ y) (rw (n, p)) (inr (ends_or_not (mark_stream m) (mark_ends m) (byte_atoms (c ∷ x) (next ∷ y)) (another_stream m next c x y p)))))
    (λ n. run_of_one (suc k) b m (c ∷ x) (next ∷ y) (rw n) (inr (stops_ends (mark_stream m) (mark_ends m) (byte_atoms (c ∷ x) (next ∷ y)) n)))

-- ---- what is taken out
pub put_front_lem : (l x : List ℕ) → length x ≤ length l → take (length x) (put_at l 0 x) ≡ x
put_front_lem l x h = take_at x (drop (0 + length x) l) (length x) refl

taken_length : (l : List ℕ) (c k : ℕ) → c ≤ length l → k ≤ c → length (drop k (take c l)) ≡ c - k
taken_length l c k h g = length-drop k (take c l) ∙ ap (λ (n : ℕ). n - k) (length-take-le c l h)

-- the rest of the first c, moved down
moved_down : (l : List ℕ) (c k : ℕ) → c ≤ length l → k ≤ c → take (c - k) (put_at l 0 (drop k (take c l))) ≡ drop k (take c l)
moved_down l c k h g =
    let e = taken_length l c k h g in
    let f : length (drop k (take c l)) ≤ length l = omega arith in
    ap (λ (n : ℕ). take n (put_at l 0 (drop k (take c l)))) (sym e) ∙ put_front_lem l (drop k (take c l)) f

-- the sizes stay
pub without_sized : (w : Wait) (k : ℕ) → Sized w → k ≤ w.count → Sized (without_first w k)
unfolding without_first
without_sized w k s h =
    let c = w.count in
    let hb : c ≤ length w.bytes = omega (arith, s.bytes_size, s.count_fits) in
    let hm : c ≤ length w.marks = omega (arith, s.marks_size, s.count_fits) in
    let eb = taken_length w.bytes c k hb h in
    let em = taken_length w.marks c k hm h in
    let fb : 0 + length (drop k (take c w.bytes)) ≤ length w.bytes = omega arith in
    let fm : 0 + length (drop k (take c w.marks)) ≤ length w.marks = omega arith in
    record {
      count_fits = omega (arith, s.count_fits);
      bytes_size = put_length w.bytes 0 (drop k (take c w.bytes)) fb ∙ s.bytes_size;
      marks_size = put_length w.marks 0 (drop k (take c w.marks)) fm ∙ s.marks_size;
    }

-- ---- what a serve writes
-- Nothing where nothing waits; else what waited first, and then what is left.
abbrev pub ServedWell : Wait → Served → Type 0
ServedWell w ServesNothing = atoms_in w ≡ []
ServedWell w (ServesEnd o v) = (atoms_in w ≡ EndOf o ∷ atoms_in v) × Sized v × (v.last ≡ w.last)
ServedWell w (ServesData o content v) = (atoms_in w ≡ map (ByteOn o) content ++ atoms_in v) × Sized v × (v.last ≡ w.last) × (0 < length content) × (length content ≤ RUN) × ((length content ≡ RUN) ⊎ Stops o (atoms_in v))
ServedWell w (ServesLast status) = (atoms_in w ≡ finish_of status ∷ []) × (w.last ≡ true) × (status ≡ w.status)

-- END comes behind
stops_last : (o : Output) (l : List Atom) (k : Bool) (status : ℕ) → Stops o l → Stops o (l ++ last_atoms k status)
stops_last o [] true status f = tt
stops_last o [] false status f = tt
stops_last o (ByteOn p b ∷ l) k status f = f
stops_last o (EndOf p ∷ l) k status f = tt
stops_last o (EndRequest c ∷ l) k status f = tt

run_taken : (w : Wait) → Sized w → w.front ≡ Ends.None → (r : RunOf RUN (take w.count w.bytes) (take w.count w.marks)) → suc r.past ≤ w.count
    → ServedWell w (serve_run w (suc r.past))
unfolding serve_run without_first atoms_in
run_taken w s n r h =
    let c = w.count in
    let j = r.past in
    let x = take c w.bytes in
    let y = take c w.marks in
    let last = last_atoms w.last w.status in
    let hb : c ≤ length w.bytes = omega (arith, s.bytes_size, s.count_fits) in
    let hm : c ≤ length w.marks = omega (arith, s.marks_size, s.count_fits) in
    let b0 : byte_at y 0 ≡ byte_at w.marks 0 = get_or-take c w.marks 0 0 (omega arith) in
    let bj : byte_at y j ≡ byte_at w.marks j = get_or-take c w.marks j 0 (omega arith) in
    let tk : take (suc j) x ≡ take (suc j) w.bytes = take-take (suc j) c w.bytes h in
    let mb = moved_down w.bytes c (suc j) hb h in
    let mm = moved_down w.marks c (suc j) hm h in
    let one : suc j - 1 ≡ j = omega arith in
    let first = map (ByteOn (mark_stream (byte_at w.marks 0))) (take (suc j) w.bytes) in
    let ends = end_atoms (mark_ends (byte_at w.marks j)) in
    let rest = byte_atoms (drop (suc j) x) (drop (suc j) y) in
    let e : byte_atoms x y ≡ first ++ (ends ++ rest) = r.atoms ∙ rw (b0, bj, tk) in
    let len : length (take (suc j) w.bytes) ≡ suc j = length-take-le (suc j) w.bytes (omega arith) in (
      rw (n, e, one, mb, mm) (append_assoc first (ends ++ rest) last ∙ ap (λ l. first ++ l) (append_assoc ends rest last)),
      without_sized w (suc j) s h,
      refl,
      omega arith,
      omega (arith, r.short),
      rw (one, mb, mm) (whole_run r.longest len b0 bj),
    )
  where
    whole_run : (suc r.past ≡ RUN) ⊎ Stops (mark_stream (byte_at (take w.count w.marks) 0)) (end_atoms (mark_ends (byte_at (take w.count w.marks) r.past)) ++ byte_atoms (drop (suc r.past) (take w.count w.bytes)) (drop (suc r.past) (take w.count w.marks)))
        → length (take (suc r.past) w.bytes) ≡ suc r.past → byte_at (take w.count w.marks) 0 ≡ byte_at w.marks 0 → byte_at (take w.count w.marks) r.past ≡ byte_at w.marks r.past
        → (length (take (suc r.past) w.bytes) ≡ RUN)
        ⊎ Stops (mark_stream (byte_at w.marks 0)) (end_atoms (mark_ends (byte_at w.marks r.past)) ++ (byte_atoms (drop (suc r.past) (take w.count w.bytes)) (drop (suc r.past) (take w.count w.marks)) ++ last_atoms w.last w.status))
    whole_run (inl e) n a b = inl (n ∙ e)
    whole_run (inr e) n a b =
        let ends = end_atoms (mark_ends (byte_at w.marks r.past)) in
        let rest = byte_atoms (drop (suc r.past) (take w.count w.bytes)) (drop (suc r.past) (take w.count w.marks)) in
        let f : Stops (mark_stream (byte_at w.marks 0)) (ends ++ rest) = rw (a, b) at e in
        inr (rw (← (append_assoc ends rest (last_atoms w.last w.status))) (stops_last (mark_stream (byte_at w.marks 0)) (ends ++ rest) w.last w.status f))

run_served : (w : Wait) → Sized w → w.front ≡ Ends.None → 0 < w.count → ServedWell w (serve_run w (run_length RUN (take w.count w.marks)))
run_served w s n h =
    let c = w.count in
    let x = take c w.bytes in
    let y = take c w.marks in
    let lx : length x ≡ c = length-take-le c w.bytes (omega (arith, s.bytes_size, s.count_fits)) in
    let ly : length y ≡ c = length-take-le c w.marks (omega (arith, s.marks_size, s.count_fits)) in
    let r = run_of 511 x y (lx ∙ sym ly) (omega arith) in
    rw r.is_run (run_taken w s n r (omega (arith, r.within)))

-- no data waits
last_served : (k : Bool) (w : Wait) → w.last ≡ k → w.front ≡ Ends.None → w.count ≡ 0 → ServedWell w (if k then ServesLast w.status else ServesNothing)
unfolding atoms_in byte_atoms
last_served true w l n z = (rw (n, z, l), l, refl)
last_served false w l n z = rw (n, z, l)

data_served : (w : Wait) → Sized w → w.front ≡ Ends.None → ServedWell w (serve_data w)
unfolding serve_data
data_served w s n =
    by_test (eqb w.count 0) (λ e. rw e (last_served w.last w refl n (eqb-true w.count 0 e)))
    (λ e. let d = eqb-false w.count 0 e in let h : 0 < w.count = positive w.count d in rw e (run_served w s n h))
  where
    positive : (k : ℕ) → (k ≡ 0 → ⊥) → 0 < k
    positive zero d = absurd (d refl)
    positive (suc k) d = omega arith

front_sized : (w : Wait) (e : Ends) → Sized w → Sized (with_front w e)
front_sized w e s = record { count_fits = s.count_fits; bytes_size = s.bytes_size; marks_size = s.marks_size }

serve_from_lem : (e : Ends) (w : Wait) → Sized w → w.front ≡ e → ServedWell w (serve_from e w)
unfolding atoms_in
serve_from_lem Ends.None w s n = data_served w s n
serve_from_lem Ends.Out w s n = (rw n, front_sized w Ends.None s, refl)
serve_from_lem Ends.Err w s n = (rw n, front_sized w Ends.None s, refl)
serve_from_lem Ends.OutErr w s n = (rw n, front_sized w Ends.Err s, refl)
serve_from_lem Ends.ErrOut w s n = (rw n, front_sized w Ends.Out s, refl)

-- The law of a serve.
pub served_well : (w : Wait) → Sized w → ServedWell w (served w)
served_well w s = serve_from_lem w.front w s refl

-- ---- anything waits, or nothing
pub nothing_waits : (w : Wait) → anything w ≡ false → atoms_in w ≡ []
unfolding anything atoms_in byte_atoms
nothing_waits w h =
    by_test (eqb w.count 0)
    (λ e. let g : (if no_ends w.front then w.last else true) ≡ false = rw e at h in
    by_test (no_ends w.front) (λ n. let l : w.last ≡ false = rw n at g in rw (eqb-true w.count 0 e, no_ends_atoms w.front n, l)) (λ n. let z : ◌≡◌ {A = ℕ} 0 1 = cc (rw n at g) in absurd (omega arith)))
    (λ e. let z : ◌≡◌ {A = ℕ} 0 1 = cc (rw e at h) in absurd (omega arith))

-- where END waits, something waits
pub leaving_not_empty : (w : Wait) → w.last ≡ true → atoms_in w ≡ [] → ⊥
unfolding atoms_in
leaving_not_empty w l e = not_nil (end_atoms w.front) (byte_atoms (take w.count w.bytes) (take w.count w.marks)) w.status (rw l at e)
  where
    second : (y : List Atom) (s : ℕ) → y ++ finish_of s ∷ [] ≡ [] → ⊥
    second [] s e = let z : ◌≡◌ {A = ℕ} 0 1 = cc in omega arith
    second (a ∷ y) s e = let z : ◌≡◌ {A = ℕ} 0 1 = cc in omega arith

    not_nil : (x y : List Atom) (s : ℕ) → x ++ (y ++ finish_of s ∷ []) ≡ [] → ⊥
    not_nil [] y s e = second y s e
    not_nil (a ∷ x) y s e = let z : ◌≡◌ {A = ℕ} 0 1 = cc in omega arith
