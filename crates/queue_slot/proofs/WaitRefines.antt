-- The slot's numbers, bytes and marks are a list of atoms: what is asked of the list is asked of the numbers, and what
-- is served next is the same.
use Rattle.std.specs.Prelude.{◌≡◌, refl, List, [], ◌∷◌, ◌++◌, map, Bool, true, false, ◌⊎◌, ℕ, zero, suc, ◌+◌, ◌≤◌, ◌<◌, length, take}
use Rattle.std.proofs.Common.{ap, ap₂, sym, ◌∙◌, inl, inr, arith, length-take-le}
use Rattle.record.specs.Names.{REQUEST_COMPLETE}
use Rattle.record.specs.Body.{end_body_bytes}
use Rattle.connection.specs.declared.answer.Output.{Output}
use Rattle.queue_slot.specs.Atoms.{RUN, Atom, ByteOn, EndOf, EndRequest, data_in, end_waits, Next, NoNext, NextEnd, NextData, NextLast, run_from, next}
use Rattle.queue_slot.proofs.AtomLaws.{is_same_lem, waits_append}
use Rattle.queue_slot.specs.declared.Ends.{Ends}
use Rattle.queue_slot.specs.Wait.{mark_ends, Wait, no_ends, anything, Served, ServesNothing, ServesEnd, ServesData, ServesLast, served, end_atoms, byte_atoms, last_atoms, atoms_in}
use Rattle.queue_slot.proofs.WaitLaws.{Sized}
use Rattle.queue_slot.proofs.ServeLaws.{Stops, ServedWell, served_well}

-- ---- a run that is the longest is the run
run_none : (k : ℕ) (o : Output) (l : List Atom) → Stops o l → run_from k o l ≡ record { content = []; behind = l }
unfolding run_from
run_none zero o l f = refl
run_none (suc k) o [] f = refl
run_none (suc k) o (ByteOn p b ∷ l) f = rw f
run_none (suc k) o (EndOf p ∷ l) f = refl
run_none (suc k) o (EndRequest c ∷ l) f = refl

-- bytes of one stream that are k or that another atom follows are the run
pub run_whole : (k : ℕ) (o : Output) (c : List ℕ) (l : List Atom) → length c ≤ k → (length c ≡ k) ⊎ Stops o l → run_from k o (map (ByteOn o) c ++ l) ≡ record { content = c; behind = l }
unfolding run_from
run_whole zero o [] l h f = refl
run_whole zero o (b ∷ c) l h f = absurd (omega arith)
run_whole (suc k) o [] l h (inl e) = absurd (omega arith)
run_whole (suc k) o [] l h (inr f) = run_none (suc k) o l f
run_whole (suc k) o (b ∷ c) l h f = rw (is_same_lem o, run_whole k o c l (omega arith) (less f))
  where
    less : (length (b ∷ c) ≡ suc k) ⊎ Stops o l → (length c ≡ k) ⊎ Stops o l
    less (inl e) = inl (omega arith)
    less (inr f) = inr f

-- ---- what is served next
abbrev pub as_next : Served → Next
as_next ServesNothing = NoNext
as_next (ServesEnd o v) = NextEnd o (atoms_in v)
as_next (ServesData o content v) = NextData o content (atoms_in v)
as_next (ServesLast status) = NextLast (end_body_bytes status REQUEST_COMPLETE) []

next_data : (o : Output) (c : List ℕ) (l : List Atom) → 0 < length c → length c ≤ RUN → (length c ≡ RUN) ⊎ Stops o l → next (map (ByteOn o) c ++ l) ≡ NextData o c l
unfolding next
next_data o [] l h g f = absurd (omega arith)
next_data o (b ∷ c) l h g f = rw (run_whole RUN o (b ∷ c) l g f)

as_next_lem : (w : Wait) (s : Served) → ServedWell w s → next (atoms_in w) ≡ as_next s
unfolding next
as_next_lem w ServesNothing h = rw h
as_next_lem w (ServesEnd o v) h = rw h.0
as_next_lem w (ServesData o content v) h = rw h.0 (next_data o content (atoms_in v) h.3 h.4 h.5)
as_next_lem w (ServesLast status) h = rw h.0

-- The record that the slot's numbers, bytes and marks give is the next one of the list: the longest run of bytes of one
-- stream, up to RUN, or an end, or END.
pub served_is_next : (w : Wait) → Sized w → next (atoms_in w) ≡ as_next (served w)
served_is_next w s = as_next_lem w (served w) (served_well w s)

-- ---- what is asked of the list
data_append : (l k : List Atom) → data_in (l ++ k) ≡ data_in l + data_in k
unfolding data_in
data_append [] k = omega arith
data_append (ByteOn o b ∷ l) k = let e = data_append l k in omega arith
data_append (EndOf o ∷ l) k = data_append l k
data_append (EndRequest c ∷ l) k = data_append l k

no_data_ends : (e : Ends) → data_in (end_atoms e) ≡ 0
unfolding data_in
no_data_ends Ends.None = refl
no_data_ends Ends.Out = refl
no_data_ends Ends.Err = refl
no_data_ends Ends.OutErr = refl
no_data_ends Ends.ErrOut = refl

no_data_last : (k : Bool) (status : ℕ) → data_in (last_atoms k status) ≡ 0
unfolding data_in
no_data_last true status = refl
no_data_last false status = refl

data_bytes : (x y : List ℕ) → length x ≡ length y → data_in (byte_atoms x y) ≡ length x
unfolding data_in byte_atoms
data_bytes [] y e = refl
data_bytes (b ∷ x) [] e = absurd (omega arith)
data_bytes (b ∷ x) (m ∷ y) e =
    let i = data_bytes x y (omega arith) in
    let a = data_append (end_atoms (mark_ends m)) (byte_atoms x y) in
    let z = no_data_ends (mark_ends m) in omega arith

-- The count is the number of data bytes that wait.
pub count_is : (w : Wait) → Sized w → data_in (atoms_in w) ≡ w.count
unfolding atoms_in
count_is w s =
    let x = take w.count w.bytes in
    let y = take w.count w.marks in
    let lx : length x ≡ w.count = length-take-le w.count w.bytes (omega (arith, s.bytes_size, s.count_fits)) in
    let ly : length y ≡ w.count = length-take-le w.count w.marks (omega (arith, s.marks_size, s.count_fits)) in
    let a = data_append (end_atoms w.front) (byte_atoms x y ++ last_atoms w.last w.status) in
    let b = data_append (byte_atoms x y) (last_atoms w.last w.status) in
    let c = data_bytes x y (lx ∙ sym ly) in
    let d = no_data_ends w.front in
    let e = no_data_last w.last w.status in
    a ∙ ap₂ (λ (i j : ℕ). i + j) d (b ∙ ap₂ (λ (i j : ℕ). i + j) (c ∙ lx) e) ∙ (let z : 0 + (w.count + 0) ≡ w.count = omega arith in z)

-- END waits in the list just where its mark is set.
no_end_ends : (e : Ends) → end_waits (end_atoms e) ≡ false
unfolding end_waits
no_end_ends Ends.None = refl
no_end_ends Ends.Out = refl
no_end_ends Ends.Err = refl
no_end_ends Ends.OutErr = refl
no_end_ends Ends.ErrOut = refl

no_end_bytes : (x y : List ℕ) → end_waits (byte_atoms x y) ≡ false
unfolding end_waits byte_atoms
no_end_bytes [] y = refl
no_end_bytes (b ∷ x) [] = refl
no_end_bytes (b ∷ x) (m ∷ y) = waits_append (end_atoms (mark_ends m)) (byte_atoms x y) (no_end_ends (mark_ends m)) ∙ no_end_bytes x y

end_of_last : (k : Bool) (status : ℕ) → end_waits (last_atoms k status) ≡ k
unfolding end_waits
end_of_last true status = refl
end_of_last false status = refl

-- END is in the list just where its number says so
pub last_is : (w : Wait) → end_waits (atoms_in w) ≡ w.last
unfolding atoms_in
last_is w =
    let x = byte_atoms (take w.count w.bytes) (take w.count w.marks) in
    waits_append (end_atoms w.front) (x ++ last_atoms w.last w.status) (no_end_ends w.front)
    ∙ waits_append x (last_atoms w.last w.status) (no_end_bytes (take w.count w.bytes) (take w.count w.marks))
    ∙ end_of_last w.last w.status

-- Where the list is empty, nothing is marked as waiting.
ends_none : (e : Ends) (l : List Atom) → end_atoms e ++ l ≡ [] → no_ends e ≡ true
ends_none Ends.None l h = refl
ends_none Ends.Out l h = let z : ◌≡◌ {A = ℕ} 0 1 = cc in absurd (omega arith)
ends_none Ends.Err l h = let z : ◌≡◌ {A = ℕ} 0 1 = cc in absurd (omega arith)
ends_none Ends.OutErr l h = let z : ◌≡◌ {A = ℕ} 0 1 = cc in absurd (omega arith)
ends_none Ends.ErrOut l h = let z : ◌≡◌ {A = ℕ} 0 1 = cc in absurd (omega arith)

-- where the list is empty, nothing waits
pub anything_is : (w : Wait) → Sized w → atoms_in w ≡ [] → anything w ≡ false
unfolding anything data_in end_waits atoms_in
anything_is w s e =
    let c : w.count ≡ 0 = sym (count_is w s) ∙ ap data_in e in
    let l : w.last ≡ false = sym (last_is w) ∙ ap end_waits e in
    let n = ends_none w.front (byte_atoms (take w.count w.bytes) (take w.count w.marks) ++ last_atoms w.last w.status) e in
    rw (c, n) l
