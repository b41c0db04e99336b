-- What comes to wait comes behind what waits; what is written next is what waits first.
use Rattle.std.specs.Prelude.{◌≡◌, refl, List, [], ◌∷◌, ◌++◌, map, Bool, true, false, ℕ, zero, suc, ◌+◌, ◌-◌, ◌≤◌, ◌<◌, length, take, drop, set, replicate, eqb, if◌then◌else◌}
use Rattle.std.proofs.Common.{ap, sym, ◌∙◌, append_assoc, append-nil, arith, length-append, length-take, length-set, take_at, take-suc, take-suc-set, length-take-le, eqb-true}
use Rattle.std.proofs.lemmas.List.{length-replicate}
use Rattle.std.proofs.lemmas.Bool.{eqb-false}
use Rattle.wire.specs.Test.{by_test}
use Rattle.wire.specs.Buffer.{put_at, byte_at}
use Rattle.wire.proofs.BufferLaws.{put_length}
use Rattle.connection.specs.declared.request.RequestState.{RequestState}
use Rattle.connection.specs.declared.answer.Output.{Output}
use Rattle.connection.specs.RequestCalls.{owes_out, owes_err}
use Rattle.queue_slot.specs.Atoms.{Atom, ByteOn, EndOf, EndRequest, finish_of}
use Rattle.queue_slot.specs.Finishing.{owed_end, last_words}
use Rattle.queue_slot.specs.declared.Ends.{Ends}
use Rattle.queue_slot.specs.Wait.{ROOM, with_end, stream_number, mark_of, mark_stream, ends_of, mark_ends, mark_ended, Wait, wait_data, wait_end, wait_finish, with_front, end_atoms, byte_atoms, last_atoms, atoms_in}

-- ---- marks
pub mark_stream_lem : (o : Output) (e : Ends) → mark_stream (mark_of o e) ≡ o
unfolding mark_stream mark_of
mark_stream_lem Output.Stdout Ends.None = refl
mark_stream_lem Output.Stdout Ends.Out = refl
mark_stream_lem Output.Stdout Ends.Err = refl
mark_stream_lem Output.Stdout Ends.OutErr = refl
mark_stream_lem Output.Stdout Ends.ErrOut = refl
mark_stream_lem Output.Stderr Ends.None = refl
mark_stream_lem Output.Stderr Ends.Out = refl
mark_stream_lem Output.Stderr Ends.Err = refl
mark_stream_lem Output.Stderr Ends.OutErr = refl
mark_stream_lem Output.Stderr Ends.ErrOut = refl

-- the ends of a mark
pub mark_ends_lem : (o : Output) (e : Ends) → mark_ends (mark_of o e) ≡ e
unfolding mark_ends mark_of ends_of
mark_ends_lem Output.Stdout Ends.None = refl
mark_ends_lem Output.Stdout Ends.Out = refl
mark_ends_lem Output.Stdout Ends.Err = refl
mark_ends_lem Output.Stdout Ends.OutErr = refl
mark_ends_lem Output.Stdout Ends.ErrOut = refl
mark_ends_lem Output.Stderr Ends.None = refl
mark_ends_lem Output.Stderr Ends.Out = refl
mark_ends_lem Output.Stderr Ends.Err = refl
mark_ends_lem Output.Stderr Ends.OutErr = refl
mark_ends_lem Output.Stderr Ends.ErrOut = refl

-- ---- ends
-- that end is not among these atoms
abbrev pub Unended : Output → List Atom → Type 0
Unended o [] = Unit {0}
Unended o (ByteOn p b ∷ l) = Unended o l
Unended o (EndOf p ∷ l) = (p ≡ o → ⊥) × Unended o l
Unended o (EndRequest s ∷ l) = Unended o l

-- in the first part
pub unended_left : (o : Output) (l k : List Atom) → Unended o (l ++ k) → Unended o l
unended_left o [] k f = tt
unended_left o (ByteOn p b ∷ l) k f = unended_left o l k f
unended_left o (EndOf p ∷ l) k f = (f.0, unended_left o l k f.1)
unended_left o (EndRequest s ∷ l) k f = unended_left o l k f

-- in the second part
pub unended_right : (o : Output) (l k : List Atom) → Unended o (l ++ k) → Unended o k
unended_right o [] k f = f
unended_right o (ByteOn p b ∷ l) k f = unended_right o l k f
unended_right o (EndOf p ∷ l) k f = unended_right o l k f.1
unended_right o (EndRequest s ∷ l) k f = unended_right o l k f

-- in two parts
pub unended_append : (o : Output) (l k : List Atom) → Unended o l → Unended o k → Unended o (l ++ k)
unended_append o [] k f g = g
unended_append o (ByteOn p b ∷ l) k f g = unended_append o l k f g
unended_append o (EndOf p ∷ l) k f g = (f.0, unended_append o l k f.1 g)
unended_append o (EndRequest s ∷ l) k f g = unended_append o l k f g

-- data has no ends
pub unended_bytes : (o p : Output) (l : List ℕ) → Unended o (map (ByteOn p) l)
unended_bytes o p [] = tt
unended_bytes o p (b ∷ l) = unended_bytes o p l

-- one end more
pub end_added : (e : Ends) (o : Output) → Unended o (end_atoms e) → end_atoms (with_end e o) ≡ end_atoms e ++ EndOf o ∷ []
end_added Ends.None Output.Stdout f = refl
end_added Ends.None Output.Stderr f = refl
end_added Ends.Out Output.Stdout f = absurd (f.0 refl)
end_added Ends.Out Output.Stderr f = refl
end_added Ends.Err Output.Stdout f = refl
end_added Ends.Err Output.Stderr f = absurd (f.0 refl)
end_added Ends.OutErr Output.Stdout f = absurd (f.0 refl)
end_added Ends.OutErr Output.Stderr f = absurd (f.1.0 refl)
end_added Ends.ErrOut Output.Stdout f = absurd (f.1.0 refl)
end_added Ends.ErrOut Output.Stderr f = absurd (f.0 refl)

-- ---- bytes with marks
pub byte_atoms_append : (a b x y : List ℕ) → length a ≡ length x → byte_atoms (a ++ b) (x ++ y) ≡ byte_atoms a x ++ byte_atoms b y
unfolding byte_atoms
byte_atoms_append [] b [] y e = refl
byte_atoms_append [] b (m ∷ x) y e = absurd (omega arith)
byte_atoms_append (c ∷ a) b [] y e = absurd (omega arith)
byte_atoms_append (c ∷ a) b (m ∷ x) y e =
    ap (λ l. ByteOn (mark_stream m) c ∷ l) (ap (λ l. end_atoms (mark_ends m) ++ l) (byte_atoms_append a b x y (omega arith)) ∙ sym (append_assoc (end_atoms (mark_ends m)) (byte_atoms a x) (byte_atoms b y)))

-- bytes on one stream
pub byte_atoms_plain : (o : Output) (a : List ℕ) → byte_atoms a (replicate (length a) (mark_of o Ends.None)) ≡ map (ByteOn o) a
unfolding byte_atoms
byte_atoms_plain o [] = refl
byte_atoms_plain o (b ∷ a) = rw (mark_stream_lem o Ends.None, mark_ends_lem o Ends.None) (ap (λ l. ByteOn o b ∷ l) (byte_atoms_plain o a))

-- ---- sizes
-- The areas have their size, and no more waits than there is room for.
pub record Sized (w : Wait) : Type 0 where
  pub count_fits : w.count ≤ ROOM
  pub bytes_size : length w.bytes ≡ ROOM
  pub marks_size : length w.marks ≡ ROOM

-- the first of a part that was put behind them
pub put_first : (l x : List ℕ) (n : ℕ) → n + length x ≤ length l → take (n + length x) (put_at l n x) ≡ take n l ++ x
put_first l x n h =
    let e : length (take n l ++ x) ≡ n + length x = simp (length-append, length-take) (omega arith) in
    take_at (take n l ++ x) (drop (n + length x) l) (n + length x) e

-- ---- data comes to wait
pub data_sized : (w : Wait) (o : Output) (content : List ℕ) → Sized w → w.count + length content ≤ ROOM → Sized (wait_data w o content)
unfolding wait_data
data_sized w o content s h =
    let e : w.count + length (replicate (length content) (mark_of o Ends.None)) ≤ length w.marks = simp (length-replicate) (omega (arith, s.marks_size)) in
    record {
      count_fits = h;
      bytes_size = put_length w.bytes w.count content (omega (arith, s.bytes_size)) ∙ s.bytes_size;
      marks_size = put_length w.marks w.count (replicate (length content) (mark_of o Ends.None)) e ∙ s.marks_size;
    }

data_marks : (w : Wait) (o : Output) (content : List ℕ) → Sized w → w.count + length content ≤ ROOM
    → take (w.count + length content) (put_at w.marks w.count (replicate (length content) (mark_of o Ends.None))) ≡ take w.count w.marks ++ replicate (length content) (mark_of o Ends.None)
data_marks w o content s h =
    let x = replicate (length content) (mark_of o Ends.None) in
    let n : length x ≡ length content = length-replicate (length content) (mark_of o Ends.None) in
    let f : w.count + length x ≤ length w.marks = omega (arith, s.marks_size) in
    ap (λ (k : ℕ). take (w.count + k) (put_at w.marks w.count x)) (sym n) ∙ put_first w.marks x w.count f

-- Data comes behind all that waits.
pub data_waits : (w : Wait) (o : Output) (content : List ℕ) → Sized w → w.count + length content ≤ ROOM → w.last ≡ false
    → atoms_in (wait_data w o content) ≡ atoms_in w ++ map (ByteOn o) content
unfolding atoms_in wait_data
data_waits w o content s h l =
    let c = w.count in
    let x = take c w.bytes in
    let y = take c w.marks in
    let f : c + length content ≤ length w.bytes = omega (arith, s.bytes_size) in
    let n : length x ≡ length y = length-take-le c w.bytes (omega (arith, s.bytes_size, s.count_fits)) ∙ sym (length-take-le c w.marks (omega (arith, s.marks_size, s.count_fits))) in
    let e = byte_atoms_append x content y (replicate (length content) (mark_of o Ends.None)) n in
    rw (put_first w.bytes content c f, data_marks w o content s h, e, byte_atoms_plain o content, l)
    (ap (λ k. end_atoms w.front ++ k) (append-nil (byte_atoms x y ++ map (ByteOn o) content) ∙ ap (λ k. k ++ map (ByteOn o) content) (sym (append-nil (byte_atoms x y))))
    ∙ sym (append_assoc (end_atoms w.front) (byte_atoms x y ++ []) (map (ByteOn o) content)))

-- ---- an end comes to wait
pub end_sized : (w : Wait) (o : Output) → Sized w → Sized (wait_end w o)
unfolding wait_end
end_sized w o s = by_test (eqb w.count 0)
    (λ e. rw e (record { count_fits = s.count_fits; bytes_size = s.bytes_size; marks_size = s.marks_size }))
    (λ e. rw e (record { count_fits = s.count_fits; bytes_size = s.bytes_size; marks_size = length-set w.marks (w.count - 1) (mark_ended (byte_at w.marks (w.count - 1)) o) ∙ s.marks_size }))

-- END waits or does not, as before
pub end_last : (w : Wait) (o : Output) → (wait_end w o).last ≡ w.last
unfolding wait_end
end_last w o = by_test (eqb w.count 0) (λ e. rw e) (λ e. rw e)

-- the last byte with its mark
one_more_lem : (a x : List ℕ) (b m : ℕ) → length a ≡ length x → byte_atoms (a ++ b ∷ []) (x ++ m ∷ []) ≡ byte_atoms a x ++ (ByteOn (mark_stream m) b ∷ end_atoms (mark_ends m))
unfolding byte_atoms
one_more_lem a x b m e = byte_atoms_append a (b ∷ []) x (m ∷ []) e ∙ ap (λ l. byte_atoms a x ++ (ByteOn (mark_stream m) b ∷ l)) (append-nil (end_atoms (mark_ends m)))

-- behind the last byte
end_behind_lem : (bytes marks : List ℕ) (c : ℕ) (o : Output) → c < length bytes → c < length marks
    → Unended o (byte_atoms (take (suc c) bytes) (take (suc c) marks))
    → byte_atoms (take (suc c) bytes) (take (suc c) (set marks c (mark_ended (byte_at marks c) o))) ≡ byte_atoms (take (suc c) bytes) (take (suc c) marks) ++ EndOf o ∷ []
unfolding mark_ended
end_behind_lem bytes marks c o hb hm f =
    let a = take c bytes in
    let x = take c marks in
    let b = byte_at bytes c in
    let m = byte_at marks c in
    let n : length a ≡ length x = length-take-le c bytes (omega arith) ∙ sym (length-take-le c marks (omega arith)) in
    let m' = mark_of (mark_stream m) (with_end (mark_ends m) o) in
    let tb : take (suc c) bytes ≡ a ++ b ∷ [] = take-suc bytes c 0 hb in
    let tm : take (suc c) marks ≡ x ++ m ∷ [] = take-suc marks c 0 hm in
    let ts : take (suc c) (set marks c m') ≡ x ++ m' ∷ [] = take-suc-set marks c m' hm in
    let old : byte_atoms (take (suc c) bytes) (take (suc c) marks) ≡ byte_atoms a x ++ (ByteOn (mark_stream m) b ∷ end_atoms (mark_ends m)) = rw (tb, tm) (one_more_lem a x b m n) in
    let g : Unended o (byte_atoms a x ++ (ByteOn (mark_stream m) b ∷ end_atoms (mark_ends m))) = rw old at f in
    let h : Unended o (end_atoms (mark_ends m)) = unended_right o (byte_atoms a x) (ByteOn (mark_stream m) b ∷ end_atoms (mark_ends m)) g in
    rw (old, tb, ts, one_more_lem a x b m' n, mark_stream_lem (mark_stream m) (with_end (mark_ends m) o), mark_ends_lem (mark_stream m) (with_end (mark_ends m) o), end_added (mark_ends m) o h)
    (sym (append_assoc (byte_atoms a x) (ByteOn (mark_stream m) b ∷ end_atoms (mark_ends m)) (EndOf o ∷ [])))

-- where no data waits
end_alone : (w : Wait) (o : Output) → w.last ≡ false → w.count ≡ 0 → Unended o (atoms_in w) → atoms_in (with_front w (with_end w.front o)) ≡ atoms_in w ++ EndOf o ∷ []
unfolding atoms_in byte_atoms
end_alone w o l z f =
    let g : Unended o (end_atoms w.front) = unended_left o (end_atoms w.front) (byte_atoms (take w.count w.bytes) (take w.count w.marks) ++ last_atoms w.last w.status) f in
    rw (z, l, end_added w.front o g) (append-nil _ ∙ ap (λ k. k ++ EndOf o ∷ []) (sym (append-nil (end_atoms w.front))))

-- where data waits
end_on_data : (w : Wait) (o : Output) (c : ℕ) → Sized w → w.last ≡ false → w.count ≡ suc c → Unended o (atoms_in w)
    → atoms_in (record { count = w.count; front = w.front; last = w.last; status = w.status; bytes = w.bytes; marks = set w.marks c (mark_ended (byte_at w.marks c) o) }) ≡ atoms_in w ++ EndOf o ∷ []
unfolding atoms_in
end_on_data w o c s l z f =
    let x = byte_atoms (take (suc c) w.bytes) (take (suc c) w.marks) in
    let g : Unended o (end_atoms w.front ++ (x ++ [])) = rw (z, l) at f in
    let h : Unended o x = unended_left o x [] (unended_right o (end_atoms w.front) (x ++ []) g) in
    let e = end_behind_lem w.bytes w.marks c o (omega (arith, s.bytes_size, s.count_fits)) (omega (arith, s.marks_size, s.count_fits)) h in
    rw (z, l, e)
    (ap (λ k. end_atoms w.front ++ k) (append-nil (x ++ EndOf o ∷ []) ∙ ap (λ k. k ++ EndOf o ∷ []) (sym (append-nil x))) ∙ sym (append_assoc (end_atoms w.front) (x ++ []) (EndOf o ∷ [])))

-- The end of a stream comes behind all that waits.
pub end_waits_lem : (w : Wait) (o : Output) → Sized w → w.last ≡ false → Unended o (atoms_in w) → atoms_in (wait_end w o) ≡ atoms_in w ++ EndOf o ∷ []
unfolding wait_end
end_waits_lem w o s l f =
    by_test (eqb w.count 0) (λ e. rw e (end_alone w o l (eqb-true w.count 0 e) f))
    (λ e. let n = eqb-false w.count 0 e in let z : w.count ≡ suc (w.count - 1) = some_left w.count n in rw e (end_on_data w o (w.count - 1) s l z f))
  where
    some_left : (k : ℕ) → (k ≡ 0 → ⊥) → k ≡ suc (k - 1)
    some_left zero n = absurd (n refl)
    some_left (suc k) n = omega arith

-- ---- END comes to wait
last_waits : (w : Wait) (status : ℕ) → w.last ≡ false
    → atoms_in (record { count = w.count; front = w.front; last = true; status = status; bytes = w.bytes; marks = w.marks }) ≡ atoms_in w ++ finish_of status ∷ []
unfolding atoms_in
last_waits w status l =
    let x = byte_atoms (take w.count w.bytes) (take w.count w.marks) in
    rw l (ap (λ k. end_atoms w.front ++ k) (ap (λ k. k ++ finish_of status ∷ []) (sym (append-nil x))) ∙ sym (append_assoc (end_atoms w.front) (x ++ []) (finish_of status ∷ [])))

-- with an end that is owed, or without
owed_sized : (k : Bool) (w : Wait) (o : Output) → Sized w → Sized (if k then wait_end w o else w)
owed_sized true w o s = end_sized w o s
owed_sized false w o s = s

owed_last : (k : Bool) (w : Wait) (o : Output) → (if k then wait_end w o else w).last ≡ w.last
owed_last true w o = end_last w o
owed_last false w o = refl

owed_waits : (k : Bool) (w : Wait) (o : Output) → Sized w → w.last ≡ false → (k ≡ true → Unended o (atoms_in w)) → atoms_in (if k then wait_end w o else w) ≡ atoms_in w ++ owed_end k o
owed_waits true w o s l f = end_waits_lem w o s l (f refl)
owed_waits false w o s l f = sym (append-nil (atoms_in w))

other_unended : (k : Bool) (l : List Atom) → Unended Output.Stderr l → Unended Output.Stderr (l ++ owed_end k Output.Stdout)
other_unended true l f = unended_append Output.Stderr l (EndOf Output.Stdout ∷ []) f ((λ e. let z : ◌≡◌ {A = ℕ} 0 1 = ap stream_number e in omega arith), tt)
other_unended false l f = unended_append Output.Stderr l [] f tt

-- the sizes stay
pub finish_sized : (w : Wait) (m : RequestState) (status : ℕ) → Sized w → Sized (wait_finish w m status)
unfolding wait_finish
finish_sized w m status s =
    let t = owed_sized (owes_err m) (if owes_out m then wait_end w Output.Stdout else w) Output.Stderr (owed_sized (owes_out m) w Output.Stdout s) in
    record { count_fits = t.count_fits; bytes_size = t.bytes_size; marks_size = t.marks_size }

-- The last words come behind all that waits.
pub finish_waits : (w : Wait) (m : RequestState) (status : ℕ) → Sized w → w.last ≡ false → (owes_out m ≡ true → Unended Output.Stdout (atoms_in w)) → (owes_err m ≡ true → Unended Output.Stderr (atoms_in w))
    → atoms_in (wait_finish w m status) ≡ atoms_in w ++ last_words m status
unfolding wait_finish last_words
finish_waits w m status s l f g =
    let a = if owes_out m then wait_end w Output.Stdout else w in
    let b = if owes_err m then wait_end a Output.Stderr else a in
    let la : a.last ≡ false = owed_last (owes_out m) w Output.Stdout ∙ l in
    let lb : b.last ≡ false = owed_last (owes_err m) a Output.Stderr ∙ la in
    let sa = owed_sized (owes_out m) w Output.Stdout s in
    let ea : atoms_in a ≡ atoms_in w ++ owed_end (owes_out m) Output.Stdout = owed_waits (owes_out m) w Output.Stdout s l f in
    let ua : owes_err m ≡ true → Unended Output.Stderr (atoms_in a) = λ k. rw ea (other_unended (owes_out m) (atoms_in w) (g k)) in
    let eb : atoms_in b ≡ atoms_in a ++ owed_end (owes_err m) Output.Stderr = owed_waits (owes_err m) a Output.Stderr sa la ua in
    last_waits b status lb
    ∙ ap (λ k. k ++ finish_of status ∷ []) (eb ∙ ap (λ k. k ++ owed_end (owes_err m) Output.Stderr) ea)
    ∙ append_assoc (atoms_in w ++ owed_end (owes_out m) Output.Stdout) (owed_end (owes_err m) Output.Stderr) (finish_of status ∷ [])
    ∙ append_assoc (atoms_in w) (owed_end (owes_out m) Output.Stdout) (owed_end (owes_err m) Output.Stderr ++ finish_of status ∷ [])
