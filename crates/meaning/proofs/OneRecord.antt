-- One record, from a state between two records: its header is judged, its content is given at once to what it is for,
-- its padding is silent.
use Rattle.std.specs.Prelude.{ℕ, suc, ◌-◌, ◌≤◌, ◌<◌, ◌≡◌, refl, true, length}
use Rattle.std.proofs.Common.{sym, ap, ◌∙◌, subst, arith}
use Rattle.std.proofs.Math.Bool.{false}
use mathlib.Core.List.{List, [], ◌∷◌, ◌++◌, append-nil, append_assoc}
use Rattle.std.proofs.Math.Dec.{eqb}
use borrow.Author.Tests.{ne_eqb}
use Rattle.wire.specs.Test.{by_test}
use Rattle.record.specs.Header.{header_of}
use Rattle.record.specs.declared.header.Header.{Header}
use Rattle.connection.specs.declared.state.Table.{Table}
use Rattle.connection.specs.declared.state.Frame.{Frame}
use Rattle.connection.specs.Shape.{in_shape}
use Rattle.connection.specs.Step.{State, Left, state_of, no_frame, frame_after, open_with, closed_conn, judged, on_target}
use Rattle.connection.specs.Bytewise.{Note, notes, Run, resting, ◌then-run◌, by_byte}
use Rattle.wire.proofs.Bytes.{AllBytes, zeros_bytes, append_bytes}
use Rattle.connection.proofs.Laws.StateShape.{Arrays}
use Rattle.connection.proofs.Laws.StepSizes.{Sizes}
use Rattle.connection.proofs.Laws.CuttingContent.{keeps_target}
use Rattle.connection.proofs.Laws.Cutting.{by_byte_append, by_byte_closed, by_byte_sizes, by_byte_in_shape}
use Rattle.meaning.specs.Meaning.{ran, to_come, content_means, header_means}
use Rattle.meaning.proofs.Outcomes.{by_judged, ends_frame, by_content}
use Rattle.meaning.proofs.Steps.{Between, content_bytes, padding_bytes, header_bytes_lem}

-- ---- what bytes keep
-- in shape, with all lengths
pub record Sound (r : Run) : Type 0 where
  pub shape : in_shape r.state.conn ≡ true
  pub sizes : Sizes r.state r.store

between_arrays : (st : State) (store : List ℕ) → Between st store → Arrays st.conn
between_arrays st store b =
    record { table = b.sizes.table; header = b.sizes.header; bytes = rw b.frame (zeros_bytes 8); body = b.sizes.body }

pub stays_sound : (st : State) (store x : List ℕ) → Between st store → AllBytes x → Sound (by_byte st store x)
stays_sound st store x b all =
    record { shape = by_byte_in_shape x st store (between_arrays st store b) all b.shape; sizes = by_byte_sizes x st store b.sizes }

-- the bytes one by one, as what follows a run
abbrev pub reading : List ℕ → State → List ℕ → Run
reading x st store = by_byte st store x

-- ---- a header and its content, or a part of it
-- what follows a run, by equal runs
pub follows : (r : Run) (f g : State → List ℕ → Run) → f r.state r.store ≡ g r.state r.store → r then-run f ≡ r then-run g
follows r f g e = ap (λ (w : Run). record { state = w.state; store = w.store; notes = r.notes ++ w.notes }) e

content_some : (c p : ℕ) (x : List ℕ) (st : State) (store : List ℕ) → st.conn.«open» ≡ true → 0 < length x
    → content_means c p x st store ≡ ran (on_target st.conn.frame.target st store x (to_come c p)) x
unfolding content_means
content_some c p x st store o some = simp (o, ne_eqb (length x) 0 (λ z. omega arith))

-- the content of a header that was judged
content_read : (st : State) (store : List ℕ) (h : Header) (x : List ℕ) → length x ≤ h.content → Sound (ran (judged st store h) [])
    → reading x (ran (judged st store h) []).state (ran (judged st store h) []).store
    ≡ content_means (h.content - length x) h.padding x (ran (judged st store h) []).state (ran (judged st store h) []).store
unfolding content_means by_byte
content_read st store h [] room sound = by_open (judged st store h)
  where
    by_open : (l : Left) → resting (ran l []).state (ran l []).store ≡ content_means (h.content - 0) h.padding [] (ran l []).state (ran l []).store
    by_open l = by_test l.conn.«open» (λ t. simp t) (λ t. simp t)
content_read st store h (b ∷ x) room sound =
    by_judged st store h h.padding
    (λ l l'. Sound (ran l [])
    → reading (b ∷ x) (ran l []).state (ran l []).store ≡ content_means (h.content - suc (length x)) h.padding (b ∷ x) (ran l []).state (ran l []).store)
    (λ g s e k. by_byte_closed (b ∷ x) (state_of closed_conn g) s refl)
    (λ t target g s e k.
    content_bytes (state_of (open_with t (frame_after h target)) g) s (b ∷ x) (record { size = k.sizes.full; shape = k.shape; is_open = refl }) k.sizes (omega arith) room
    ∙ sym (content_some (h.content - suc (length x)) h.padding (b ∷ x) (state_of (open_with t (frame_after h target)) g) s refl (omega arith)))
    sound

pub header_content_lem : (st : State) (store h x : List ℕ) → Between st store → AllBytes h → length h ≡ 8 → length x ≤ (header_of h).content
    → by_byte st store (h ++ x) ≡ header_means st store (header_of h) x ((header_of h).content - length x) (header_of h).padding
unfolding header_means
header_content_lem st store h x b all eight room =
    let e = header_bytes_lem st store h b eight in
    let k : Sound (ran (judged st store (header_of h)) []) = subst Sound e (stays_sound st store h b all) in
    by_byte_append h st store x
    ∙ ap (λ (r : Run). r then-run reading x) e
    ∙ follows (ran (judged st store (header_of h)) []) (reading x) (content_means ((header_of h).content - length x) (header_of h).padding x)
    (content_read st store (header_of h) x room k)

-- ---- a header and its whole content
-- a run that ends with such a state
abbrev pub run_with : Table → Frame → List ℕ → List ℕ → List Note → Run
run_with t f g s l = record { state = state_of (open_with t f) g; store = s; notes = l }

abbrev pub shut_run : List ℕ → List ℕ → List Note → Run
shut_run g s l = record { state = state_of closed_conn g; store = s; notes = l }

-- It ends closed, or with nothing but padding to come.
module _ (st : State) (store : List ℕ) (h : Header) (n : ℕ) (Q : Run → Run → Type 0)
    (shut : (g s : List ℕ) (l : List Note) → Q (shut_run g s l) (shut_run g s l))
    (goes : (t : Table) (g s : List ℕ) (l : List Note) → Q (run_with t (ends_frame h.padding) g s l) (run_with t (ends_frame n) g s l)) where
  pub by_whole : (x : List ℕ) → h.content ≡ length x → Q (header_means st store h x 0 h.padding) (header_means st store h x 0 n)
  unfolding header_means content_means
  by_whole [] c =
      by_judged st store h n (λ l l'. Q (ran l [] then-run content_means 0 h.padding []) (ran l' [] then-run content_means 0 n []))
      (λ g s e. shut g s _)
      (λ t target g s e. rw c (goes t g s _))
  by_whole (b ∷ x) c =
      by_judged st store h n (λ l l'. Q (ran l [] then-run content_means 0 h.padding (b ∷ x)) (ran l' [] then-run content_means 0 n (b ∷ x)))
      (λ g s e. shut g s _)
      (λ t target g s e.
      let some : eqb (length (b ∷ x)) 0 ≡ false = ne_eqb (length (b ∷ x)) 0 (λ z. omega arith) in
      rw (some, keeps_target h.content target (omega arith))
      (by_content t g s h.content h.padding n (b ∷ x)
      (λ l l'. Q (record { state = state_of l.conn l.gathered; store = l.store; notes = notes e [] ++ notes l.event (b ∷ x) })
      (record { state = state_of l'.conn l'.gathered; store = l'.store; notes = notes e [] ++ notes l'.event (b ∷ x) }))
      (λ g' s' e'. shut g' s' _) (λ t' g' s' e'. goes t' g' s' _) target))

-- So a whole record leaves the frame that stands between two records. (A closed connection has it too.)
pub ends_between : (st : State) (store : List ℕ) (h : Header) (x : List ℕ) → h.content ≡ length x → (header_means st store h x 0 0).state.conn.frame ≡ no_frame
ends_between st store h x c = by_whole st store h 0 (λ r r'. r'.state.conn.frame ≡ no_frame) (λ g s l. refl) (λ t g s l. refl) x c

-- ---- padding
-- a run, and then nothing told
silent : (r : Run) (f : State → List ℕ → Run) (st : State) → f r.state r.store ≡ resting st r.store
    → r then-run f ≡ record { state = st; store = r.store; notes = r.notes }
silent r f st e =
    ap (λ (w : Run). record { state = w.state; store = w.store; notes = r.notes ++ w.notes }) e
    ∙ ap (λ (l : List Note). record { state = st; store = r.store; notes = l }) (append-nil r.notes)

padding_read : (t : Table) (g s : List ℕ) (p : ℕ) (y : List ℕ) → Sound (run_with t (ends_frame p) g s []) → length y ≤ p
    → by_byte (state_of (open_with t (ends_frame p)) g) s y ≡ resting (state_of (open_with t (ends_frame (p - length y))) g) s
unfolding by_byte
padding_read t g s p [] k room = let z : p ≡ p - 0 = omega arith in ap (λ (n : ℕ). resting (state_of (open_with t (ends_frame n)) g) s) z
padding_read t g s p (b ∷ y) k room =
    padding_bytes (state_of (open_with t (ends_frame p)) g) s (b ∷ y) (record { size = k.sizes.full; shape = k.shape; is_open = refl }) k.sizes refl (omega arith) room

-- Padding, or a part of it, after whole content.
pub then_padding : (st : State) (store : List ℕ) (h : Header) (x y : List ℕ) → h.content ≡ length x → length y ≤ h.padding
    → Sound (header_means st store h x 0 h.padding)
    → header_means st store h x 0 h.padding then-run reading y ≡ header_means st store h x 0 (h.padding - length y)
then_padding st store h x y c room =
    by_whole st store h (h.padding - length y) (λ r r'. Sound r → r then-run reading y ≡ r')
    (λ g s l k. silent (shut_run g s l) (reading y) (state_of closed_conn g) (by_byte_closed y (state_of closed_conn g) s refl))
    (λ t g s l k.
    silent (run_with t (ends_frame h.padding) g s l) (reading y) (state_of (open_with t (ends_frame (h.padding - length y))) g)
    (padding_read t g s h.padding y (record { shape = k.shape; sizes = k.sizes }) room))
    x c

-- A record, of which a part of the padding may be yet to come.
pub record_bytes_lem : (st : State) (store h x y : List ℕ) → Between st store → AllBytes h → AllBytes x → length h ≡ 8 → length x ≡ (header_of h).content
    → length y ≤ (header_of h).padding
    → by_byte st store (h ++ (x ++ y)) ≡ header_means st store (header_of h) x 0 ((header_of h).padding - length y)
record_bytes_lem st store h x y b all-h all-x eight c room =
    let z : (header_of h).content - length x ≡ 0 = omega arith in
    let e : by_byte st store (h ++ x) ≡ header_means st store (header_of h) x 0 (header_of h).padding =
    header_content_lem st store h x b all-h eight (omega arith) ∙ ap (λ (n : ℕ). header_means st store (header_of h) x n (header_of h).padding) z in
    let k = subst Sound e (stays_sound st store (h ++ x) b (append_bytes h x all-h all-x)) in
    ap (by_byte st store) (sym (append_assoc h x y))
    ∙ by_byte_append (h ++ x) st store y
    ∙ ap (λ (r : Run). r then-run reading y) e
    ∙ then_padding st store (header_of h) x y (sym c) room k
