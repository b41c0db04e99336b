-- What holds of a connection asked by number, from a record on. The bound of the definition is seen in `enough` only.
use Rattle.std.specs.Prelude.{ℕ, zero, suc, ◌+◌, ◌-◌, ◌≤◌, ◌<◌, min, ◌≡◌, refl, List, [], ◌∷◌, ◌++◌, length, take, drop, get_or, ltb, leb, eqb, if◌then◌else◌}
use Rattle.std.proofs.Common.{sym, ap, ◌∙◌, arith, length-drop, length-take, take_all, drop-drop, eq-eqb, ne_eqb, lt-ltb, le-ltb, ltb-true, ltb-false, leb-true, leb-false, le-leb}
use Rattle.std.proofs.lemmas.List.{get_or-replicate}
use Rattle.std.proofs.lemmas.Bool.{eqb-false, lt-leb}
use Rattle.wire.specs.Test.{by_test, ◌<?◌, ◌≤?◌}
use Rattle.connection.specs.Bytewise.{Note, Shown}
use Rattle.connection.specs.Codes.{stream_type}
use Rattle.connection.specs.declared.event.Event.{Event as CodeEvent}
use Rattle.connection.specs.declared.event.Stream.{Stream}
use Rattle.connection.specs.declared.event.Close.{Close}
use Rattle.plain.specs.declared.table.Table.{Table}
use Rattle.plain.specs.declared.table.Said.{Said as CodeSaid}
use Rattle.plain.specs.declared.table.Tells.{Tells}
use Rattle.plain.specs.declared.LastWord.{LastWord}
use Rattle.plain.specs.declared.Answer.{Answer as CodeAnswer}
use Rattle.plain.specs.declared.Next.{Next}
use Rattle.plain.specs.declared.Heard.{Heard as CodeHeard}
use Rattle.plain.specs.Plain.{Heard, Request, Said, Word, Event_is, Last_is, bytes, two}
use Rattle.plain.specs.Plain.{record_size, stops, follow, hear_in, heard, answer_in, answer}
use Rattle.plain.specs.Code.{answer_of, no_entry, new_entry, empty_table, requests_from, requests_of}
use Rattle.plain.specs.Promise.{says_by, hear, ask, after_record, followed, answer_from, Steps, NextRecord, Passes}
use Rattle.plain.specs.Promise.{Comes, Reads, Reading}
use Rattle.plain.proofs.TableLaws.{sound_more}

follow_same : (s : Said) (f g : List Request → Heard) → ((rs : List Request) → f rs ≡ g rs) → follow s f ≡ follow s g
follow_same (Said.Goes es rs) f g e = ap (λ (h : Heard). record { events = es ++ h.events; word = h.word }) (e rs)
follow_same (Said.Closes cause) f g e = refl

-- what the first record of these bytes comes to
abbrev pub first_says : List Request → List ℕ → Said
first_says rs b = says_by rs b (take (two b 4) (drop 8 b))

-- any sufficient bound gives the same
enough : (k m : ℕ) (rs : List Request) (b : List ℕ) → length b ≤ k → length b ≤ m → hear_in k rs b ≡ hear_in m rs b
unfolding hear_in
enough zero zero rs b h g = refl
enough zero (suc m) rs b h g = simp (eq-eqb (length b) 0 (omega arith))
enough (suc k) zero rs b h g = simp (eq-eqb (length b) 0 (omega arith))
enough (suc k) (suc m) rs b h g =
    by_test (eqb (length b) 0) (λ e. simp e)
    (λ e.
    by_test (ltb (length b) 8) (λ f. simp (e, f))
    (λ f.
    simp (e, f)
    (follow_same (first_says rs b) _ _
    (λ rs'.
    let d = length-drop (record_size b) b in
    let some = eqb-false (length b) 0 e in
    by_test (leb (record_size b) (length b))
    (λ w. simp w (enough k m rs' (drop (record_size b) b) (omega (arith, d, some)) (omega (arith, d, some))))
    (λ w. simp w)))))

-- ---- the events of a record are passed by number
answer_append : (es fs : List Note) (w : Word) (k : ℕ)
    → answer_in (es ++ fs) w k ≡ (if k <? length es then answer_in es w k else answer_in fs w (k - length es))
unfolding answer_in
answer_append [] fs w k =
    let z : k - 0 ≡ k = omega arith in
    simp (le-ltb k 0 (omega arith)) (ap (answer_in fs w) (sym z))
answer_append (e ∷ es) fs w zero = simp (lt-ltb 0 (suc (length es)) (omega arith))
answer_append (e ∷ es) fs w (suc k) =
    let z : k - length es ≡ suc k - suc (length es) = omega arith in
    answer_append es fs w k
    ∙ by_test (ltb k (length es))
    (λ t. simp (t, lt-ltb (suc k) (suc (length es)) (omega (arith, ltb-true k (length es) t))))
    (λ t. simp (t, le-ltb (suc k) (suc (length es)) (omega (arith, ltb-false k (length es) t))) (ap (answer_in fs w) z))

answer_within : (es : List Note) (w v : Word) (k : ℕ) → k < length es → answer_in es w k ≡ answer_in es v k
unfolding answer_in
answer_within [] w v k l = absurd (omega arith)
answer_within (e ∷ es) w v zero l = refl
answer_within (e ∷ es) w v (suc k) l = answer_within es w v k (omega arith)

bytes_length : (id stream : ℕ) (x : List ℕ) → length (bytes id stream x) ≡ length x
unfolding bytes
bytes_length id stream [] = refl
bytes_length id stream (b ∷ x) = ap suc (bytes_length id stream x)

byte_number : (id stream : ℕ) (x : List ℕ) (w : Word) (k : ℕ) → k < length x
    → answer_in (bytes id stream x) w k ≡ Event_is (Shown id stream (get_or x k 0))
unfolding answer_in bytes
byte_number id stream [] w k l = absurd (omega arith)
byte_number id stream (b ∷ x) w zero l = refl
byte_number id stream (b ∷ x) w (suc k) l = byte_number id stream x w k (omega arith)

-- an answer is no next record
no_step : (a : CodeAnswer) (size all : ℕ) → Steps (Next.Answer a) size all
no_step a size all s m e = let z : ◌≡◌ {A = ℕ} 0 1 = cc in absurd (omega arith)

pub next_there : (left size all : ℕ) → size ≤ all → NextRecord (Next.Record size left) left size all
next_there left size all h = record { answers = λ rs b. simp (le-leb size all h); steps = λ s m e. (cc, h) }

pub next_cut : (left size all : ℕ) → all < size → NextRecord (Next.Answer (CodeAnswer.Last LastWord.Cut)) left size all
next_cut left size all h = record { answers = λ rs b. simp (lt-leb size all h); steps = no_step _ size all }

-- what a record tells: nothing, an event, bytes, a close
module _ (next : Next) (x : List ℕ) (left size all : ℕ) where
  pub pass_nothing : NextRecord next left size all → Passes next Tells.Nothing x left size all
  pass_nothing n =
      let z : left - 0 ≡ left = omega arith in
      record { answers = λ rs b. n.answers rs b ∙ simp (le-ltb left 0 (omega arith), z); steps = n.steps }

  pub pass_event : (e : CodeEvent) → (left ≡ 0 → ⊥) → NextRecord next (left - 1) size all
      → Passes next (Tells.Event e) x left size all
  pass_event e ne n =
      record { answers = λ rs b. n.answers rs b ∙ simp (le-ltb left 1 (omega arith)); steps = n.steps }

  pub pass_bytes : (id : ℕ) (stream : Stream) → length x ≤ left → NextRecord next (left - length x) size all
      → Passes next (Tells.Bytes id stream) x left size all
  pass_bytes id stream l n =
      record {
        answers = λ rs b. n.answers rs b ∙ simp (bytes_length id (stream_type stream) x, le-ltb left (length x) l);
        steps = n.steps;
      }

module _ (x : List ℕ) (left size all : ℕ) where
  pub asked_event : (e : CodeEvent) → left ≡ 0
      → Passes (Next.Answer (CodeAnswer.Event e)) (Tells.Event e) x left size all
  unfolding answer_in
  asked_event e z = record { answers = λ rs b. rw z; steps = no_step _ size all }

  pub asked_byte : (id : ℕ) (stream : Stream) → left < length x
      → Passes (Next.Answer (CodeAnswer.Byte id stream (get_or x left 0))) (Tells.Bytes id stream) x left size all
  asked_byte id stream l =
      record {
        answers = λ rs b.
            simp (bytes_length id (stream_type stream) x, lt-ltb left (length x) l)
            (sym (byte_number id (stream_type stream) x Word.Open left l));
        steps = no_step _ size all;
      }

  pub asked_close : (cause : Close)
      → Passes (Next.Answer (CodeAnswer.Last (LastWord.Closed cause))) (Tells.Close cause) x left size all
  asked_close cause = record { answers = λ rs b. refl; steps = no_step _ size all }

-- ---- a turn of the loop
pub ask_all : (b : List ℕ) (k : ℕ) → ask [] b k ≡ answer b k
unfolding ask hear answer heard
ask_all b k = refl

-- no byte is left
pub ask_end : (rs : List Request) (b : List ℕ) (k : ℕ) → length b ≡ 0 → ask rs b k ≡ Last_is Word.Open
unfolding ask hear answer_in
ask_end rs b k z =
    ap (λ (h : Heard). answer_in h.events h.word k) (enough (length b) 0 rs b (omega arith) (omega arith))

-- a header that is cut
hear_short : (rs : List Request) (b : List ℕ) → 0 < length b → length b < 8 → hear rs b ≡ stops Word.Cut
unfolding hear hear_in
hear_short rs b some short =
    enough (length b) (suc (length b)) rs b (omega arith) (omega arith)
    ∙ simp (ne_eqb (length b) 0 (λ z. omega arith), lt-ltb (length b) 8 short)

pub ask_short : (rs : List Request) (b : List ℕ) (k : ℕ) → 0 < length b → length b < 8 → ask rs b k ≡ Last_is Word.Cut
unfolding ask answer_in
ask_short rs b k some short = ap (λ (h : Heard). answer_in h.events h.word k) (hear_short rs b some short)

-- a record
abbrev rest : List ℕ → List Request → Heard
rest b rs = if record_size b ≤? length b then hear rs (drop (record_size b) b) else stops Word.Cut

hear_record : (rs : List Request) (b : List ℕ) → 8 ≤ length b → hear rs b ≡ follow (first_says rs b) (rest b)
unfolding hear hear_in
hear_record rs b l =
    enough (length b) (suc (length b)) rs b (omega arith) (omega arith)
    ∙ simp (ne_eqb (length b) 0 (λ z. omega arith), le-ltb (length b) 8 l)
    (follow_same (first_says rs b) _ _
    (λ rs'.
    let after = drop (record_size b) b in
    let d = length-drop (record_size b) b in
    by_test (leb (record_size b) (length b))
    (λ w. simp w (enough (length b) (length after) rs' after (omega (arith, d)) (omega arith)))
    (λ w. simp w)))

ask_follow : (s : Said) (b : List ℕ) (k : ℕ)
    → answer_in (follow s (rest b)).events (follow s (rest b)).word k
    ≡ followed s k (after_record (record_size b) (length b) b)
unfolding ask answer_in
ask_follow (Said.Goes es rs) b k =
    answer_append es _ _ k
    ∙ by_test (ltb k (length es))
    (λ t. simp t (answer_within es _ Word.Open k (ltb-true k (length es) t)))
    (λ t. simp t (by_test (leb (record_size b) (length b)) (λ w. simp w) (λ w. simp w)))
ask_follow (Said.Closes cause) b k = refl

pub ask_record : (rs : List Request) (b : List ℕ) (k : ℕ) → 8 ≤ length b
    → ask rs b k ≡ followed (first_says rs b) k (after_record (record_size b) (length b) b)
unfolding ask
ask_record rs b k l =
    ap (λ (h : Heard). answer_in h.events h.word k) (hear_record rs b l) ∙ ask_follow (first_says rs b) b k

-- as much of the content as there is
pub content_part : (b : List ℕ) (n to : ℕ) → to ≡ 8 + min n (length b - 8)
    → take (to - 8) (drop 8 b) ≡ take n (drop 8 b)
content_part b n to e =
    let d = length-drop 8 b in
    by_test (leb n (length b - 8))
    (λ t. let z : to - 8 ≡ n = omega (arith, leb-true n (length b - 8) t) in rw z)
    (λ t.
    let f = leb-false n (length b - 8) t in
    take_all (to - 8) (drop 8 b) (omega (arith, d, f)) ∙ sym (take_all n (drop 8 b) (omega (arith, d, f))))

-- a header that is cut, and a record
pub reads_short : (t : Table) (store b : List ℕ) (left : ℕ) → 0 < length b → length b < 8
    → Reads t store b left (record { table = t; next = Next.Answer (CodeAnswer.Last LastWord.Cut) }) store
reads_short t store b left some short =
    record {
      answers = sym (ask_short (requests_of t store) b left some short);
      steps = λ s m e. let z : ◌≡◌ {A = ℕ} 0 1 = cc in absurd (omega arith);
      sound = λ n s m e g. let z : ◌≡◌ {A = ℕ} 0 1 = cc in absurd (omega arith);
    }

pub reads_record : (t : Table) (store store' b : List ℕ) (left : ℕ) (said : CodeSaid) (next : Next) → 8 ≤ length b
    → Comes t (take (two b 4) (drop 8 b)) said store' (first_says (requests_of t store) b)
    → Passes next said.tells (take (two b 4) (drop 8 b)) left (record_size b) (length b)
    → Reads t store b left (record { table = said.table; next = next }) store'
reads_record t store store' b left said next l comes passes =
    record {
      answers =
          passes.answers (requests_of said.table store') b
          ∙ ap (λ (s : Said). followed s left (after_record (record_size b) (length b) b)) comes.says
          ∙ sym (ask_record (requests_of t store) b left l);
      steps = λ s m e. let f = passes.steps s m e in (omega arith, omega arith);
      sound = λ n s m e g.
          let f = passes.steps s m e in
          let k = length-take (two b 4) (drop 8 b) in
          sound_more said.table (n + length (take (two b 4) (drop 8 b))) (n + s) (comes.sound n g)
          (omega (arith, k));
    }

-- ---- the loop: its start, an answer, the next record, and its end
pub reading_start : (b : List ℕ) (k : ℕ) (store : List ℕ) → length store ≡ 65536 → Reading b k store empty_table k 0
unfolding requests_from
reading_start b k store n =
    record {
      within = omega arith;
      answers = ask_all b k;
      sound =
          record {
            size = refl;
            taken = omega arith;
            each = λ i l.
                rw (get_or-replicate 16 i (new_entry 0 0) no_entry l) (record { low = omega arith; few = omega arith });
          };
      size = n;
    }

module _ (b : List ℕ) (k : ℕ) (store : List ℕ) (t : Table) (left at : ℕ) (r : Reading b k store t left at) where
  pub reading_end : length b ≤ at → Last_is Word.Open ≡ answer b k
  reading_end l = sym (ask_end (requests_of t store) (drop at b) left (omega (arith, length-drop at b))) ∙ r.answers

  pub reading_answer : (h : CodeHeard) (store' : List ℕ) (a : CodeAnswer) → Reads t store (drop at b) left h store'
      → h.next ≡ Next.Answer a
      → answer_of a ≡ answer b k
  reading_answer h store' a reads e =
      ap (λ (n : Next). answer_from n (requests_of h.table store') (drop at b)) (sym e) ∙ reads.answers ∙ r.answers

  pub reading_next : (h : CodeHeard) (store' : List ℕ) (s m : ℕ) → Reads t store (drop at b) left h store'
      → h.next ≡ Next.Record s m
      → length store' ≡ 65536 → Reading b k store' h.table m (at + s)
  reading_next h store' s m reads e n =
      record {
        within = omega (arith, reads.steps s m e, length-drop at b, r.within);
        answers =
            ap (λ (u : List ℕ). ask (requests_of h.table store') u m) (sym (drop-drop s at b))
            ∙ ap (λ (x : Next). answer_from x (requests_of h.table store') (drop at b)) (sym e)
            ∙ reads.answers
            ∙ r.answers;
        sound = reads.sound at s m e r.sound;
        size = n;
      }
