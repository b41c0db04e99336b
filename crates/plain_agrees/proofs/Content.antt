-- Where a header and its content lead in the stepping receiver, as far as what is told afterwards rests on it.
use Rattle.std.specs.Prelude.{ℕ, ◌-◌, ◌≤◌, ◌<◌, ◌≡◌, refl, true, length}
use Rattle.std.proofs.Common.{sym, ◌∙◌}
use Rattle.std.proofs.Math.Path.{ap}
use Rattle.std.proofs.Math.Bool.{false}
use mathlib.Core.List.{List, [], ◌∷◌, ◌++◌, append-nil}
use native.Mathlib.Omega.{arith}
use Rattle.std.proofs.Math.Dec.{eqb}
use borrow.Author.Tests.{ne_eqb}
use Rattle.wire.specs.Test.{by_test}
use Rattle.record.specs.declared.header.Header.{Header}
use Rattle.connection.specs.declared.request.Due.{Due}
use Rattle.connection.specs.declared.state.Table.{Table}
use Rattle.connection.specs.declared.state.Target.{Target}
use Rattle.connection.specs.Sizes.{SLOTS, AREA, STORE}
use Rattle.connection.specs.Event.{Event}
use Rattle.connection.specs.Request.{Held, Fed, on_content, ruled}
use Rattle.connection.specs.Slots.{held_at, put_request, put_area}
use Rattle.connection.specs.Step.{State, Left, state_of, open_with, frame_after, target_if, due_to, of_request, on_target}
use Rattle.connection.specs.Bytewise.{Note, notes, Run, ◌then-run◌}
use Rattle.connection.proofs.Laws.CuttingContent.{keeps_target, put_twice, area_twice}
use Rattle.connection.proofs.Laws.SlotsLaws.{Sized, request_of_put, area_of_put}
use Rattle.connection.proofs.Laws.StepSizes.{content_area}
use Rattle.meaning.specs.Meaning.{ran, to_come, content_means}
use Rattle.meaning.proofs.Outcomes.{goes_with, starts_frame}
use Rattle.plain_agrees.proofs.Rules.{held_after, notes_after}

-- a rule, and then the content; so much of content and padding is yet to come
abbrev pub after : ℕ → ℕ → List ℕ → Left → Run
after c p x l = ran l [] then-run content_means c p x

-- where such a run ends
pub record EndsWith (t : Table) (g s : List ℕ) (l : List Note) (c p : ℕ) (r : Run) : Type 0 where
  pub table : r.state.conn.table ≡ t
  pub is_open : r.state.conn.«open» ≡ true
  pub position : r.state.conn.frame.position ≡ to_come c p
  pub gathered : r.state.gathered ≡ g
  pub store : r.store ≡ s
  pub told : r.notes ≡ l

-- what is skipped stays skipped, with content to come or without
skip_stays : (n : ℕ) → target_if n Target.Skip ≡ Target.Skip
skip_stays n = by_test (eqb n 0) (λ e. simp e) (λ e. simp e)

-- the state in which the content after a header is read
abbrev pub reader : Table → List ℕ → Header → Target → State
reader t g h target = state_of (open_with t (starts_frame h.content h.padding target)) g

-- what the header told, and then what the rule for its content leaves and tells of it
abbrev pub told_then : List Note → Left → List ℕ → Run
told_then l left x =
    record { state = state_of left.conn left.gathered; store = left.store; notes = l ++ notes left.event x }

module _ (t : Table) (g s : List ℕ) (h : Header) (e : Event) (c p : ℕ) (pad : h.padding ≡ p) where
  -- no content
  pub none_run : (target : Target) → c ≡ h.content - 0
      → EndsWith t g s (notes e []) c p (after c p [] (goes_with t (frame_after h target) g s e))
  unfolding content_means
  none_run target left =
      let k : h.content ≡ c = omega arith in
      record {
        table = refl;
        is_open = refl;
        position = rw (k, pad);
        gathered = refl;
        store = refl;
        told = append-nil (notes e []);
      }

  -- some content
  some_run : (target : Target) (b : ℕ) (x : List ℕ) → target_if h.content target ≡ target
      → after c p (b ∷ x) (goes_with t (frame_after h target) g s e)
      ≡ told_then (notes e []) (on_target target (reader t g h target) s (b ∷ x) (to_come c p)) (b ∷ x)
  unfolding content_means
  some_run target b x keeps =
      let some : eqb (length (b ∷ x)) 0 ≡ false = ne_eqb (length (b ∷ x)) 0 (λ z. omega arith) in
      rw (some, keeps)

  -- the same, by its length
  pub any_run : (target : Target) (x : List ℕ) → 0 < length x → length x ≤ h.content
      → after c p x (goes_with t (frame_after h target) g s e)
      ≡ told_then (notes e []) (on_target target (reader t g h target) s x (to_come c p)) x
  any_run target [] some room = absurd (omega arith)
  any_run target (b ∷ x) some room = some_run target b x (keeps_target h.content target (omega arith))

  -- content that is skipped
  pub skip_run : (x : List ℕ) → c ≡ h.content - length x
      → EndsWith t g s (notes e []) c p (after c p x (goes_with t (frame_after h Target.Skip) g s e))
  skip_run [] left = none_run Target.Skip left
  skip_run (b ∷ x) left =
      rw (some_run Target.Skip b x (skip_stays h.content))
      (record {
        table = refl;
        is_open = refl;
        position = refl;
        gathered = refl;
        store = refl;
        told = append-nil (notes e []);
      })

-- Content that is due to the request in slot i, after a header that left this request there.
module _ (t : Table) (g store : List ℕ) (h : Header) (i : ℕ) (hd : Held) (e : Event) (c p : ℕ) (pad : h.padding ≡ p)
    (sized : Sized t) (full : length store ≡ STORE) (low : i < SLOTS) where
  -- the table and the store with it
  abbrev t1 : Table
  t1 = put_request t i hd.request

  abbrev s1 : List ℕ
  s1 = put_area store i hd.area

  fed_run : (due : Due) (target : Target) (b : ℕ) (x : List ℕ) → length hd.area ≡ AREA
      → EndsWith (put_request t i (on_content due (b ∷ x) hd).held.request) g
      (put_area store i (on_content due (b ∷ x) hd).held.area)
      (notes e [] ++ notes (on_content due (b ∷ x) hd).event (b ∷ x)) c p
      (told_then (notes e []) (of_request (reader t1 g h target) s1 due i (b ∷ x) (to_come c p)) (b ∷ x))
  unfolding of_request
  fed_run due target b x long =
      let same : held_at t1 s1 i ≡ hd =
      rw (request_of_put t i hd.request sized low, area_of_put store i hd.area full low long) in
      let f = on_content due (b ∷ x) (held_at t1 s1 i) in
      let fe : f ≡ on_content due (b ∷ x) hd = ap (on_content due (b ∷ x)) same in
      record {
        table =
            put_twice t i hd.request f.held.request ∙ ap (λ (w : Fed). put_request t i w.held.request) fe;
        is_open = refl;
        position = refl;
        gathered = refl;
        store =
            area_twice store i hd.area f.held.area full low long
            ∙ ap (λ (w : Fed). put_area store i w.held.area) fe;
        told = ap (λ (w : Fed). notes e [] ++ notes w.event (b ∷ x)) fe;
      }

  pub active_run : (due : Due) (x : List ℕ) → length x ≤ h.content → c ≡ h.content - length x
      → length (held_after (ruled hd due e) x).area ≡ AREA
      → EndsWith (put_request t i (held_after (ruled hd due e) x).request) g
      (put_area store i (held_after (ruled hd due e) x).area) (notes_after (ruled hd due e) x) c p
      (after c p x (goes_with t1 (frame_after h (due_to due i)) g s1 e))
  active_run due [] room left long = none_run t1 g s1 h e c p pad (due_to due i) left
  active_run Due.Skip (b ∷ x) room left long =
      let d = skip_run t1 g s1 h e c p pad (b ∷ x) left in
      record {
        table = d.table;
        is_open = d.is_open;
        position = d.position;
        gathered = d.gathered;
        store = d.store;
        told = d.told ∙ sym (append-nil (notes e []));
      }
  active_run Due.Params (b ∷ x) room left long =
      rw (any_run t1 g s1 h e c p pad (Target.Params i) (b ∷ x) (omega arith) room)
      (fed_run Due.Params (Target.Params i) b x (sym (content_area Due.Params (b ∷ x) hd) ∙ long))
  active_run Due.Stdin (b ∷ x) room left long =
      rw (any_run t1 g s1 h e c p pad (Target.Stdin i) (b ∷ x) (omega arith) room)
      (fed_run Due.Stdin (Target.Stdin i) b x long)
  active_run Due.Data (b ∷ x) room left long =
      rw (any_run t1 g s1 h e c p pad (Target.Data i) (b ∷ x) (omega arith) room)
      (fed_run Due.Data (Target.Data i) b x long)
