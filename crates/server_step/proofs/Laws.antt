-- What the proofs of this crate share.
use Rattle.std.specs.Prelude.{ℕ, ◌+◌, ◌-◌, ◌≤◌, ◌<◌, min, ◌≡◌, true, List, length, ltb, leb, eqb}
use Rattle.std.proofs.Common.{sym, arith, ltb-true, leb-true, eqb-true}
use Rattle.std.proofs.lemmas.List.{set-get_or}
use Rattle.wire.specs.Test.{by_test}
use Rattle.slot_word.specs.Word.{taken, marked}
use Rattle.slot_word.proofs.WordLaws.{mark_same}
use Rattle.record_reader.specs.declared.Position.{Position}
use Rattle.record_reader.specs.declared.Phase.{Phase}
use Rattle.record_reader.specs.Position.{in_header, advanced}
use Rattle.connection.specs.declared.state.Table.{Table}
use Rattle.connection.specs.declared.answer.Output.{Output}
use Rattle.connection.specs.RequestCalls.{ended_on}
use Rattle.connection.specs.Sizes.{SLOTS, QUERY}
use Rattle.connection.specs.Shape.{◌and◌, slots_fit, position_fits, due_fits}
use Rattle.connection.specs.Slots.{no_standing, request_at, put_request}
use Rattle.connection.proofs.Laws.ShapeLaws.{and_true}
use Rattle.server.specs.declared.state.Target.{Target}
use Rattle.server.specs.declared.state.Server.{Server}
use Rattle.server.specs.Shape.{target_fits, in_shape}
use Rattle.server.specs.Decision.{stream_ended}
use Rattle.server_content.specs.Fed.{Fed}

-- ---- the bytes that a step uses
-- They are some of the piece.
pub used_within : (p : Position) (x : List ℕ) → (advanced p x).used ≤ length x
unfolding advanced in_header
used_within p x =
    by_test (ltb 0 p.content)
    (λ t. simp t (omega arith))
    (λ t. by_test (ltb 0 p.padding)
    (λ u. simp (t, u) (omega arith))
    (λ u. by_test (leb 8 p.held)
    (λ v. simp (t, u, v) (omega arith))
    (λ v. by_test (ltb (p.held + min (8 - p.held) (length x)) 8)
    (λ w. simp (t, u, v, w) (omega arith))
    (λ w. simp (t, u, v, w) (omega arith)))))

-- Of content they are not more than is left of it.
pub content_within : (p : Position) (x : List ℕ) → (advanced p x).phase ≡ Phase.Content → (advanced p x).used ≤ p.content
unfolding advanced in_header
content_within p x =
    by_test (ltb 0 p.content)
    (λ t. simp t (λ e. omega arith))
    (λ t. by_test (ltb 0 p.padding)
    (λ u. simp (t, u) (λ e. let z : ◌≡◌ {A = ℕ} 0 1 = cc in absurd (omega arith)))
    (λ u. by_test (leb 8 p.held)
    (λ v. simp (t, u, v) (λ e. let z : ◌≡◌ {A = ℕ} 0 1 = cc in absurd (omega arith)))
    (λ v. by_test (ltb (p.held + min (8 - p.held) (length x)) 8)
    (λ w. simp (t, u, v, w) (λ e. let z : ◌≡◌ {A = ℕ} 0 1 = cc in absurd (omega arith)))
    (λ w. simp (t, u, v, w) (λ e. let z : ◌≡◌ {A = ℕ} 0 1 = cc in absurd (omega arith))))))

-- ---- what a state in shape says of its content
-- Fewer bytes fit, too.
pub fed_less : (k : Target) (g n m : ℕ) → m ≤ n → Fed k g n → Fed k g m
fed_less Target.Skip g n m h f = tt
fed_less (Target.Stdout i) g n m h f = f
fed_less (Target.Stderr i) g n m h f = f
fed_less (Target.End i) g n m h f = (f.0, omega (arith, f.1))
fed_less Target.Values g n m h f = omega arith
fed_less Target.Unknown g n m h f = omega arith

due_low : (t : Table) (i : ℕ) → due_fits t i ≡ true → i < SLOTS
due_low t i e = ltb-true i SLOTS (and_true (ltb i SLOTS) (taken i t.occupied) e).0

target_fed : (k : Target) (t : Table) (g n : ℕ) → target_fits k t g n ≡ true → Fed k g n
target_fed Target.Skip t g n e = tt
target_fed (Target.Stdout i) t g n e = due_low t i e
target_fed (Target.Stderr i) t g n e = due_low t i e
target_fed (Target.End i) t g n e = let a = and_true (due_fits t i) (eqb (g + n) 8) e in (due_low t i a.0, omega (arith, eqb-true (g + n) 8 a.1))
target_fed Target.Values t g n e = leb-true (g + n) QUERY e
target_fed Target.Unknown t g n e = omega (arith, eqb-true (g + n) 8 e)

pub shape_fed : (c : Server) → in_shape c ≡ true → Fed c.frame.target c.frame.gathered c.frame.position.content
unfolding in_shape
shape_fed c e =
    let f = c.frame in
    let fits = target_fits f.target c.table f.gathered f.position.content in
    let rest = (and_true (slots_fit SLOTS c.table.ids c.table.lengths c.table.occupied 0) (position_fits f.position and fits) e).1 in
    target_fed f.target c.table f.gathered f.position.content (and_true (position_fits f.position) fits rest).1

-- ---- a stream ended: only its mark changes
abbrev pub with_marks : Table → ℕ → ℕ → Table
with_marks t out err =
    record {
      ids = t.ids;
      lengths = t.lengths;
      standings = t.standings;
      keep = t.keep;
      out_ended = out;
      err_used = t.err_used;
      err_ended = err;
      stdin_shown = t.stdin_shown;
      data_shown = t.data_shown;
      occupied = t.occupied;
    }

pub out_ended_same : (t : Table) (i : ℕ) → with_marks t (marked i true t.out_ended) t.err_ended ≡ stream_ended t i Output.Stdout
unfolding put_request request_at ended_on
out_ended_same t i =
    sym
    (rw (
      set-get_or t.ids i 0,
      set-get_or t.lengths i 0,
      set-get_or t.standings i no_standing,
      mark_same i t.keep,
      mark_same i t.err_used,
      mark_same i t.err_ended,
      set-get_or t.stdin_shown i 0,
      set-get_or t.data_shown i 0,
    ))

pub err_ended_same : (t : Table) (i : ℕ) → with_marks t t.out_ended (marked i true t.err_ended) ≡ stream_ended t i Output.Stderr
unfolding put_request request_at ended_on
err_ended_same t i =
    sym
    (rw (
      set-get_or t.ids i 0,
      set-get_or t.lengths i 0,
      set-get_or t.standings i no_standing,
      mark_same i t.keep,
      mark_same i t.err_used,
      mark_same i t.out_ended,
      set-get_or t.stdin_shown i 0,
      set-get_or t.data_shown i 0,
    ))
