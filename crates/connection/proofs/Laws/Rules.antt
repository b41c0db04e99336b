-- What a header can do to its request, case by case: one list of cases for all that is proved of rules 5 to 10.
use Rattle.std.specs.Prelude.{◌≡◌, ℕ, ◌+◌, ◌≤◌, Bool, true, false, ltb, eqb, if◌then◌else◌, None}
use Rattle.std.proofs.Math.Path.{refl}
use borrow.Author.Tests.{ltb-false, eqb-true}
use Rattle.wire.specs.Test.{◌=?◌, by_test}
use Rattle.record.specs.Names.{BEGIN_REQUEST, ABORT_REQUEST, STDIN, DATA}
use Rattle.pair_list.specs.List.{well_formed, broken_at}
use Rattle.machine.specs.Cause.{Cause, Plain, At}
use Rattle.pair_repeats.specs.Repeats.{repeats}
use Rattle.connection.specs.declared.request.Turn.{Turn}
use Rattle.connection.specs.declared.request.Due.{Due}
use Rattle.connection.specs.declared.event.Measure.{Measure}
use Rattle.connection.specs.Sizes.{AREA}
use Rattle.connection.specs.Event.{Event}
use Rattle.connection.specs.Request.{Held, Ruled, ruled, list_of, is_spent, after_params, after_stdin, turn_type, skipped, faulted, aborted, turned, stdin_measure, data_measure, params_fault, params_ended, on_params, on_stdin, on_data, in_turn, is_input, on_input, on_live, on_header}

-- The record is of the stream whose turn it is, and the request is live.
pub record OnTurn (kind : ℕ) (h : Held) (t : Turn) : Type 0 where
  pub live : is_spent h.request.state.life ≡ false
  pub turn : h.request.state.turn ≡ t
  pub type : kind ≡ turn_type t

-- the causes of faults: fault 25 has a place, the others have none
abbrev pub is_fault : Cause → Bool
is_fault (Plain n) =
    if n =? 21 then true
    else if n =? 22 then true
    else if n =? 23 then true
    else if n =? 24 then true
    else n =? 26
is_fault (At n place) = n =? 25

-- A header of that type with n content bytes.
pub data Rule (kind n : ℕ) (h : Held) : Ruled → Type 0 where
  Skips : is_spent h.request.state.life ≡ true → Rule kind n h (skipped h)
  Faults : (k : ℕ) → is_fault (Plain k) ≡ true → Rule kind n h (faulted h (Plain k))
  Aborts : is_spent h.request.state.life ≡ false → Rule kind n h (aborted h)
  Params : OnTurn kind h Turn.Params → h.request.length + n ≤ AREA → Rule kind n h (ruled h Due.Params Event.None)
  Breaks : OnTurn kind h Turn.Params → n ≡ 0 → well_formed (list_of h) ≡ false → Rule kind n h (faulted h (At 25 (broken_at (list_of h))))
  Readies : OnTurn kind h Turn.Params → n ≡ 0 → params_fault (list_of h) ≡ None
      → Rule kind n h (turned h (after_params h.request.state.role) (Event.Ready h.request.id h.request.length))
  Stdin : OnTurn kind h Turn.Stdin → Rule kind n h (ruled h Due.Stdin Event.None)
  StdinEnds : OnTurn kind h Turn.Stdin → n ≡ 0
      → Rule kind n h (turned h (after_stdin h.request.state.role) (Event.End h.request.id STDIN (stdin_measure h)))
  Data : OnTurn kind h Turn.Data → Rule kind n h (ruled h Due.Data Event.None)
  DataEnds : OnTurn kind h Turn.Data → n ≡ 0 → Rule kind n h (turned h Turn.Done (Event.End h.request.id DATA (data_measure h)))

-- by the two outcomes of a test
fork : {kind n : ℕ} {h : Held} (b : Bool) {x y : Ruled} → (b ≡ true → Rule kind n h x) → (b ≡ false → Rule kind n h y) → Rule kind n h (if b then x else y)
fork true f g = f refl
fork false f g = g refl

module _ (kind n : ℕ) (h : Held) where
  of_ended : OnTurn kind h Turn.Params → n ≡ 0 → Rule kind n h (params_ended h)
  unfolding params_ended params_fault
  of_ended t z =
      by_test (well_formed (list_of h))
      (λ w.
      by_test (repeats (list_of h))
      (λ r. simp (w, r) (Rule.Faults 26 refl))
      (λ r. simp (w, r) (Rule.Readies t z (simp (w, r)))))
      (λ w. simp w (Rule.Breaks t z w))

  of_params : OnTurn kind h Turn.Params → Rule kind n h (on_params n h)
  unfolding on_params
  of_params t =
      fork (ltb AREA (h.request.length + n))
      (λ e. Rule.Faults 24 refl)
      (λ e. fork (eqb n 0) (λ z. of_ended t (eqb-true n 0 z)) (λ z. Rule.Params t (ltb-false AREA (h.request.length + n) e)))

  of_turn : (t : Turn) → OnTurn kind h t → Rule kind n h (in_turn t n h)
  unfolding on_stdin on_data
  of_turn Turn.Params t = of_params t
  of_turn Turn.Stdin t = fork (eqb n 0) (λ z. Rule.StdinEnds t (eqb-true n 0 z)) (λ z. Rule.Stdin t)
  of_turn Turn.Data t = fork (eqb n 0) (λ z. Rule.DataEnds t (eqb-true n 0 z)) (λ z. Rule.Data t)
  of_turn Turn.Done t = Rule.Faults 22 refl

  of_live : is_spent h.request.state.life ≡ false → Rule kind n h (on_live kind n h)
  unfolding on_live on_input
  of_live l =
      fork (eqb kind BEGIN_REQUEST)
      (λ a. Rule.Faults 21 refl)
      (λ a. fork (eqb kind ABORT_REQUEST)
      (λ b. Rule.Aborts l)
      (λ b. fork (is_input kind)
      (λ i. fork (eqb kind (turn_type h.request.state.turn))
      (λ e. of_turn h.request.state.turn (record { live = l; turn = refl; type = eqb-true kind (turn_type h.request.state.turn) e }))
      (λ e. Rule.Faults 22 refl))
      (λ i. Rule.Faults 23 refl)))

  -- Each header is one of the cases.
  pub header_rule : Rule kind n h (on_header kind n h)
  unfolding on_header
  header_rule = fork (is_spent h.request.state.life) Rule.Skips of_live

-- What holds of a request left alone, of faults 21 to 26, of an abort and of a stream's end holds of what any header
-- does to it.
pub by_rule : (P : Ruled → Type 0) (h : Held) → ((d : Due) → P (ruled h d Event.None)) → ((cause : Cause) → is_fault cause ≡ true → P (faulted h cause)) → P (aborted h)
    → ((t : Turn) → P (turned h t (Event.Ready h.request.id h.request.length))) → ((t : Turn) (s : ℕ) (m : Measure) → P (turned h t (Event.End h.request.id s m)))
    → (kind n : ℕ) → P (on_header kind n h)
by_rule P h waits faults aborts readies ends kind n = of (on_header kind n h) (header_rule kind n h)
  where
    of : (r : Ruled) → Rule kind n h r → P r
    of r (Rule.Skips e) = waits Due.Skip
    of r (Rule.Faults k f) = faults (Plain k) f
    of r (Rule.Breaks t z w) = faults (At 25 (broken_at (list_of h))) refl
    of r (Rule.Aborts l) = aborts
    of r (Rule.Params t room) = waits Due.Params
    of r (Rule.Readies t z f) = readies _
    of r (Rule.Stdin t) = waits Due.Stdin
    of r (Rule.StdinEnds t z) = ends _ STDIN _
    of r (Rule.Data t) = waits Due.Data
    of r (Rule.DataEnds t z) = ends _ DATA _
