use mathlib.Core.Path.{◌≡◌, refl, sym, ap, ◌∙◌}
use mathlib.Core.Bool.{Bool, true}
use Prim.Native.Nat.{ℕ, ◌+◌, ◌-◌}
use native.Mathlib.Omega.{arith}
use lib.ListN.{length, take, drop}
use Rattle.connection.specs.Sizes.{SLOTS}
use Rattle.connection.specs.Shape.{in_shape, ◌and◌}
use Rattle.connection.specs.Event.{Event}
use Rattle.connection.specs.Codes.{event_of}
use Rattle.connection.proofs.Laws.ShapeLaws.{shaped}
use Rattle.connection.specs.Step.{Stepped, state_of}
use Rattle.conn_check.proofs.Laws.{shape_of_lem}
use Rattle.queue.specs.Numbers.{kept_waits}
use Rattle.queue.specs.Calls.{waits_fit}
use Rattle.wait_numbers.proofs.SlotLaws.{kept_as_was}
use Rattle.conn_quick.specs.Quick.{is_shown}
use Rattle.conn_quick.specs.Passes.{counted_at}
use Rattle.conn_step.specs.Answer.{told_number, told_event}
use Rattle.call_step.specs.Check.{checked_step, Reads}
use Rattle.call_step.proofs.BesideLaws.{beside_fits, beside_read, beside_refused, beside_idle, Beside, beside_same, beside_took, beside_end}
use Rattle.call_step.specs.Next.{reached}
use Rattle.call_step.proofs.RoundLaws.{reached_start, Due, ahead, Took, Kept, Round, round, conn_of, quick_took, step_took, shown_took, slot_low, shown_last}
use borrow.Author.Rules.{rules}
use Rattle.call_step.proofs.steps.Goals as goal
use Rattle.call_step.proofs.steps.Goals.{then-q-gt0, else-q-gt0, then-loop-due-test+else-not-is_shown, else-loop-due-test}

pub loop-due-init : goal.loop-due-init
loop-due-init c =
    let checked : (let a = c.args in c.check_step-check.result ≡ checked_step (length a.store.now) (waits_fit SLOTS a.waits.now a.c.table.occupied 0 and in_shape a.c) a.c.«open» (length a.piece.now)) =
    c.check_step-check.ensures ∙ ap (λ (x : Bool). checked_step (length c.args.store.now) x c.args.c.«open» (length c.args.piece.now)) (c.both_fit-fits.ensures ∙ ap (λ (x : Bool). waits_fit SLOTS c.args.waits.now c.args.c.table.occupied 0 and x) (shape_of_lem c.args.c)) in
    let read : (let a = c.args in (waits_fit SLOTS a.waits.now a.c.table.occupied 0 ≡ true) × Reads (length a.store.now) (in_shape a.c) a.c.«open» (length a.piece.now)) =
    beside_read (length c.args.store.now) (waits_fit SLOTS c.args.waits.now c.args.c.table.occupied 0) (in_shape c.args.c) c.args.c.«open» (length c.args.piece.now) (sym (checked) ∙ c.in-Read.is) in
    let first : Due c.args.c c.args.store.now 0 (length c.args.piece.now) =
    let r = (read).1 in
    record { fits = record { size = r.whole; shape = r.shape; is_open = r.reads }; left = r.some } in
    (omega arith, refl, λ e. first, reached_start c.args.on 0 Event.None (state_of c.args.c c.args.gathered.now) c.args.store.now c.args.piece.now, record { fits = (read).0; opened = (read).1.reads; kept = ap (λ (x : Bool). kept_waits true x c.args.waits.now) (sym (read).1.reads) })

pub slice_bounds-pass_header-count : goal.slice_bounds-pass_header-count
slice_bounds-pass_header-count c = omega (arith, c.loop-due.invariant.0)

pub slice_bounds-pass_header-start : goal.slice_bounds-pass_header-start
slice_bounds-pass_header-start c = omega (arith, c.loop-due.invariant.0)

pub overflow_add-used : goal.overflow_add-used
overflow_add-used c =
    let due = c.loop-due.invariant.2 c.loop-due-test.true in
    let k = (quick_took c.loop-due.used c.loop-due.t c.loop-due.f c.loop-due.«open» c.loop-due.gathered c.loop-due.store c.args.piece.now c.pass_header-q.result due (c.pass_header-q.ensures c.if-q-gt0.true) refl refl refl refl refl refl refl).0 in
    omega (arith, (round c.args.on _ _ _ _ _ _ _ _ _ due k).inside, c.well_formed.1.1.1.1.0)

pub slice_bounds-take_and_drop-count : goal.slice_bounds-take_and_drop-count
slice_bounds-take_and_drop-count c = omega (arith, c.loop-due.invariant.0)

pub slice_bounds-take_and_drop-start : goal.slice_bounds-take_and_drop-start
slice_bounds-take_and_drop-start c = omega (arith, c.loop-due.invariant.0)

pub take_and_drop-s-requires : goal.take_and_drop-s-requires
take_and_drop-s-requires c =
    let d = (c.loop-due.invariant.2 c.loop-due-test.true).fits in
    (d.size, d.shape, d.is_open)

pub overflow_add-used-else-q-gt0 : goal.overflow_add-used-else-q-gt0
overflow_add-used-else-q-gt0 c =
    let due = c.loop-due.invariant.2 c.loop-due-test.true in
    let k = (step_took c.loop-due.used c.loop-due.t c.loop-due.f c.loop-due.«open» c.loop-due.gathered c.loop-due.store c.args.piece.now c.take_and_drop-s.result c.take_and_drop-s.new.gathered c.take_and_drop-s.new.store c.take_and_drop-s.ensures.0 c.take_and_drop-s.ensures.1 (search rules) refl refl refl refl refl refl refl).0 in
    omega (arith, (round c.args.on _ _ _ _ _ _ _ _ _ due k).inside, c.well_formed.1.1.1.1.0)

-- what one turn of the loop does
took : (c : goal.After-is_due-due)
    → (let l = c.loop-due in let x = c.if-q-gt0 in let st = state_of (conn_of x.t x.f x.«open») x.gathered in
    (Took l.used (state_of (conn_of l.t l.f l.«open») l.gathered) l.store c.args.piece.now (told_number x.result) (told_event x.result) x.used st x.store)
    × (Kept l.store st x.store))
took c =
    let l = c.loop-due in
    let due = l.invariant.2 c.loop-due-test.true in
    elim c.if-q-gt0.branch [
      | then-q-gt0 w ↦
          quick_took l.used l.t l.f l.«open» l.gathered l.store c.args.piece.now c.pass_header-q.result due (c.pass_header-q.ensures w.if-q-gt0.true)
          w.store-is w.gathered-is w.t-is w.f-is w.open-is w.result-is w.used-is
      | else-q-gt0 w ↦
          let m = w.take_and_drop-s in
          step_took l.used l.t l.f l.«open» l.gathered l.store c.args.piece.now m.result m.new.gathered m.new.store m.ensures.0 m.ensures.1 (search rules)
          w.store-is w.gathered-is w.t-is w.f-is w.open-is w.result-is w.used-is
    ]

-- and what waits after it
waiting : (c : goal.After-is_due-due) → Beside c.args.c.«open» c.args.c.table.occupied c.args.waits.now c.if-q-gt0.waits c.if-q-gt0.«open»
waiting c =
    let l = c.loop-due in
    let due = l.invariant.2 c.loop-due-test.true in
    elim c.if-q-gt0.branch [
      | then-q-gt0 w ↦ beside_same l.invariant.4 w.waits-is w.open-is
      | else-q-gt0 w ↦
          beside_took l.invariant.4 due.fits.is_open (w.waits-is ∙ w.take_and_drop-s.ensures.2 ∙ ap (λ (x : Bool). kept_waits true x l.waits) (sym w.open-is))
    ]

-- and what it comes to
rounded : (c : goal.After-is_due-due)
    → (let l = c.loop-due in let x = c.if-q-gt0 in
    Round c.args.on l.used (state_of (conn_of l.t l.f l.«open») l.gathered) l.store c.args.piece.now (told_number x.result) (told_event x.result) x.used
    (state_of (conn_of x.t x.f x.«open») x.gathered) x.store)
rounded c = round _ _ _ _ _ _ _ _ _ _ (c.loop-due.invariant.2 c.loop-due-test.true) (took c).0

pub loop-due-smaller : goal.loop-due-smaller
loop-due-smaller c =
    let n = length c.args.piece.now in
    let from : Bool → ℕ = λ d. ahead d c.loop-due.used n in
    let to : Bool → ℕ = λ d. ahead d c.if-q-gt0.used n in
    omega (arith, (rounded c).less, ap from c.loop-due-test.true, ap to c.is_due-due.ensures)

pub loop-due-preserved : goal.loop-due-preserved
loop-due-preserved c =
    let l = c.loop-due in
    let x = c.if-q-gt0 in
    let r = rounded c in
    let k = (took c).1 in
    let from : Bool → Stepped = λ d. reached c.args.on d (told_number l.result) (told_event l.result) l.used (state_of (conn_of l.t l.f l.«open») l.gathered) l.store c.args.piece.now in
    let to : Bool → Stepped = λ d. reached c.args.on d (told_number x.result) (told_event x.result) x.used (state_of (conn_of x.t x.f x.«open») x.gathered) x.store c.args.piece.now in (
      r.inside,
      k.size ∙ l.invariant.1,
      λ e. r.next k (sym c.is_due-due.ensures ∙ e),
      l.invariant.3 ∙ ap from c.loop-due-test.true ∙ r.same (told_number l.result) (told_event l.result) ∙ ap to (sym c.is_due-due.ensures),
      waiting c,
    )

pub slice_bounds-show_content-count : goal.slice_bounds-show_content-count
slice_bounds-show_content-count c = omega (arith, c.loop-due.invariant.0)

pub slice_bounds-show_content-start : goal.slice_bounds-show_content-start
slice_bounds-show_content-start c = omega (arith, c.loop-due.invariant.0)

pub show_content-s-requires : goal.show_content-s-requires
show_content-s-requires c =
    let shown : is_shown c.loop-due.f.position.content c.loop-due.f.target ≡ true =
    elim c.loop-due-test.branch [
      | then-loop-due-test+else-not-is_shown w ↦ sym w.is_shown.ensures ∙ w.if-not-is_shown.false
      | else-loop-due-test w ↦ let z : ◌≡◌ {A = ℕ} 0 1 = cc (sym c.if-due.true ∙ w.loop-due-test.false) in absurd (omega arith)
    ] in
    (shown, slot_low c.loop-due.f.target c.loop-due.t _ _ (shaped _ (c.loop-due.invariant.2 c.if-due.true).fits.shape).target)

pub offset_bounds-t-i : goal.offset_bounds-t-i
offset_bounds-t-i c = omega (arith, c.show_content-s.ensures.0)

pub bounds-t-i : goal.bounds-t-i
bounds-t-i c = omega (arith, c.show_content-s.ensures.0)

pub offset_bounds-t-i-then-due : goal.offset_bounds-t-i-then-due
offset_bounds-t-i-then-due c = omega (arith, c.show_content-s.ensures.0)

pub bounds-t-i-then-due : goal.bounds-t-i-then-due
bounds-t-i-then-due c = omega (arith, c.show_content-s.ensures.0)

pub overflow_add-used-then-due : goal.overflow_add-used-then-due
overflow_add-used-then-due c =
    let last : (let l = c.loop-due in Round c.args.on l.used (state_of (conn_of l.t l.f l.«open») l.gathered) l.store c.args.piece.now 0 (event_of c.show_content-s.result.event) (l.used + c.show_content-s.result.used) (state_of (conn_of (counted_at l.t c.show_content-s.result.slot c.show_content-s.result.due c.show_content-s.result.used) c.show_content-s.result.frame l.«open») l.gathered) l.store) =
    let due = c.loop-due.invariant.2 c.if-due.true in
    round _ _ _ _ _ _ _ _ _ _ due (shown_took c.loop-due.used c.loop-due.t c.loop-due.f c.loop-due.«open» c.loop-due.gathered c.loop-due.store c.args.piece.now c.show_content-s.result due (c.show_content-s.ensures.1 c.loop-due.t c.loop-due.gathered c.loop-due.store refl)) in
    omega (arith, (last).inside, c.well_formed.1.1.1.1.0)

pub offset_bounds-t-i-then-due-2 : goal.offset_bounds-t-i-then-due-2
offset_bounds-t-i-then-due-2 c = omega (arith, c.show_content-s.ensures.0)

pub bounds-t-i-then-due-2 : goal.bounds-t-i-then-due-2
bounds-t-i-then-due-2 c = omega (arith, c.show_content-s.ensures.0)

pub offset_bounds-t-i-then-due-3 : goal.offset_bounds-t-i-then-due-3
offset_bounds-t-i-then-due-3 c = omega (arith, c.show_content-s.ensures.0)

pub bounds-t-i-then-due-3 : goal.bounds-t-i-then-due-3
bounds-t-i-then-due-3 c = omega (arith, c.show_content-s.ensures.0)

pub returns-in-Refused : goal.returns-in-Refused
returns-in-Refused c =
    let checked : (let a = c.args in c.check_step-check.result ≡ checked_step (length a.store.now) (waits_fit SLOTS a.waits.now a.c.table.occupied 0 and in_shape a.c) a.c.«open» (length a.piece.now)) =
    c.check_step-check.ensures ∙ ap (λ (x : Bool). checked_step (length c.args.store.now) x c.args.c.«open» (length c.args.piece.now)) (c.both_fit-fits.ensures ∙ ap (λ (x : Bool). waits_fit SLOTS c.args.waits.now c.args.c.table.occupied 0 and x) (shape_of_lem c.args.c)) in
    (beside_refused c.args.on c.args.c c.args.gathered.now c.args.store.now c.args.piece.now (waits_fit SLOTS c.args.waits.now c.args.c.table.occupied 0) c.in-Refused.why (sym (checked) ∙ c.in-Refused.is), sym (kept_as_was c.args.c.«open» c.args.waits.now))

pub returns-in-Idle : goal.returns-in-Idle
returns-in-Idle c =
    let checked : (let a = c.args in c.check_step-check.result ≡ checked_step (length a.store.now) (waits_fit SLOTS a.waits.now a.c.table.occupied 0 and in_shape a.c) a.c.«open» (length a.piece.now)) =
    c.check_step-check.ensures ∙ ap (λ (x : Bool). checked_step (length c.args.store.now) x c.args.c.«open» (length c.args.piece.now)) (c.both_fit-fits.ensures ∙ ap (λ (x : Bool). waits_fit SLOTS c.args.waits.now c.args.c.table.occupied 0 and x) (shape_of_lem c.args.c)) in
    (beside_idle c.args.on c.args.c c.args.gathered.now c.args.store.now c.args.piece.now (waits_fit SLOTS c.args.waits.now c.args.c.table.occupied 0) (sym (checked) ∙ c.in-Idle.is), sym (kept_as_was c.args.c.«open» c.args.waits.now))

pub shape_of-store-then-due : goal.shape_of-store-then-due
shape_of-store-then-due c = search (rules, c.loop-due.invariant.1)

pub returns-then-due : goal.returns-then-due
returns-then-due c =
    let shown : is_shown c.loop-due.f.position.content c.loop-due.f.target ≡ true =
    elim c.loop-due-test.branch [
      | then-loop-due-test+else-not-is_shown w ↦ sym w.is_shown.ensures ∙ w.if-not-is_shown.false
      | else-loop-due-test w ↦ let z : ◌≡◌ {A = ℕ} 0 1 = cc (sym c.if-due.true ∙ w.loop-due-test.false) in absurd (omega arith)
    ] in
    let last : (let l = c.loop-due in Round c.args.on l.used (state_of (conn_of l.t l.f l.«open») l.gathered) l.store c.args.piece.now 0 (event_of c.show_content-s.result.event) (l.used + c.show_content-s.result.used) (state_of (conn_of (counted_at l.t c.show_content-s.result.slot c.show_content-s.result.due c.show_content-s.result.used) c.show_content-s.result.frame l.«open») l.gathered) l.store) =
    let due = c.loop-due.invariant.2 c.if-due.true in
    round _ _ _ _ _ _ _ _ _ _ due (shown_took c.loop-due.used c.loop-due.t c.loop-due.f c.loop-due.«open» c.loop-due.gathered c.loop-due.store c.args.piece.now c.show_content-s.result due (c.show_content-s.ensures.1 c.loop-due.t c.loop-due.gathered c.loop-due.store refl)) in
    let st = state_of (conn_of c.loop-due.t c.loop-due.f c.loop-due.«open») c.loop-due.gathered in
    let from : Bool → Stepped = λ d. reached c.args.on d (told_number c.loop-due.result) (told_event c.loop-due.result) c.loop-due.used st c.loop-due.store c.args.piece.now in
    let to : Bool → Stepped = λ d. reached c.args.on d 0 (event_of c.show_content-s.result.event) (c.loop-due.used + c.show_content-s.result.used) (state_of (conn_of (counted_at c.loop-due.t c.show_content-s.result.slot c.show_content-s.result.due c.show_content-s.result.used) c.show_content-s.result.frame c.loop-due.«open») c.loop-due.gathered) c.loop-due.store c.args.piece.now in
    let rest = take (length c.args.piece.now - c.loop-due.used) (drop c.loop-due.used c.args.piece.now) in
    let is = c.show_content-s.ensures.1 c.loop-due.t c.loop-due.gathered c.loop-due.store refl in
    let none = shown_last c.args.on c.loop-due.t c.loop-due.f c.loop-due.gathered c.loop-due.store rest (event_of c.show_content-s.result.event) (c.loop-due.used + c.show_content-s.result.used) (length c.args.piece.now) (shown) (ap (λ (s : Stepped). s.event) (sym is)) in (
      simp c.show_more-shown.ensures
          (sym (beside_fits _ c.args.on _ _ _ c.loop-due.invariant.4.fits ∙ c.loop-due.invariant.3 ∙ ap from c.if-due.true ∙ (last).same (told_number c.loop-due.result) (told_event c.loop-due.result) ∙ ap to none)),
      beside_end c.loop-due.invariant.4,
    )

pub shape_of-store-else-due : goal.shape_of-store-else-due
shape_of-store-else-due c = search (rules, c.loop-due.invariant.1)

pub returns-else-due : goal.returns-else-due
returns-else-due c =
    let from : Bool → Stepped = λ d. reached c.args.on d (told_number c.loop-due.result) (told_event c.loop-due.result) c.loop-due.used (state_of (conn_of c.loop-due.t c.loop-due.f c.loop-due.«open») c.loop-due.gathered) c.loop-due.store c.args.piece.now in
    (sym (beside_fits _ c.args.on _ _ _ c.loop-due.invariant.4.fits ∙ c.loop-due.invariant.3 ∙ ap from c.if-due.false), beside_end c.loop-due.invariant.4)
