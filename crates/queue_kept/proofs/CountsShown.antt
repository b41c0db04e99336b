-- The counts of an active request, told by the events of all steps of a run with a queue alone: the numbers of its
-- bytes that were shown since it was opened.
use Rattle.std.specs.Prelude.{◌≡◌, refl, Bool, true, false, ℕ, if◌then◌else◌}
use Rattle.std.proofs.Common.{ap, ap₂, sym, ◌∙◌, arith}
use Rattle.std.proofs.Math.Path.{subst}
use mathlib.Core.List.{List, [], ◌∷◌, ◌++◌, map, append-nil}
use Rattle.std.proofs.Math.Option.{Option, none, some}
use Rattle.wire.specs.Test.{by_test}
use Rattle.record.specs.Names.{STDIN, DATA}
use Rattle.connection.specs.declared.request.Shown.{Shown}
use Rattle.connection.specs.Event.{Event}
use Rattle.connection.specs.Request.{unshown}
use Rattle.connection.specs.Bytewise.{notes}
use Rattle.connection.specs.Run.{Observed, Heard}
use Rattle.connection.specs.Counts.{shown_in}
use Rattle.connection.proofs.Laws.Closing.{is_closing}
use Rattle.connection.proofs.Laws.CountsSteps.{shown_after, heard_of, shown_append}
use Rattle.connection.proofs.Runs.LinkingStep.{map_append}
use Rattle.queue.specs.Calls.{QueueMemory, queue_step}
use Rattle.queue.specs.Run as D
use Rattle.queue.specs.Run.{QueueOperation, CallFor, CountActive, TurnWith, used_of, queue_after, notes_all, beginning}
use Rattle.queue_runs.proofs.Closing.{both_ways}
use Rattle.queue_kept.specs.Going.{goes_with}
use Rattle.queue_kept.specs.QueueCounts.{counts_found, opens_r, with_heard, counts_then, counts_from, QueueCountsAreShown}
use Rattle.queue_kept.proofs.CountsRuns.{counts_told_lem}

-- what is heard, one list after another
heard_append : (R : ℕ) (c : Shown) (x y : List Observed) → shown_after R c (x ++ y) ≡ shown_after R (shown_after R c x) y
heard_append R c x y = ap₂ (λ n k. record { stdin = n; «data» = k }) (shown_append R STDIN c.stdin x y) (shown_append R DATA c.«data» x y)

-- an event that opens R is heard as both counts 0
heard_opens : (R : ℕ) (e : Event) (x : List ℕ) (c : Shown) → opens_r R e ≡ true → shown_after R c (heard_of e x) ≡ unshown
unfolding shown_in
heard_opens R (Event.Open id role keep) x c e = rw e
heard_opens R Event.None x c e = both_ways false e refl
heard_opens R (Event.Ready id n) x c e = both_ways false e refl
heard_opens R (Event.Data id stream n) x c e = both_ways false e refl
heard_opens R (Event.End id stream measure) x c e = both_ways false e refl
heard_opens R (Event.Abort id) x c e = both_ways false e refl
heard_opens R (Event.Refuse id status) x c e = both_ways false e refl
heard_opens R (Event.Fault id cause) x c e = both_ways false e refl
heard_opens R (Event.Query conns reqs mpxs) x c e = both_ways false e refl
heard_opens R (Event.Unknown kind) x c e = both_ways false e refl
heard_opens R (Event.Closed cause) x c e = both_ways false e refl

-- these counts, if there are any
abbrev If : Option Shown → Shown → Type 0
If c d = (s : Shown) → c ≡ some s → s ≡ d

-- it is so where there are none
none_are : (d : Shown) → If none d
none_are d s e = let z : ◌≡◌ {A = ℕ} 0 1 = cc in absurd (omega arith)

-- and where there are these
some_are : (c d : Shown) → c ≡ d → If (some c) d
some_are c d e s f = let q : c ≡ s = cc in sym q ∙ e

module _ (R : ℕ) where
  -- counts that are kept, or gone
  gone_or_kept : (b : Bool) (c : Option Shown) (d : Shown) → If c d → If (if b then none else c) d
  gone_or_kept true c d k = none_are d
  gone_or_kept false c d k = k

  -- counts with what is heard
  with_heard_lem : (c : Option Shown) (d : Shown) (seen : List Observed) → If c d → If (with_heard R seen c) (shown_after R d seen)
  with_heard_lem none d seen k = none_are (shown_after R d seen)
  with_heard_lem (some c) d seen k = some_are (shown_after R c seen) (shown_after R d seen) (ap (λ w. shown_after R w seen) (k c refl))

  -- a step
  step_if : (e : Event) (x : List ℕ) (c : Option Shown) (d : Shown) → If c d
      → If (if is_closing e then none else if opens_r R e then some unshown else with_heard R (heard_of e x) c) (shown_after R d (heard_of e x))
  step_if e x c d k =
      gone_or_kept (is_closing e) _ (shown_after R d (heard_of e x))
      (by_test (opens_r R e) (λ o. rw o (some_are unshown (shown_after R d (heard_of e x)) (sym (heard_opens R e x d o)))) (λ o. rw o (with_heard_lem c d (heard_of e x) k)))

  -- The counts that are told after operations are those before them, with all that is heard on the way.
  told_heard : (os : List QueueOperation) (m : QueueMemory) (c : Option Shown) (d : Shown) → If c d → If (counts_from R m c os) (shown_after R d (map Heard (notes_all m os)))
  unfolding counts_from notes_all shown_in queue_after
  told_heard [] m c d k = k
  told_heard (D.StepOver piece ∷ os) m c d k =
      let e = (queue_step m piece).event in
      let x = used_of m piece in
      let n = queue_after m (D.StepOver piece) in
      subst (λ w. If (counts_from R n (counts_then R m (D.StepOver piece) c) os) w)
      (sym (ap (shown_after R d) (map_append (notes e x) (notes_all n os)) ∙ heard_append R d (heard_of e x) (map Heard (notes_all n os))))
      (told_heard os n (counts_then R m (D.StepOver piece) c) (shown_after R d (heard_of e x)) (step_if e x c d k))
  told_heard (CallFor id a ∷ os) m c d k = told_heard os (queue_after m (CallFor id a)) (counts_then R m (CallFor id a) c) d (gone_or_kept (goes_with R m (CallFor id a)) c d k)
  told_heard (CountActive ∷ os) m c d k = told_heard os m c d k
  told_heard (TurnWith allowance buffer ∷ os) m c d k =
      told_heard os (queue_after m (TurnWith allowance buffer)) (counts_then R m (TurnWith allowance buffer) c) d (gone_or_kept (goes_with R m (TurnWith allowance buffer)) c d k)

-- The counts of an active request are the numbers of its bytes that were shown since it was opened, or 0 once it
-- has a fault.
pub counts_shown : QueueCountsAreShown
counts_shown R r h e =
    let os = r.operations in
    let told : counts_from R (beginning r) none os ≡ some h.request.state.shown = sym (counts_told_lem R r os [] (sym (append-nil os))) ∙ ap counts_found e in
    let same = told_heard R os (beginning r) none unshown (none_are unshown) h.request.state.shown told in
    record { stdin = ap (λ (s : Shown). s.stdin) same; «data» = ap (λ (s : Shown). s.«data») same }
