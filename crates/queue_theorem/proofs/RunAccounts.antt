-- What R says in a run of the machine that ends open is what is written of R, and then what waits. An opening of R
-- that is refused for want of a slot says and writes nothing, so nothing is asked about it.
use Rattle.std.specs.Prelude.{◌≡◌, false, ℕ, set, eqb, if◌then◌else◌}
use Rattle.std.proofs.Math.Path.{refl, ap, ap₂, sym, subst}
use Rattle.std.proofs.Common.{◌∙◌}
use mathlib.Core.List.{List, [], ◌∷◌, ◌++◌, append-nil}
use Rattle.std.proofs.Math.Option.{Option, none, some}
use borrow.Author.Tests.{eqb-true, eqb-false, eq-eqb}
use Rattle.wire.specs.Test.{by_test}
use Rattle.machine.specs.Slots.{Vacant, HeldBy, Lookup, Absent, FoundAt, lookup, slot_at, LookupRight, lookup_right, OfOthers, lookup_set}
use Rattle.machine.specs.Timeline.{RequestCall, CountCall, Item, CallItem, byte_items}
use Rattle.machine.specs.Machine.{Slots, Reading, Connection, Open, Closed, Effect, CallOutcome, Stays, Retires, Leaves, Closes, Observation, RequestEvent, NoticeEvent, CloseEvent, CountAnswer, CallAnswer, call_decided, request_called, on_item, state_after, observations, as_list, concerns, observed, request_found, request_in}
use Rattle.machine.proofs.RunLaws.{closed_stays, state_append, observations_append, observed_append}
use Rattle.machine.specs.Shape.{SlotsOk, WellShaped}
use Rattle.machine.proofs.ShapeKept.{shape_item}
use Rattle.machine_queue.specs.Waiting.{waits_in, written_all}
use Rattle.machine_queue.proofs.Appends.{accounts_joined}
use Rattle.machine_queue.proofs.Accounts as S
use Rattle.machine_queue.proofs.Accounts.{said_as, said_in, said_all, AccountsAs, every_call}
use Rattle.connection.specs.Runs.Receiver.{receiver}
use Rattle.queue_slot.specs.Atoms.{Atom, end_waits}
use Rattle.queue_machine.specs.Queued.{Queued, Asked, Serve, QueueAnswer, queued_call, wrote_by, is_serve_call, EndsWithEnd, queueing_receiver, waiting_queue}
use Rattle.queue_machine.proofs.QueuedServes.{waiting_laws}
use Rattle.queue_machine.proofs.QueuedAccounts.{accounting}
use Rattle.queue_machine.proofs.EndsRight.{ends_laws}
use Rattle.queue_machine.proofs.KeptByBytes.{bytes_keep}
use Rattle.queue_machine.proofs.Lift.{Waiting}
use Rattle.queue_machine.proofs.LiftRuns.{lift_seen}
use Rattle.queue_link.proofs.Loaded.{waiting_of, loaded_queue}
use Rattle.queue_link.proofs.LoadedTurn.{serves_of}
use Rattle.queue_link.proofs.LinkedStraight.{asked}
use Rattle.queue_link.proofs.Observing.{found_again, gone}
use Rattle.queue_link.proofs.LinkedRuns.{served_by, machine_items, machine_timeline, Fine, PieceOk, op_is, op_fine, piece_ok}
use Rattle.queue_link.proofs.LinkedShown.{step_observed}
use Rattle.queue_link.proofs.LinkedWrites.{written_of, written_append, written_one, step_writes, count_writes}
use Rattle.queue.specs.Calls.{QueueMemory}
use Rattle.queue.specs.Run as D
use Rattle.queue.specs.Run.{QueueOperation, CallFor, CountActive, TurnWith, used_of, queue_after, PiecesAreBytes}

-- ---- what R says
-- in what is observed
abbrev pub said_of : ℕ → List (Observation queueing_receiver) → List Atom
said_of R os = said_all queueing_receiver waiting_queue (observed queueing_receiver R os)

-- in two lists
pub said_append : (R : ℕ) (os ps : List (Observation queueing_receiver)) → said_of R (os ++ ps) ≡ said_of R os ++ said_of R ps
said_append R os ps = ap (said_all queueing_receiver waiting_queue) (observed_append queueing_receiver R os ps) ∙ S.said_append queueing_receiver waiting_queue (observed queueing_receiver R os) (observed queueing_receiver R ps)

-- by one call
pub said_one : (R id : ℕ) (a : Asked) (n : QueueAnswer) (v w : Option Queued) → said_of R (CallAnswer id a n v w ∷ []) ≡ (if eqb id R then said_in queueing_receiver waiting_queue (CallAnswer id a n v w) else [])
unfolding observed concerns said_all
said_one R id a n v w = by_test (eqb id R) (λ e. rw e (append-nil _)) (λ e. rw e)

-- by a step: nothing
pub step_says : (R : ℕ) (f : Waiting) (os : List (Observation receiver)) → said_of R (lift_seen f os) ≡ []
unfolding lift_seen observed concerns said_all said_in as_list
step_says R f [] = refl
step_says R f (RequestEvent id e ∷ os) = by_test (eqb id R) (λ d. rw d (step_says R f os)) (λ d. rw d (step_says R f os))
step_says R f (NoticeEvent w ∷ os) = step_says R f os
step_says R f (CloseEvent n ∷ os) = step_says R f os
step_says R f (CountAnswer n ∷ os) = step_says R f os
step_says R f (CallAnswer id a n v w ∷ os) = step_says R f os

-- by the active number: nothing
pub count_says : (R : ℕ) (s : Connection queueing_receiver) → said_of R (observations queueing_receiver s (CallItem CountCall ∷ [])) ≡ []
unfolding observations on_item as_list observed concerns said_all
count_says R (Open T F) = refl
count_says R Closed = refl

-- what waits of R in a state
abbrev pub waits_at : ℕ → Connection queueing_receiver → List Atom
waits_at R s = waits_in queueing_receiver waiting_queue (request_in queueing_receiver R s)

-- A stretch of a run accounts for R: what waits and what is said is what is written and what waits then.
pub record Accounted (R : ℕ) (s : Connection queueing_receiver) (t : List (Item Asked)) : Type 0 where
  pub accounts : waits_at R s ++ said_of R (observations queueing_receiver s t) ≡ written_of R (observations queueing_receiver s t) ++ waits_at R (state_after queueing_receiver s t)
  pub ends : EndsWithEnd (waits_at R (state_after queueing_receiver s t))

module _ (R : ℕ) where
  -- no item
  none_accounted : (s : Connection queueing_receiver) → EndsWithEnd (waits_at R s) → Accounted R s []
  unfolding observations state_after observed said_all written_all
  none_accounted s h = record { accounts = append-nil (waits_at R s); ends = h }

  -- two stretches, one after the other
  joined : (s : Connection queueing_receiver) (t u : List (Item Asked)) → Accounted R s t → Accounted R (state_after queueing_receiver s t) u → Accounted R s (t ++ u)
  joined s t u a b =
      let v = state_after queueing_receiver s t in
      let os = observations queueing_receiver s t in
      let ps = observations queueing_receiver v u in
      let e = observations_append queueing_receiver s t u in
      record {
        accounts = ap (λ l. waits_at R s ++ l) (ap (said_of R) e ∙ said_append R os ps)
            ∙ accounts_joined queueing_receiver waiting_queue (waits_at R s) (said_of R os) (said_of R ps) (written_of R os) (written_of R ps) (waits_at R v) (waits_at R (state_after queueing_receiver v u)) a.accounts b.accounts
            ∙ ap₂ (λ x y. x ++ y) (sym (ap (written_of R) e ∙ written_append R os ps)) (ap (waits_at R) (sym (state_append queueing_receiver s t u)));
        ends = subst (λ x. EndsWithEnd (waits_at R x)) (sym (state_append queueing_receiver s t u)) b.ends;
      }

  -- ---- a call of R
  said_own : (a : Asked) (n : QueueAnswer) (r : Queued) (w : Option Queued) → said_of R (CallAnswer R a n (some r) w ∷ []) ≡ said_as queueing_receiver waiting_queue (is_serve_call a) (end_waits r.waiting) a r n
  unfolding said_in
  said_own a n r w = said_one R R a n (some r) w ∙ rw (eq-eqb R R refl)

  written_own : (a : Asked) (n : QueueAnswer) (v w : Option Queued) → written_of R (CallAnswer R a n v w ∷ []) ≡ wrote_by a n
  written_own a n v w = written_one R R a n v w ∙ rw (eq-eqb R R refl)

  -- what waits of whoever is found
  abbrev waits_found : Lookup Queued → List Atom
  waits_found o = waits_in queueing_receiver waiting_queue (request_found queueing_receiver o)

  -- one item accounts for R, of whom this waits before it
  abbrev Effects : List Atom → Effect queueing_receiver → Type 0
  Effects l e = (l ++ said_of R (as_list queueing_receiver e.1 ++ []) ≡ written_of R (as_list queueing_receiver e.1 ++ []) ++ waits_at R e.0) × EndsWithEnd (waits_at R e.0)

  -- a request that stays, with q in its place
  kept_effects : (a : Asked) (n : QueueAnswer) (r q : Queued) (l : List Atom) → l ≡ q.waiting
      → (r.waiting ++ said_as queueing_receiver waiting_queue (is_serve_call a) (end_waits r.waiting) a r n ≡ wrote_by a n ++ q.waiting) × EndsWithEnd q.waiting
      → (r.waiting ++ said_of R (CallAnswer R a n (some r) (some q) ∷ []) ≡ written_of R (CallAnswer R a n (some r) (some q) ∷ []) ++ l) × EndsWithEnd l
  kept_effects a n r q l f h =
      (ap (λ k. r.waiting ++ k) (said_own a n r (some q)) ∙ h.0 ∙ ap₂ (λ x y. x ++ y) (sym (written_own a n (some r) (some q))) (sym f), subst (λ k. EndsWithEnd k) (sym f) h.1)

  -- whatever the call comes to
  own_decided : (o : CallOutcome Queued QueueAnswer) (i : ℕ) (r : Queued) (a : Asked) (T : Slots queueing_receiver) (F : Reading queueing_receiver) → SlotsOk queueing_receiver ends_laws T → lookup R T ≡ FoundAt i r
      → AccountsAs queueing_receiver waiting_queue (is_serve_call a) (end_waits r.waiting) a r o → ((call_decided queueing_receiver o i r R a T F).0 ≡ Closed → ⊥)
      → Effects r.waiting (call_decided queueing_receiver o i r R a T F)
  unfolding call_decided as_list request_in request_found waits_in
  own_decided (Stays q n) i r a T F ok e h c = kept_effects a n r q _ (ap waits_found (found_again R T i r q e)) h
  own_decided (Retires q n) i r a T F ok e h c = kept_effects a n r q _ (ap waits_found (found_again R T i r q e)) h
  own_decided (Leaves n) i r a T F ok e h c =
      let f : waits_found (lookup R (set T i (Vacant queueing_receiver.clean))) ≡ [] = ap waits_found (gone R T i r ok e) in
      (ap (λ k. r.waiting ++ k) (said_own a n r none) ∙ h ∙ sym (append-nil (wrote_by a n)) ∙ ap₂ (λ x y. x ++ y) (sym (written_own a n (some r) none)) (sym f), subst (λ k. EndsWithEnd k) (sym f) tt)
  own_decided (Closes n) i r a T F ok e h c = absurd (c refl)

  -- whether R is active or not
  own_call : (o : Lookup Queued) (a : Asked) (T : Slots queueing_receiver) (F : Reading queueing_receiver) → SlotsOk queueing_receiver ends_laws T → lookup R T ≡ o
      → ((request_called queueing_receiver o R a T F).0 ≡ Closed → ⊥) → EndsWithEnd (waits_found o) → Effects (waits_found o) (request_called queueing_receiver o R a T F)
  unfolding request_called request_in request_found waits_in as_list said_in
  own_call Absent a T F ok e c h =
      let f : waits_found (lookup R T) ≡ [] = ap waits_found e in
      let n = queueing_receiver.when_inactive a in
      let d : said_of R (CallAnswer R a n none none ∷ []) ≡ [] = said_one R R a n none none ∙ rw (eq-eqb R R refl) in
      (d ∙ ap₂ (λ x y. x ++ y) (sym (written_own a n none none ∙ waiting_laws.inactive_writes a)) (sym f), subst (λ k. EndsWithEnd k) (sym f) tt)
  own_call (FoundAt i r) a T F ok e c h = own_decided (queued_call a r) i r a T F ok e (every_call queueing_receiver waiting_queue waiting_laws accounting a r h) c

  -- ---- a call of another id
  -- nothing of R is said or written, and the same waits
  other_effects : (id : ℕ) (a : Asked) (n : QueueAnswer) (v w : Option Queued) (l k : List Atom) → eqb id R ≡ false → k ≡ l → EndsWithEnd l
      → (l ++ said_of R (CallAnswer id a n v w ∷ []) ≡ written_of R (CallAnswer id a n v w ∷ []) ++ k) × EndsWithEnd k
  other_effects id a n v w l k d e h =
      let x : said_of R (CallAnswer id a n v w ∷ []) ≡ [] = said_one R id a n v w ∙ rw d in
      let y : written_of R (CallAnswer id a n v w ∷ []) ≡ [] = written_one R id a n v w ∙ rw d in
      (ap (λ z. l ++ z) x ∙ append-nil l ∙ ap₂ (λ x y. x ++ y) (sym y) (sym e), subst (λ z. EndsWithEnd z) (sym e) h)

  -- its slot is not R's
  others : (i : ℕ) (r : Queued) (id : ℕ) (T : Slots queueing_receiver) → eqb id R ≡ false → slot_at queueing_receiver.clean T i ≡ HeldBy id r → OfOthers queueing_receiver.clean R (slot_at queueing_receiver.clean T i)
  others i r id T d e = subst (λ s. OfOthers queueing_receiver.clean R s) (sym e) (eqb-false id R d)

  other_decided : (o : CallOutcome Queued QueueAnswer) (i : ℕ) (r : Queued) (id : ℕ) (a : Asked) (T : Slots queueing_receiver) (F : Reading queueing_receiver) → eqb id R ≡ false
      → slot_at queueing_receiver.clean T i ≡ HeldBy id r → EndsWithEnd (waits_found (lookup R T)) → ((call_decided queueing_receiver o i r id a T F).0 ≡ Closed → ⊥)
      → Effects (waits_found (lookup R T)) (call_decided queueing_receiver o i r id a T F)
  unfolding call_decided as_list request_in
  other_decided (Stays q n) i r id a T F d e h c =
      other_effects id a n (some r) (some q) _ _ d (ap waits_found (lookup_set queueing_receiver.clean R T i (HeldBy id q) (others i r id T d e) (eqb-false id R d))) h
  other_decided (Retires q n) i r id a T F d e h c =
      other_effects id a n (some r) (some q) _ _ d (ap waits_found (lookup_set queueing_receiver.clean R T i (HeldBy id q) (others i r id T d e) (eqb-false id R d))) h
  other_decided (Leaves n) i r id a T F d e h c =
      other_effects id a n (some r) none _ _ d (ap waits_found (lookup_set queueing_receiver.clean R T i (Vacant queueing_receiver.clean) (others i r id T d e) refl)) h
  other_decided (Closes n) i r id a T F d e h c = absurd (c refl)

  other_call : (o : Lookup Queued) (id : ℕ) (a : Asked) (T : Slots queueing_receiver) (F : Reading queueing_receiver) → eqb id R ≡ false → LookupRight queueing_receiver.clean id T o
      → EndsWithEnd (waits_found (lookup R T)) → ((request_called queueing_receiver o id a T F).0 ≡ Closed → ⊥)
      → Effects (waits_found (lookup R T)) (request_called queueing_receiver o id a T F)
  unfolding request_called request_in as_list
  other_call Absent id a T F d e h c = other_effects id a (queueing_receiver.when_inactive a) none none _ _ d refl h
  other_call (FoundAt i r) id a T F d e h c = other_decided (queued_call a r) i r id a T F d e h c

  -- ---- any call
  call_effects : (s : Connection queueing_receiver) (id : ℕ) (a : Asked) → WellShaped queueing_receiver ends_laws s → ((on_item queueing_receiver s (CallItem (RequestCall id a))).0 ≡ Closed → ⊥) → EndsWithEnd (waits_at R s)
      → Effects (waits_at R s) (on_item queueing_receiver s (CallItem (RequestCall id a)))
  unfolding on_item request_in
  call_effects Closed id a w c h = absurd (c refl)
  call_effects (Open T F) id a w c h =
      by_test (eqb id R)
      (λ e. let j = eqb-true id R e in
      subst (λ k. Effects (waits_found (lookup R T)) (request_called queueing_receiver (lookup k T) k a T F)) (sym j)
      (own_call (lookup R T) a T F w.0 refl (subst (λ k. (request_called queueing_receiver (lookup k T) k a T F).0 ≡ Closed → ⊥) j c) h))
      (λ e. other_call (lookup id T) id a T F e (lookup_right queueing_receiver.clean id T) h c)

  call_accounted : (s : Connection queueing_receiver) (id : ℕ) (a : Asked) → WellShaped queueing_receiver ends_laws s → ((on_item queueing_receiver s (CallItem (RequestCall id a))).0 ≡ Closed → ⊥) → EndsWithEnd (waits_at R s)
      → Accounted R s (CallItem (RequestCall id a) ∷ [])
  unfolding observations state_after
  call_accounted s id a w c h = let e = call_effects s id a w c h in record { accounts = e.0; ends = e.1 }

  -- ---- operations
  -- the serves of a turn
  serves_accounted : (ids : List ℕ) (s : Connection queueing_receiver) → WellShaped queueing_receiver ends_laws s → (state_after queueing_receiver s (serves_of ids) ≡ Closed → ⊥) → EndsWithEnd (waits_at R s)
      → Accounted R s (serves_of ids)
  unfolding serves_of state_after
  serves_accounted [] s w c h = none_accounted s h
  serves_accounted (id ∷ ids) s w c h =
      let x = CallItem (RequestCall id Serve) in
      let k = call_accounted s id Serve w (λ e. c (ap (λ v. state_after queueing_receiver v (serves_of ids)) e ∙ closed_stays queueing_receiver (serves_of ids))) h in
      joined s (x ∷ []) (serves_of ids) k (serves_accounted ids (on_item queueing_receiver s x).0 (shape_item queueing_receiver ends_laws s x tt w) c k.ends)

  -- nothing is said and nothing written
  quiet_accounted : (s : Connection queueing_receiver) (t : List (Item Asked)) → said_of R (observations queueing_receiver s t) ≡ [] → written_of R (observations queueing_receiver s t) ≡ []
      → waits_at R (state_after queueing_receiver s t) ≡ waits_at R s → EndsWithEnd (waits_at R s) → Accounted R s t
  quiet_accounted s t x y e h =
      record { accounts = ap (λ l. waits_at R s ++ l) x ∙ append-nil (waits_at R s) ∙ ap₂ (λ l k. l ++ k) (sym y) (sym e); ends = subst (λ l. EndsWithEnd l) (sym e) h }

  -- any operation
  op_accounted : (m : QueueMemory) (o : QueueOperation) → Fine m → PieceOk o → (loaded_queue (queue_after m o) ≡ Closed → ⊥) → EndsWithEnd (waits_at R (loaded_queue m)) → Accounted R (loaded_queue m) (machine_items m o)
  unfolding machine_items queue_after state_after
  op_accounted m (D.StepOver piece) k p c h =
      let s = loaded_queue m in
      let z = k.good.steady in
      let e = (op_is m (D.StepOver piece) k p).state in
      quiet_accounted s (byte_items (used_of m piece)) (ap (said_of R) (step_observed m piece z) ∙ step_says R (waiting_of m) _) (ap (written_of R) (step_observed m piece z) ∙ step_writes R (waiting_of m) _)
      (ap (waits_at R) (sym e) ∙ bytes_keep R (used_of m piece) s (loaded_queue (queue_after m (D.StepOver piece))) (sym e) (op_fine m (D.StepOver piece) k p).ends c) h
  op_accounted m (CallFor id a) k p c h = call_accounted (loaded_queue m) id (asked a) k.ends (λ d. c ((op_is m (CallFor id a) k p).state ∙ d)) h
  op_accounted m CountActive k p c h =
      let s = loaded_queue m in quiet_accounted s (CallItem CountCall ∷ []) (count_says R s) (count_writes R s) (ap (waits_at R) (sym (op_is m CountActive k p).state)) h
  op_accounted m (TurnWith allowance buffer) k p c h = serves_accounted (served_by m allowance buffer) (loaded_queue m) k.ends (λ d. c ((op_is m (TurnWith allowance buffer) k p).state ∙ d)) h

  -- ---- runs
  -- Every run that ends open accounts for R.
  pub run_accounted : (os : List QueueOperation) (m : QueueMemory) → Fine m → PiecesAreBytes os → (state_after queueing_receiver (loaded_queue m) (machine_timeline m os) ≡ Closed → ⊥) → EndsWithEnd (waits_at R (loaded_queue m))
      → Accounted R (loaded_queue m) (machine_timeline m os)
  unfolding machine_timeline
  run_accounted [] m k p c h = none_accounted (loaded_queue m) h
  run_accounted (o ∷ os) m k p c h =
      let q = piece_ok o os p in
      let n = queue_after m o in
      let s = loaded_queue m in
      let t = machine_items m o in
      let u = machine_timeline n os in
      let e = (op_is m o k q.0).state in
      let after : state_after queueing_receiver s (t ++ u) ≡ state_after queueing_receiver (loaded_queue n) u = state_append queueing_receiver s t u ∙ ap (λ v. state_after queueing_receiver v u) (sym e) in
      let a = op_accounted m o k q.0 (λ d. c (after ∙ ap (λ v. state_after queueing_receiver v u) d ∙ closed_stays queueing_receiver u)) h in
      let b = run_accounted os n (op_fine m o k q.0) q.1 (λ d. c (after ∙ d)) (subst (λ v. EndsWithEnd (waits_at R v)) (sym e) a.ends) in
      joined s t u a (subst (λ v. Accounted R v u) e b)
