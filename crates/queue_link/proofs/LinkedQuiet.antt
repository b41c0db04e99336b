-- No byte of R between finish and END, on runs and on the machine: within a step whether R is leaving does not come
-- about.
use Rattle.std.proofs.Math.Path.{◌≡◌, ap, subst}
use Rattle.std.proofs.Common.{◌∙◌, inl, inr, arith}
use mathlib.Core.List.{List, [], ◌∷◌, ◌++◌}
use Rattle.std.specs.Prelude.{◌⊎◌, Bool, true, false, ℕ}
use Rattle.machine.specs.Timeline.{RequestCall, Item, ByteItem, CallItem, byte_items, item_bytes, Scan, scan_next, is_own}
use Rattle.machine.proofs.TimelineLaws.{bytes_of_items}
use Rattle.machine.specs.Machine.{Connection, on_item, state_after}
use Rattle.machine_queue.specs.Waiting.{Quiet, QuietAlone}
use Rattle.queue_machine.specs.Queued.{Asked, Serve, queueing_receiver, waiting_queue}
use Rattle.queue_link.proofs.Loaded.{loaded_queue}
use Rattle.queue_link.proofs.LoadedTurn.{serves_of}
use Rattle.queue_machine.proofs.Calm.{CalmIn, calm_byte, calm_request, request_calm}
use Rattle.queue_link.proofs.LinkedRuns.{served_by, machine_items, machine_timeline, Fine, op_is, op_fine, leaving_is}
use Rattle.queue_link.proofs.LinkedTimeline.{run_bytes}
use Rattle.queue.specs.Calls.{QueueMemory}
use Rattle.queue.specs.Run as D
use Rattle.queue.specs.Run.{QueueOperation, CallFor, CountActive, TurnWith, queue_after, used_of, leaving_of, queue_timeline, PiecesAreBytes}
use Rattle.queue.specs.Isolation.{QuietBytes, scanned, QuietFrom, QuietAloneFrom}

module _ (R : ℕ) where
  -- ---- a step
  quiet_bytes : (x : List ℕ) (t : List (Item Asked)) (rest : List ℕ) (s : Connection queueing_receiver) (k : Scan) (l : Bool) → item_bytes t ≡ rest → (l ≡ false → CalmIn R s) → QuietBytes R l k x rest
      → Quiet queueing_receiver waiting_queue R (state_after queueing_receiver s (byte_items x)) (scanned R k x) t → Quiet queueing_receiver waiting_queue R s k (byte_items x ++ t)
  unfolding byte_items state_after
  quiet_bytes [] t rest s k l e c q h = h
  quiet_bytes (b ∷ x) t rest s k l e c q h =
      let d : item_bytes (byte_items x ++ t) ≡ x ++ rest = bytes_of_items x t ∙ ap (λ y. x ++ y) e in (
        (λ own. calm_request R s (c (q.0 (subst (λ y. is_own R k (b ∷ y) ≡ true) d own)))),
        quiet_bytes x t rest (on_item queueing_receiver s (ByteItem b)).0 (scan_next R k b) l e (λ f. calm_byte R s b (c f)) q.1 h,
      )

  quiet_serves : (ids : List ℕ) (t : List (Item Asked)) (s : Connection queueing_receiver) (k : Scan) → Quiet queueing_receiver waiting_queue R (state_after queueing_receiver s (serves_of ids)) k t → Quiet queueing_receiver waiting_queue R s k (serves_of ids ++ t)
  unfolding serves_of state_after
  quiet_serves [] t s k h = h
  quiet_serves (id ∷ ids) t s k h = quiet_serves ids t (on_item queueing_receiver s (CallItem (RequestCall id Serve))).0 k h

  -- no byte of R's records while R is leaving
  pub run_quiet : (os : List QueueOperation) (m : QueueMemory) (k : Scan) → Fine m → PiecesAreBytes os → QuietFrom R m k os → Quiet queueing_receiver waiting_queue R (loaded_queue m) k (machine_timeline m os)
  unfolding machine_timeline machine_items state_after queue_after
  run_quiet [] m k f p q = tt
  run_quiet (D.StepOver piece ∷ os) m k f p q =
      let o = D.StepOver piece in
      let i = op_is m o f p.0 in
      let r = run_quiet os (queue_after m o) (scanned R k (used_of m piece)) (op_fine m o f p.0) p.1 q.1 in
      quiet_bytes (used_of m piece) (machine_timeline (queue_after m o) os) (item_bytes (queue_timeline (queue_after m o) os)) (loaded_queue m) k (leaving_of R m) (run_bytes os (queue_after m o)) (λ e. request_calm R (loaded_queue m) f.ends (leaving_is R m ∙ e)) q.0
      (subst (λ s. Quiet queueing_receiver waiting_queue R s (scanned R k (used_of m piece)) (machine_timeline (queue_after m o) os)) i.state r)
  run_quiet (CallFor id a ∷ os) m k f p q =
      let o = CallFor id a in
      subst (λ s. Quiet queueing_receiver waiting_queue R s k (machine_timeline (queue_after m o) os)) (op_is m o f tt).state (run_quiet os (queue_after m o) k (op_fine m o f tt) p q)
  run_quiet (CountActive ∷ os) m k f p q =
      subst (λ s. Quiet queueing_receiver waiting_queue R s k (machine_timeline m os)) (op_is m CountActive f tt).state (run_quiet os m k f p q)
  run_quiet (TurnWith allowance buffer ∷ os) m k f p q =
      let o = TurnWith allowance buffer in
      quiet_serves (served_by m allowance buffer) (machine_timeline (queue_after m o) os) (loaded_queue m) k
      (subst (λ s. Quiet queueing_receiver waiting_queue R s k (machine_timeline (queue_after m o) os)) (op_is m o f tt).state (run_quiet os (queue_after m o) k (op_fine m o f tt) p q))

  -- ---- where all bytes are R's
  alone_bytes : (x : List ℕ) (t : List (Item Asked)) (s : Connection queueing_receiver) → (x ≡ []) ⊎ CalmIn R s
      → QuietAlone queueing_receiver waiting_queue R (state_after queueing_receiver s (byte_items x)) t → QuietAlone queueing_receiver waiting_queue R s (byte_items x ++ t)
  unfolding byte_items state_after
  alone_bytes [] t s c h = h
  alone_bytes (b ∷ x) t s (inl e) h = let z : ◌≡◌ {A = ℕ} 0 1 = cc in absurd (omega arith)
  alone_bytes (b ∷ x) t s (inr c) h = (calm_request R s c, alone_bytes x t (on_item queueing_receiver s (ByteItem b)).0 (inr (calm_byte R s b c)) h)

  alone_serves : (ids : List ℕ) (t : List (Item Asked)) (s : Connection queueing_receiver) → QuietAlone queueing_receiver waiting_queue R (state_after queueing_receiver s (serves_of ids)) t → QuietAlone queueing_receiver waiting_queue R s (serves_of ids ++ t)
  unfolding serves_of state_after
  alone_serves [] t s h = h
  alone_serves (id ∷ ids) t s h = alone_serves ids t (on_item queueing_receiver s (CallItem (RequestCall id Serve))).0 h

  calm_or : (m : QueueMemory) (x : List ℕ) → Fine m → (x ≡ []) ⊎ (leaving_of R m ≡ false) → (x ≡ []) ⊎ CalmIn R (loaded_queue m)
  calm_or m x f (inl e) = inl e
  calm_or m x f (inr e) = inr (request_calm R (loaded_queue m) f.ends (leaving_is R m ∙ e))

  -- no byte at all while R is leaving
  pub run_alone : (os : List QueueOperation) (m : QueueMemory) → Fine m → PiecesAreBytes os → QuietAloneFrom R m os → QuietAlone queueing_receiver waiting_queue R (loaded_queue m) (machine_timeline m os)
  unfolding machine_timeline machine_items state_after queue_after
  run_alone [] m f p q = tt
  run_alone (D.StepOver piece ∷ os) m f p q =
      let o = D.StepOver piece in
      alone_bytes (used_of m piece) (machine_timeline (queue_after m o) os) (loaded_queue m) (calm_or m (used_of m piece) f q.0)
      (subst (λ s. QuietAlone queueing_receiver waiting_queue R s (machine_timeline (queue_after m o) os)) (op_is m o f p.0).state (run_alone os (queue_after m o) (op_fine m o f p.0) p.1 q.1))
  run_alone (CallFor id a ∷ os) m f p q =
      let o = CallFor id a in
      subst (λ s. QuietAlone queueing_receiver waiting_queue R s (machine_timeline (queue_after m o) os)) (op_is m o f tt).state (run_alone os (queue_after m o) (op_fine m o f tt) p q)
  run_alone (CountActive ∷ os) m f p q =
      subst (λ s. QuietAlone queueing_receiver waiting_queue R s (machine_timeline m os)) (op_is m CountActive f tt).state (run_alone os m f p q)
  run_alone (TurnWith allowance buffer ∷ os) m f p q =
      let o = TurnWith allowance buffer in
      alone_serves (served_by m allowance buffer) (machine_timeline (queue_after m o) os) (loaded_queue m)
      (subst (λ s. QuietAlone queueing_receiver waiting_queue R s (machine_timeline (queue_after m o) os)) (op_is m o f tt).state (run_alone os (queue_after m o) (op_fine m o f tt) p q))
