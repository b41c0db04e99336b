-- In a run, nothing is told of a request that is spent (faulted or aborted).
use Rattle.connection.specs.Slots.{Slot}
use Rattle.std.specs.Prelude.{◌≡◌, refl, List, Bool, true, false, ℕ, ◌<◌, if◌then◌else◌, Some, None}
use Rattle.std.proofs.Common.{sym, subst, arith}
use Rattle.std.proofs.Math.Option.{none, some}
use Rattle.connection.specs.Request.{Held, is_spent}
use Rattle.connection.specs.Slots.{held_at, find, on_slot}
use Rattle.connection.specs.Run.{Memory, request_of, step_of, event_id, WholeRun, ending}
use Rattle.connection.proofs.Laws.Spent.{spent_step}
use Rattle.connection.proofs.Runs.DueLive.{due_live}

-- An active request: the connection is open, and this is its slot.
pub record ActiveAt (R : ℕ) (m : Memory) (h : Held) : Type 0 where
  pub is_open : m.state.conn.«open» ≡ true
  pub slot : ℕ
  pub found : find m.state.conn.table R ≡ Some slot
  pub same : held_at m.state.conn.table m.store slot ≡ h

-- Where a request is observed, it is active.
pub active_at : (R : ℕ) (m : Memory) (h : Held) → request_of R m ≡ some h → ActiveAt R m h
unfolding request_of
active_at R m h e = go m.state.conn.«open» refl (find m.state.conn.table R) refl e
  where
    go : (o : Bool) → m.state.conn.«open» ≡ o → (s : Slot) → find m.state.conn.table R ≡ s
        → (if o then on_slot s (λ i. some (held_at m.state.conn.table m.store i)) none else none) ≡ some h → ActiveAt R m h
    go true o (Some i) s d = record { is_open = o; slot = i; found = s; same = cc }
    go true o None s d = let z : ◌≡◌ {A = ℕ} 0 1 = cc in absurd (omega arith)
    go false o s f d = let z : ◌≡◌ {A = ℕ} 0 1 = cc in absurd (omega arith)

-- While R is spent, no step tells anything of R: no second fault or abort, no ready, no end, no data.
pub spent_silent : (R : ℕ) (r : WholeRun) (h : Held) (piece : List ℕ) → 0 < R → request_of R (ending r) ≡ some h → is_spent h.request.state.life ≡ true
    → event_id (step_of (ending r) piece).event ≡ R → ⊥
spent_silent R r h piece some_id e spent =
    let m = ending r in
    let a = active_at R m h e in
    spent_step m.state m.store piece R a.slot some_id a.found (subst (λ (x : Held). is_spent x.request.state.life ≡ true) (sym a.same) spent) (λ due u aim some skip. due_live r due a.slot u a.is_open aim some skip)
