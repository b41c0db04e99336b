-- What a station with a queue and the server's end have in common: each request that is active at the station is open at
-- the server's end, and what waits of it leads from the ended streams there to those of the station. How changes of
-- either end keep that.
use Rattle.std.specs.Prelude.{ℕ, ◌<◌, ◌≡◌, refl, true, [], eqb, Some}
use Rattle.std.proofs.Common.{sym, ap, ◌∙◌, subst, eqb-true}
use Rattle.std.proofs.lemmas.Bool.{eqb-false}
use Rattle.wire.specs.Test.{by_test}
use Rattle.connection.specs.declared.request.RequestState.{RequestState}
use Rattle.connection.specs.declared.request.Request.{Request}
use Rattle.connection.specs.declared.state.Conn.{Conn}
use Rattle.connection.specs.declared.state.Table.{Table}
use Rattle.connection.specs.Sizes.{SLOTS}
use Rattle.connection.specs.Slots.{request_at, put_request, free_slot, no_requests, find}
use Rattle.connection.specs.Run.{Memory}
use Rattle.connection.proofs.Laws.SlotsLaws as S
use Rattle.connection.proofs.Laws.SlotsLaws.{find_at}
use Rattle.connection.proofs.Laws.ShapeLaws.{Tidy}
use Rattle.queue_slot.specs.Wait.{Wait, atoms_in}
use Rattle.queue_slot.proofs.ServeLaws.{leaving_not_empty}
use Rattle.queue.specs.Calls.{QueueMemory, conn_of, wait_at}
use Rattle.queue.specs.Run.{with_memory}
use Rattle.queue_link.proofs.Loaded.{kept_open}
use Rattle.queue_runs.proofs.Closing.{KeepsNothing}
use Rattle.replies_heard.proofs.Agree.{OpenWith, Each, OnEnds, open_on_ends, one_id, one_slot, each_none, each_at, each_freed, Spares}
use Rattle.replies_heard.proofs.CallHeard.{Changes, Stays, Puts, Frees, Shuts}
use Rattle.queue_heard.proofs.Flow.{Flow, flow_on}

-- A request of that id is open at the server's end, whose table is t. What waits leads from its state there to the state
-- m at the station. The status of a waiting END has four bytes.
pub record Sends (t : Table) (id : ℕ) (w : Wait) (m : RequestState) : Type 0 where
  pub state : RequestState
  pub there : OpenWith t id state
  pub flow : Flow (atoms_in w) state m
  pub small : w.last ≡ true → w.status < 4294967296

-- the station's memory m, the table t of the server's end
abbrev pub QueueAgree : QueueMemory → Table → Type 0
QueueAgree m t = Each (conn_of m).table (λ id i. Sends t id (wait_at m i))

pub sends_on_ends : (m : QueueMemory) (t : Table) → OnEnds (λ id i. Sends t id (wait_at m i))
sends_on_ends m t id i a b e s = record { state = s.state; there = s.there; flow = flow_on (atoms_in (wait_at m i)) s.state a b e s.flow; small = s.small }

-- with another table of the server's end, in which it is open still
pub sends_there : (t u : Table) (id : ℕ) (w : Wait) (m : RequestState) → ((n : RequestState) → OpenWith t id n → OpenWith u id n) → Sends t id w m → Sends u id w m
sends_there t u id w m f s = record { state = s.state; there = f s.state s.there; flow = s.flow; small = s.small }

-- ---- where nothing waits
-- it is open there as it is at the station
pub silent_sends : (t : Table) (id : ℕ) (w : Wait) (m : RequestState) → atoms_in w ≡ [] → OpenWith t id m → Sends t id w m
silent_sends t id w m e o =
    record {
      state = m;
      there = o;
      flow = subst (λ l. Flow l m m) (sym e) (record { out = refl; err = refl });
      small = λ l. absurd (leaving_not_empty w l e);
    }

pub sends_silent : (t : Table) (id : ℕ) (w : Wait) (m : RequestState) → atoms_in w ≡ [] → Sends t id w m → OpenWith t id m
sends_silent t id w m e s = open_on_ends t id 0 s.state m (subst (λ l. Flow l s.state m) e s.flow) s.there

-- ---- one slot of the station changes
-- the request of an id in slot i, with what waits there, and the others
module _ (m n : QueueMemory) (t u : Table) (id i : ℕ) (found : find (conn_of m).table id ≡ Some i) (a : QueueAgree m t) (spares : Spares id t u)
    (same : (k : ℕ) → k < SLOTS → (k ≡ i → ⊥) → wait_at n k ≡ wait_at m k) where
  abbrev s : Table
  s = (conn_of m).table

  others : (b k : ℕ) → (k ≡ i → ⊥) → find s b ≡ Some k → Sends u b (wait_at n k) (request_at s k).state
  others b k ne e =
      let low = (find_at s b k e).low in
      subst (λ w. Sends u b w (request_at s k).state) (sym (same k low ne))
      (sends_there t u b (wait_at m k) (request_at s k).state (λ r o. spares b r (λ z. ne (one_slot s b id k i e found z)) o) (a b k e))

  own_of : (r : RequestState) → Sends u id (wait_at n i) r → (b : ℕ) → find s b ≡ Some i → Sends u b (wait_at n i) r
  own_of r own b e = subst (λ (c : ℕ). Sends u c (wait_at n i) r) (one_id s id b i i found e refl) own

  -- the table stays
  pub wait_changed : (conn_of n).table ≡ s → Sends u id (wait_at n i) (request_at s i).state → QueueAgree n u
  wait_changed e own = subst (λ (x : Table). Each x (λ b k. Sends u b (wait_at n k))) (sym e) there
    where
      there : Each s (λ b k. Sends u b (wait_at n k))
      there b k f =
          by_test (eqb k i)
          (λ x. let is : k ≡ i = eqb-true k i x in subst (λ (c : ℕ). Sends u b (wait_at n c) (request_at s c).state) (sym is) (own_of (request_at s i).state own b (f ∙ ap Some is)))
          (λ x. others b k (eqb-false k i x) f)

  -- the request is put back
  pub both_changed : (r : Request) → S.Sized s → (conn_of n).table ≡ put_request s i r → r.id ≡ (request_at s i).id → Sends u id (wait_at n i) r.state → QueueAgree n u
  both_changed r sized e mine own =
      subst (λ (x : Table). Each x (λ b k. Sends u b (wait_at n k))) (sym e) (each_at (λ b k. Sends u b (wait_at n k)) s i r sized mine (own_of r.state own) others)

  -- it is given back
  pub slot_freed : Tidy s → (conn_of n).table ≡ free_slot s i → QueueAgree n u
  slot_freed tidy e = subst (λ (x : Table). Each x (λ b k. Sends u b (wait_at n k))) (sym e) (each_freed (λ b k. Sends u b (wait_at n k)) s i tidy others)

-- without requests
pub none_agree : (n : QueueMemory) (u : Table) → (conn_of n).table ≡ no_requests → QueueAgree n u
none_agree n u e = subst (λ (x : Table). Each x (λ b k. Sends u b (wait_at n k))) (sym e) (each_none (λ b k. Sends u b (wait_at n k)))

-- ---- another memory below, and what waits stays, or is dropped by a close
still_waits : (m : QueueMemory) (n : Memory) → n.state.conn.«open» ≡ true → (k : ℕ) → wait_at (with_memory m n) k ≡ wait_at m k
unfolding wait_at
still_waits m n o k = rw (o, kept_open (conn_of m).«open» m.waits)

pub with_agree : (m : QueueMemory) (n : Memory) (u : Table) → KeepsNothing (with_memory m n) → Each n.state.conn.table (λ id i. Sends u id (wait_at m i)) → QueueAgree (with_memory m n) u
with_agree m n u nothing a =
    by_test n.state.conn.«open»
    (λ o id i e. subst (λ w. Sends u id w (request_at n.state.conn.table i).state) (sym (still_waits m n o i)) (a id i e))
    (λ o. none_agree (with_memory m n) u (ap (λ (c : Conn). c.table) (nothing.connection o)))

-- A straight call of a request of which nothing waits.
pub call_sends : (m : QueueMemory) (id : ℕ) (t u : Table) {s' : Table} → S.Sized (conn_of m).table → ((i : ℕ) → find (conn_of m).table id ≡ Some i → atoms_in (wait_at m i) ≡ [])
    → Changes id (conn_of m).table t u s' → QueueAgree m t → Each s' (λ b k. Sends u b (wait_at m k))
call_sends m id t u sized quiet (Stays e) a = subst (λ (x : Table). QueueAgree m x) (sym e) a
call_sends m id t u sized quiet (Puts i r found same spares own) a =
    each_at (λ b k. Sends u b (wait_at m k)) (conn_of m).table i r sized same
    (own_of m m t u id i found a spares (λ k l ne. refl) r.state (silent_sends u id (wait_at m i) r.state (quiet i found) own))
    (others m m t u id i found a spares (λ k l ne. refl))
call_sends m id t u sized quiet (Frees i found tidy spares) a = each_freed (λ b k. Sends u b (wait_at m k)) (conn_of m).table i tidy (others m m t u id i found a spares (λ k l ne. refl))
call_sends m id t u sized quiet (Shuts i found spares) a = each_none (λ b k. Sends u b (wait_at m k))
