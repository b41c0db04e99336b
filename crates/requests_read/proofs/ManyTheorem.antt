-- Any calls of the server's end, for any requests in any order: the station tells just what they said, and has each
-- request as it was written.
use Rattle.connection.specs.Slots.{Slot}
use Rattle.std.specs.Prelude.{ℕ, ◌≡◌, refl, List, [], ◌∷◌, ◌++◌, length, eqb}
use Rattle.std.proofs.Common.{sym, ap, ap₂, ◌∙◌, subst, arith, eqb-true}
use Rattle.std.proofs.lemmas.Bool.{eqb-false}
use Rattle.wire.specs.Test.{by_test}
use Rattle.connection.specs.declared.state.Table.{Table}
use Rattle.connection.specs.Sizes.{SLOTS, QUERY, STORE}
use Rattle.connection.specs.Slots.{find, on_slot}
use Rattle.connection.specs.Step.{State, started}
use Rattle.connection.specs.Bytewise.{Note, Run, by_byte}
use Rattle.connection.proofs.Laws.SlotsLaws.{found_true}
use Rattle.connection.proofs.Laws.Cutting.{by_byte_append, pieces_by_byte}
use Rattle.meaning.proofs.Theorem.{start_between}
use Rattle.server.specs.declared.state.Server.{Server}
use Rattle.server.specs.Step.{State as ServerState, state_of, started as serverStarted}
use Rattle.server.specs.Calls.{slot_of}
use Rattle.server.proofs.Stepping.{start_good}
use Rattle.server.proofs.LetThrough.{Unwritten, open_refused_stays, part_refused_stays}
use Rattle.requests_read.specs.StationHas.{StationHas}
use Rattle.requests_read.specs.WrittenRequest.{bytes_in, station_fed}
use Rattle.requests_read.specs.ManyRequests.{Call, Opens, Gives, calling, Known, nothing_known, known_after, call_told, CallFits, all_written, all_told, AllFit, all_known, after_all, CallsAreRead}
use Rattle.requests_read.proofs.StationOpens.{fresh_none, fresh_table}
use Rattle.requests_read.proofs.RequestTheorem.{fresh_server}
use Rattle.requests_read.proofs.InStep.{InStep, Came, part_in_step, open_in_step}

-- ---- one call
abbrev buffer_of : Call → List ℕ
buffer_of (Opens id role keep buffer) = buffer
buffer_of (Gives id part buffer) = buffer

-- let through
call_comes : (sb : ServerState) (st : State) (store : List ℕ) (f : Known) (x : Call) → InStep sb st store f → CallFits f x → (calling sb.server x).refusal ≡ 0
    → Came sb st store (calling sb.server x) (call_told f x) (known_after f x)
call_comes sb st store f (Opens id role keep buffer) i fits e = open_in_step sb st store f id role keep buffer i fits e
call_comes sb st store f (Gives id part buffer) i fits e = part_in_step sb st store f id part buffer i fits.0 fits.1 e

-- refused
call_stays : (c : Server) (x : Call) → ((calling c x).refusal ≡ 0 → ⊥) → Unwritten c (buffer_of x) (calling c x)
call_stays c (Opens id role keep buffer) e = open_refused_stays c id role keep buffer e
call_stays c (Gives id part buffer) e = part_refused_stays c id part buffer e

-- ---- all calls
record AllCame (sb : ServerState) (st : State) (store : List ℕ) (f : Known) (xs : List Call) : Type 0 where
  told : (by_byte st store (all_written sb.server xs)).notes ≡ all_told sb.server f xs
  in_step : InStep (state_of (after_all sb.server xs) sb.values) (by_byte st store (all_written sb.server xs)).state (by_byte st store (all_written sb.server xs)).store
      (all_known sb.server f xs)

all_come : (xs : List Call) (sb : ServerState) (st : State) (store : List ℕ) (f : Known) → InStep sb st store f → AllFit sb.server f xs → AllCame sb st store f xs
unfolding all_written all_told all_known after_all by_byte
all_come [] sb st store f i fits = record { told = refl; in_step = i }
all_come (x ∷ xs) sb st store f i fits =
    let c = sb.server in
    let w = calling c x in
    let sb' = state_of w.server sb.values in
    by_test (eqb w.refusal 0)
    (λ t.
    let now : CallFits f x × AllFit w.server (known_after f x) xs = rw t at fits in
    let k = call_comes sb st store f x i now.0 (eqb-true w.refusal 0 t) in
    let r = by_byte st store (bytes_in w) in
    let rest = all_come xs sb' r.state r.store (known_after f x) k.in_step now.1 in
    let e = by_byte_append (bytes_in w) st store (all_written w.server xs) in
    record { told = rw t (ap (λ (y : Run). y.notes) e ∙ ap₂ (λ (u v : List Note). u ++ v) k.told rest.told); in_step = rw (t, e) rest.in_step })
    (λ t.
    let e = (call_stays c x (eqb-false w.refusal 0 t)).1 in
    let rest = all_come xs sb st store f i (rw e at (rw t at fits)) in
    record { told = rw (t, e) rest.told; in_step = rw (t, e) rest.in_step })

-- ---- from a fresh start
fresh_in_step : (values gathered store : List ℕ) → length values ≡ QUERY → length gathered ≡ QUERY → length store ≡ STORE
    → InStep (serverStarted values) (started gathered store).state (started gathered store).store nothing_known
fresh_in_step values gathered store hv hg hs =
    let b = fresh_server values in
    let t = fresh_table gathered store hs in
    record {
      good = start_good values hv;
      is_open = b.1;
      between = start_between gathered store hg hs;
      ids = ap (λ (u : Table). u.ids) t ∙ sym (ap (λ (u : Table). u.ids) b.0);
      slots = ap (λ (u : Table). u.occupied) t ∙ sym (ap (λ (u : Table). u.occupied) b.0);
      each = λ id j e. let z : ◌≡◌ {A = ℕ} 0 1 = cc (sym (fresh_none id) ∙ sym (ap (λ (u : Table). find u id) b.0) ∙ e) in absurd (omega arith);
    }

pub calls_are_read : CallsAreRead
calls_are_read xs values gathered store pieces hv hg hs fits e =
    let st = (started gathered store).state in
    let sto = (started gathered store).store in
    let i = fresh_in_step values gathered store hv hg hs in
    let k = all_come xs (serverStarted values) st sto nothing_known i fits in
    let fed = pieces_by_byte pieces st sto i.between.sizes ∙ ap (by_byte st sto) e in
    record {
      told = ap (λ (r : Run). r.notes) fed ∙ k.told;
      has = λ id found.
          let c = after_all (serverStarted values).server xs in
          let s = found_true (find c.table id) found in
          let slot : slot_of c id ≡ s.0 = ap (λ (x : Slot). on_slot x (λ i. i) SLOTS) s.1 in
          let r = station_fed gathered store pieces in
          subst (λ (n : ℕ). StationHas r.state r.store id n (all_known (serverStarted values).server nothing_known xs id)) (sym slot)
          (rw fed (k.in_step.each id s.0 s.1).has);
    }
