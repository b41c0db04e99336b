-- In a run, content is due only to requests that are not spent.
use Rattle.std.specs.Prelude.{◌≡◌, refl, List, true, false, ℕ, zero, suc, ◌<◌, take}
use Rattle.std.proofs.Common.{ap, ◌∙◌, subst, arith}
use Rattle.machine.specs.Slots.{HeldBy, slot_at}
use Rattle.machine.specs.Machine.{Target, ToSlot, Slots}
use Rattle.machine.specs.Shape.{WellShaped, ReadingOk, TargetOk}
use Rattle.connection.specs.declared.request.Due.{Due}
use Rattle.connection.specs.declared.state.Table.{Table}
use Rattle.connection.specs.Request.{Held, is_spent}
use Rattle.connection.specs.Slots.{request_at, held_at}
use Rattle.connection.specs.Step.{due_to}
use Rattle.connection.specs.Run.{WholeRun, ending}
use Rattle.connection.specs.Fits.{InUse}
use Rattle.connection.specs.Runs.Receiver.{clean_area, receiver}
use Rattle.connection.proofs.Runs.Loading.{loaded_slot, slot_of, loaded_slots, loaded_target, reading_at}
use Rattle.connection.proofs.Runs.LoadingLaws.{slot_loaded}
use Rattle.connection.proofs.Runs.LinkingStep.{open_loaded}
use Rattle.connection.proofs.Runs.WellFormedLists.{InTurn, list_laws, run_list}

held_there : (t : Table) (store : List ℕ) (i : ℕ) → InUse t i → slot_at clean_area (loaded_slots t store) i ≡ HeldBy (request_at t i).id (held_at t store i)
unfolding slot_of loaded_slot
held_there t store i u = slot_loaded t store i u.low ∙ simp u.slot_taken

target_of_lem : (due : Due) (i n : ℕ) (body gathered : List ℕ) → (due ≡ Due.Skip → ⊥) → loaded_target (due_to due i) n body gathered ≡ ToSlot i due
target_of_lem Due.Skip i n body gathered f = absurd (f refl)
target_of_lem Due.Params i n body gathered f = refl
target_of_lem Due.Stdin i n body gathered f = refl
target_of_lem Due.Data i n body gathered f = refl

live_of : (due : Due) (n : ℕ) (h : Held) → (due ≡ Due.Skip → ⊥) → InTurn due n h → is_spent h.request.state.life ≡ false
live_of Due.Skip n h f r = absurd (f refl)
live_of Due.Params n h f r = r.1
live_of Due.Stdin n h f r = r
live_of Due.Data n h f r = r

aimed_at : (T : Slots receiver) (c p : ℕ) (header : List ℕ) (s : Target receiver) → 0 < c → ReadingOk receiver list_laws T (reading_at c p header s) → TargetOk receiver list_laws T s c
aimed_at T zero p header s some r = absurd (omega arith)
aimed_at T (suc c) p header s some r = r.target_ok

-- In a run, content that is due to a slot is due to a request that is not spent.
pub due_live : (r : WholeRun) (due : Due) (i : ℕ) → InUse (ending r).state.conn.table i → (ending r).state.conn.«open» ≡ true → (ending r).state.conn.frame.target ≡ due_to due i
    → 0 < (ending r).state.conn.frame.position.content → (due ≡ Due.Skip → ⊥) → is_spent (request_at (ending r).state.conn.table i).state.life ≡ false
due_live r due i u is_open aim some skip =
    let m = ending r in
    let t = m.state.conn.table in
    let f = m.state.conn.frame in
    let T = loaded_slots t m.store in
    let k = subst (λ s. WellShaped receiver list_laws s) (open_loaded m is_open) (run_list r) in
    let ok = aimed_at T f.position.content f.position.padding (take f.position.held f.position.header) (loaded_target f.target f.gathered f.body m.state.gathered) some k.1 in
    let there = subst (λ s. TargetOk receiver list_laws T s f.position.content) (ap (λ a. loaded_target a f.gathered f.body m.state.gathered) aim ∙ target_of_lem due i f.gathered f.body m.state.gathered skip) ok in
    let same : there.1 ≡ held_at t m.store i = cc (there.2, held_there t m.store i u) in
    subst (λ (h : Held). is_spent h.request.state.life ≡ false) same (live_of due f.position.content there.1 skip there.3)
