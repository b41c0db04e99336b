-- The first half of Isolation, `any_run`: runs of the receiver are runs of a machine of one request, for which it is
-- shown in the crate `machine`.
use Rattle.std.specs.Prelude.{◌≡◌, refl, ◌⊎◌, false, ℕ, ◌<◌}
use Rattle.std.proofs.Common.{ap, sym, ◌∙◌, subst, inl, inr}
use mathlib.Core.List.Memᴰ
use mathlib.Core.List.{List, [], ◌∷◌, Memᴰ}
use Rattle.record.specs.Names.{OVERLOADED}
use Rattle.machine.specs.Timeline.{Item, purge}
use Rattle.machine.specs.Machine.{Connection, Closed, Observation, RequestEvent, state_after, observations, ran_fresh}
use Rattle.machine.specs.Machine as M
use Rattle.machine.proofs.Simulation as OnMachine
use Rattle.machine.proofs.Isolation as Generic
use Rattle.machine.proofs.IsolationPrefix as Prefix
use Rattle.machine.proofs.Shuffled.{shuffled}
use Rattle.connection.specs.Event.{Event}
use Rattle.connection.specs.Bytewise.{Note}
use Rattle.connection.specs.Runs.Receiver.{receiver}
use Rattle.connection.specs.Arguments.{Argument}
use Rattle.connection.specs.Run.{Memory, Observed, request_of, WholeRun, beginning, ending, timeline_of, observed_in, seen_of, observed}
use Rattle.connection.specs.Isolation.{EndsBetweenRecords, overloaded_for, NeverOverloaded, RunsFor, Isolated}
use Rattle.connection.specs.Shuffle.{SameOf}
use Rattle.connection.proofs.Runs.Telling.{told, told_all, seen_observed}
use Rattle.connection.proofs.Runs.LinkingStep.{loaded_of, closed_loaded, Steady}
use Rattle.connection.proofs.Runs.LinkingRuns.{run_linked, start_loaded, start_steady, request_loaded, between_loaded, loaded_between}
use Rattle.connection.proofs.Runs.Records.{whole_between, between_whole}

-- ---- a run from a start, on the machine
record FromStart (r : WholeRun) : Type 0 where
  state : loaded_of (ending r) ≡ (ran_fresh receiver 15 (timeline_of r)).state
  tells : observed_in r ≡ told_all (ran_fresh receiver 15 (timeline_of r)).seen
  steady : Steady (ending r)

from_start : (r : WholeRun) → FromStart r
from_start r =
    let k = run_linked r.operations (beginning r) (start_steady r.gathered r.store r.gathered_size r.store_size) r.pieces in
    let e = start_loaded r.gathered r.store r.store_size in
    record {
      state = k.state ∙ ap (λ w. state_after receiver w (timeline_of r)) e;
      tells = k.tells ∙ ap (λ w. told_all (observations receiver w (timeline_of r))) e;
      steady = k.steady;
    }

told_there : (o : Observation receiver) (e : Observed) (os : List (Observation receiver)) → told o ≡ e ∷ [] → Memᴰ o os → Memᴰ e (told_all os)
unfolding told_all
told_there o e (x ∷ os) a (Memᴰ.head d) = Memᴰ.append_left _ (subst (λ l. Memᴰ e l) (sym a ∙ ap told d) (Memᴰ.head refl))
told_there o e (x ∷ os) a (Memᴰ.tail m) = Memᴰ.append_right (told x) (told_there o e os a m)
told_there o e [] a x'' = elim x'' [ ]

-- on the machine R is then nowhere refused for want of a slot
never : {R : ℕ} (r : WholeRun) → NeverOverloaded R r → OnMachine.NeverOverloaded receiver R (ran_fresh receiver 15 (timeline_of r))
never {R} r room = λ x.
    room
    (subst (λ l. Memᴰ (overloaded_for R) l) (sym (from_start r).tells)
    (told_there (RequestEvent R (Note.Told (Event.Refuse 0 OVERLOADED))) (overloaded_for R) (ran_fresh receiver 15 (timeline_of r)).seen refl x))

-- and it ends open and between two records
between : (r : WholeRun) → EndsBetweenRecords r → Generic.BetweenRecords receiver (ran_fresh receiver 15 (timeline_of r)).state
between r b = subst (λ w. Generic.BetweenRecords receiver w) (from_start r).state (between_loaded (ending r) (whole_between r b))

-- What purging leaves of a run's timeline ends open and between two records.
pub purged_between : (R : ℕ) (A : WholeRun) → 0 < R → EndsBetweenRecords A → NeverOverloaded R A
    → Generic.BetweenRecords receiver (ran_fresh receiver 15 (purge R (timeline_of A))).state
purged_between R A r b room = (Generic.isolation receiver R 15 (timeline_of A) r (between A b) (never A room)).ends_between

-- ---- what is the same of R
same_observed : (R : ℕ) (A B : WholeRun) → 0 < R
    → M.observed receiver R (ran_fresh receiver 15 (timeline_of B)).seen ≡ M.observed receiver R (ran_fresh receiver 15 (timeline_of A)).seen → observed R B ≡ observed R A
same_observed R A B r e =
    ap (seen_of R) (from_start B).tells ∙ seen_observed R (ran_fresh receiver 15 (timeline_of B)).seen r ∙ ap told_all e
    ∙ sym (seen_observed R (ran_fresh receiver 15 (timeline_of A)).seen r) ∙ ap (seen_of R) (sym (from_start A).tells)

same_request : (R : ℕ) (A B : WholeRun)
    → M.request_in receiver R (ran_fresh receiver 15 (timeline_of B)).state ≡ M.request_in receiver R (ran_fresh receiver 15 (timeline_of A)).state
    → request_of R (ending B) ≡ request_of R (ending A)
same_request R A B e =
    sym (request_loaded R (ending B)) ∙ ap (M.request_in receiver R) (from_start B).state ∙ e ∙ ap (M.request_in receiver R) (sym (from_start A).state) ∙ request_loaded R (ending A)

ends : (m : Memory) {s : Connection receiver} {rest : List (Item Argument)} → loaded_of m ≡ s → (rest ≡ []) ⊎ (m.state.conn.«open» ≡ false) → (rest ≡ []) ⊎ (s ≡ Closed)
ends m e (inl x) = inl x
ends m e (inr x) = inr (sym e ∙ closed_loaded m x)

-- Any run for R's items of A is isolated.
pub any_run : (R : ℕ) (A B : WholeRun) → 0 < R → EndsBetweenRecords A → NeverOverloaded R A → RunsFor R A B → Isolated R A B
any_run R A B r b room runs =
    let i =
    Prefix.isolation_of_prefix receiver R 15 (timeline_of A) (timeline_of B) r (between A b) (never A room)
    (record { rest = runs.rest; prefix = runs.prefix; all_or_closed = ends (ending B) (from_start B).state runs.all_or_closed }) in
    record {
      all_items_lem = i.all_items_lem;
      ends_between =
          between_whole B
          (loaded_between (ending B) (from_start B).steady (subst (λ w. Generic.BetweenRecords receiver w) (sym (from_start B).state) i.isolated.ends_between));
      same_observed = same_observed R A B r i.isolated.same_observed;
      same_request = same_request R A B i.isolated.same_request;
    }

-- Two runs with the same items of R, mixed differently among those of others: what is observed of R is the same, and
-- so is R's request at the end.
pub mixed_differently : (R : ℕ) (A B : WholeRun) → 0 < R → EndsBetweenRecords A → EndsBetweenRecords B → NeverOverloaded R A → NeverOverloaded R B
    → purge R (timeline_of A) ≡ purge R (timeline_of B) → SameOf R A B
mixed_differently R A B r ba bb ra rb e =
    let i = shuffled receiver R 15 (timeline_of A) (timeline_of B) r (between A ba) (never A ra) (between B bb) (never B rb) e in
    record { same_observed = same_observed R B A r i.same_observed; same_request = same_request R B A i.same_request }
