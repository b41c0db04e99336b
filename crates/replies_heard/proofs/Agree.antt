-- What the two ends have in common: each request that is active at the station is open at the server's end, with the
-- same output streams ended. How changes of either table keep that.
use Rattle.std.specs.Prelude.{ℕ, ◌<◌, ◌≡◌, refl, get_or, eqb, Some}
use Rattle.std.proofs.Common.{sym, ap, ◌∙◌, subst, arith, eqb-true}
use Rattle.std.proofs.lemmas.Bool.{eqb-false}
use Rattle.wire.specs.Test.{by_test}
use Rattle.connection.specs.declared.answer.Output.{Output}
use Rattle.connection.specs.declared.request.RequestState.{RequestState}
use Rattle.connection.specs.declared.request.Request.{Request}
use Rattle.connection.specs.declared.state.Table.{Table}
use Rattle.connection.specs.Sizes.{SLOTS}
use Rattle.connection.specs.RequestCalls.{is_ended, ended_on}
use Rattle.connection.specs.Slots.{no_state, request_at, put_request, take_slot, free_slot, no_requests, find}
use Rattle.connection.proofs.Laws.SlotsLaws.{Sized, Holds, find_at, find_put, request_of_put, request_of_other, request_of_take, other_of_take, taken_of_take_other, other_of_free, taken_of_free_other, only_slot}
use Rattle.connection.proofs.Laws.ShapeLaws.{Tidy}
use Rattle.connection.proofs.Laws.TableShape.{tidy_free}
use Rattle.connection.proofs.Runs.CallShape.{free_holds}
use Rattle.connection.proofs.Runs.Freed.{empty_nowhere}
use Rattle.server.proofs.Writing.{id_at}

-- the same output streams ended
pub record SameEnds (m n : RequestState) : Type 0 where
  pub out : m.out_ended ≡ n.out_ended
  pub err : m.err_ended ≡ n.err_ended

pub ends_trans : (a b c : RequestState) → SameEnds a b → SameEnds b c → SameEnds a c
ends_trans a b c p q = record { out = p.out ∙ q.out; err = p.err ∙ q.err }

pub ends_sym : (m n : RequestState) → SameEnds m n → SameEnds n m
ends_sym m n e = record { out = sym e.out; err = sym e.err }

pub is_ended_lem : (o : Output) (m n : RequestState) → SameEnds m n → is_ended o m ≡ is_ended o n
is_ended_lem Output.Stdout m n e = e.out
is_ended_lem Output.Stderr m n e = e.err

-- a stream ended in both
pub ended_id : (r : Request) (o : Output) → (ended_on r o).id ≡ r.id
unfolding ended_on
ended_id r o = refl

pub ended_ends : (r q : Request) (o : Output) → SameEnds r.state q.state → SameEnds (ended_on r o).state (ended_on q o).state
unfolding ended_on
ended_ends r q Output.Stdout e = record { out = refl; err = e.err }
ended_ends r q Output.Stderr e = record { out = e.out; err = refl }

-- ---- the two tables
-- the request of an id that is open at the server's end, with these streams ended
pub record OpenWith (t : Table) (id : ℕ) (m : RequestState) : Type 0 where
  pub slot : ℕ
  pub found : find t id ≡ Some slot
  pub ends : SameEnds (request_at t slot).state m

-- what holds of each request that is active, by its id, its slot and its state
abbrev pub Each : Table → (ℕ → ℕ → RequestState → Type 0) → Type 0
Each s Q = (id i : ℕ) → find s id ≡ Some i → Q id i (request_at s i).state

-- the station's table s, the table t of the server's end
abbrev pub Agree : Table → Table → Type 0
Agree s t = Each s (λ id i. OpenWith t id)

-- an id is not active
abbrev pub Inactive : Table → ℕ → Type 0
Inactive s b = Each s (λ a i m. a ≡ b → ⊥)

-- It is open at the server's end with no output stream ended, and not active at the station: its opening is on its way,
-- or was refused.
pub record Resting (s t : Table) (b : ℕ) : Type 0 where
  pub is_open : OpenWith t b no_state
  pub inactive : Inactive s b

-- what rests on the ended streams alone
abbrev pub OnEnds : (ℕ → ℕ → RequestState → Type 0) → Type 0
OnEnds Q = (id i : ℕ) (m n : RequestState) → SameEnds m n → Q id i m → Q id i n

pub open_on_ends : (t : Table) → OnEnds (λ id i. OpenWith t id)
open_on_ends t id i m n e o = record { slot = o.slot; found = o.found; ends = ends_trans (request_at t o.slot).state m n o.ends e }

-- a slot holds one id
pub one_id : (t : Table) (a b i j : ℕ) → find t a ≡ Some i → find t b ≡ Some j → i ≡ j → a ≡ b
one_id t a b i j p q e = sym (find_at t a i p).has_id ∙ ap (λ (n : ℕ). get_or t.ids n 0) e ∙ (find_at t b j q).has_id

-- an id has one slot
pub one_slot : (t : Table) (a b i j : ℕ) → find t a ≡ Some i → find t b ≡ Some j → a ≡ b → i ≡ j
one_slot t a b i j p q e = let z : Some i ≡ Some j = sym p ∙ ap (find t) e ∙ q in cc

-- ---- the station's table
-- of no requests anything holds
pub each_none : (Q : ℕ → ℕ → RequestState → Type 0) → Each no_requests Q
each_none Q id i e = let z : ◌≡◌ {A = ℕ} 0 1 = cc (sym (empty_nowhere id) ∙ e) in absurd (omega arith)

-- a request put back with its id: of it, and of the others
pub each_at : (Q : ℕ → ℕ → RequestState → Type 0) (s : Table) (i : ℕ) (r : Request) → Sized s → r.id ≡ (request_at s i).id → ((id : ℕ) → find s id ≡ Some i → Q id i r.state)
    → ((id k : ℕ) → (k ≡ i → ⊥) → find s id ≡ Some k → Q id k (request_at s k).state) → Each (put_request s i r) Q
each_at Q s i r sized same own others id k e =
    let before : find s id ≡ Some k = sym (find_put s i r id same) ∙ e in
    by_test (eqb k i)
    (λ x.
    let is : k ≡ i = eqb-true k i x in
    let low : i < SLOTS = subst (λ (n : ℕ). n < SLOTS) is (find_at s id k before).low in
    let at : request_at (put_request s i r) k ≡ r = ap (request_at (put_request s i r)) is ∙ request_of_put s i r sized low in
    subst (λ (n : ℕ). Q id n (request_at (put_request s i r) k).state) (sym is) (subst (λ (q : Request). Q id i q.state) (sym at) (own id (before ∙ ap Some is))))
    (λ x. subst (λ (q : Request). Q id k q.state) (sym (request_of_other s i k r (eqb-false k i x))) (others id k (eqb-false k i x) before))

-- With its id and its ends.
pub each_put : (Q : ℕ → ℕ → RequestState → Type 0) → OnEnds Q → (s : Table) (i : ℕ) (r : Request) → Sized s → r.id ≡ (request_at s i).id → SameEnds (request_at s i).state r.state → Each s Q
    → Each (put_request s i r) Q
each_put Q on s i r sized same ends a = each_at Q s i r sized same (λ id e. on id i (request_at s i).state r.state ends (a id i e)) (λ id k ne e. a id k e)

-- Given back.
pub each_freed : (Q : ℕ → ℕ → RequestState → Type 0) (s : Table) (i : ℕ) → Tidy s → ((id k : ℕ) → (k ≡ i → ⊥) → find s id ≡ Some k → Q id k (request_at s k).state) → Each (free_slot s i) Q
each_freed Q s i tidy others id k e =
    let h = free_holds s i id k (find_at (free_slot s i) id k e) in
    subst (λ (q : Request). Q id k q.state) (sym (other_of_free s i k h.other)) (others id k h.other (only_slot s tidy.distinct id k h.held))

-- Opened.
pub each_opened : (Q : ℕ → ℕ → RequestState → Type 0) (s : Table) (i : ℕ) (q : Request) → Sized s → Tidy s → i < SLOTS → Q q.id i q.state → Each s Q → Each (take_slot s i q) Q
each_opened Q s i q sized tidy low own a id k e =
    let h = find_at (take_slot s i q) id k e in
    by_test (eqb k i)
    (λ x.
    let at : request_at (take_slot s i q) k ≡ q = ap (request_at (take_slot s i q)) (eqb-true k i x) ∙ request_of_take s i q sized low in
    let is : q.id ≡ id = ap (λ (r : Request). r.id) (sym at) ∙ sym (id_at (take_slot s i q) k) ∙ h.has_id in
    subst (λ (n : ℕ). Q id n (request_at (take_slot s i q) k).state) (sym (eqb-true k i x)) (subst (λ (r : Request). Q id i r.state) (sym at) (subst (λ (n : ℕ). Q n i q.state) is own)))
    (λ x.
    let ne = eqb-false k i x in
    let other = other_of_take s i k q ne in
    let held : Holds s id k = record {
      low = h.low;
      slot_taken = sym (taken_of_take_other s i k q ne) ∙ h.slot_taken;
      has_id = id_at s k ∙ ap (λ (r : Request). r.id) (sym other) ∙ sym (id_at (take_slot s i q) k) ∙ h.has_id;
    } in
    subst (λ (r : Request). Q id k r.state) (sym other) (a id k (only_slot s tidy.distinct id k held)))

-- An id that is not active stays so when a request is put back or given back.
pub inactive_put : (s : Table) (i : ℕ) (r : Request) (b : ℕ) → r.id ≡ (request_at s i).id → Inactive s b → Inactive (put_request s i r) b
inactive_put s i r b same none a k e = none a k (sym (find_put s i r a same) ∙ e)

pub inactive_freed : (s : Table) (i b : ℕ) → Tidy s → Inactive s b → Inactive (free_slot s i) b
inactive_freed s i b tidy none = each_freed (λ a j m. a ≡ b → ⊥) s i tidy (λ a k ne e. none a k e)

-- ---- the table of the server's end
-- all but one id are open as they were
abbrev pub Spares : ℕ → Table → Table → Type 0
Spares id t u = (b : ℕ) (m : RequestState) → (b ≡ id → ⊥) → OpenWith t b m → OpenWith u b m

pub spares_put : (t : Table) (id j : ℕ) (q : Request) → find t id ≡ Some j → q.id ≡ (request_at t j).id → Spares id t (put_request t j q)
spares_put t id j q slot same b m ne o =
    let other : o.slot ≡ j → ⊥ = λ z. ne (one_id t b id o.slot j o.found slot z) in
    record {
      slot = o.slot;
      found = find_put t j q b same ∙ o.found;
      ends = subst (λ (r : Request). SameEnds r.state m) (sym (request_of_other t j o.slot q other)) o.ends;
    }

pub holds_still : (t : Table) (i id k : ℕ) → (k ≡ i → ⊥) → Holds t id k → Holds (free_slot t i) id k
holds_still t i id k ne h =
    record {
      low = h.low;
      slot_taken = taken_of_free_other t i k ne ∙ h.slot_taken;
      has_id = id_at (free_slot t i) k ∙ ap (λ (r : Request). r.id) (other_of_free t i k ne) ∙ sym (id_at t k) ∙ h.has_id;
    }

pub spares_free : (t : Table) (id j : ℕ) → Sized t → Tidy t → find t id ≡ Some j → Spares id t (free_slot t j)
spares_free t id j sized tidy slot b m ne o =
    let other : o.slot ≡ j → ⊥ = λ z. ne (one_id t b id o.slot j o.found slot z) in
    record {
      slot = o.slot;
      found = only_slot (free_slot t j) (tidy_free t j sized tidy).distinct b o.slot (holds_still t j b o.slot other (find_at t b o.slot o.found));
      ends = subst (λ (r : Request). SameEnds r.state m) (sym (other_of_free t j o.slot other)) o.ends;
    }

-- ---- both tables
-- One request changed at both ends, the others spared.
pub agree_changed : (s t u : Table) (id i : ℕ) (r : Request) → Sized s → find s id ≡ Some i → r.id ≡ (request_at s i).id → Agree s t → Spares id t u → OpenWith u id r.state → Agree (put_request s i r) u
agree_changed s t u id i r sized slot same a spares own =
    each_at (λ b k. OpenWith u b) s i r sized same
    (λ b e. subst (λ (n : ℕ). OpenWith u n r.state) (one_id s id b i i slot e refl) own)
    (λ b k ne e. spares b (request_at s k).state (λ z. ne (one_slot s b id k i e slot z)) (a b k e))

-- Given back at both.
pub agree_freed : (s t u : Table) (id i : ℕ) → Tidy s → find s id ≡ Some i → Agree s t → Spares id t u → Agree (free_slot s i) u
agree_freed s t u id i tidy slot a spares =
    each_freed (λ b k. OpenWith u b) s i tidy (λ b k ne e. spares b (request_at s k).state (λ z. ne (one_slot s b id k i e slot z)) (a b k e))

-- Given back at the server's end alone, where it is not active at the station.
pub agree_spared : (s t u : Table) (id : ℕ) → Inactive s id → Agree s t → Spares id t u → Agree s u
agree_spared s t u id none a spares b k e = spares b (request_at s k).state (none b k e) (a b k e)

-- A request that rests stays open where another is changed or given back.
pub rests_still : (s s' t u : Table) (id i b : ℕ) → find s id ≡ Some i → Spares id t u → (Inactive s b → Inactive s' b) → Resting s t b → Resting s' u b
rests_still s s' t u id i b slot spares still r = record { is_open = spares b no_state (λ z. r.inactive id i slot (sym z)) r.is_open; inactive = still r.inactive }
