-- A call that is lent the store and what waits: barred, it is refused by 9; else it is refused as without a queue.
use Rattle.std.specs.Prelude.{ℕ, ◌≡◌, refl, Bool, true, false, length, cond}
use Rattle.std.proofs.Common.{sym, arith}
use Rattle.wire.specs.Test.{◌=?◌, by_test}
use Rattle.connection.specs.Sizes.{SLOTS, STORE}
use Rattle.connection.specs.Shape.{in_shape, ◌and◌}
use Rattle.connection.specs.Step.{step_refusal}
use Rattle.connection.specs.Calls as C
use Rattle.queue.specs.Calls.{QueueMemory, conn_of, waits_fit, queue_in_shape, queue_step_refusal, lent_refusal}
use Rattle.queue_admit.specs.Admission.{is_barred}

-- what waits is in shape
abbrev pub waits_well : QueueMemory → Bool
waits_well m = waits_fit SLOTS m.waits (conn_of m).table.occupied 0

-- the store has its size and what waits is out of shape
abbrev pub barred : QueueMemory → Bool
barred m = is_barred m.waits (conn_of m).table.occupied (length m.memory.store)

and_true : (a b : Bool) → b ≡ true → (a and b) ≡ a
and_true true b e = e
and_true false b e = refl

and_false : (a b : Bool) → b ≡ false → (a and b) ≡ false
and_false true b e = e
and_false false b e = refl

-- Where what waits is in shape, all is as the connection is.
pub shape_alone : (m : QueueMemory) → waits_well m ≡ true → queue_in_shape m ≡ in_shape (conn_of m)
unfolding queue_in_shape
shape_alone m e = and_true (in_shape (conn_of m)) (waits_well m) e

-- Where it is not, nothing is.
pub shape_lost : (m : QueueMemory) → waits_well m ≡ false → queue_in_shape m ≡ false
unfolding queue_in_shape
shape_lost m e = and_false (in_shape (conn_of m)) (waits_well m) e

-- What a barred call says.
pub record Barred (m : QueueMemory) : Type 0 where
  pub full : (length m.memory.store =? STORE) ≡ true
  pub lost : queue_in_shape m ≡ false

pub is_barred_lem : (m : QueueMemory) → barred m ≡ true → Barred m
unfolding is_barred
is_barred_lem m e =
    by_test (length m.memory.store =? STORE)
    (λ t. by_test (waits_well m)
    (λ u. let z : ◌≡◌ {A = ℕ} 0 1 = cc (simp (t, u) at e) in absurd (omega arith))
    (λ u. record { full = t; lost = shape_lost m u }))
    (λ t. let z : ◌≡◌ {A = ℕ} 0 1 = cc (simp t at e) in absurd (omega arith))

-- Of a call that is not barred: the store has another size, or what waits is in shape.
by_size : {P : Type 0} (m : QueueMemory) → barred m ≡ false
    → ((length m.memory.store =? STORE) ≡ false → P)
    → ((length m.memory.store =? STORE) ≡ true → queue_in_shape m ≡ in_shape (conn_of m) → P) → P
unfolding is_barred
by_size m e other full =
    by_test (length m.memory.store =? STORE)
    (λ t. by_test (waits_well m)
    (λ u. full t (shape_alone m u))
    (λ u. let z : ◌≡◌ {A = ℕ} 0 1 = cc (simp (t, u) at e) in absurd (omega arith)))
    (λ t. other t)

-- A step.
pub barred_step : (m : QueueMemory) → barred m ≡ true → queue_step_refusal m ≡ 9
unfolding queue_step_refusal
barred_step m e = let b = is_barred_lem m e in simp (b.full, b.lost)

pub free_step : (m : QueueMemory) → barred m ≡ false → queue_step_refusal m ≡ step_refusal (conn_of m) m.memory.store
unfolding queue_step_refusal step_refusal
free_step m e = by_size m e (λ t. simp t) (λ t u. simp (t, u))

-- A call that names a request.
pub barred_lent : (m : QueueMemory) (id : ℕ) → barred m ≡ true → lent_refusal m id ≡ 9
unfolding lent_refusal
barred_lent m id e = let b = is_barred_lem m e in simp (b.full, b.lost)

pub free_lent : (m : QueueMemory) (id : ℕ) → barred m ≡ false → lent_refusal m id ≡ C.lent_refusal (conn_of m) m.memory.store id
unfolding lent_refusal C.lent_refusal
free_lent m id e = by_size m e (λ t. simp t) (λ t u. simp (t, u))

-- A call that is refused as another one is, and answers as that one where it is not refused, is that one.
pub as_alone {ℓ} : {A : Type ℓ} (k n : ℕ) (answered alone : A) (refused : ℕ → A) → k ≡ n → alone ≡ cond (n =? 0) answered (refused n)
    → cond (k =? 0) alone (refused k) ≡ alone
as_alone k n answered alone refused e h = by_test (n =? 0) (λ t. simp (e, t)) (λ t. simp (e, t) (sym (simp t at h)))
