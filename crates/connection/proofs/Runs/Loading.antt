-- The state, the store and the gathered bytes read as the machine's connection.
use Rattle.std.specs.Prelude.{◌≡◌, refl, List, [], ◌∷◌, Bool, true, false, ℕ, zero, suc, ◌+◌, ◌≤◌, ◌<◌, get_or, take, set}
use Rattle.std.proofs.Common.{ap, ap₂, sym, ◌∙◌, arith}
use Rattle.slot_word.specs.Word.{taken}
use Rattle.machine.specs.Slots.{SlotState, Vacant, HeldBy}
use Rattle.machine.specs.Machine.{Target, Skip, ToBegin, ToQuery, ToSlot, Reading, AtHeader, PastHeader, Slots, Connection, Open, Closed}
use Rattle.connection.specs.declared.request.Request.{Request}
use Rattle.connection.specs.declared.request.Due.{Due}
use Rattle.connection.specs.declared.state.Table.{Table}
use Rattle.connection.specs.declared.state.Target.{Target as Aim}
use Rattle.connection.specs.declared.state.Frame.{Frame}
use Rattle.connection.specs.Sizes.{SLOTS}
use Rattle.connection.specs.Request.{Held}
use Rattle.connection.specs.Slots.{request_at, area_at}
use Rattle.connection.specs.Step.{State}
use Rattle.connection.specs.Runs.Receiver.{receiver}

-- ---- a list by its elements
-- the n elements from number i on
unfoldable pub elements : {A : Type 0} → (ℕ → A) → ℕ → ℕ → List A
elements f i zero = []
elements f i (suc n) = f i ∷ elements f (suc i) n

-- the same elements make the same list
pub elements_same : {A : Type 0} (f g : ℕ → A) (i n : ℕ) → ((j : ℕ) → i ≤ j → j < i + n → f j ≡ g j) → elements f i n ≡ elements g i n
unfolding elements
elements_same f g i zero e = refl
elements_same f g i (suc n) e =
    ap₂ (λ x l. x ∷ l) (e i (omega arith) (omega arith)) (elements_same f g (suc i) n (λ j h k. e j (omega arith) (omega arith)))

-- with another element in one place
pub elements_set : {A : Type 0} (f g : ℕ → A) (i n k : ℕ) → k < n → ((j : ℕ) → (j ≡ i + k → ⊥) → f j ≡ g j)
    → elements g i n ≡ set (elements f i n) k (g (i + k))
unfolding elements
elements_set f g i zero k h e = absurd (omega arith)
elements_set f g i (suc n) zero h e =
    let q : i ≡ i + 0 = omega arith in
    ap₂ (λ x l. x ∷ l) (ap g q) (sym (elements_same f g (suc i) n (λ j h k. e j (λ z. omega arith))))
elements_set f g i (suc n) (suc k) h e =
    let q : suc i + k ≡ i + suc k = omega arith in
    ap₂ (λ x l. x ∷ l) (sym (e i (λ z. omega arith)))
    (elements_set f g (suc i) n k (omega arith) (λ j z. e j (λ w. z (omega arith))) ∙ ap (λ m. set (elements f (suc i) n) k (g m)) q)

-- one element
pub elements_at : {A : Type 0} (f : ℕ → A) (d : A) (i n k : ℕ) → k < n → get_or (elements f i n) k d ≡ f (i + k)
unfolding elements
elements_at f d i zero k h = absurd (omega arith)
elements_at f d i (suc n) zero h = let q : i ≡ i + 0 = omega arith in ap f q
elements_at f d i (suc n) (suc k) h =
    let q : suc i + k ≡ i + suc k = omega arith in
    elements_at f d (suc i) n k (omega arith) ∙ ap f q

-- ---- the slots
-- a slot that is taken holds its request, one that is free keeps its area
unfoldable pub loaded_slot : Bool → Request → List ℕ → SlotState (List ℕ) Held
loaded_slot true r area = HeldBy r.id (record { request = r; area = area })
loaded_slot false r area = Vacant area

-- slot i
unfoldable pub slot_of : Table → List ℕ → ℕ → SlotState (List ℕ) Held
slot_of t store i = loaded_slot (taken i t.occupied) (request_at t i) (area_at store i)

-- all slots
unfoldable pub loaded_slots : Table → List ℕ → Slots receiver
loaded_slots t store = elements (slot_of t store) 0 SLOTS

-- ---- where it reads
-- what the content is for, with the bytes gathered
abbrev pub loaded_target : Aim → ℕ → List ℕ → List ℕ → Target receiver
loaded_target Aim.Skip n body gathered = Skip
loaded_target (Aim.Begin id) n body gathered = ToBegin id (take n body)
loaded_target Aim.Query n body gathered = ToQuery (take n gathered)
loaded_target (Aim.Params i) n body gathered = ToSlot i Due.Params
loaded_target (Aim.Stdin i) n body gathered = ToSlot i Due.Stdin
loaded_target (Aim.Data i) n body gathered = ToSlot i Due.Data

-- with so much content and padding left; a target without content is none
abbrev pub reading_at : ℕ → ℕ → List ℕ → Target receiver → Reading receiver
reading_at zero zero header s = AtHeader header
reading_at zero (suc p) header s = PastHeader Skip zero (suc p)
reading_at (suc c) p header s = PastHeader s (suc c) p

-- a frame beside the gathered bytes
abbrev pub loaded_reading : Frame → List ℕ → Reading receiver
loaded_reading f gathered =
    reading_at f.position.content f.position.padding (take f.position.held f.position.header)
    (loaded_target f.target f.gathered f.body gathered)

-- ---- the connection
-- open, with its slots and where it reads; or closed
unfoldable pub loaded_when : Bool → Table → Frame → List ℕ → List ℕ → Connection receiver
loaded_when true t f gathered store = Open (loaded_slots t store) (loaded_reading f gathered)
loaded_when false t f gathered store = Closed

-- a state and its store
abbrev pub loaded : State → List ℕ → Connection receiver
loaded st store = loaded_when st.conn.«open» st.conn.table st.conn.frame st.gathered store
