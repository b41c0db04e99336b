-- Where the connection closes on the way, it closes at the same byte, however the bytes are cut: the same bytes are
-- left unread.
use Rattle.std.specs.Prelude.{ℕ, zero, suc, ◌≤◌, ◌≡◌, refl, List, [], ◌∷◌, ◌++◌, length, take, drop, eqb}
use Rattle.std.proofs.Common.{sym, ap, ap₂, ◌∙◌, arith, take-append-drop, length-take-le, eqb-true, eq-eqb, ne_eqb}
use Rattle.std.proofs.lemmas.Bool.{eqb-false}
use Rattle.wire.specs.Test.{by_test}
use Rattle.connection.specs.Step.{State, Stepped, step_refusal, stepped}
use Rattle.connection.specs.Bytewise.{left_of, unread}
use Rattle.connection.proofs.Laws.Progress.{step_refused, step_nothing, step_uses_no_more, used_only, less_left}
use Rattle.connection.proofs.Laws.StepSizes.{Sizes, sizes_stay}
use Rattle.connection.proofs.Laws.Cutting.{cut_step, used_admitted}

-- a state that refuses a step reads nothing
left_refused : (k : ℕ) (st : State) (store x : List ℕ) → (step_refusal st.conn store ≡ 0 → ⊥) → left_of k st store x ≡ x
unfolding left_of
left_refused zero st store x r = refl
left_refused (suc k) st store x r =
    ap (λ (s : Stepped). left_of k s.state s.store (drop s.used x)) (step_refused st store x r) ∙ left_refused k st store x r

unread_refused : (x : List ℕ) (st : State) (store : List ℕ) → (step_refusal st.conn store ≡ 0 → ⊥) → unread st store x ≡ x
unfolding unread
unread_refused [] st store r = refl
unread_refused (b ∷ x) st store r = simp (ne_eqb (step_refusal st.conn store) 0 r)

-- one that does not refuse it reads a byte
unread_first : (st : State) (store : List ℕ) (b : ℕ) (x : List ℕ) → step_refusal st.conn store ≡ 0
    → unread st store (b ∷ x) ≡ unread (stepped st store (b ∷ [])).state (stepped st store (b ∷ [])).store x
unfolding unread
unread_first st store b x a = simp (eq-eqb (step_refusal st.conn store) 0 a)

-- after the bytes of a step
unread_step : (x : List ℕ) (st : State) (store y : List ℕ) → Sizes st store → (stepped st store x).used ≡ length x
    → unread st store (x ++ y) ≡ unread (stepped st store x).state (stepped st store x).store y
unread_step [] st store y sizes all = ap (λ (s : Stepped). unread s.state s.store y) (sym (step_nothing st store))
unread_step (b ∷ []) st store y sizes all = unread_first st store b y (used_admitted st store (b ∷ []) (omega arith))
unread_step (b ∷ c ∷ x) st store y sizes all =
    let s = stepped st store (b ∷ []) in
    let a = used_admitted st store (b ∷ c ∷ x) (omega arith) in
    let k = cut_step st store b (c ∷ x) sizes a (omega arith) all in
    unread_first st store b ((c ∷ x) ++ y) a
    ∙ unread_step (c ∷ x) s.state s.store y (sizes_stay st store (b ∷ []) sizes) k.all_used
    ∙ ap₂ (λ (u : State) (v : List ℕ). unread u v y) (sym k.same_state) (sym k.same_store)

-- What steps leave unread is what the bytes one at a time leave unread.
pub left_by_byte : (k : ℕ) (st : State) (store x : List ℕ) → Sizes st store → length x ≤ k → left_of k st store x ≡ unread st store x
unfolding left_of unread
left_by_byte zero st store [] sizes l = refl
left_by_byte zero st store (b ∷ x) sizes l = absurd (omega arith)
left_by_byte (suc k) st store x sizes l =
    let s = stepped st store x in
    let y = take s.used x in
    let e = used_only st store x in
    by_test (eqb (step_refusal st.conn store) 0)
    (λ t.
    left_by_byte k s.state s.store (drop s.used x) (sizes_stay st store x sizes) (less_left st store x k (eqb-true (step_refusal st.conn store) 0 t) l)
    ∙ sym
    (unread_step y st store (drop s.used x) sizes (ap (λ (w : Stepped). w.used) e ∙ sym (length-take-le s.used x (step_uses_no_more st store x)))
    ∙ ap (λ (w : Stepped). unread w.state w.store (drop s.used x)) e)
    ∙ ap (unread st store) (take-append-drop s.used x))
    (λ t.
    let r = eqb-false (step_refusal st.conn store) 0 t in
    left_refused (suc k) st store x r ∙ sym (unread_refused x st store r))
