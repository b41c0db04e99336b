-- The server's end reads as a reader of records does: its rules keep what cutting asks for.
use Rattle.connection.specs.Slots.{Slot}
use Prim.Native.Nat.{ℕ, suc, ◌+◌, ◌≤◌, ◌<◌}
use Rattle.std.specs.Prelude.{◌≡◌, Bool, false, take, ltb, eqb, if◌then◌else◌, Some, None}
use Rattle.std.proofs.Math.Path.{refl}
use Rattle.std.proofs.Common.{sym, ap, ◌∙◌, subst, arith}
use Rattle.std.proofs.Math.Bool.{true}
use mathlib.Core.List.{List, [], ◌∷◌, ◌++◌}
use Rattle.std.proofs.Math.ListN.{length}
use borrow.Author.Tests.{ltb-false, eqb-true, eqb-false, ne_eqb}
use Rattle.wire.specs.Test.{by_test}
use Rattle.wire.specs.Buffer.{copied}
use Rattle.wire.proofs.BufferLaws.{copied_copied}
use Rattle.record.specs.declared.header.Header.{Header}
use Rattle.pair_list.specs.List.{well_formed}
use Rattle.connection.specs.declared.state.Table.{Table}
use Rattle.connection.specs.declared.answer.Output.{Output}
use Rattle.connection.specs.declared.request.Request.{Request}
use Rattle.connection.specs.Sizes.{QUERY}
use Rattle.connection.specs.RequestCalls.{is_ended, ended_on}
use Rattle.connection.specs.Slots.{request_at, put_request, free_slot, find, on_slot}
use Rattle.connection.proofs.Laws.SlotsLaws.{Sized, find_at, put_sized, free_sized}
use Rattle.connection.proofs.Laws.ShapeLaws.{Tidy}
use Rattle.connection.specs.Fits.{InUse}
use Rattle.connection.proofs.Laws.TableShape.{length_of, tidy_put, tidy_free}
use Rattle.connection.proofs.Laws.StepSizes.{copied_length}
use Rattle.connection.proofs.Laws.StateShape.{good_closed}
use Rattle.record_rules.specs.Rules.{Lawful}
use Rattle.server.specs.declared.state.Target.{Target}
use Rattle.server.specs.Event.{Note, notes, showing}
use Rattle.server.specs.Step.{Inner, idle, Left, closes, target_if, aimed, valued, on_management, output_target, on_output, output_of, on_request, is_management, is_reply, judged, frame_within, with_values, on_target, of_values, taken, rules}

-- what is still to come fits
abbrev pub Waits : Target → Table → ℕ → ℕ → Type 0
Waits Target.Skip t g n = Unit {0}
Waits (Target.Stdout i) t g n = InUse t i
Waits (Target.Stderr i) t g n = InUse t i
Waits (Target.End i) t g n = InUse t i × (g + n ≡ 8)
Waits Target.Values t g n = g + n ≤ QUERY
Waits Target.Unknown t g n = g + n ≡ 8

-- A state that can take in n content bytes more.
pub record Ready (s : Inner) (n : ℕ) : Type 0 where
  pub sized : Sized s.table
  pub tidy : Tidy s.table
  pub body : length s.body ≡ 8
  pub values : length s.values ≡ QUERY
  pub target : Waits s.target s.table s.gathered n
  pub shut : s.«open» ≡ false → s.target ≡ Target.Skip

true_false : {P : Type 0} → true ≡ false → P
true_false e = let z : ◌≡◌ {A = ℕ} 0 1 = cc in absurd (omega arith)

waits_if : (left g : ℕ) (target : Target) (t : Table) → (0 < left → Waits target t g left) → Waits (target_if left target) t g left
waits_if left g target t k =
    by_test (eqb left 0) (λ e. rw e tt) (λ e. rw e (let ne = eqb-false left 0 e in k (omega arith)))

-- ---- what the rules leave
-- by the two outcomes of a test
either : (P : Left → Type 0) (b : Bool) (x y : Left) → (b ≡ true → P x) → (b ≡ false → P y) → P (if b then x else y)
either P true x y f g = f refl
either P false x y f g = g refl

ready_closes : (s : Inner) (k n : ℕ) → length s.values ≡ QUERY → Ready (closes s k).inner n
unfolding closes
ready_closes s k n v = record { sized = good_closed.sized; tidy = good_closed.tidy; body = refl; values = v; target = tt; shut = λ e. refl }

ready_aimed : (s : Inner) (t : Table) (n : ℕ) (target : Target) → Sized t → Tidy t → length s.values ≡ QUERY → (0 < n → Waits target t 0 n) → Ready (aimed s t n target) n
ready_aimed s t n target sized tidy v w = record { sized = sized; tidy = tidy; body = refl; values = v; target = waits_if n 0 target t w; shut = true_false }

ready_idle : (s : Inner) (t : Table) (n : ℕ) → Sized t → Tidy t → length s.values ≡ QUERY → Ready (idle t true s.values) n
ready_idle s t n sized tidy v = record { sized = sized; tidy = tidy; body = refl; values = v; target = tt; shut = λ e. refl }

on_id_lem : (r : Request) (o : Output) → (ended_on r o).id ≡ r.id
unfolding ended_on
on_id_lem r o = refl

on_length_lem : (r : Request) (o : Output) → (ended_on r o).length ≡ r.length
unfolding ended_on
on_length_lem r o = refl

module _ (s : Inner) (m : ℕ) (ready : Ready s m) (n : ℕ) where
  abbrev Good : Left → Type 0
  Good l = Ready l.inner n

  good_closes : (k : ℕ) → Good (closes s k)
  good_closes k = ready_closes s k n ready.values

  good_valued : (list : List ℕ) → Good (valued s list)
  unfolding valued
  good_valued list = either Good (well_formed list) _ _ (λ t. ready_idle s s.table n ready.sized ready.tidy ready.values) (λ t. good_closes 55)

  good_management : (kind : ℕ) → Good (on_management s kind n)
  unfolding on_management
  good_management kind =
      either Good (eqb kind 11) _ _
      (λ t. either Good (eqb n 8) _ _ (λ e. ready_aimed s s.table n Target.Unknown ready.sized ready.tidy ready.values (λ l. omega (arith, eqb-true n 8 e))) (λ e. good_closes 54))
      (λ t. either Good (ltb QUERY n) _ _ (λ e. good_closes 55)
      (λ e. either Good (eqb n 0) _ _ (λ z. good_valued [])
      (λ z. ready_aimed s s.table n Target.Values ready.sized ready.tidy ready.values (λ l. omega (arith, ltb-false QUERY n e)))))

  good_output : (output : Output) (i : ℕ) → InUse s.table i → Good (on_output s output n i)
  unfolding on_output
  good_output output i u =
      let r = request_at s.table i in
      either Good (is_ended output r.state) _ _ (λ t. good_closes 56)
      (λ t. either Good (eqb n 0) _ _
      (λ z.
      ready_aimed s (put_request s.table i (ended_on r output)) n Target.Skip (put_sized s.table i (ended_on r output) ready.sized)
      (tidy_put s.table i (ended_on r output) (on_id_lem r output) ready.sized ready.tidy (rw (on_length_lem r output, length_of s.table i) (ready.tidy.lengths i u.low)))
      ready.values (λ l. tt))
      (λ z. ready_aimed s s.table n (output_target output i) ready.sized ready.tidy ready.values (λ l. output_waits output i u)))
    where
      output_waits : (o : Output) (i : ℕ) → InUse s.table i → Waits (output_target o i) s.table 0 n
      output_waits Output.Stdout i u = u
      output_waits Output.Stderr i u = u

  good_request : (kind i : ℕ) → InUse s.table i → Good (on_request s kind n i)
  unfolding on_request
  good_request kind i u =
      either Good (eqb kind 3) _ _
      (λ t. either Good (eqb n 8) _ _ (λ e. ready_aimed s s.table n (Target.End i) ready.sized ready.tidy ready.values (λ l. (u, omega (arith, eqb-true n 8 e)))) (λ e. good_closes 54))
      (λ t. good_output (output_of kind) i u)

  good_slot : (kind id : ℕ) (k : Slot) → find s.table id ≡ k → Good (on_slot k (on_request s kind n) (closes s 53))
  good_slot kind id (Some i) e = let h = find_at s.table id i e in good_request kind i (record { low = h.low; slot_taken = h.slot_taken })
  good_slot kind id None e = good_closes 53

-- A header that is judged leaves a state ready for its content.
pub ready_judged : (s : Inner) (m : ℕ) (h : Header) → Ready s m → Ready (judged s h).inner h.content
unfolding judged
ready_judged s m h ready =
    let P = Good s m ready h.content in
    either P (eqb h.version 1) _ _
    (λ t. either P (is_reply h.kind) _ _
    (λ u. either P (is_management h.kind) _ _
    (λ v. either P (eqb h.id 0) _ _ (λ w. good_management s m ready h.content h.kind) (λ w. good_closes s m ready h.content 53))
    (λ v. good_slot s m ready h.content h.kind h.id (find s.table h.id) refl))
    (λ u. good_closes s m ready h.content 52))
    (λ t. good_closes s m ready h.content 51)

-- ---- content
abbrev inner : Table → Target → ℕ → List ℕ → Bool → List ℕ → Inner
inner t target g body o values = record { table = t; target = target; gathered = g; body = body; «open» = o; values = values }

ready_within : (s : Inner) (m n g : ℕ) (body values : List ℕ) → Ready s m → length body ≡ 8 → length values ≡ QUERY → (0 < n → Waits s.target s.table g n)
    → Ready (frame_within s n g body values) n
ready_within s m n g body values ready b v w =
    record { sized = ready.sized; tidy = ready.tidy; body = b; values = v; target = waits_if n g s.target s.table w; shut = true_false }

module _ (t : Table) (g : ℕ) (body : List ℕ) (o : Bool) (values : List ℕ) (x : List ℕ) (n : ℕ) where
  ready_at : (target : Target) → Ready (inner t target g body o values) (length x + n) → Ready (on_target target (inner t target g body o values) x n).inner n
  unfolding valued closes of_values
  ready_at Target.Skip r = ready_within (inner t Target.Skip g body o values) (length x + n) n g body values r r.body r.values (λ l. tt)
  ready_at (Target.Stdout i) r = ready_within (inner t (Target.Stdout i) g body o values) (length x + n) n g body values r r.body r.values (λ l. r.target)
  ready_at (Target.Stderr i) r = ready_within (inner t (Target.Stderr i) g body o values) (length x + n) n g body values r r.body r.values (λ l. r.target)
  ready_at (Target.End i) r =
      let s = inner t (Target.End i) g body o values in
      either (λ l. Ready l.inner n) (eqb n 0) _ _
      (λ z. ready_idle s (free_slot t i) n (free_sized t i r.sized) (tidy_free t i r.sized r.tidy) r.values)
      (λ z. ready_within s (length x + n) n (g + length x) (copied body g x) values r (copied_length body g x ∙ r.body) r.values (λ l. (r.target.0, omega (arith, r.target.1))))
  ready_at Target.Unknown r =
      let s = inner t Target.Unknown g body o values in
      either (λ l. Ready l.inner n) (eqb n 0) _ _
      (λ z. ready_idle s t n r.sized r.tidy r.values)
      (λ z. ready_within s (length x + n) n (g + length x) (copied body g x) values r (copied_length body g x ∙ r.body) r.values (λ l. omega (arith, r.target)))
  ready_at Target.Values r =
      let s = inner t Target.Values g body o values in
      let v : length (copied values g x) ≡ QUERY = copied_length values g x ∙ r.values in
      either (λ l. Ready l.inner n) (eqb n 0) _ _
      (λ z.
      either (λ l. Ready l.inner n) (well_formed (take (g + length x) (copied values g x))) _ _
      (λ w. ready_idle (with_values s (copied values g x)) t n r.sized r.tidy v)
      (λ w. ready_closes (with_values s (copied values g x)) 55 n v))
      (λ z. ready_within s (length x + n) n (g + length x) body (copied values g x) r r.body v (λ l. omega (arith, r.target)))

  open_at : (target : Target) → 0 < n → (on_target target (inner t target g body o values) x n).inner.«open» ≡ true
  unfolding of_values
  open_at Target.Skip l = refl
  open_at (Target.Stdout i) l = refl
  open_at (Target.Stderr i) l = refl
  open_at (Target.End i) l = simp (ne_eqb n 0 (λ z. omega arith))
  open_at Target.Unknown l = simp (ne_eqb n 0 (λ z. omega arith))
  open_at Target.Values l = simp (ne_eqb n 0 (λ z. omega arith))

pub ready_taken : (s : Inner) (x : List ℕ) (n : ℕ) → Ready s (length x + n) → Ready (taken s x n).inner n
unfolding taken
ready_taken s x n r = ready_at s.table s.gathered s.body s.«open» s.values x n s.target r

pub open_taken : (s : Inner) (x : List ℕ) (n : ℕ) → 0 < n → (taken s x n).inner.«open» ≡ true
unfolding taken
open_taken s x n l = open_at s.table s.gathered s.body s.«open» s.values x n s.target l

-- ---- content in two parts
-- what content bytes come to: the state and what is told
pub record Taken : Type 0 where
  pub state : Inner
  pub told : List Note

abbrev taken_by : Target → Inner → List ℕ → ℕ → Taken
taken_by target s x n = record { state = (on_target target s x n).inner; told = notes (on_target target s x n).event x (on_target target s x n).inner.values }

abbrev both : Taken → Taken → Taken
both a b = record { state = b.state; told = a.told ++ b.told }

-- a list whose last byte is in: only the table and the list matter
values_end : (s s' : Inner) (list y y' : List ℕ) → s.table ≡ s'.table → s.values ≡ s'.values
    → ◌≡◌ {A = Taken} (record { state = (valued s list).inner; told = notes (valued s list).event y (valued s list).inner.values })
    (record { state = (valued s' list).inner; told = notes (valued s' list).event y' (valued s' list).inner.values })
unfolding valued closes
values_end s s' list y y' e v = by_test (well_formed list) (λ w. simp w (rw (e, v))) (λ w. simp w (rw v))

module _ (t : Table) (g : ℕ) (body : List ℕ) (o : Bool) (values : List ℕ) (b : ℕ) (x : List ℕ) (n : ℕ) (some : 0 < length x) where
  -- after the first byte
  abbrev later : Target → ℕ → List ℕ → List ℕ → Inner
  later target g body values = inner t target g body true values

  shown : (id stream : ℕ) → showing id stream (take (length (b ∷ x)) (b ∷ x)) ≡ showing id stream (take 1 (b ∷ [])) ++ showing id stream (take (length x) x)
  unfolding showing
  shown id stream = refl

  ne : eqb (length x + n) 0 ≡ false
  ne = ne_eqb (length x + n) 0 (λ z. omega arith)

  count : g + 1 + length x ≡ g + suc (length x)
  count = omega arith

  keeps : (target : Target) → (on_target target (inner t target g body o values) (b ∷ []) (length x + n)).inner.target ≡ target
  unfolding of_values
  keeps Target.Skip = simp ne
  keeps (Target.Stdout i) = simp ne
  keeps (Target.Stderr i) = simp ne
  keeps (Target.End i) = simp ne
  keeps Target.Unknown = simp ne
  keeps Target.Values = simp ne

  cut_at : (target : Target) → Ready (inner t target g body o values) (suc (length x) + n)
      → taken_by target (inner t target g body o values) (b ∷ x) n
      ≡ both (taken_by target (inner t target g body o values) (b ∷ []) (length x + n))
      (taken_by target (on_target target (inner t target g body o values) (b ∷ []) (length x + n)).inner x n)
  unfolding of_values
  cut_at Target.Skip r = simp ne
  cut_at (Target.Stdout i) r = simp ne (ap (λ (l : List Note). record { state = inner t (target_if n (Target.Stdout i)) g body true values; told = l }) (shown (request_at t i).id 6))
  cut_at (Target.Stderr i) r = simp ne (ap (λ (l : List Note). record { state = inner t (target_if n (Target.Stderr i)) g body true values; told = l }) (shown (request_at t i).id 7))
  cut_at (Target.End i) r =
      let c = copied_copied body g (g + 1) (b ∷ []) x refl (omega (arith, r.body, r.target.1)) in
      by_test (eqb n 0) (λ z. simp (ne, z, c, count)) (λ z. simp (ne, z, c, count))
  cut_at Target.Unknown r =
      let c = copied_copied body g (g + 1) (b ∷ []) x refl (omega (arith, r.body, r.target)) in
      by_test (eqb n 0) (λ z. simp (ne, z, c, count)) (λ z. simp (ne, z, c, count))
  cut_at Target.Values r =
      let c = copied_copied values g (g + 1) (b ∷ []) x refl (omega (arith, r.values, r.target)) in
      let v = copied values g (b ∷ x) in
      by_test (eqb n 0)
      (λ z. simp (ne, z, c, count) (values_end (inner t Target.Values g body o v) (inner t Target.Values (g + 1) body true v) (take (g + suc (length x)) v) (b ∷ x) x refl refl))
      (λ z. simp (ne, z, c, count))

-- ---- the rules keep what cutting asks for
pub ready_shut : (s : Inner) (n : ℕ) → s.«open» ≡ false → Ready s n → Ready s 0
ready_shut s n c r =
    record {
      sized = r.sized;
      tidy = r.tidy;
      body = r.body;
      values = r.values;
      target = subst (λ (k : Target). Waits k s.table s.gathered 0) (sym (r.shut c)) tt;
      shut = r.shut;
    }

pub cut_taken : (s : Inner) (b : ℕ) (x : List ℕ) (n : ℕ) → Ready s (suc (length x) + n) → 0 < length x
    → rules.taken s (b ∷ x) n
    ≡ record {
      state = (rules.taken (rules.taken s (b ∷ []) (length x + n)).state x n).state;
      notes = (rules.taken s (b ∷ []) (length x + n)).notes ++ (rules.taken (rules.taken s (b ∷ []) (length x + n)).state x n).notes;
    }
unfolding taken
cut_taken s b x n r some =
    let first = (taken s (b ∷ []) (length x + n)).inner in
    ap (λ (k : Taken). record { state = k.state; notes = k.told })
    (cut_at s.table s.gathered s.body s.«open» s.values b x n some s.target r
    ∙ ap (λ (k : Target). both (taken_by s.target s (b ∷ []) (length x + n)) (taken_by k first x n)) (sym (keeps s.table s.gathered s.body s.«open» s.values b x n some s.target)))

abbrev pub lawful : Lawful rules
lawful =
    record {
      Ready = Ready;
      judged_ready = λ s h r. ready_judged s 0 h r;
      taken_ready = ready_taken;
      taken_open = λ s x n l o. open_taken s x n l;
      taken_cut = cut_taken;
      closed_ready = ready_shut;
    }
