-- What holds of the rules, each by the facts that the code finds.
use Rattle.std.specs.Prelude.{ℕ, ◌+◌, ◌*◌, ◌%◌, ◌≤◌, ◌<◌, ◌≡◌, true, false, List, [], ◌∷◌, length, take, drop, get_or, set, eqb, ltb}
use Rattle.std.proofs.Common.{sym, ap, ◌∙◌, arith, length-drop, length-take-le, take-take}
use borrow.Author.Tests.{eq-eqb, ne_eqb, lt-ltb, le-ltb, lt-leb, eqb-false, ltb-true, ltb-false}
use Rattle.wire.specs.Test.{◌=?◌, by_test}
use Rattle.wire.specs.Buffer.{put_at}
use Rattle.machine.specs.Cause.{Plain}
use Rattle.connection.specs.Event.{Event}
use Rattle.connection.specs.Bytewise.{Told}
use Rattle.plain.specs.declared.table.Entry.{Entry}
use Rattle.plain.specs.declared.table.Table.{Table}
use Rattle.plain.specs.declared.table.Tells.{Tells}
use Rattle.plain.specs.declared.live.Change.{Change as CodeChange}
use Rattle.plain.specs.Plain.{Request, Change, Said, Goes, Closes, nobody, place_of, is_role, two}
use Rattle.plain.specs.Plain.{says, on_management, on_inactive, opening, on_active, on_live}
use Rattle.plain.specs.Code.{request_of, list_at, requests_of, entry_at, said_by, with_entry, said}
use Rattle.plain.specs.Promise.{ROOM, Live, Becomes, Sound, Comes, opens_where}
use Rattle.plain.proofs.StoreLaws.{put_before, put_after, put_own}
use Rattle.plain.proofs.TableLaws.{request_at_lem, changed_at, sound_more, sound_with}

-- ---- which rule a record falls under
module _ (rs : List Request) (version kind id n : ℕ) (x : List ℕ) where
  pub says_version : (version ≡ 1 → ⊥) → says rs version kind id n x ≡ Closes (Plain 11)
  unfolding says
  says_version v = simp (ne_eqb version 1 v)

  pub says_management : version ≡ 1 → id ≡ 0 → says rs version kind id n x ≡ on_management rs kind n x
  unfolding says
  says_management v e = simp (eq-eqb version 1 v, eq-eqb id 0 e)

  pub says_active : (i : ℕ) → version ≡ 1 → (id ≡ 0 → ⊥) → i ≡ place_of rs id → i < length rs
      → says rs version kind id n x ≡ on_active rs i kind n x
  unfolding says
  says_active i v e p l = simp (eq-eqb version 1 v, ne_eqb id 0 e, ← p, lt-ltb i (length rs) l)

  pub says_inactive : (i : ℕ) → version ≡ 1 → (id ≡ 0 → ⊥) → i ≡ place_of rs id → length rs ≤ i
      → says rs version kind id n x ≡ on_inactive rs id kind n x
  unfolding says
  says_inactive i v e p l = simp (eq-eqb version 1 v, ne_eqb id 0 e, ← p, le-ltb i (length rs) l)

-- a record that leaves the table as it is
pub stays : (t : Table) (x store : List ℕ) (tells : Tells) (d : Said)
    → said_by tells (requests_of t store) x ≡ d → Comes t x (said t tells) store d
stays t x store tells d e = record { says = e; sound = λ m s. sound_more t m (m + length x) s (omega arith) }

-- ---- a BEGIN body, by its role
pub opening_known : (rs : List Request) (id : ℕ) (x : List ℕ) → is_role (two x 0) ≡ true
    → opening rs id x ≡ opens_where rs id (two x 0) (get_or x 2 0 % 2 =? 1)
unfolding opening
opening_known rs id x e = simp e

pub opening_unknown : (rs : List Request) (id : ℕ) (x : List ℕ)
    → (two x 0 ≡ 1 → ⊥) → (two x 0 ≡ 2 → ⊥) → (two x 0 ≡ 3 → ⊥)
    → opening rs id x ≡ Goes (Told (Event.Refuse id 3) ∷ []) rs
unfolding opening
opening_unknown rs id x a b c =
    by_test (eqb (two x 0) 0)
    (λ e. simp e)
    (λ e. simp (e, lt-leb (two x 0) 3 (omega (arith, eqb-false (two x 0) 0 e))))

-- ---- an active request
on_active_live : (rs : List Request) (r : Request) (i kind n : ℕ) (x : List ℕ)
    → get_or rs i nobody ≡ r → r.spent ≡ false
    → on_active rs i kind n x ≡ Goes (on_live r kind n x).events (set rs i (on_live r kind n x).request)
unfolding on_active
on_active_live rs r i kind n x q e = rw q (simp e)

-- the store with the first bytes of x after the list of the entry in place i
abbrev pub kept_in : Table → List ℕ → List ℕ → ℕ → ℕ → List ℕ
kept_in t store x i kept = put_at store (i * 4096 + (entry_at t i).length) (take kept x)

module _ (t : Table) (sound : Sound t ROOM) (store x : List ℕ) (size : length store ≡ 65536) (i : ℕ)
    (low : i < t.count) where
  abbrev own : Entry
  own = entry_at t i

  abbrev list : List ℕ
  list = list_at own store i

  few : t.count ≤ length t.entries
  few = omega (arith, sound.size, sound.taken)

  pub own_live : own.spent ≡ false → Live own list
  own_live e =
      let each = sound.each i (omega (arith, sound.taken)) in
      let room = length-drop (i * 4096) store in
      record {
        live = e;
        whole = length-take-le own.length (drop (i * 4096) store) (omega (arith, each, sound.taken, room));
        low = each.low;
        few = each.few;
      }

  -- what is kept does not touch the lists of the others
  away : (c : CodeChange) (d : Change) → Becomes own list x c d → (k n : ℕ) → k < t.count → (k ≡ i → ⊥) → n ≤ 4096
      → take n (drop (k * 4096) (kept_in t store x i c.kept)) ≡ take n (drop (k * 4096) store)
  away c d b k n l ne h =
      let y = take c.kept x in
      let a = i * 4096 + own.length in
      let z : length y ≡ c.kept = length-take-le c.kept x b.kept in
      let g = sound.taken in
      by_test (ltb k i)
      (λ e. put_before store y a (k * 4096) n (omega (arith, b.low)) (omega (arith, ltb-true k i e)))
      (λ e.
      let after = put_after store y a (k * 4096) (omega (arith, b.low)) (omega (arith, b.low, ltb-false k i e)) in
      ap (take n) after)

  -- and its own list is the one that the definition says
  own_list : (c : CodeChange) (d : Change) → Becomes own list x c d
      → request_of c.after (list_at c.after (kept_in t store x i c.kept) i) ≡ d.request
  own_list c d b =
      let y = take c.kept x in
      let s = i * 4096 in
      let store' = kept_in t store x i c.kept in
      let z : length y ≡ c.kept = length-take-le c.kept x b.kept in
      let g = sound.taken in
      let n = c.after.length in
      let part = sym (take-take n (own.length + length y) (drop s store') (omega (arith, b.long))) in
      let put = put_own store y s own.length (omega (arith, b.low)) in
      ap (request_of c.after) (part ∙ ap (take n) put) ∙ b.request

  -- a spent request, and one that is not
  pub active_spent : (kind n : ℕ) → own.spent ≡ true
      → Comes t x (said t Tells.Nothing) store (on_active (requests_of t store) i kind n x)
  unfolding on_active
  active_spent kind n e = stays t x store Tells.Nothing _ (simp (request_at_lem t store few i low, e))

  pub active_live : (kind n : ℕ) (c : CodeChange) → own.spent ≡ false
      → Becomes own list x c (on_live (request_of own list) kind n x)
      → Comes t x (said (with_entry t i c.after t.count) c.tells) (kept_in t store x i c.kept)
      (on_active (requests_of t store) i kind n x)
  active_live kind n c e b =
      let d = on_live (request_of own list) kind n x in
      let store' = kept_in t store x i c.kept in
      record {
        says =
            b.tells _
            ∙ ap (Goes d.events)
            (changed_at t store store' i c.after few low
            (λ k l ne. away c d b k (entry_at t k).length l ne (sound.each k (omega (arith, sound.taken))).low))
            ∙ ap (λ (r : Request). Goes d.events (set (requests_of t store) i r)) (own_list c d b)
            ∙ sym (on_active_live (requests_of t store) _ i kind n x (request_at_lem t store few i low) e);
        sound = λ m s.
            let each = s.each i (omega (arith, sound.taken)) in
            let g = sound.taken in
            sound_with t m (m + length x) i c.after t.count s (omega arith) (omega arith) g
            (record { low = omega (arith, b.low, b.long); few = omega (arith, b.shown, each) });
      }
