-- What the functions promise.
use Rattle.std.specs.Prelude.{ℕ, ◌+◌, ◌-◌, ◌≤◌, ◌<◌, ◌≡◌, Bool, false, List, [], ◌∷◌, ◌++◌, length, take, drop, get_or, if◌then◌else◌}
use Rattle.wire.specs.Test.{◌<?◌, ◌≤?◌}
use Rattle.connection.specs.Event.{Event}
use Rattle.connection.specs.Bytewise.{Told}
use Rattle.plain.specs.declared.Next.{Next}
use Rattle.plain.specs.declared.Heard.{Heard as CodeHeard}
use Rattle.plain.specs.declared.table.Entry.{Entry}
use Rattle.plain.specs.declared.table.Table.{Table}
use Rattle.plain.specs.declared.table.Tells.{Tells}
use Rattle.plain.specs.declared.table.Said.{Said as CodeSaid}
use Rattle.plain.specs.declared.live.Change.{Change as CodeChange}
use Rattle.plain.specs.Plain.{Request, Change, Said, Heard, Word, Answer, Last_is, opened, two}
use Rattle.plain.specs.Plain.{says, hear_in, answer_in, answer}
use Rattle.plain.specs.Code.{answer_of, request_of, requests_of, entry_at, said_by}

-- ---- one request
-- more bytes than a slice can have
abbrev pub ROOM : ℕ
ROOM = 9223372036854775808

-- An entry that is not spent, with its list.
pub record Live (e : Entry) (list : List ℕ) : Type 0 where
  pub live : e.spent ≡ false
  pub whole : length list ≡ e.length
  pub low : e.length ≤ 4096
  pub few : e.shown ≤ ROOM

-- What becomes of it is what the definition says. Its list grows within its area, its count by the content at most.
pub record Becomes (e : Entry) (list x : List ℕ) (c : CodeChange) (d : Change) : Type 0 where
  pub tells : (rs : List Request) → said_by c.tells rs x ≡ Said.Goes d.events rs
  pub request : request_of c.after (take c.after.length (list ++ take c.kept x)) ≡ d.request
  pub kept : c.kept ≤ length x
  pub low : e.length + c.kept ≤ 4096
  pub long : c.after.length ≤ e.length + c.kept
  pub shown : c.after.shown ≤ e.shown + length x

-- ---- the table
-- No list is longer than its area, and no count is above m.
pub record Modest (e : Entry) (m : ℕ) : Type 0 where
  pub low : e.length ≤ 4096
  pub few : e.shown ≤ m

pub record Sound (t : Table) (m : ℕ) : Type 0 where
  pub size : length t.entries ≡ 16
  pub taken : t.count ≤ 16
  pub each : (i : ℕ) → i < 16 → Modest (entry_at t i) m

-- ---- a record
-- What it comes to is what the definition says, and no count grows by more than its content.
pub record Comes (t : Table) (x : List ℕ) (s : CodeSaid) (store : List ℕ) (d : Said) : Type 0 where
  pub says : said_by s.tells (requests_of s.table store) x ≡ d
  pub sound : (m : ℕ) → Sound t m → Sound s.table (m + length x)

-- what the definition says of a record that begins with these bytes
abbrev pub says_by : List Request → List ℕ → List ℕ → Said
says_by rs b x = says rs (get_or b 0 0) (get_or b 1 0) (two b 2) (two b 4) x

-- A request whose role exists is opened where there is room.
abbrev pub opens_where : List Request → ℕ → ℕ → Bool → Said
opens_where rs id role keep =
    if length rs <? 16 then Said.Goes (Told (Event.Open id role keep) ∷ []) (rs ++ (opened id role ∷ []))
    else Said.Goes (Told (Event.Refuse id 2) ∷ []) rs

-- ---- a connection from a record on
-- what the definition answers, with these requests active
unfoldable pub hear : List Request → List ℕ → Heard
unfolding hear_in
hear rs b = hear_in (length b) rs b

unfoldable pub ask : List Request → List ℕ → ℕ → Answer
unfolding hear answer_in
ask rs b k = answer_in (hear rs b).events (hear rs b).word k

-- what the code answers, by what comes after the first record of b; rs are the requests after it
abbrev pub answer_from : Next → List Request → List ℕ → Answer
answer_from (Next.Answer a) rs b = answer_of a
answer_from (Next.Record size left) rs b = ask rs (drop size b) left

-- what the definition answers after a record of `size` bytes, of which `all` are there
abbrev pub after_record : ℕ → ℕ → List ℕ → List Request → ℕ → Answer
after_record size all b rs k = if size ≤? all then ask rs (drop size b) k else Last_is Word.Cut

-- the events of a record by number, and then what comes after it
abbrev pub followed : Said → ℕ → (List Request → ℕ → Answer) → Answer
followed (Said.Goes es rs) k f = if k <? length es then answer_in es Word.Open k else f rs (k - length es)
followed (Said.Closes cause) k f = Last_is (Word.Closed cause)

-- Where there is a next record, it is so many bytes on.
abbrev pub Steps : Next → ℕ → ℕ → Type 0
Steps next size all = (s m : ℕ) → next ≡ Next.Record s m → (s ≡ size) × (size ≤ all)

pub record NextRecord (next : Next) (left size all : ℕ) : Type 0 where
  pub answers : (rs : List Request) (b : List ℕ) → answer_from next rs b ≡ after_record size all b rs left
  pub steps : Steps next size all

pub record Passes (next : Next) (tells : Tells) (x : List ℕ) (left size all : ℕ) : Type 0 where
  pub answers : (rs : List Request) (b : List ℕ)
      → answer_from next rs b ≡ followed (said_by tells rs x) left (after_record size all b)
  pub steps : Steps next size all

-- What is answered from a record on is what the definition answers; no count grows by more than the record's bytes.
pub record Reads (t : Table) (store b : List ℕ) (left : ℕ) (h : CodeHeard) (store' : List ℕ) : Type 0 where
  pub answers : answer_from h.next (requests_of h.table store') b ≡ ask (requests_of t store) b left
  pub steps : (s m : ℕ) → h.next ≡ Next.Record s m → (0 < s) × (s ≤ length b)
  pub sound : (n s m : ℕ) → h.next ≡ Next.Record s m → Sound t n → Sound h.table (n + s)

-- The invariant of the loop: what is asked for of all bytes is what is asked for from place `at` on.
pub record Reading (b : List ℕ) (k : ℕ) (store : List ℕ) (t : Table) (left at : ℕ) : Type 0 where
  pub within : at ≤ length b
  pub answers : ask (requests_of t store) (drop at b) left ≡ answer b k
  pub sound : Sound t at
  pub size : length store ≡ 65536
