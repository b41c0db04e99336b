-- Lifting one request out of a capture (request [13]): the copy and the verdict of a whole capture, record by record.
-- A replay without calls is what the plain receiver hears (`plain/Plain`), which is proved to be what the stepping
-- receiver tells in any cutting (`plain_agrees/Agreement`).
use Rattle.std.specs.Prelude.{ℕ, zero, suc, ◌+◌, min, Bool, true, false, ◌||◌, List, [], ◌++◌, length, take, drop, get_or, set, if◌then◌else◌}
use Rattle.wire.specs.Test.{◌<?◌, ◌≤?◌, ◌=?◌}
use Rattle.machine.specs.Cause.{Cause}
use Rattle.plain.specs.Plain.{BEGIN, Request, Said, says, two, record_size}

-- ---- the verdict
-- A capture is clean, or cut inside a record; or a record closes the connection, for a cause and at the place of its
-- first byte.
pub data Verdict : Type 0 where
  Clean : Verdict
  Cut : Verdict
  ClosedAt : Cause → ℕ → Verdict

-- places have 64 bits, and stay at the largest number
abbrev pub LARGEST_PLACE : ℕ
LARGEST_PLACE = 18446744073709551615

-- ---- one record, at the front of some bytes
-- its header as it is copied: the padding length is zero, and all else is as it was captured
abbrev pub copied_header : List ℕ → List ℕ
copied_header b = set (take 8 b) 6 0

-- its content, or as much as there is of it
abbrev pub content_of : List ℕ → List ℕ
content_of b = take (two b 4) (drop 8 b)

-- It is copied if it is of the id, and that id's first BEGIN record has come; it may be that record itself.
abbrev pub is_copied : ℕ → Bool → List ℕ → Bool
is_copied R begun b = if two b 2 =? R then (if begun then true else get_or b 1 0 =? BEGIN) else false

abbrev pub copy_of_record : Bool → List ℕ → List ℕ
copy_of_record copied b = if copied then copied_header b ++ content_of b else []

-- ---- a capture: its records in order, to a close, to a record that is cut, or to the end
pub record Lifted : Type 0 where
  pub copy : List ℕ
  pub verdict : Verdict

abbrev pub ends : Verdict → Lifted
ends v = record { copy = []; verdict = v }

abbrev pub copies : List ℕ → Lifted → Lifted
copies bytes l = record { copy = bytes ++ l.copy; verdict = l.verdict }

abbrev pub on_said {ℓ} : {A : Type ℓ} → Said → (List Request → A) → (Cause → A) → A
on_said (Said.Goes events rs) f g = f rs
on_said (Said.Closes cause) f g = g cause

-- (The first argument bounds the number of records.) `at` is the place of the first byte, `begun` says whether R's first
-- BEGIN record has come, and rs are the requests that are active. A record that closes is not copied.
unfoldable pub lift_in : ℕ → ℕ → ℕ → Bool → List Request → List ℕ → Lifted
lift_in zero R at begun rs b = ends Clean
lift_in (suc k) R at begun rs b =
    if length b =? 0 then ends Clean
    else if length b <? 8 then ends Cut
    else on_said (says rs (get_or b 0 0) (get_or b 1 0) (two b 2) (two b 4) (content_of b))
    (λ rs'. copies (copy_of_record (is_copied R begun b) b)
    (if record_size b ≤? length b then lift_in k R (at + record_size b) (begun || is_copied R begun b) rs' (drop (record_size b) b)
    else ends Cut))
    (λ cause. ends (ClosedAt cause (min at LARGEST_PLACE)))

unfoldable pub lift_of : ℕ → List ℕ → Lifted
unfolding lift_in
lift_of R b = lift_in (length b) R 0 false [] b

-- what is copied of request R
abbrev pub copy_of : ℕ → List ℕ → List ℕ
copy_of R b = (lift_of R b).copy

-- what the capture is; that does not depend on R
abbrev pub verdict_of : List ℕ → Verdict
verdict_of b = (lift_of 1 b).verdict
