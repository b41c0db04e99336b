-- The rows of opening that are not about the state: from the ids and slots taken, the id, the role, and whether the
-- record fits.
use Rattle.std.specs.Prelude.{ℕ, Bool, List, [], ◌∷◌, not}
use Rattle.wire.specs.Test.{◌<?◌, ◌=?◌}
use Rattle.slot_word.specs.Word.{lowest_free}
use Rattle.connection.specs.Sizes.{SLOTS}
use Rattle.connection.specs.Slots.{find_from, is_found}
use Rattle.connection.specs.Refusal.{◌when◌}
use Rattle.server.specs.Refusal.{refusal}
use Rattle.server.specs.Calls.{is_role}

-- 57, 58, 59, 60 and 6
unfoldable pub own_rows : List ℕ → ℕ → ℕ → ℕ → Bool → ℕ
own_rows ids occupied id role fits =
    refusal
    ((57 when (id =? 0))
    ∷ (58 when is_found (find_from SLOTS ids occupied id 0))
    ∷ (59 when not (lowest_free SLOTS occupied <? SLOTS))
    ∷ (60 when not (is_role role))
    ∷ (6 when not fits)
    ∷ [])
