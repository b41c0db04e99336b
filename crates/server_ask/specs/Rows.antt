-- The rows of asking that are not about the state: from the list and the room in the buffer.
use Rattle.std.specs.Prelude.{ℕ, Bool, true, not, List, [], ◌∷◌, length, if◌then◌else◌}
use Rattle.wire.specs.Test.{◌<?◌}
use Rattle.record.specs.Names.{GET_VALUES}
use Rattle.record_writer.specs.Written.{record_bytes}
use Rattle.pair_list.specs.List.{well_formed}
use Rattle.connection.specs.Sizes.{QUERY}
use Rattle.connection.specs.Refusal.{◌when◌}
use Rattle.server.specs.Refusal.{refusal}

abbrev pub bad_query : List ℕ → Bool
bad_query list = if QUERY <? length list then true else not (well_formed list)

-- 62 and 6
unfoldable pub own_rows : List ℕ → ℕ → ℕ
own_rows list room =
    refusal ((62 when bad_query list) ∷ (6 when (room <? length (record_bytes GET_VALUES 0 list))) ∷ [])
