-- A place in a list of pairs, and the place past the pair there.
use Rattle.std.specs.Prelude.{ℕ, zero, suc, List, if◌then◌else◌, Some, None, Ok, Err, Option, Result}
use Rattle.pairs.specs.Pair.{pair_at}
use Rattle.pair_list.specs.List.{on_read}
use Rattle.pairs.specs.declared.pair.Read.{Read}
use Rattle.wire.specs.Test.{◌=?◌}
use Rattle.connection.specs.declared.state.Conn.{Conn}
use Rattle.connection.specs.Codes.{refusal_number}
use Rattle.connection.specs.Calls.{walk}
use Rattle.call_walk.specs.declared.Walk.{Walk}
use Rattle.connection.specs.declared.answer.Refusal.{Refusal}
use Rattle.pairs.specs.declared.pair.Pair.{Pair}

-- The place past the pair at a place; the same place at the end and before a malformed pair.
unfoldable pub past_at : List ℕ → ℕ → ℕ
past_at s place = on_read (pair_at s place) (λ p next. next) (λ e. place)

-- The place after k pairs, from a place on.
unfoldable pub place_after : List ℕ → ℕ → ℕ → ℕ
place_after s zero place = place
place_after s (suc k) place = place_after s k (past_at s place)

-- the pair that was read, if one was
abbrev pub found_by : Read → Option Pair
found_by r = on_read r (λ p next. Some p) (λ e. None)

-- The walk past the pair at its place.
abbrev pub past_pair : Walk → Walk
past_pair w = record { list = w.list; place = past_at w.list.now w.place; refusal = w.refusal }

-- The walk past k pairs.
unfoldable pub past_pairs : ℕ → Walk → Walk
past_pairs zero w = w
past_pairs (suc k) w = past_pairs k (past_pair w)

-- Reading on from a place of a request's list: what is read there, or the number of the walk's refusal.
pub data ReadAnswer : Type 0 where
  ReadIs : Read → ReadAnswer
  ReadRefused : ℕ → ReadAnswer

unfoldable pub read_from : Conn → List ℕ → ℕ → ℕ → ReadAnswer
read_from c store id place =
    if (walk c store id).refusal =? 0 then ReadIs (pair_at (walk c store id).list place) else ReadRefused (walk c store id).refusal

-- what the code answers, read in the rules' numbers
abbrev pub read_by : Result Read Refusal → ReadAnswer
read_by (Ok read) = ReadIs read
read_by (Err r) = ReadRefused (refusal_number r)
