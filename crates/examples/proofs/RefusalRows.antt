-- The two calls that write without a state have their refusals by the same order as all others.
use Rattle.std.specs.Prelude.{◌≡◌, Bool, true, List, [], ◌∷◌, ℕ, length, ltb, if◌then◌else◌}
use Rattle.wire.specs.Test.{by_test, ◌<?◌}
use Rattle.pairs.specs.Pair.{pair_bytes}
use Rattle.pair_writer.specs.Write.{MAX_WRITTEN, pair_written}
use Rattle.connection.specs.Event.{Event}
use Rattle.connection.specs.Refusal.{◌when◌, refusal}
use Rattle.connection.specs.Calls.{owed, replied}

-- the name or the value is too long to write
abbrev pub too_long : List ℕ → List ℕ → Bool
too_long name value = if MAX_WRITTEN <? length name then true else MAX_WRITTEN <? length value

-- Writing a pair has the rows 8 and 6: name or value too long, and then output longer than the lent buffer.
pub pair_writer_rows : (buffer name value : List ℕ)
    → (pair_written buffer name value).refusal ≡ refusal ((8 when too_long name value) ∷ (6 when (length buffer <? length (pair_bytes name value))) ∷ [])
unfolding pair_written
pair_writer_rows buffer name value =
    by_test (ltb MAX_WRITTEN (length name)) (λ a. simp a)
    (λ a.
    by_test (ltb MAX_WRITTEN (length value)) (λ b. simp (a, b))
    (λ b. by_test (ltb (length buffer) (length (pair_bytes name value))) (λ r. simp (a, b, r)) (λ r. simp (a, b, r))))

-- The owed reply has row 6 alone.
pub reply_rows : (e : Event) (buffer : List ℕ) → (replied e buffer).refusal ≡ refusal ((6 when (length buffer <? length (owed e))) ∷ [])
unfolding replied
reply_rows e buffer = by_test (ltb (length buffer) (length (owed e))) (λ r. simp r) (λ r. simp r)
