-- The proof of Shuffle. That no request can tell two shuffles apart is isolation twice, through the run of its own
-- items alone (`Theorem.mixed_differently`). What purging leaves of an interleaving is shown in the crate `machine`.
use Rattle.std.specs.Prelude.{◌≡◌, List, ℕ, ◌<◌, None}
use Rattle.std.proofs.Common.{ap, sym, ◌∙◌}
use Rattle.std.proofs.Math.Option.{none}
use Rattle.wire.specs.Test.{by_test}
use Rattle.machine.specs.Timeline.{purge}
use Rattle.machine.specs.Interleaving.{Part, AllWhole, all_items, own_of}
use Rattle.machine.proofs.InterleavingLaws.{own_is_left, neighbours}
use Rattle.connection.specs.Slots.{find}
use Rattle.connection.proofs.Laws.SlotsLaws.{nowhere_find}
use Rattle.connection.proofs.Laws.ShapeLaws.{shaped}
use Rattle.connection.specs.Arguments.{Argument}
use Rattle.connection.specs.Run.{Memory, request_of, WholeRun, beginning, ending, timeline_of}
use Rattle.connection.specs.Shuffle.{SameForEach, Shuffle}
use Rattle.connection.proofs.Runs.LinkingStep.{Steady}
use Rattle.connection.proofs.Runs.LinkingRuns.{run_linked, start_steady}
use Rattle.connection.proofs.Runs.Theorem.{mixed_differently}

-- In a state in shape no active request has the id 0 (row 9).
zero_nowhere : (m : Memory) → Steady m → request_of 0 m ≡ none
unfolding request_of
zero_nowhere m z =
    let t = m.state.conn.table in
    let e : find t 0 ≡ None = nowhere_find t 0 (shaped m.state.conn z.shape).table.ids in
    by_test m.state.conn.«open» (λ o. simp (o, e)) (λ o. simp o)

zero_never : (A : WholeRun) → request_of 0 (ending A) ≡ none
zero_never A =
    let z = start_steady A.gathered A.store A.gathered_size A.store_size in
    zero_nowhere (ending A) (run_linked A.operations (beginning A) z A.pieces).steady

interleavings : (A B : WholeRun) (ps qs : List (Part Argument))
    → timeline_of A ≡ all_items ps → timeline_of B ≡ all_items qs → AllWhole ps → AllWhole qs
    → ((R : ℕ) → 0 < R → own_of R ps ≡ own_of R qs) → SameForEach A B
interleavings A B ps qs a b whole_a whole_b same R r =
    ap (purge R) a ∙ own_is_left R ps whole_a ∙ same R r ∙ sym (own_is_left R qs whole_b) ∙ ap (purge R) (sym b)

-- Request [12].
pub shuffle : Shuffle
shuffle =
    record {
      any_shuffle = λ A B same ends-a ends-b room-a room-b R r.
          mixed_differently R A B r ends-a ends-b (room-a R r) (room-b R r) (same R r);
      zero_never = zero_never;
      own_is_left = own_is_left;
      interleavings = interleavings;
      neighbours = neighbours;
    }
