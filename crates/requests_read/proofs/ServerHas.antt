-- A request as the server's end has it: a part in its turn is refused by 6 or written, and then it has the request with
-- one part more.
use Rattle.std.specs.Prelude.{ℕ, ◌+◌, ◌≤◌, ◌<◌, ◌≡◌, refl, true, List, length, take, drop, Some}
use Rattle.std.proofs.Common.{subst, take_at}
use Rattle.wire.specs.Buffer.{put_at}
use Rattle.connection.specs.declared.request.Life.{Life}
use Rattle.connection.specs.declared.request.RequestState.{RequestState}
use Rattle.connection.specs.declared.request.Request.{Request}
use Rattle.connection.specs.Slots.{request_at, put_request, find}
use Rattle.server.specs.Step.{State}
use Rattle.server.specs.Calls.{Part, APair, Content, EndOf, Abort, in_turn, part_bytes, write_part}
use Rattle.server.proofs.Stepping.{Good}
use Rattle.server.proofs.Writing.{with_table, writing_state, Holding, turn_by, life_by, part_refused, part_written, part_holding}
use Rattle.requests_read.specs.Parts.{SoFar, so_far, Proper}
use Rattle.requests_read.proofs.PartsLaws.{proper_short}

-- as it is there: it keeps no list and counts nothing
abbrev pub written_so_far : ℕ → SoFar → Request
written_so_far id s = record { id = id; length = 0; state = writing_state s.role s.keep s.turn s.life }

abbrev pub ServerHas : State → ℕ → ℕ → SoFar → Type 0
ServerHas sb id j s = Holding sb id j s.role s.keep s.turn s.life

-- where a part leads is the request with that part
state_after_lem : (p : Part) (s : SoFar) → s.life ≡ Life.Live
    → writing_state s.role s.keep (turn_by s.role s.turn p) (life_by p) ≡ (written_so_far 0 (so_far s p)).state
state_after_lem (APair name value) s live = rw live
state_after_lem (Content stream x) s live = rw live
state_after_lem (EndOf input) s live = rw live
state_after_lem Abort s live = refl

-- the bytes at a buffer's start
pub front_put : (x buffer : List ℕ) → take (length x) (put_at buffer 0 x) ≡ x
front_put x buffer = take_at x (drop (0 + length x) buffer) (length x) refl

module _ (sb : State) (id j : ℕ) (s : SoFar) (p : Part) (buffer : List ℕ) (has : ServerHas sb id j s) (live : s.life ≡ Life.Live) (turn : in_turn s.turn p ≡ true) (proper : Proper p) where
  holds : Holding sb id j s.role s.keep s.turn Life.Live
  holds = subst (Holding sb id j s.role s.keep s.turn) live has

  -- its state then
  abbrev pub part_leaves : State
  part_leaves = with_table sb (put_request sb.server.table j (written_so_far id (so_far s p)))

  pub part_lacks : length buffer < length (part_bytes id p) → write_part sb.server id p buffer ≡ record { refusal = 6; written = 0; server = sb.server; buffer = buffer }
  part_lacks short = part_refused sb id j s.role s.keep s.turn holds p turn (proper_short p proper) buffer short

  pub part_writes : length (part_bytes id p) ≤ length buffer
      → write_part sb.server id p buffer ≡ record { refusal = 0; written = length (part_bytes id p); server = part_leaves.server; buffer = put_at buffer 0 (part_bytes id p) }
  part_writes room =
      rw (← state_after_lem p s live) (part_written sb id j s.role s.keep s.turn holds p turn (proper_short p proper) buffer room)

  pub part_kept : ServerHas part_leaves id j (so_far s p)
  part_kept =
      let k = part_holding sb id j s.role s.keep s.turn holds p turn (proper_short p proper) buffer in
      let e = state_after_lem p s live in
      let t = sb.server.table in
      record {
        good = subst (λ (m : RequestState). Good (with_table sb (put_request t j (record { id = id; length = 0; state = m })))) e k.good;
        is_open = k.is_open;
        slot = subst (λ (m : RequestState). find (put_request t j (record { id = id; length = 0; state = m })) id ≡ Some j) e k.slot;
        request = subst (λ (m : RequestState). request_at (put_request t j (record { id = id; length = 0; state = m })) j ≡ record { id = id; length = 0; state = m }) e k.request;
      }
