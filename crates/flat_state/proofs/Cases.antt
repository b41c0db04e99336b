-- Flat forms computed: of a connection as it starts, of one with a request in slot 1, and what is known and what not.
use Rattle.std.specs.Prelude.{ℕ, ◌≡◌, refl, true, false, List, [], ◌∷◌, map, set, replicate}
use Rattle.wire.specs.Buffer.{zeros}
use Rattle.connection.specs.declared.request.Role.{Role}
use Rattle.connection.specs.declared.request.Turn.{Turn}
use Rattle.connection.specs.declared.request.Life.{Life}
use Rattle.connection.specs.declared.request.Standing.{Standing}
use Rattle.connection.specs.declared.state.Target.{Target}
use Rattle.connection.specs.declared.state.Conn.{Conn}
use Rattle.connection.specs.Sizes.{SLOTS}
use Rattle.connection.specs.Slots.{no_standing, no_requests}
use Rattle.connection.specs.Step.{open_with, no_frame}
use Rattle.flat_state.specs.declared.FlatState.{FlatState}
use Rattle.flat_state.specs.Flat.{role_of, turn_of, life_of, target_of, standing_of, standings_of}
use Rattle.flat_state.specs.Flat.{flat_of, table_of, frame_of, conn_of, known_target, known}

-- a flat state in which all is 0 but what is given
abbrev with_numbers_lem : List ℕ → List ℕ → List ℕ → ℕ → ℕ → ℕ → FlatState
with_numbers_lem roles turns lives target number is_open =
    record {
      content = 0;
      padding = 0;
      held = 0;
      gathered = 0;
      stdin_shown = zeros SLOTS;
      data_shown = zeros SLOTS;
      ids = zeros SLOTS;
      lengths = zeros SLOTS;
      keep = 0;
      out_ended = 0;
      err_used = 0;
      err_ended = 0;
      occupied = 0;
      target_number = number;
      roles = roles;
      turns = turns;
      lives = lives;
      header = zeros 8;
      body = zeros 8;
      target = target;
      «open» = is_open;
    }

-- of a free slot the role is a responder's
abbrev responders : List ℕ
responders = replicate SLOTS 1

pub fresh : flat_of (open_with no_requests no_frame) ≡ with_numbers_lem responders (zeros SLOTS) (zeros SLOTS) 0 0 1
unfolding flat_of
fresh = refl

abbrev aborted_filter : Standing
aborted_filter = record { role = Role.Filter; turn = Turn.Data; life = Life.Aborted }

-- An aborted filter in slot 1, with the id 9 and a list of 20 bytes: its STDIN of 500 bytes was shown, and 60 bytes of
-- its DATA, of which a record has 40 more and then 4 of padding. KEEP_CONN is set, and both outputs are ended.
abbrev filtering : Conn
filtering =
    record {
      table =
          record {
            ids = set (zeros SLOTS) 1 9;
            lengths = set (zeros SLOTS) 1 20;
            standings = set (replicate SLOTS no_standing) 1 aborted_filter;
            keep = 2;
            out_ended = 2;
            err_used = 2;
            err_ended = 2;
            stdin_shown = set (zeros SLOTS) 1 500;
            data_shown = set (zeros SLOTS) 1 60;
            occupied = 2;
          };
      frame =
          record {
            position = record { content = 40; padding = 4; held = 0; header = zeros 8 };
            target = Target.Data 1;
            gathered = 0;
            body = zeros 8;
          };
      «open» = true;
    }

pub one_request : flat_of filtering
    ≡ record {
      content = 40;
      padding = 4;
      held = 0;
      gathered = 0;
      stdin_shown = set (zeros SLOTS) 1 500;
      data_shown = set (zeros SLOTS) 1 60;
      ids = set (zeros SLOTS) 1 9;
      lengths = set (zeros SLOTS) 1 20;
      keep = 2;
      out_ended = 2;
      err_used = 2;
      err_ended = 2;
      occupied = 2;
      target_number = 1;
      roles = set responders 1 3;
      turns = set (zeros SLOTS) 1 2;
      lives = set (zeros SLOTS) 1 2;
      header = zeros 8;
      body = zeros 8;
      target = 5;
      «open» = 1;
    }
unfolding flat_of
one_request = refl

-- ---- the numbers, each in a slot of its own, and what they are read as
abbrev standings : FlatState
standings = with_numbers_lem (1 ∷ 2 ∷ 3 ∷ 1 ∷ []) (0 ∷ 1 ∷ 2 ∷ 3 ∷ []) (0 ∷ 1 ∷ 2 ∷ 0 ∷ []) 0 0 1

pub read_numbers : (conn_of standings).table.standings
    ≡ record { role = Role.Responder; turn = Turn.Params; life = Life.Live }
    ∷ record { role = Role.Authorizer; turn = Turn.Stdin; life = Life.Faulted }
    ∷ record { role = Role.Filter; turn = Turn.Data; life = Life.Aborted }
    ∷ record { role = Role.Responder; turn = Turn.Done; life = Life.Live }
    ∷ []
unfolding conn_of table_of standings_of standing_of role_of turn_of life_of
read_numbers = refl

abbrev aimed : ℕ → FlatState
aimed target = with_numbers_lem responders (zeros SLOTS) (zeros SLOTS) target 7 1

pub read_targets : map (λ (n : ℕ). (conn_of (aimed n)).frame.target) (0 ∷ 1 ∷ 2 ∷ 3 ∷ 4 ∷ 5 ∷ [])
    ≡ Target.Skip ∷ Target.Begin 7 ∷ Target.Query ∷ Target.Params 7 ∷ Target.Stdin 7 ∷ Target.Data 7 ∷ []
unfolding conn_of frame_of target_of
read_targets = refl

-- ---- what is known: the highest and the lowest of each number in the last slot, and the numbers next to them
abbrev in_last_slot : ℕ → ℕ → ℕ → ℕ → FlatState
in_last_slot role turn life is_open =
    with_numbers_lem (set responders 15 role) (set (zeros SLOTS) 15 turn) (set (zeros SLOTS) 15 life) 0 0 is_open

pub known_numbers : map known (in_last_slot 1 0 0 0 ∷ in_last_slot 3 3 2 1 ∷ []) ≡ true ∷ true ∷ []
unfolding known known_target
known_numbers = refl

pub unknown_numbers : map known (in_last_slot 0 0 0 0
    ∷ in_last_slot 4 0 0 0
    ∷ in_last_slot 1 4 0 0
    ∷ in_last_slot 1 0 3 0
    ∷ in_last_slot 1 0 0 2
    ∷ [])
    ≡ replicate 5 false
unfolding known known_target
unknown_numbers = refl

-- targets by their kind and their number
pub known_targets : map (λ (kind : ℕ). known_target kind 0) (0 ∷ 1 ∷ 2 ∷ 3 ∷ 4 ∷ 5 ∷ 6 ∷ [])
    ≡ true ∷ true ∷ true ∷ true ∷ true ∷ true ∷ false ∷ []
unfolding known_target
known_targets = refl

pub known_slots : map (λ (kind : ℕ). known_target kind 255) (0 ∷ 1 ∷ 2 ∷ 3 ∷ 4 ∷ 5 ∷ [])
    ≡ false ∷ true ∷ false ∷ true ∷ true ∷ true ∷ []
unfolding known_target
known_slots = refl

pub known_ids : map (λ (kind : ℕ). known_target kind 256) (0 ∷ 1 ∷ 2 ∷ 3 ∷ 4 ∷ 5 ∷ [])
    ≡ false ∷ true ∷ false ∷ false ∷ false ∷ false ∷ []
unfolding known_target
known_ids = refl
