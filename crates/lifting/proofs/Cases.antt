-- Copies and verdicts computed from bytes.
use Rattle.std.specs.Prelude.{◌≡◌, refl, List, [], ◌∷◌, ◌++◌, ℕ}
use Rattle.machine.specs.Cause.{Plain}
use Rattle.plain.specs.Plain.{fault, abort, next_turn, ends, keep, bytes, show, params_end, on_params, against, measure, on_body, on_stream, on_live, place_of, on_active, opening, on_inactive, query, on_query, on_management, says}
use Rattle.lifting.specs.Lift.{Cut, ClosedAt, lift_in, lift_of, copy_of, verdict_of}

-- STDIN of request 1 before it is opened; its BEGIN with a reserved byte of 7 and two bytes of padding; its ABORT; STDIN
-- with a reserved byte of 9 and a byte of padding; a record of version 2, and a byte after it
abbrev early : List ℕ
early = 1 ∷ 5 ∷ 0 ∷ 1 ∷ 0 ∷ 1 ∷ 0 ∷ 0 ∷ 65 ∷ []

abbrev begins : List ℕ
begins = 1 ∷ 1 ∷ 0 ∷ 1 ∷ 0 ∷ 8 ∷ 2 ∷ 7 ∷ 0 ∷ 1 ∷ 1 ∷ 0 ∷ 0 ∷ 0 ∷ 0 ∷ 0 ∷ 238 ∷ 238 ∷ []

abbrev aborts : List ℕ
aborts = 1 ∷ 2 ∷ 0 ∷ 1 ∷ 0 ∷ 0 ∷ 0 ∷ 0 ∷ []

abbrev stdin : List ℕ
stdin = 1 ∷ 5 ∷ 0 ∷ 1 ∷ 0 ∷ 1 ∷ 1 ∷ 9 ∷ 66 ∷ 238 ∷ []

abbrev wrong_version : List ℕ
wrong_version = 2 ∷ 5 ∷ 0 ∷ 1 ∷ 0 ∷ 0 ∷ 0 ∷ 0 ∷ []

abbrev capture : List ℕ
capture = early ++ begins ++ aborts ++ stdin ++ wrong_version ++ (0 ∷ [])

pub record Cases : Type 0 where
  -- from the first BEGIN on, without padding, with reserved bytes as they were, and without the record that closes
  pub copied : copy_of 1 capture
      ≡ (1 ∷ 1 ∷ 0 ∷ 1 ∷ 0 ∷ 8 ∷ 0 ∷ 7 ∷ 0 ∷ 1 ∷ 1 ∷ 0 ∷ 0 ∷ 0 ∷ 0 ∷ 0 ∷ []) ++ aborts
      ++ (1 ∷ 5 ∷ 0 ∷ 1 ∷ 0 ∷ 1 ∷ 0 ∷ 9 ∷ 66 ∷ [])
  -- the place is that of the record's first byte
  pub closes : verdict_of capture ≡ ClosedAt (Plain 11) 45
  pub of_others : copy_of 2 capture ≡ []
  -- a header that is whole is copied, although its content was not captured; one that is not whole is not
  pub cut_after_header : copy_of 1 (1 ∷ 1 ∷ 0 ∷ 1 ∷ 0 ∷ 8 ∷ 3 ∷ 170 ∷ []) ≡ 1 ∷ 1 ∷ 0 ∷ 1 ∷ 0 ∷ 8 ∷ 0 ∷ 170 ∷ []
  pub is_cut : verdict_of (1 ∷ 1 ∷ 0 ∷ 1 ∷ 0 ∷ 8 ∷ 3 ∷ 170 ∷ []) ≡ Cut
  pub cut_in_header : copy_of 1 (1 ∷ 1 ∷ 0 ∷ 1 ∷ 0 ∷ 8 ∷ 3 ∷ []) ≡ []
  -- its own BEGIN of a wrong length closes, and is not copied
  pub wrong_begin : copy_of 1 (1 ∷ 1 ∷ 0 ∷ 1 ∷ 0 ∷ 7 ∷ 0 ∷ 0 ∷ []) ≡ []
  pub wrong_begin_closes : verdict_of (1 ∷ 1 ∷ 0 ∷ 1 ∷ 0 ∷ 7 ∷ 0 ∷ 0 ∷ []) ≡ ClosedAt (Plain 12) 0

pub cases : Cases
unfolding fault abort next_turn ends keep bytes show params_end on_params against measure on_body on_stream on_live place_of on_active opening on_inactive query on_query on_management says lift_in lift_of
cases =
    record {
      copied = refl;
      closes = refl;
      of_others = refl;
      cut_after_header = refl;
      is_cut = refl;
      cut_in_header = refl;
      wrong_begin = refl;
      wrong_begin_closes = refl;
    }
