-- A reader of records over any rules: it stays in one phase, hands a whole header to be judged and content bytes to be taken in. Definitions only.
use Rattle.std.specs.Prelude.{ℕ, zero, suc, ◌+◌, ◌<◌, ◌≡◌, Bool, true, false, List, [], ◌∷◌, ◌++◌, length, take, drop, if◌then◌else◌}
use Rattle.wire.specs.Test.{◌=?◌}
use Rattle.record.specs.declared.header.Header.{Header}
use Rattle.record_reader.specs.Position.{between_records, advanced}
use Rattle.record_reader.specs.declared.Position.{Position}
use Rattle.record_reader.specs.declared.Phase.{Phase}

-- What a rule leaves: the state, and what is told.
pub record Left (State Note : Type 0) : Type 0 where
  pub state : State
  pub notes : List Note

-- Rules: what a reader keeps besides its position, whether it is open, what a whole header does, and what content bytes do with so many left behind them.
pub record Rules : Type 1 where
  pub State : Type 0
  pub Note : Type 0
  pub is_open : State → Bool
  pub judged : State → Header → Left State Note
  pub taken : State → List ℕ → ℕ → Left State Note

module _ (R : Rules) where
  open R use {State, Note, is_open, judged, taken}

  -- where a reader stands
  pub record Reader : Type 0 where
    pub position : Position
    pub inner : State

  abbrev pub reader_at : Position → State → Reader
  reader_at p s = record { position = p; inner = s }

  -- where bytes lead, and what was told on the way
  pub record Run : Type 0 where
    pub reader : Reader
    pub notes : List Note

  abbrev pub resting : Reader → Run
  resting a = record { reader = a; notes = [] }

  abbrev pub and_then : Run → (Reader → Run) → Run
  and_then r f = record { reader = (f r.reader).reader; notes = r.notes ++ (f r.reader).notes }

  -- a position behind what a rule left: a reader that is closed stands between two records
  abbrev pub standing : Position → Left State Note → Run
  standing p l =
      record { reader = reader_at (if is_open l.state then p else between_records) l.state; notes = l.notes }

  abbrev pub on_phase : Phase → State → List ℕ → Position → Run
  on_phase Phase.Content s bytes p = standing p (taken s bytes p.content)
  on_phase Phase.Padding s bytes p = resting (reader_at p s)
  on_phase Phase.Part s bytes p = resting (reader_at p s)
  on_phase (Phase.Whole h) s bytes p = standing p (judged s h)

  -- One step: the bytes used, and where they lead. A reader that is closed, or an empty piece, uses none.
  unfoldable pub used : Reader → List ℕ → ℕ
  used a piece = if is_open a.inner then (if length piece =? 0 then 0 else (advanced a.position piece).used) else 0

  unfoldable pub step : Reader → List ℕ → Run
  step a piece =
      if is_open a.inner then
      (if length piece =? 0 then resting a
      else on_phase (advanced a.position piece).phase a.inner (take (advanced a.position piece).used piece) (advanced a.position piece).position)
      else resting a

  -- the bytes one at a time
  unfoldable pub by_byte : Reader → List ℕ → Run
  by_byte a [] = resting a
  by_byte a (b ∷ bytes) = and_then (step a (b ∷ [])) (λ c. by_byte c bytes)

  -- the bytes in at most k steps, each over all that is left; and pieces one after the other
  unfoldable pub fed : ℕ → Reader → List ℕ → Run
  fed zero a bytes = resting a
  fed (suc k) a bytes = and_then (step a bytes) (λ c. fed k c (drop (used a bytes) bytes))

  unfoldable pub fed_pieces : Reader → List (List ℕ) → Run
  fed_pieces a [] = resting a
  fed_pieces a (piece ∷ pieces) = and_then (fed (length piece) a piece) (λ c. fed_pieces c pieces)

  -- what so many steps leave unread
  unfoldable pub left_of : ℕ → Reader → List ℕ → List ℕ
  left_of zero a bytes = bytes
  left_of (suc k) a bytes = left_of k (step a bytes).reader (drop (used a bytes) bytes)

  -- What one whole record means: its header is judged, then its content is taken in at once, if there is any and the reader is open.
  abbrev pub content_means : List ℕ → State → Left State Note
  content_means x s =
      if is_open s then (if length x =? 0 then record { state = s; notes = [] } else taken s x 0) else record { state = s; notes = [] }

  unfoldable pub record_means : State → Header → List ℕ → Left State Note
  record_means s h x =
      record { state = (content_means x (judged s h).state).state; notes = (judged s h).notes ++ (content_means x (judged s h).state).notes }

unfoldable pub joined : List (List ℕ) → List ℕ
joined [] = []
joined (piece ∷ pieces) = piece ++ joined pieces

-- What rules must keep for cutting not to matter. `Ready s n`: s can take in n content bytes more.
pub record Lawful (R : Rules) : Type 1 where
  pub Ready : R.State → ℕ → Type 0
  -- a header that is judged leaves a state ready for its content
  pub judged_ready : (s : R.State) (h : Header) → Ready s 0 → Ready (R.judged s h).state h.content
  -- content taken in leaves one ready for the rest, and open while there is a rest
  pub taken_ready : (s : R.State) (x : List ℕ) (n : ℕ) → Ready s (length x + n) → Ready (R.taken s x n).state n
  pub taken_open : (s : R.State) (x : List ℕ) (n : ℕ) → 0 < n → R.is_open s ≡ true → R.is_open (R.taken s x n).state ≡ true
  -- content in two parts
  pub taken_cut : (s : R.State) (b : ℕ) (x : List ℕ) (n : ℕ) → Ready s (suc (length x) + n) → 0 < length x
      → R.taken s (b ∷ x) n
      ≡ record {
        state = (R.taken (R.taken s (b ∷ []) (length x + n)).state x n).state;
        notes = (R.taken s (b ∷ []) (length x + n)).notes ++ (R.taken (R.taken s (b ∷ []) (length x + n)).state x n).notes;
      }
  -- one that is closed waits for nothing
  pub closed_ready : (s : R.State) (n : ℕ) → R.is_open s ≡ false → Ready s n → Ready s 0
