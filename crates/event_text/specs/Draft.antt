-- A line in the making, as the code holds it.
use Rattle.std.specs.Prelude.{ℕ, ◌+◌, ◌≤◌, ◌≡◌, List, ◌++◌, take}
use Rattle.event_text.specs.declared.draft.Draft.{Draft}

-- what stands in it
abbrev pub text_of : Draft → List ℕ
text_of d = take d.n d.bytes

-- it has this text, of at most so many bytes
pub record Says (d : Draft) (bytes : List ℕ) (most : ℕ) : Type 0 where
  pub text : text_of d ≡ bytes
  pub upto : d.n ≤ most

-- e is d with this text added, of at most so many bytes
pub record Adds (d e : Draft) (bytes : List ℕ) (most : ℕ) : Type 0 where
  pub text : text_of e ≡ text_of d ++ bytes
  pub upto : e.n ≤ d.n + most
