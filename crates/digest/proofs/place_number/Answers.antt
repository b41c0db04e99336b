use Rattle.std.specs.Prelude.{ℕ, Option, Some, None, unwrap_or}
use mathlib.Core.Path.{◌≡◌, refl, ◌∙◌}
use Rattle.codes.specs.Place.{cause_of}
use Rattle.digest.specs.Digest.{place_of}
use Rattle.digest.proofs.place_number.Goals as goal

place_or_none : (n : ℕ) (place : Option ℕ) → unwrap_or place 0 ≡ place_of (cause_of n place)
place_or_none n None = refl
place_or_none n (Some p) = refl

pub returns : goal.returns
returns c = λ n. c.unwrap_or.ensures ∙ place_or_none n c.args.place
