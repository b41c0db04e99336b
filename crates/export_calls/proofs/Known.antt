-- What a test `if !is_known(..)` says of what it asked.
use Rattle.std.specs.Prelude.{◌≡◌, Bool, true, false}
use Rattle.std.proofs.Common.{sym, ◌∙◌}

pub unknown_by : {answer known : Bool} → answer ≡ known → answer ≡ false → known ≡ false
unknown_by e t = sym e ∙ t

pub known_by : {answer known : Bool} → answer ≡ known → answer ≡ true → known ≡ true
known_by e t = sym e ∙ t
