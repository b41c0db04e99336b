use mathlib.Core.Path.{◌∙◌, ap}
use Rattle.connection.specs.Codes.{close_number}
use Rattle.digest.specs.Digest.{place_of}
use Rattle.digest.proofs.closed_weight.Goals as goal

pub returns : goal.returns
returns c =
    let place = c.place_number.ensures (close_number c.args.cause) ∙ ap place_of c.close_place.ensures in
    (c.pack.ensures.0 ∙ simp (c.close_number.ensures, place), c.pack.ensures.1)
