use mathlib.Core.Path.{◌∙◌, ap}
use Rattle.connection.specs.Codes.{fault_number}
use Rattle.digest.specs.Digest.{place_of}
use Rattle.digest.proofs.fault_weight.Goals as goal

pub returns : goal.returns
returns c =
    let place = c.place_number.ensures (fault_number c.args.fault) ∙ ap place_of c.fault_place.ensures in
    (c.pack.ensures.0 ∙ simp (c.fault_number.ensures, place), c.pack.ensures.1)
