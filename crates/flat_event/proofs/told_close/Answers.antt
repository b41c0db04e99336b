use mathlib.Core.Path.{◌∙◌, ap}
use Rattle.connection.specs.Codes.{close_number}
use Rattle.flat_event.specs.Flat.{place_of}
use Rattle.flat_event.proofs.told_close.Goals as goal

pub returns : goal.returns
returns c =
    let number = close_number c.args.cause in
    let place = c.place_number-at.ensures number ∙ ap place_of c.close_place.ensures in
    simp (c.close_number.ensures, place)
