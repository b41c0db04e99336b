use mathlib.Core.Path.{◌∙◌, ap}
use Rattle.connection.specs.Codes.{fault_number}
use Rattle.flat_event.specs.Flat.{place_of}
use Rattle.flat_event.proofs.told_fault.Goals as goal

pub returns : goal.returns
returns c =
    let number = fault_number c.args.fault in
    let place = c.place_number-place.ensures number ∙ ap place_of c.fault_place.ensures in
    simp (c.fault_number.ensures, place)
