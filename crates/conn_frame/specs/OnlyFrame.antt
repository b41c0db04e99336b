-- What is decided where nothing but the frame changes.
use Rattle.connection.specs.declared.state.Frame.{Frame}
use Rattle.connection.specs.declared.event.Event.{Event}
use Rattle.connection.specs.declared.decision.Change.{Change}
use Rattle.connection.specs.declared.decision.Decision.{Decision}

abbrev pub only_frame : Frame → Event → Decision
only_frame f e = record { change = Change.Keep; frame = f; event = e }
