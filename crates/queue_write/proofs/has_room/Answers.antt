use mathlib.Core.Path.{◌∙◌}
use lib.ListN.{length}
use Rattle.std.proofs.lemmas.Bool.{lt-leb}
use Rattle.queue_write.proofs.Laws.{no_room_lem, room_left}
use Rattle.queue_write.proofs.has_room.Goals as goal

pub returns-then-n-le-ROOM : goal.returns-then-n-le-ROOM
returns-then-n-le-ROOM c = λ bytes e. room_left c.args.count c.args.n (length bytes) e c.if-n-le-ROOM.true

pub returns-else-n-le-ROOM : goal.returns-else-n-le-ROOM
returns-else-n-le-ROOM c = λ bytes e. lt-leb c.args.n 1024 c.if-n-le-ROOM.false ∙ no_room_lem c.args.count c.args.n (length bytes) e c.if-n-le-ROOM.false
