use Rattle.conn_quick.proofs.Laws.{content_shown}
use Rattle.conn_quick.proofs.show_content.Goals as goal

pub returns : goal.returns
returns c =
    let a = c.args in (
      rw c.slot_of-slot.ensures c.requires.1,
      λ t g s e. simp (c.frame_within.ensures, c.stream_due.ensures, c.stream_of-stream.ensures, c.slot_of-slot.ensures, c.advance-a.ensures, ← e) (content_shown t a.f g s a.piece.now c.requires.0),
    )
