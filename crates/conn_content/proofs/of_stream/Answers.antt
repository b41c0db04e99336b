use Rattle.conn_content.proofs.Laws.{stream_shown}
use Rattle.conn_content.proofs.of_stream.Goals as goal

pub returns : goal.returns
returns c =
    λ t g s bytes hr hn.
    let a = c.args in
    simp (c.frame_within.ensures, c.count_shown-counted.ensures, c.stream_due.ensures, ← hr, ← hn) (stream_shown a.stream t a.f g s a.i bytes a.p)
