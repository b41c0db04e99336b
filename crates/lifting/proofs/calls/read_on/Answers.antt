use mathlib.Core.Path.{sym, ap, ◌∙◌}
use mathlib.Core.Bool.{◌&&◌}
use Rattle.wire.specs.Test.{◌<?◌}
use Rattle.record_reader.specs.declared.Position.{Position}
use Rattle.lifting.specs.Ways.{lifting_with}
use Rattle.lifting.proofs.CallLaws.{stepped_over}
use Rattle.lifting.proofs.calls.read_on.Goals as goal

pub returns : goal.returns
returns c =
    λ st s h room.
    stepped_over (lifting_with st c.args.id c.args.m) s c.args.bytes.now c.args.out.now c.write_copied-written.new.out c.copies_content-copies.result c.write_copied-written.result (lifting_with s.state c.args.id c.after_bytes.result)
    (c.copies_content-copies.ensures ∙ ap (λ (q : Position). c.args.m.copied && (0 <? q.content)) (sym h.position))
    c.write_copied-written.ensures.0
    (c.write_copied-written.ensures.1 (λ t. room (sym c.copies_content-copies.ensures ∙ t)))
    (c.after_bytes.ensures st s h)
