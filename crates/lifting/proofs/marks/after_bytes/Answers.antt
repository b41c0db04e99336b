use mathlib.Core.Path.{sym, ◌∙◌}
use Rattle.lifting.proofs.marks.after_bytes.Goals as goal

pub returns-then-makes_whole : goal.returns-then-makes_whole
returns-then-makes_whole c =
    λ st s h.
    let t = sym c.makes_whole.ensures ∙ c.if-makes_whole.true in
    c.with_header.ensures t st s h ∙ simp (h.position, t)

pub returns : goal.returns
returns c =
    λ st s h.
    let t = sym c.makes_whole.ensures ∙ c.if-makes_whole.false in
    c.with_bytes.ensures c.args.id c.args.«open» st s h ∙ simp (h.position, t)
