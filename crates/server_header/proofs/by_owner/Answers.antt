use mathlib.Core.Path.{sym, ap, ◌∙◌}
use Rattle.server.specs.Decision.{inner_in}
use Rattle.server_header.specs.declared.Owner.{Owner}
use Rattle.server_header.specs.Rows.{by_owner}
use Rattle.server_header.proofs.by_owner.Goals as goal

pub on_request-requires : goal.on_request-requires
on_request-requires c = c.requires c.in-Request.i c.in-Request.is

pub returns-in-Connection : goal.returns-in-Connection
returns-in-Connection c =
    λ t f values all seen h.
    c.on_management.ensures t f values ∙ ap (λ (w : Owner). by_owner w (inner_in t f values) c.args.h.kind c.args.h.content) (sym c.in-Connection.is)

pub returns-in-Request : goal.returns-in-Request
returns-in-Request c =
    λ t f values all seen h.
    c.on_request.ensures t f values all seen (h c.in-Request.i c.in-Request.is) ∙ ap (λ (w : Owner). by_owner w (inner_in t f values) c.args.h.kind c.args.h.content) (sym c.in-Request.is)

pub returns-in-Nobody : goal.returns-in-Nobody
returns-in-Nobody c =
    λ t f values all seen h.
    c.closing.ensures t f values ∙ ap (λ (w : Owner). by_owner w (inner_in t f values) c.args.h.kind c.args.h.content) (sym c.in-Nobody.is)
