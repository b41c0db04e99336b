use mathlib.Core.Path.{ap, ◌∙◌}
use Rattle.connection.specs.Step.{Started}
use Rattle.export.specs.Fed.{Fed, fed_all, digest}
use Rattle.export.proofs.fastcgi_digest.Goals as goal

pub returns : goal.returns
unfolding digest
returns c = ap (λ (f : Fed). record { store = f.store; sum = f.sum }) (c.feed_all.ensures ∙ ap (λ (t : Started). fed_all t.state t.store c.args.input.now c.args.piece) c.start-started.ensures)
