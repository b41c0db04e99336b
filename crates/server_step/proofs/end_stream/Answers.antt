use mathlib.Core.Path.{sym, ap, ◌∙◌}
use Prim.Native.Nat.{ℕ}
use Rattle.server.specs.Decision.{stream_ended}
use Rattle.server_step.proofs.Laws.{with_marks, out_ended_same, err_ended_same}
use Rattle.server_step.proofs.end_stream.Goals as goal

pub returns-in-Stdout : goal.returns-in-Stdout
returns-in-Stdout c = ap (λ (w : ℕ). with_marks c.args.t w c.args.t.err_ended) c.mark_slot.ensures ∙ out_ended_same c.args.t c.args.i ∙ ap (stream_ended c.args.t c.args.i) (sym c.in-Stdout.is)

pub returns-in-Stderr : goal.returns-in-Stderr
returns-in-Stderr c = ap (λ (w : ℕ). with_marks c.args.t c.args.t.out_ended w) c.mark_slot-in-Stderr.ensures ∙ err_ended_same c.args.t c.args.i ∙ ap (stream_ended c.args.t c.args.i) (sym c.in-Stderr.is)
