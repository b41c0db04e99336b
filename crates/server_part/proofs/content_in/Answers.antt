use mathlib.Core.Path.{◌≡◌, refl, sym, ap, ◌∙◌}
use lib.ListN.{length}
use Rattle.connection.specs.Codes.{stream_type}
use Rattle.server.specs.Codes.{stream_input}
use Rattle.server.specs.Calls.{Content}
use Rattle.server_admit.proofs.Room.{stream_short, stream_enough, stream_filled}
use Rattle.server_part.specs.declared.Said.{Said}
use Rattle.server_part.specs.Answer.{out_of_turn, said_by}
use Rattle.server_part.proofs.Laws.{part_late, part_short, part_wrote}
use Rattle.server_part.proofs.content_in.Goals as goal

pub returns-then-out_of_turn : goal.returns-then-out_of_turn
returns-then-out_of_turn c =
    let late : c.out_of_turn.result ≡ out_of_turn c.args.r.state (stream_input c.args.stream) =
    c.out_of_turn.ensures ∙ ap (out_of_turn c.args.r.state) c.stream_input.ensures in
    ap (λ (s : Said). said_by s c.args.out.now) c.refused.ensures
    ∙ part_late c.args.r (Content c.args.stream c.args.bytes.now) c.args.out.now (sym (late) ∙ c.if-out_of_turn.true)

pub returns-then-not-stream_fits : goal.returns-then-not-stream_fits
returns-then-not-stream_fits c =
    let late : c.out_of_turn.result ≡ out_of_turn c.args.r.state (stream_input c.args.stream) =
    c.out_of_turn.ensures ∙ ap (out_of_turn c.args.r.state) c.stream_input.ensures in
    ap (λ (s : Said). said_by s c.args.out.now) c.refused-then-not-stream_fits.ensures
    ∙ part_short c.args.r (Content c.args.stream c.args.bytes.now) c.args.out.now (sym (late) ∙ c.if-out_of_turn.false) refl
    (stream_short (stream_type c.args.stream) c.args.r.id c.args.bytes.now (length c.args.out.now) (sym c.stream_fits.ensures ∙ c.if-not-stream_fits.true))

pub returns : goal.returns
returns c =
    let late : c.out_of_turn.result ≡ out_of_turn c.args.r.state (stream_input c.args.stream) =
    c.out_of_turn.ensures ∙ ap (out_of_turn c.args.r.state) c.stream_input.ensures in
    let kind = stream_type c.args.stream in
    let enough = stream_enough kind c.args.r.id c.args.bytes.now (length c.args.out.now) (sym c.stream_fits.ensures ∙ c.if-not-stream_fits.false) in
    part_wrote c.args.r (Content c.args.stream c.args.bytes.now) c.args.out.now (sym (late) ∙ c.if-out_of_turn.false) refl enough
    (stream_filled c.args.out.now kind c.args.r.id c.args.bytes.now enough (simp c.stream_type-kind.ensures at c.write_stream-written.ensures)) refl
