use mathlib.Core.Path.{◌≡◌, sym, ◌∙◌}
use native.Mathlib.Omega.{arith}
use mathlib.Core.Bool.{true}
use lib.ListN.{length}
use Rattle.conn_quick.specs.Quick.{is_headed}
use Rattle.connection.specs.Fits.{HeaderFits}
use Rattle.conn_quick.proofs.Laws.{headed, header_passed}
use Rattle.conn_quick.proofs.pass_header.Goals as goal

pub returns-then-not-is_headed : goal.returns-then-not-is_headed
returns-then-not-is_headed c = λ some. absurd (omega (arith, some, c.none_passed.ensures))

pub header_at-h-requires : goal.header_at-h-requires
header_at-h-requires c =
    let begins : is_headed c.args.f.position (length c.args.piece.now) ≡ true =
    sym c.is_headed.ensures ∙ c.if-not-is_headed.false in
    (headed c.args.f.position (length c.args.piece.now) (begins)).3

pub returns-then-not-is_stream : goal.returns-then-not-is_stream
returns-then-not-is_stream c = λ some. absurd (omega (arith, some, c.none_passed-then-not-is_stream.ensures))

pub returns : goal.returns
returns c =
    let begins : is_headed c.args.f.position (length c.args.piece.now) ≡ true =
    sym c.is_headed.ensures ∙ c.if-not-is_headed.false in
    λ _.
    let h = c.header_at-h in
    let w = c.headed_to-target in
    let fits : HeaderFits h.result = record { content = omega arith; padding = omega arith } in
    header_passed c.args.t c.args.f c.args.piece.now h.result w.result c.frame_after.result (begins) h.ensures w.ensures
    (sym c.is_stream.ensures ∙ c.if-not-is_stream.false) fits c.frame_after.ensures
