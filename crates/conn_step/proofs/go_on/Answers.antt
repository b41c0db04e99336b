use mathlib.Core.Path.{◌≡◌, ap, subst, ◌∙◌}
use native.Mathlib.Omega.{arith}
use lib.ListN.{length, get_or, length-take}
use mir.Val.{Fits}
use mir.Syntax.{w8}
use Rattle.record.specs.declared.header.Header.{Header}
use Rattle.record_reader.specs.declared.Phase.{Phase}
use Rattle.record_reader.specs.Position.{advanced}
use Rattle.connection.specs.Sizes.{SLOTS}
use Rattle.connection.specs.Shape.{in_shape}
use Rattle.wire.proofs.Bytes.{AllBytes}
use Rattle.connection.specs.Fits.{HeaderFits}
use Rattle.connection.proofs.Laws.StateShape.{Arrays, good, good_shape}
use Rattle.connection.proofs.Laws.StepShape.{ReadFits, good_advances}
use Rattle.record_reader.specs.declared.Advanced.{Advanced}
use Rattle.connection.specs.Step.{Stepped, open_with, leaves, advances}
use Rattle.connection.specs.Decision.{open_state}
use Rattle.connection.proofs.Laws.ShapeLaws.{shaped}
use Rattle.conn_step.proofs.Laws.{used_within}
use borrow.Author.Rules.{rules}
use Rattle.conn_step.proofs.go_on.Goals as goal

pub slice_bounds-decide-end : goal.slice_bounds-decide-end
slice_bounds-decide-end c =
    let u = used_within c.args.f.position c.args.piece.now c.advance-a.result (shaped _ c.requires.1).position c.advance-a.ensures in
    omega (arith, length-take c.advance-a.result.used c.args.piece.now)

pub decide-m-requires : goal.decide-m-requires
decide-m-requires c =
    let u = used_within c.args.f.position c.args.piece.now c.advance-a.result (shaped _ c.requires.1).position c.advance-a.ensures in
    (c.requires.0, (shaped _ c.requires.1).target, omega (arith, length-take c.advance-a.result.used c.args.piece.now))

pub returns : goal.returns
unfolding advances
returns c =
    let arrays : Arrays (open_with c.args.t c.args.f) =
    let own : AllBytes c.args.f.position.header = λ i. let f : Fits w8 (get_or c.args.f.position.header i 0) = search rules in f.fits in
    let ids : length c.args.t.ids ≡ SLOTS = search rules in
    let lengths : length c.args.t.lengths ≡ SLOTS = search rules in
    let standings : length c.args.t.standings ≡ SLOTS = search rules in
    let stdin : length c.args.t.stdin_shown ≡ SLOTS = search rules in
    let «data» : length c.args.t.data_shown ≡ SLOTS = search rules in
    let header : length c.args.f.position.header ≡ 8 = search rules in
    let body : length c.args.f.body ≡ 8 = search rules in
    record { table = record { ids = ids; lengths = lengths; standings = standings; stdin = stdin; «data» = «data» }; header = header; bytes = own; body = body } in
    let held : AllBytes c.advance-a.result.position.header =
    λ i. let f : Fits w8 (get_or c.advance-a.result.position.header i 0) = search rules in f.fits in
    let st = open_state c.args.t c.args.f c.args.gathered.now in
    let same = ap (leaves c.advance-a.result.used) c.decide-m.ensures.0 ∙ ap (advances st c.args.store.now c.args.piece.now) c.advance-a.ensures in
    let whole : (h : Header) → (advanced c.args.f.position c.args.piece.now).phase ≡ Phase.Whole h → HeaderFits h = λ h e. c.decide-m.ensures.1 h (ap (λ (x : Advanced). x.phase) c.advance-a.ensures ∙ e) in
    let before = good (open_with c.args.t c.args.f) (arrays) (shaped _ c.requires.1) in
    let fits : ReadFits (advanced c.args.f.position c.args.piece.now) = record { header = whole; bytes = subst (λ (x : Advanced). AllBytes x.position.header) c.advance-a.ensures (held) } in
    (same, ap (λ (x : Stepped). in_shape x.state.conn) same ∙ good_shape _ (good_advances st c.args.store.now before c.args.piece.now fits))
