use mathlib.Core.Path.{◌≡◌, sym, ap, ◌∙◌}
use Prim.Native.Nat.{ℕ, ◌-◌, ◌≤◌}
use native.Mathlib.Omega.{arith}
use lib.ListN.{length, take, length-take}
use Rattle.record_reader.specs.declared.Phase.{Phase}
use Rattle.record_reader.specs.declared.Advanced.{Advanced}
use Rattle.server.specs.Step.{leaves, on_phase}
use Rattle.server.specs.Decision.{inner_in}
use Rattle.server_step.specs.Outcome.{phased, decided_leaves, phase_leaves}
use Rattle.server_step.proofs.Laws.{used_within, content_within, fed_less}
use Rattle.server_step.proofs.go_on.Goals as goal

pub slice_bounds-decide-end : goal.slice_bounds-decide-end
slice_bounds-decide-end c =
    let fits : c.advance-a.result.used ≤ length c.args.piece.now =
    let e : c.advance-a.result.used ≡ _ = ap (λ (x : Advanced). x.used) c.advance-a.ensures in
    omega (arith, used_within c.args.f.position c.args.piece.now, e) in
    fits

pub decide-m-requires : goal.decide-m-requires
decide-m-requires c =
    let few : c.advance-a.result.phase ≡ Phase.Content → c.advance-a.result.used ≤ c.args.f.position.content =
    λ is.
    let e : c.advance-a.result.used ≡ _ = ap (λ (x : Advanced). x.used) c.advance-a.ensures in
    let content = content_within c.args.f.position c.args.piece.now (ap (λ (x : Advanced). x.phase) (sym c.advance-a.ensures) ∙ is) in
    omega (arith, content, e) in
    λ is.
    fed_less c.args.f.target c.args.f.gathered c.args.f.position.content (length (take (c.advance-a.result.used - 0) c.args.piece.now)) (omega (arith, length-take (c.advance-a.result.used - 0) c.args.piece.now, few is)) c.requires

pub returns : goal.returns
unfolding phased
returns c =
    λ t seen.
    let s = inner_in t c.args.f c.args.values.now in
    let n : c.advance-a.result.used - 0 ≡ c.advance-a.result.used = omega arith in
    decided_leaves c.advance-a.result.used c.advance-a.result.position c.decide-m.result t c.decide-m.new.values
    ∙ ap (leaves c.advance-a.result.used c.advance-a.result.position) (c.decide-m.ensures t seen)
    ∙ phase_leaves c.advance-a.result.phase t c.args.f c.args.values.now (take (c.advance-a.result.used - 0) c.args.piece.now) c.advance-a.result.used c.advance-a.result.position
    ∙ ap (λ (k : ℕ). on_phase c.advance-a.result.phase s (take k c.args.piece.now) c.advance-a.result.used c.advance-a.result.position) n
    ∙ ap (λ (x : Advanced). on_phase x.phase s (take x.used c.args.piece.now) x.used x.position) c.advance-a.ensures
