use mathlib.Core.Path.{◌≡◌, refl, sym, ap, ◌∙◌}
use Prim.Native.Nat.{ℕ}
use mathlib.Core.Bool.{Bool, true, false}
use native.Mathlib.Omega.{arith}
use mir.Val.{Fits}
use mir.Syntax.{w8, w16}
use Rattle.record.specs.declared.header.Header.{Header}
use Rattle.connection.specs.Fits.{HeaderFits}
use Rattle.record_reader.specs.declared.Phase.{Phase}
use Rattle.connection.specs.Step.{on_phase}
use Rattle.connection.specs.Decision.{open_state}
use borrow.Author.Rules.{rules}
use Rattle.conn_step.proofs.decide.Goals as goal

-- a phase that is no header's
abbrev is_whole : Phase → Bool
is_whole Phase.Content = false
is_whole Phase.Padding = false
is_whole Phase.Part = false
is_whole (Phase.Whole h) = true

no_header : {p q : Phase} → q ≡ p → is_whole q ≡ false → (h : Header) → p ≡ Phase.Whole h → HeaderFits h
no_header e f h w = let z : ◌≡◌ {A = ℕ} 0 1 = cc (sym f ∙ ap is_whole (e ∙ w)) in absurd (omega arith)

pub returns-in-Content : goal.returns-in-Content
returns-in-Content c = (c.feed.ensures ∙ ap (λ (w : Phase). on_phase w (open_state c.args.t c.args.f c.args.gathered.now) c.args.store.now c.args.bytes.now c.args.p) (sym c.in-Content.is), no_header (sym c.in-Content.is) refl)

pub returns-in-Whole : goal.returns-in-Whole
returns-in-Whole c =
    let is = c.in-Whole.is in (
      c.judge.ensures c.args.f c.args.gathered.now ∙ ap (λ (w : Phase). on_phase w (open_state c.args.t c.args.f c.args.gathered.now) c.args.store.now c.args.bytes.now c.args.p) (sym is),
      λ h e.
          let same : Phase.Whole c.in-Whole.h ≡ Phase.Whole h = sym is ∙ e in
          let q : c.in-Whole.h ≡ h = cc in
          let content : Fits w16 c.in-Whole.h.content = search rules in
          let padding : Fits w8 c.in-Whole.h.padding = search rules in
          rw (← q) (record { content = omega (arith, content.fits); padding = omega (arith, padding.fits) }),
    )
