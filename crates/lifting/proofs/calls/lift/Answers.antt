use mathlib.Core.Path.{◌≡◌, refl, sym, ap, ◌∙◌}
use mathlib.Core.Bool.{Bool, ◌&&◌}
use mathlib.Core.List.{List}
use Prim.Native.Nat.{ℕ, ◌≤◌}
use native.Mathlib.Omega.{arith}
use lib.ListN.{length, take}
use lib.Seq.{length-take-le}
use Rattle.wire.specs.Test.{◌<?◌}
use Rattle.connection.specs.Step.{Stepped, state_of, stepped}
use Rattle.conn_step.specs.Answer.{stepped_by}
use Rattle.lifting.specs.declared.Lift.{Lift}
use Rattle.lifting.specs.declared.marks.Marks.{Marks}
use Rattle.lifting.specs.declared.way.Way.{Way}
use Rattle.lifting.specs.Call.{lifting_of}
use Rattle.lifting.specs.Answer.{lifted_by}
use Rattle.lifting.specs.Ways.{offer_of, goes, lifting_with}
use Rattle.lifting.proofs.CallLaws.{offer_to, offer_within, offer_has_room, offer_uses, goes_lifted}
use Rattle.lifting.proofs.calls.lift.Goals as goal

pub slice_bounds-step-end : goal.slice_bounds-step-end
slice_bounds-step-end c =
    let a = c.args in
    let within : c.offer-offered.result ≤ length a.piece.now = omega (arith, c.offer-offered.ensures, offer_within a.l.waiting a.l.id c.copies_content-copies.result (length a.piece.now) (length a.out.now)) in
    sym (length-take-le _ _ within)

-- The step is over what the definition offers.
stepped_on : (l : Lift) (gathered store piece out : List ℕ) (copies : Bool) (n : ℕ) (s : Stepped)
    → copies ≡ (l.copied && (0 <? l.conn.frame.position.content))
    → n ≡ offer_of l.waiting l.id copies (length piece) (length out)
    → s ≡ stepped (state_of l.conn gathered) store (take n piece)
    → s ≡ stepped (state_of l.conn gathered) store (take (offer_to (lifting_of l gathered) piece out) piece)
stepped_on l gathered store piece out copies n s same offered by_step =
    by_step
    ∙ ap (λ (k : ℕ). stepped (state_of l.conn gathered) store (take k piece))
    (offered ∙ ap (λ (x : Bool). offer_of l.waiting l.id x (length piece) (length out)) same)

pub slice_bounds-go-end : goal.slice_bounds-go-end
slice_bounds-go-end c =
    let a = c.args in
    let went = stepped_on a.l a.gathered.now a.store.now a.piece.now a.out.now _ _ _ c.copies_content-copies.ensures c.offer-offered.ensures c.step-stepped.ensures in
    sym (length-take-le _ _ (offer_uses (lifting_of a.l a.gathered.now) a.piece.now a.out.now (state_of a.l.conn a.gathered.now) a.store.now c.step-stepped.result.used (ap (λ (y : Stepped). y.used) went)))

pub returns : goal.returns
returns c =
    let a = c.args in
    let went = stepped_on a.l a.gathered.now a.store.now a.piece.now a.out.now _ _ _ c.copies_content-copies.ensures c.offer-offered.ensures c.step-stepped.ensures in
    let l = lifting_of a.l a.gathered.now in
    let st = state_of a.l.conn a.gathered.now in
    let s = stepped_by c.step-stepped.result c.step-stepped.new.gathered c.step-stepped.new.store in
    let used = take c.step-stepped.result.used a.piece.now in
    let room = offer_has_room l a.piece.now a.out.now st a.store.now c.step-stepped.result.used (ap (λ (y : Stepped). y.used) went) in
    let copies = ap (λ (m : Marks). m.copied && (0 <? a.l.conn.frame.position.content)) c.marks_of-marks.ensures in
    ap (λ (y : Lift). lifted_by (record { lift = y; result = c.go-outcome.result.result }) s.state.gathered s.store c.go-outcome.new.out) c.lift_of.ensures
    ∙ c.go-outcome.ensures st s (record { position = refl; opened = refl; told = refl }) (λ t. room (sym copies ∙ t))
    ∙ ap (λ (m : Marks). goes c.way_of-way.result (lifting_with st a.l.id m) s used a.out.now) c.marks_of-marks.ensures
    ∙ ap (λ (w : Way). goes w l s used a.out.now) c.way_of-way.ensures
    ∙ goes_lifted l a.store.now a.piece.now a.out.now c.step-stepped.result.result s went refl
