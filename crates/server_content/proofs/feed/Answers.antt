use mathlib.Core.Path.{◌≡◌, sym, ap, ◌∙◌}
use mathlib.Core.List.{List}
use Prim.Native.Nat.{ℕ}
use native.Mathlib.Omega.{arith}
use lib.ListN.{length}
use Rattle.connection.specs.declared.state.Table.{Table}
use Rattle.record.specs.Names.{STDOUT, STDERR}
use Rattle.server.specs.declared.state.Target.{Target}
use Rattle.server.specs.declared.decision.Decision.{Decision}
use Rattle.server.specs.Event.{Event}
use Rattle.server.specs.Step.{told, passed, on_target, taken}
use Rattle.server.specs.Decision.{inner_in, applied}
use Rattle.server_content.specs.Fed.{Fed, fed_at, id_at}
use borrow.Author.Rules.{rules}
use Rattle.server_content.proofs.feed.Goals as goal

pub bounds-ids-slot : goal.bounds-ids-slot
bounds-ids-slot c =
    let fed : (k : Target) → c.args.f.target ≡ k → Fed k c.args.f.gathered (length c.args.bytes.now) =
    λ k e. fed_at c.args.f.target k c.args.f.gathered (length c.args.bytes.now) c.requires e in
    omega (arith, fed _ c.in-Stdout.is)

pub bounds-ids-slot-in-Stderr : goal.bounds-ids-slot-in-Stderr
bounds-ids-slot-in-Stderr c =
    let fed : (k : Target) → c.args.f.target ≡ k → Fed k c.args.f.gathered (length c.args.bytes.now) =
    λ k e. fed_at c.args.f.target k c.args.f.gathered (length c.args.bytes.now) c.requires e in
    omega (arith, fed _ c.in-Stderr.is)

pub bounds-ids-slot-in-End : goal.bounds-ids-slot-in-End
bounds-ids-slot-in-End c =
    let fed : (k : Target) → c.args.f.target ≡ k → Fed k c.args.f.gathered (length c.args.bytes.now) =
    λ k e. fed_at c.args.f.target k c.args.f.gathered (length c.args.bytes.now) c.requires e in
    omega (arith, (fed _ c.in-End.is).0)

pub of_end-requires : goal.of_end-requires
of_end-requires c =
    let fed : (k : Target) → c.args.f.target ≡ k → Fed k c.args.f.gathered (length c.args.bytes.now) =
    λ k e. fed_at c.args.f.target k c.args.f.gathered (length c.args.bytes.now) c.requires e in
    (fed _ c.in-End.is).1

pub of_values-requires : goal.of_values-requires
of_values-requires c =
    let fed : (k : Target) → c.args.f.target ≡ k → Fed k c.args.f.gathered (length c.args.bytes.now) =
    λ k e. fed_at c.args.f.target k c.args.f.gathered (length c.args.bytes.now) c.requires e in
    (fed _ c.in-Values.is, search rules)

pub of_unknown-requires : goal.of_unknown-requires
of_unknown-requires c =
    let fed : (k : Target) → c.args.f.target ≡ k → Fed k c.args.f.gathered (length c.args.bytes.now) =
    λ k e. fed_at c.args.f.target k c.args.f.gathered (length c.args.bytes.now) c.requires e in
    fed _ c.in-Unknown.is

pub returns-in-Skip : goal.returns-in-Skip
unfolding taken
returns-in-Skip c =
    let takes : (k : Target) (t : Table) (values : List ℕ) → c.args.f.target ≡ k → on_target k (inner_in t c.args.f values) c.args.bytes.now c.args.left ≡ taken (inner_in t c.args.f values) c.args.bytes.now c.args.left =
    λ k t values e. ap (λ (w : Target). on_target w (inner_in t c.args.f values) c.args.bytes.now c.args.left) (sym e) in
    λ t e. ap (λ (m : Decision). applied m t c.args.values.now) c.passing.ensures ∙ takes _ t c.args.values.now c.in-Skip.is

pub returns-in-Stdout : goal.returns-in-Stdout
unfolding taken
returns-in-Stdout c =
    let takes : (k : Target) (t : Table) (values : List ℕ) → c.args.f.target ≡ k → on_target k (inner_in t c.args.f values) c.args.bytes.now c.args.left ≡ taken (inner_in t c.args.f values) c.args.bytes.now c.args.left =
    λ k t values e. ap (λ (w : Target). on_target w (inner_in t c.args.f values) c.args.bytes.now c.args.left) (sym e) in
    λ t e.
    ap (λ (m : Decision). applied m t c.args.values.now) c.of_output.ensures
    ∙ ap (λ (n : ℕ). told (passed (inner_in t c.args.f c.args.values.now) c.args.left) (Event.Output n STDOUT (length c.args.bytes.now))) (sym (id_at t c.args.ids.now c.in-Stdout.i e))
    ∙ takes _ t c.args.values.now c.in-Stdout.is

pub returns-in-Stderr : goal.returns-in-Stderr
unfolding taken
returns-in-Stderr c =
    let takes : (k : Target) (t : Table) (values : List ℕ) → c.args.f.target ≡ k → on_target k (inner_in t c.args.f values) c.args.bytes.now c.args.left ≡ taken (inner_in t c.args.f values) c.args.bytes.now c.args.left =
    λ k t values e. ap (λ (w : Target). on_target w (inner_in t c.args.f values) c.args.bytes.now c.args.left) (sym e) in
    λ t e.
    ap (λ (m : Decision). applied m t c.args.values.now) c.of_output-in-Stderr.ensures
    ∙ ap (λ (n : ℕ). told (passed (inner_in t c.args.f c.args.values.now) c.args.left) (Event.Output n STDERR (length c.args.bytes.now))) (sym (id_at t c.args.ids.now c.in-Stderr.i e))
    ∙ takes _ t c.args.values.now c.in-Stderr.is

pub returns-in-End : goal.returns-in-End
unfolding taken
returns-in-End c =
    let takes : (k : Target) (t : Table) (values : List ℕ) → c.args.f.target ≡ k → on_target k (inner_in t c.args.f values) c.args.bytes.now c.args.left ≡ taken (inner_in t c.args.f values) c.args.bytes.now c.args.left =
    λ k t values e. ap (λ (w : Target). on_target w (inner_in t c.args.f values) c.args.bytes.now c.args.left) (sym e) in
    λ t e.
    c.of_end.ensures t c.args.values.now (id_at t c.args.ids.now c.in-End.i e) ∙ takes _ t c.args.values.now c.in-End.is

pub returns-in-Values : goal.returns-in-Values
unfolding taken
returns-in-Values c =
    let takes : (k : Target) (t : Table) (values : List ℕ) → c.args.f.target ≡ k → on_target k (inner_in t c.args.f values) c.args.bytes.now c.args.left ≡ taken (inner_in t c.args.f values) c.args.bytes.now c.args.left =
    λ k t values e. ap (λ (w : Target). on_target w (inner_in t c.args.f values) c.args.bytes.now c.args.left) (sym e) in
    λ t e. c.of_values.ensures t ∙ takes _ t c.args.values.now c.in-Values.is

pub returns-in-Unknown : goal.returns-in-Unknown
unfolding taken
returns-in-Unknown c =
    let takes : (k : Target) (t : Table) (values : List ℕ) → c.args.f.target ≡ k → on_target k (inner_in t c.args.f values) c.args.bytes.now c.args.left ≡ taken (inner_in t c.args.f values) c.args.bytes.now c.args.left =
    λ k t values e. ap (λ (w : Target). on_target w (inner_in t c.args.f values) c.args.bytes.now c.args.left) (sym e) in
    λ t e. c.of_unknown.ensures t c.args.values.now ∙ takes _ t c.args.values.now c.in-Unknown.is
