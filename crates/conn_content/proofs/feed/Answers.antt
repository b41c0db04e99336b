use mathlib.Core.Path.{refl, sym, ap, ◌∙◌}
use native.Mathlib.Omega.{arith}
use Rattle.connection.proofs.Laws.PartLaws.{part_lent, part_back}
use Rattle.connection.specs.Decision.{open_state, applied}
use Rattle.conn_content.proofs.Laws.{aimed_at, params_low, on_known}
use borrow.Author.Rules.{rules}
use Rattle.conn_content.proofs.feed.Goals as goal

pub of_begin-requires : goal.of_begin-requires
of_begin-requires c =
    let a = c.args in
    let b = aimed_at a.f.target _ a.t a.f.gathered a.f.position.content c.requires.1 c.in-Begin.is in
    (omega (arith, b.eight), c.requires.2)

pub of_query-requires : goal.of_query-requires
of_query-requires c =
    let a = c.args in
    let b = aimed_at a.f.target _ a.t a.f.gathered a.f.position.content c.requires.1 c.in-Query.is in
    (omega (arith, b), c.requires.2, search rules)

pub overflow_mul-a : goal.overflow_mul-a
overflow_mul-a c =
    let a = c.args in
    omega (arith, params_low a.f.target c.in-Params.i a.t a.f.gathered a.f.position.content c.requires.1 c.in-Params.is)

pub overflow_add-a : goal.overflow_add-a
overflow_add-a c =
    let a = c.args in
    omega (arith, params_low a.f.target c.in-Params.i a.t a.f.gathered a.f.position.content c.requires.1 c.in-Params.is)

pub slice_bounds-of_params-start : goal.slice_bounds-of_params-start
slice_bounds-of_params-start c =
    let a = c.args in
    omega (arith, params_low a.f.target c.in-Params.i a.t a.f.gathered a.f.position.content c.requires.1 c.in-Params.is)

pub slice_bounds-of_params-end : goal.slice_bounds-of_params-end
slice_bounds-of_params-end c =
    let a = c.args in
    omega (arith, params_low a.f.target c.in-Params.i a.t a.f.gathered a.f.position.content c.requires.1 c.in-Params.is)

pub returns-in-Skip : goal.returns-in-Skip
returns-in-Skip c =
    let a = c.args in
    c.skipped.ensures a.t a.gathered.now a.store.now
    ∙ on_known a.f.target _ (open_state a.t a.f a.gathered.now) a.store.now a.bytes.now a.p c.in-Skip.is

pub returns-in-Begin : goal.returns-in-Begin
returns-in-Begin c =
    let a = c.args in
    c.of_begin.ensures a.t a.gathered.now a.store.now (sym c.lowest_free-free.ensures)
    ∙ on_known a.f.target _ (open_state a.t a.f a.gathered.now) a.store.now a.bytes.now a.p c.in-Begin.is

pub returns-in-Query : goal.returns-in-Query
returns-in-Query c =
    let a = c.args in
    c.of_query.ensures a.t a.store.now
    ∙ on_known a.f.target _ (open_state a.t a.f a.gathered.now) a.store.now a.bytes.now a.p c.in-Query.is

pub returns-in-Params : goal.returns-in-Params
returns-in-Params c =
    let a = c.args in
    let i = c.in-Params.i in
    ap (applied c.of_params.result a.t a.gathered.now) (part_back a.store.now i c.of_params.new.area)
    ∙ c.of_params.ensures a.t a.gathered.now a.store.now (sym c.request_at-r.ensures) (part_lent a.store.now i)
    ∙ on_known a.f.target _ (open_state a.t a.f a.gathered.now) a.store.now a.bytes.now a.p c.in-Params.is

pub returns-in-Stdin : goal.returns-in-Stdin
returns-in-Stdin c =
    let a = c.args in
    c.of_stream.ensures a.t a.gathered.now a.store.now a.bytes.now (sym c.request_at-r-in-Stdin.ensures) refl
    ∙ on_known a.f.target _ (open_state a.t a.f a.gathered.now) a.store.now a.bytes.now a.p c.in-Stdin.is

pub returns-in-Data : goal.returns-in-Data
returns-in-Data c =
    let a = c.args in
    c.of_stream-in-Data.ensures a.t a.gathered.now a.store.now a.bytes.now (sym c.request_at-r-in-Data.ensures) refl
    ∙ on_known a.f.target _ (open_state a.t a.f a.gathered.now) a.store.now a.bytes.now a.p c.in-Data.is
