use mathlib.Core.Path.{◌≡◌, refl, sym, ap, ◌∙◌}
use mathlib.Core.List.{List, []}
use Prim.Native.Nat.{ℕ}
use mathlib.Core.Bool.{Bool}
use lib.ListN.{length-take}
use Rattle.std.proofs.Common.{length-take-le}
use native.Mathlib.Omega.{arith}
use Rattle.record.specs.Names.{END_REQUEST, GET_VALUES_RESULT, UNKNOWN_TYPE}
use Rattle.record.specs.Body.{end_body_bytes}
use Rattle.record_writer.specs.Written.{record_bytes}
use Rattle.connection.specs.declared.event.Event.{Event}
use Rattle.connection.specs.declared.event.Status.{Status}
use Rattle.connection.specs.Codes.{event_of}
use Rattle.connection.specs.Calls.{values_of, owed, replied}
use Rattle.call_reply.specs.Answer.{filled_by}
use Rattle.call_reply.proofs.Laws.{Values, values_put, unowed}
use Rattle.call_reply.proofs.owed_reply.Goals as goal

pub slice_bounds-one_record-end-in-Query : goal.slice_bounds-one_record-end-in-Query
slice_bounds-one_record-end-in-Query c =
    let values : Values (values_of c.in-Query.max_conns c.in-Query.max_reqs c.in-Query.mpxs_conns) c.put_values-n.new.list c.put_values-n.result =
    values_put c.in-Query.max_conns c.in-Query.max_reqs c.in-Query.mpxs_conns c.put_values-n.ensures.0 c.put_values-n.ensures.1 in
    sym (length-take-le c.put_values-n.result c.put_values-n.new.list values.within)

pub one_record-requires-in-Query : goal.one_record-requires-in-Query
one_record-requires-in-Query c =
    let values : Values (values_of c.in-Query.max_conns c.in-Query.max_reqs c.in-Query.mpxs_conns) c.put_values-n.new.list c.put_values-n.result =
    values_put c.in-Query.max_conns c.in-Query.max_reqs c.in-Query.mpxs_conns c.put_values-n.ensures.0 c.put_values-n.ensures.1 in
    omega (arith, values, length-take c.put_values-n.result c.put_values-n.new.list)

pub returns-in-Refuse : goal.returns-in-Refuse
unfolding replied owed
returns-in-Refuse c =
    let s = c.args in
    let id = c.in-Refuse.id in
    c.one_record.ensures
    ∙ ap (λ (x : List ℕ). filled_by (record_bytes END_REQUEST id x) s.out.now) (c.end_body-body.ensures ∙ ap (end_body_bytes 0) c.status_number.ensures)
    ∙ ap (λ (e : Event). replied (event_of e) s.out.now) (sym c.in-Refuse.is)

pub returns-in-Query : goal.returns-in-Query
unfolding replied owed
returns-in-Query c =
    let values : Values (values_of c.in-Query.max_conns c.in-Query.max_reqs c.in-Query.mpxs_conns) c.put_values-n.new.list c.put_values-n.result =
    values_put c.in-Query.max_conns c.in-Query.max_reqs c.in-Query.mpxs_conns c.put_values-n.ensures.0 c.put_values-n.ensures.1 in
    let s = c.args in
    c.one_record-in-Query.ensures
    ∙ ap (λ (x : List ℕ). filled_by (record_bytes GET_VALUES_RESULT 0 x) s.out.now) values.front
    ∙ ap (λ (e : Event). replied (event_of e) s.out.now) (sym c.in-Query.is)

pub returns-in-Unknown : goal.returns-in-Unknown
unfolding replied owed
returns-in-Unknown c =
    let s = c.args in
    c.one_record-in-Unknown.ensures
    ∙ ap (λ (x : List ℕ). filled_by (record_bytes UNKNOWN_TYPE 0 x) s.out.now) c.unknown_type_body-body.ensures
    ∙ ap (λ (e : Event). replied (event_of e) s.out.now) (sym c.in-Unknown.is)

-- no other event owes anything
none_owed : (e : Event) → ((id : ℕ) (status : Status) → e ≡ Event.Refuse id status → ⊥) → ((conns reqs mpxs : Bool) → e ≡ Event.Query conns reqs mpxs → ⊥)
    → ((kind : ℕ) → e ≡ Event.Unknown kind → ⊥) → owed (event_of e) ≡ []
unfolding owed
none_owed (Event.Refuse id status) r q u = absurd (r id status refl)
none_owed (Event.Query conns reqs mpxs) r q u = absurd (q conns reqs mpxs refl)
none_owed (Event.Unknown kind) r q u = absurd (u kind refl)
none_owed Event.Nothing r q u = refl
none_owed (Event.Open id role keep) r q u = refl
none_owed (Event.Ready id n) r q u = refl
none_owed (Event.Data id stream n) r q u = refl
none_owed (Event.End id stream measure) r q u = refl
none_owed (Event.Abort id) r q u = refl
none_owed (Event.Fault id fault) r q u = refl
none_owed (Event.Closed cause) r q u = refl

pub returns-in_default : goal.returns-in_default
returns-in_default c =
    unowed (event_of c.args.e) c.args.out.now (none_owed c.args.e c.in_default.not-Refuse c.in_default.not-Query c.in_default.not-Unknown)
