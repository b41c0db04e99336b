use native.Mathlib.Omega.{arith}
use mathlib.Core.List.{[], ◌∷◌}
use Rattle.connection.specs.Step.{MAX_CONNS, MAX_REQS, MPXS_CONNS}
use Rattle.connection.specs.Calls.{values_of}
use Rattle.call_reply.specs.Answer.{named_pair}
use Rattle.call_reply.proofs.Laws.{lengths, three_put}
use Rattle.call_reply.proofs.put_values.Goals as goal

pub put_named-a-requires : goal.put_named-a-requires
put_named-a-requires c =
    let a = c.args in
    (omega arith, omega arith, omega (arith, lengths a.conns a.reqs a.mpxs))

pub put_named-b-requires : goal.put_named-b-requires
put_named-b-requires c =
    let a = c.args in
    (omega arith, omega arith, omega (arith, lengths a.conns a.reqs a.mpxs))

pub put_named-requires : goal.put_named-requires
put_named-requires c =
    let a = c.args in
    (omega arith, omega arith, omega (arith, lengths a.conns a.reqs a.mpxs))

pub returns : goal.returns
unfolding values_of
returns c =
    let a = c.args in
    let x = named_pair a.conns MAX_CONNS (49 ∷ []) in
    let y = named_pair a.reqs MAX_REQS (49 ∷ 54 ∷ []) in
    let z = named_pair a.mpxs MPXS_CONNS (49 ∷ []) in
    three_put a.list.now x y z (omega (arith, lengths a.conns a.reqs a.mpxs)) c.put_named-a.ensures.0 c.put_named-a.ensures.1 c.put_named-b.ensures.0 c.put_named-b.ensures.1 c.put_named.ensures.0 c.put_named.ensures.1
