use native.Mathlib.Omega.{arith}
use Prim.Native.Nat.{◌-◌, ◌≤◌}
use lib.ListN.{drop}
use Rattle.pair_stream.proofs.PartLaws.{take_short, parts_copied}
use Rattle.pair_stream.proofs.copy_part.Goals as goal

pub overflow_add-at : goal.overflow_add-at
overflow_add-at c =
    let first : c.copy_some-k.result ≤ c.args.n =
    let a = c.args in
    omega (arith, c.copy_some-k.ensures.0, take_short a.n (drop a.from a.a.now)) in
    omega (arith, first)

pub overflow_sub-n : goal.overflow_sub-n
overflow_sub-n c =
    let first : c.copy_some-k.result ≤ c.args.n =
    let a = c.args in
    omega (arith, c.copy_some-k.ensures.0, take_short a.n (drop a.from a.a.now)) in
    omega (arith, first)

pub overflow_add-at-2 : goal.overflow_add-at-2
overflow_add-at-2 c =
    let first : c.copy_some-k.result ≤ c.args.n =
    let a = c.args in
    omega (arith, c.copy_some-k.ensures.0, take_short a.n (drop a.from a.a.now)) in
    let next : c.copy_some-m.result ≤ c.args.n - c.copy_some-k.result =
    let a = c.args in
    omega (arith, c.copy_some-m.ensures.0, take_short (a.n - c.copy_some-k.result) (drop c.past-second.result a.b.now)) in
    omega (arith, first, next)

pub overflow_add-at-3 : goal.overflow_add-at-3
overflow_add-at-3 c =
    let first : c.copy_some-k.result ≤ c.args.n =
    let a = c.args in
    omega (arith, c.copy_some-k.ensures.0, take_short a.n (drop a.from a.a.now)) in
    let next : c.copy_some-m.result ≤ c.args.n - c.copy_some-k.result =
    let a = c.args in
    omega (arith, c.copy_some-m.ensures.0, take_short (a.n - c.copy_some-k.result) (drop c.past-second.result a.b.now)) in
    omega (arith, first, next)

pub overflow_sub-n-2 : goal.overflow_sub-n-2
overflow_sub-n-2 c =
    let first : c.copy_some-k.result ≤ c.args.n =
    let a = c.args in
    omega (arith, c.copy_some-k.ensures.0, take_short a.n (drop a.from a.a.now)) in
    let next : c.copy_some-m.result ≤ c.args.n - c.copy_some-k.result =
    let a = c.args in
    omega (arith, c.copy_some-m.ensures.0, take_short (a.n - c.copy_some-k.result) (drop c.past-second.result a.b.now)) in
    omega (arith, first, next)

pub overflow_sub-n-3 : goal.overflow_sub-n-3
overflow_sub-n-3 c =
    let first : c.copy_some-k.result ≤ c.args.n =
    let a = c.args in
    omega (arith, c.copy_some-k.ensures.0, take_short a.n (drop a.from a.a.now)) in
    let next : c.copy_some-m.result ≤ c.args.n - c.copy_some-k.result =
    let a = c.args in
    omega (arith, c.copy_some-m.ensures.0, take_short (a.n - c.copy_some-k.result) (drop c.past-second.result a.b.now)) in
    omega (arith, first, next)

pub returns : goal.returns
returns c =
    let a = c.args in
    parts_copied a.out.now a.at a.from a.n a.a.now a.b.now a.c.now c.requires
    c.copy_some-k.ensures.0 c.copy_some-k.ensures.1 c.past-second.ensures
    c.copy_some-m.ensures.0 c.copy_some-m.ensures.1 c.past.ensures c.copy_some.ensures.1
