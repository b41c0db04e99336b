use mathlib.Core.Path.{◌≡◌, sym, ap, ◌∙◌}
use mathlib.Core.Bool.{true}
use mathlib.Core.List.{List}
use Prim.Native.Nat.{ℕ}
use native.Mathlib.Omega.{arith}
use lib.ListN.{length}
use borrow.Author.Tests.{lt-ltb, le-ltb}
use Rattle.record_writer.specs.Written.{stream_fits, stream_placed}
use Rattle.pairs.specs.Pair.{pair_bytes}
use Rattle.pair_stream.specs.Stream.{pair_streamed}
use Rattle.pair_stream.proofs.StreamLaws.{Head, head, pair_placed}
use Rattle.pair_stream.proofs.write_pair_stream.Goals as goal

pub returns-then-n-gt65535 : goal.returns-then-n-gt65535
unfolding pair_streamed
returns-then-n-gt65535 c = simp (lt-ltb _ _ c.if-n-gt65535.true)

pub returns-then-v-gt65535 : goal.returns-then-v-gt65535
unfolding pair_streamed
returns-then-v-gt65535 c = simp (le-ltb _ _ c.if-n-gt65535.false, lt-ltb _ _ c.if-v-gt65535.true)

pub overflow_add-h : goal.overflow_add-h
overflow_add-h c =
    let lengths : Head c.args.name.now c.args.value.now c.length_fields-fields.result.bytes c.length_fields-fields.result.count =
    head c.args.name.now c.args.value.now c.length_fields-fields.result.bytes c.length_fields-fields.result.count c.length_fields-fields.ensures.0 c.length_fields-fields.ensures.1 in
    omega (arith, lengths)

pub overflow_add-h-2 : goal.overflow_add-h-2
overflow_add-h-2 c =
    let lengths : Head c.args.name.now c.args.value.now c.length_fields-fields.result.bytes c.length_fields-fields.result.count =
    head c.args.name.now c.args.value.now c.length_fields-fields.result.bytes c.length_fields-fields.result.count c.length_fields-fields.ensures.0 c.length_fields-fields.ensures.1 in
    omega (arith, lengths)

pub returns-then-not-stream_fits : goal.returns-then-not-stream_fits
unfolding pair_streamed
returns-then-not-stream_fits c =
    let lengths : Head c.args.name.now c.args.value.now c.length_fields-fields.result.bytes c.length_fields-fields.result.count =
    head c.args.name.now c.args.value.now c.length_fields-fields.result.bytes c.length_fields-fields.result.count c.length_fields-fields.ensures.0 c.length_fields-fields.ensures.1 in
    let a = c.args in
    let short = ap (λ (n : ℕ). stream_fits a.size n 0 (length a.out.now)) (sym (lengths).size) ∙ sym c.stream_fits.ensures ∙ c.if-not-stream_fits.true in
    simp (le-ltb _ _ c.if-n-gt65535.false, le-ltb _ _ c.if-v-gt65535.false, short)

pub slice_bounds-put_records-end : goal.slice_bounds-put_records-end
slice_bounds-put_records-end c =
    let lengths : Head c.args.name.now c.args.value.now c.length_fields-fields.result.bytes c.length_fields-fields.result.count =
    head c.args.name.now c.args.value.now c.length_fields-fields.result.bytes c.length_fields-fields.result.count c.length_fields-fields.ensures.0 c.length_fields-fields.ensures.1 in
    (lengths).within

pub put_records-requires : goal.put_records-requires
put_records-requires c =
    let lengths : Head c.args.name.now c.args.value.now c.length_fields-fields.result.bytes c.length_fields-fields.result.count =
    head c.args.name.now c.args.value.now c.length_fields-fields.result.bytes c.length_fields-fields.result.count c.length_fields-fields.ensures.0 c.length_fields-fields.ensures.1 in
    let fits : stream_fits c.args.size (length (pair_bytes c.args.name.now c.args.value.now)) 0 (length c.args.out.now) ≡ true =
    let a = c.args in
    ap (λ (n : ℕ). stream_fits a.size n 0 (length a.out.now)) (sym (lengths).size) ∙ sym c.stream_fits.ensures ∙ c.if-not-stream_fits.false in
    let a = c.args in
    let h = lengths in
    (omega (arith, h.short, h.front), ap (λ (l : List ℕ). stream_fits a.size (length l) 0 (length a.out.now)) h.joined ∙ fits)

pub returns : goal.returns
returns c =
    let lengths : Head c.args.name.now c.args.value.now c.length_fields-fields.result.bytes c.length_fields-fields.result.count =
    head c.args.name.now c.args.value.now c.length_fields-fields.result.bytes c.length_fields-fields.result.count c.length_fields-fields.ensures.0 c.length_fields-fields.ensures.1 in
    let fits : stream_fits c.args.size (length (pair_bytes c.args.name.now c.args.value.now)) 0 (length c.args.out.now) ≡ true =
    let a = c.args in
    ap (λ (n : ℕ). stream_fits a.size n 0 (length a.out.now)) (sym (lengths).size) ∙ sym c.stream_fits.ensures ∙ c.if-not-stream_fits.false in
    let a = c.args in
    pair_placed a.out.now a.kind a.id a.name.now a.value.now a.size c.if-n-gt65535.false c.if-v-gt65535.false (fits)
    (c.put_records.ensures ∙ ap (λ (l : List ℕ). stream_placed a.out.now 0 a.kind a.id l a.size) (lengths).joined)
