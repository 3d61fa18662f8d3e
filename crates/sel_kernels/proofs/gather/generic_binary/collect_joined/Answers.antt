use Rattle.sel_kernels.proofs.Common.{◌≡◌, ◌∙◌, ◌-◌, ◌<◌, ◌++◌, List, ℕ, pos, length, take, drop, ap, sym, arith, ints, get_or, take_all, primitive_rows}
use Rattle.sel_kernels.proofs.Common.{joined_bytes, byte_count, Null, take_rows, Value, bytes_needed, ◌+◌}
use Rattle.std.proofs.lemmas.Slice.Zip.{AllZip-long}
use Rattle.sel_bits.specs.Signs.{magnitude}
use Rattle.sel_kernels.specs.Spans.{BeginsAt, plain_rows}
use Rattle.sel_kernels.proofs.TakenSpans.{end_at, from_first, joined_more, length-ends, needed_more, start_at}
use Rattle.sel_kernels.proofs.gather.generic_binary.collect_joined.{Given.Over, Goals.In_ok-ends}
use Rattle.sel_kernels.proofs.gather.generic_binary.collect_joined.Goals as goal

abbrev taken : (g : Over) → In_ok-ends g → List Value
taken g c = take_rows (plain_rows c.args.values.now) (primitive_rows c.args.indices.now)

many : (g : Over) (c : In_ok-ends g) → length (taken g c) ≡ length c.in_ok-ends.starts.items
many g c = sym (AllZip-long (λ v x. BeginsAt c.args.values.now.values v (g.S.NativeType.number x)) (taken g c) c.in_ok-ends.starts.items c.in_ok-ends.ensures.starts)

pub index-requires : goal.index-requires
index-requires g c =
    let at = (goal.at.index-requires g c).In_ok-ends in
    let spans = c.in_ok-ends in
    omega (arith, many g at, spans.starts.ok, length-ends g.O.NativeType.number spans.ends.items (taken g at) spans.ensures.ends, spans.ends.ok)

-- The end and the start of row k, read from those of all rows.
end : (g : Over) (c : In_ok-ends g) (k : ℕ) (x : g.row.O.Denot) → k < length c.in_ok-ends.starts.items → x ≡ get_or c.in_ok-ends.ends.items (k + 1) x →
    g.O.NativeType.number x ≡ pos (bytes_needed (take k (taken g c)) + byte_count (get_or (taken g c) k Null))
end g c k x inside is = end_at (taken g c) k (omega (arith, inside, many g c)) g.O.NativeType.number c.in_ok-ends.ends.items x c.in_ok-ends.ensures.ends is

begins : (g : Over) (c : In_ok-ends g) (k : ℕ) (x : g.row.S.Denot) → k < length c.in_ok-ends.starts.items → x ≡ get_or c.in_ok-ends.starts.items k x →
    BeginsAt c.args.values.now.values (get_or (taken g c) k Null) (g.S.NativeType.number x)
begins g c k x inside is =
    start_at (taken g c) k (omega (arith, inside, many g c)) g.S.NativeType.number c.args.values.now.values c.in_ok-ends.starts.items x c.in_ok-ends.ensures.starts is

pub to_position-end-requires : goal.to_position-end-requires
to_position-end-requires g c =
    let e = end g (goal.at.to_position-end-requires g c).In_ok-ends c.loop-k.k c.index.result.now (omega (arith, c.in_ok-ends.starts.ok)) c.index.ensures in
    rw e (omega (arith, ints))

pub to_position-requires : goal.to_position-requires
to_position-requires g c =
    let at = (goal.at.to_position-requires g c).In_ok-ends in
    from_first c.args.values.now.values (get_or (taken g at) c.loop-k.k Null) (g.S.NativeType.number c.index-in-loop-k.result.now)
    (begins g at c.loop-k.k c.index-in-loop-k.result.now (omega (arith, c.in_ok-ends.starts.ok)) c.index-in-loop-k.ensures)

pub overflow_sub-end : goal.overflow_sub-end
overflow_sub-end g c =
    let e = end g (goal.at.overflow_sub-end g c).In_ok-ends c.loop-k.k c.index.result.now (omega (arith, c.in_ok-ends.starts.ok)) c.index.ensures in
    omega (arith, ap magnitude (c.to_position-end.ensures ∙ e), c.loop-k.invariant.at)

pub push_span-requires : goal.push_span-requires
push_span-requires g c =
    let at = (goal.at.push_span-requires g c).In_ok-ends in
    let inside : c.loop-k.k < length c.in_ok-ends.starts.items = omega (arith, c.in_ok-ends.starts.ok) in
    let e = ap magnitude (c.to_position-end.ensures ∙ end g at c.loop-k.k c.index.result.now inside c.index.ensures) in
    let b = rw (← c.to_position.ensures) at (begins g at c.loop-k.k c.index-in-loop-k.result.now inside c.index-in-loop-k.ensures) in
    omega (arith, e, c.loop-k.invariant.at, b.0, ap (λ (l : List ℕ). length l) c.as_slice-bytes.ensures)

pub loop-k-preserved : goal.loop-k-preserved
loop-k-preserved g c =
    let at = (goal.at.loop-k-preserved g c).In_ok-ends in
    let rows = taken g at in
    let k = c.loop-k.k in
    let inside : k < length c.in_ok-ends.starts.items = omega (arith, c.in_ok-ends.starts.ok) in
    let below : k < length rows = omega (arith, inside, many g at) in
    let e = ap magnitude (c.to_position-end.ensures ∙ end g at k c.index.result.now inside c.index.ensures) in
    let b = rw (← c.to_position.ensures) at (begins g at k c.index-in-loop-k.result.now inside c.index-in-loop-k.ensures) in
    let count : c.to_position-end.result - c.loop-k.at ≡ byte_count (get_or rows k Null) = omega (arith, e, c.loop-k.invariant.at) in
    record {
      at = omega (arith, e, needed_more rows k below);
      bytes = c.in_ok-push_span.ensures.bytes ∙ (λ i. c.loop-k.invariant.bytes i ++ take (count i) (drop c.to_position.result (c.as_slice-bytes.ensures i)))
          ∙ ap (λ l. joined_bytes (take k rows) ++ l) (sym b.1) ∙ sym (joined_more rows k below);
    }

pub returns-clause-bytes : goal.returns-clause-bytes
returns-clause-bytes g c =
    let at = (goal.at.returns-clause-bytes g c).In_ok-ends in
    c.loop-k.invariant.bytes ∙ ap joined_bytes (take_all c.loop-k.k (taken g at) (omega (arith, many g at, c.in_ok-ends.starts.ok)))
