use Rattle.sel_kernels.proofs.Common.{◌∙◌, ◌<◌, ◌≤ℤ◌, ◌<ℤ◌, ◌∷◌, List, ℕ, pos, length, map, ap, subst, arith, ints, take_all, primitive_rows, offsets_of}
use Rattle.sel_kernels.proofs.Common.{ends_from, bytes_needed, take_rows, bit_or_true, Null, Value, byte_count, get_or, rules, ◌≡◌}
use Rattle.sel_kernels.specs.Spans.{AreStarts, BeginsAt, plain_rows}
use Rattle.sel_kernels.proofs.TakenSpans.{count, ended_more, needed_below, needed_more, placed, spanned, started_more}
use Rattle.sel_kernels.proofs.gather.generic_binary.spans_at.{Given.Over, Goals.After-span_if-start}
use Rattle.sel_kernels.proofs.Common.{err_from_is_err_and}
use Rattle.sel_kernels.proofs.gather.generic_binary.spans_at.Goals as goal

pub span_if-start-requires-clause-rising : goal.span_if-start-requires-clause-rising
span_if-start-requires-clause-rising g c = offsets_of g.O.NativeType.number c.as_slice-offsets.result.now c.args.values.now.offsets c.as_slice-offsets.ensures.numbers c.as_slice-offsets.ensures.rising

pub span_if-start-requires-clause-inside : goal.span_if-start-requires-clause-inside
span_if-start-requires-clause-inside g c =
    let values = c.args.values.now in
    let indices = c.args.indices.now in
    let k = c.loop-k.k in
    placed g.O.NativeType.number c.as_slice-offsets.result.now values.offsets values.values c.as_slice-offsets.ensures.numbers values.rising values.values_fit
    c.as_slice-places.result.now indices.values c.as_slice-places.ensures indices.validity indices.validity_fits c.requires.inside k (omega arith) c.bit_or_true.result
    (c.bit_or_true.ensures ∙ ap (λ bits. bit_or_true bits k) c.of_validity-valid.ensures)

abbrev taken : (g : Over) → After-span_if-start g → List Value
taken g c = take_rows (plain_rows c.args.values.now) (primitive_rows c.args.indices.now)

below : (g : Over) (c : After-span_if-start g) → c.loop-k.k < length (taken g c)
below g c =
    let values = c.args.values.now in
    let indices = c.args.indices.now in
    let long = count values.offsets values.values indices.values indices.validity indices.validity_fits c.requires.inside in
    omega (arith, c.loop-k-test.true, ap (λ (l : List ℕ). length l) c.as_slice-places.ensures, long)

-- Row k begins where its span starts, and is as long.
span : (g : Over) (c : After-span_if-start g) → BeginsAt c.args.values.now.values (get_or (taken g c) c.loop-k.k Null) (pos c.span_if-start.result.0)
    × (byte_count (get_or (taken g c) c.loop-k.k Null) ≡ c.span_if-start.result.1)
span g c =
    let values = c.args.values.now in
    let indices = c.args.indices.now in
    let valid = c.bit_or_true.ensures ∙ ap (λ bits. bit_or_true bits c.loop-k.k) c.of_validity-valid.ensures in
    spanned g.O.NativeType.number c.as_slice-offsets.result.now values.offsets values.values c.as_slice-offsets.ensures.numbers values.rising values.values_fit
    c.as_slice-places.result.now indices.values c.as_slice-places.ensures indices.validity indices.validity_fits c.requires.inside c.loop-k.k c.loop-k-test.true
    c.bit_or_true.result c.span_if-start.result.0 c.span_if-start.result.1 valid c.span_if-start.ensures.start c.span_if-start.ensures.len

pub offset_of-requires-in-loop-k : goal.offset_of-requires-in-loop-k
offset_of-requires-in-loop-k g c = omega (arith, ints, (span g (goal.at.offset_of-requires-in-loop-k g c).After-span_if-start).0.0, c.requires.narrow)

pub returns-in_err-ends : goal.returns-in_err-ends
returns-in_err-ends g c =
    let p = err_from_is_err_and c.from_residual.result c.from_residual.ensures.1 in
    rw (p.1, p.2) (record { ends = tt; starts = tt; count = tt; fits = tt; refusal = tt })

pub returns-in_err-starts : goal.returns-in_err-starts
returns-in_err-starts g c =
    let p = err_from_is_err_and c.from_residual-in_err-starts.result c.from_residual-in_err-starts.ensures.1 in
    rw (p.1, p.2) (record { ends = tt; starts = tt; count = tt; fits = tt; refusal = tt })

pub returns-then-len-most-clause-refusal : goal.returns-then-len-most-clause-refusal
returns-then-len-most-clause-refusal g c =
    let at = (goal.at.returns-then-len-most-clause-refusal g c).After-span_if-start in
    let more = needed_below (taken g at) c.loop-k.k (below g at) in
    subst (λ z. z <ℤ pos (bytes_needed (taken g at))) c.most_bytes-most.ensures (omega (arith, ints, more, (span g at).1, c.loop-k.invariant.count, c.if-len-most.true))

pub loop-k-preserved : goal.loop-k-preserved
loop-k-preserved g c =
    let at = (goal.at.loop-k-preserved g c).After-span_if-start in
    let rows = taken g at in
    let number = g.O.NativeType.number in
    let k = c.loop-k.k in
    let long = (span g at).1 in
    let ends = c.push_reserved-in-loop-k-2 in
    let starts = c.push_reserved-in-loop-k in
    record {
      ends = ended_more rows k (below g at) number c.loop-k.ends.items ends.new.self.items c.offset_of-in-loop-k-2.result _ c.loop-k.invariant.ends ends.ensures.items
          c.offset_of-in-loop-k-2.ensures (omega (arith, c.loop-k.invariant.count, long));
      starts = started_more rows k (below g at) g.S.NativeType.number c.args.values.now.values c.loop-k.starts.items starts.new.self.items _ c.span_if-start.result.0 c.loop-k.invariant.starts
          starts.ensures.items c.offset_of-in-loop-k.ensures (span g at).0;
      count = omega (arith, needed_more rows k (below g at), c.loop-k.invariant.count, long);
      most = omega arith;
      ends_count = omega (arith, ends.ensures.len, c.loop-k.invariant.ends_count);
      ends_room = omega (arith, ends.ensures.capacity, c.loop-k.invariant.ends_room);
      starts_count = omega (arith, starts.ensures.len, c.loop-k.invariant.starts_count);
      starts_room = omega (arith, starts.ensures.capacity, c.loop-k.invariant.starts_room);
    }

pub returns : goal.returns
returns g c =
    let values = c.args.values.now in
    let indices = c.args.indices.now in
    let greatest = g.O.NativeType.number g.O.NativeType.GREATEST in
    let long = count values.offsets values.values indices.values indices.validity indices.validity_fits c.requires.inside in
    let all = take_all c.loop-k.k (take_rows (plain_rows values) (primitive_rows indices))
    (omega (arith, c.loop-k-test.false, ap (λ (l : List ℕ). length l) c.as_slice-places.ensures, long)) in
    record {
      ends = c.loop-k.invariant.ends ∙ ap (λ rows. map pos (0 ∷ ends_from 0 rows)) all;
      starts = subst (λ rows. AreStarts g.S.NativeType.number values.values rows c.loop-k.starts.items) all c.loop-k.invariant.starts;
      count = c.loop-k.invariant.count ∙ ap bytes_needed all;
      fits =
          let most : pos c.loop-k.end ≤ℤ greatest = subst (λ z. pos c.loop-k.end ≤ℤ z) c.most_bytes-most.ensures (omega (arith, ints, c.loop-k.invariant.most)) in
          subst (λ n. pos n ≤ℤ greatest) (c.loop-k.invariant.count ∙ ap bytes_needed all) most;
      refusal = search rules;
    }
