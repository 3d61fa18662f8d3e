use Rattle.sel_kernels.proofs.Common.{◌∙◌, length, map, take, take-map, drop-map, length-map, ap, sym, ◌==◌, IfOk-weaker, Bits, bits_from, word_of}
use Rattle.sel_kernels.proofs.Takes.{all_packed, below_parts, bits_at, length-bits_at, word_at_lt, word_packed}
use Rattle.sel_kernels.proofs.gather.bitmap.take_bits_at.Goals as goal

pub word_of_places-requires-clause-inside : goal.word_of_places-requires-clause-inside
word_of_places-requires-clause-inside g c =
    let n = length c.args.values.now.bits in
    let f = g.R.PlaceRule.position n in
    let rest = c.loop-bytes.rest.now in
    rw (c.split_at.ensures.front, c.as_slice-shift.ensures.len, sym (take-map f c.min.result rest)) (below_parts n c.min.result (map f rest) c.loop-bytes.invariant.inside).0

pub append-requires-clause-fits : goal.append-requires-clause-fits
append-requires-clause-fits g c =
    let bits = c.as_slice-shift.result in
    let f = g.R.PlaceRule.position bits.2 in
    let places = c.split_at.result.0.now in
    rw (sym (length-map places f)) (word_at_lt (bits_from bits.0.now bits.1 bits.2) (map f places) c.word_of_places.result c.word_of_places.ensures)

pub loop-bytes-preserved : goal.loop-bytes-preserved
loop-bytes-preserved g c =
    let bs = c.args.values.now.bits in
    let f = g.R.PlaceRule.position (length bs) in
    let rest = c.loop-bytes.rest.now in
    let n = c.min.result in
    let front = ap (map f) c.split_at.ensures.front ∙ sym (take-map f n rest) in
    let back = ap (map f) c.split_at.ensures.back ∙ sym (drop-map f n rest) in
    let word =
    c.word_of_places.ensures
    ∙ ap (λ m. word_of (bits_at (bits_from c.as_slice-shift.result.0.now c.as_slice-shift.result.1 c.as_slice-shift.result.2) (map (g.R.PlaceRule.position m) c.split_at.result.0.now))) c.as_slice-shift.ensures.len
    ∙ ap (λ l. word_of (bits_at l (map f c.split_at.result.0.now))) (sym c.as_slice-shift.ensures.bits)
    ∙ ap (λ l. word_of (bits_at bs l)) front in
    let long = ap length c.split_at.ensures.front ∙ sym (length-map (take n rest) f) ∙ ap length (sym (take-map f n rest)) in
    record {
      bits =
          rw (c.in_ok-append.ensures.appended, long, back)
          (word_packed bs c.loop-bytes.taken (map f rest) (map f c.args.indices.now) n c.word_of_places.result c.loop-bytes.invariant.bits word);
      inside = rw back (below_parts (length bs) n (map f rest) c.loop-bytes.invariant.inside).1;
    }

pub into_bitmap-requires : goal.into_bitmap-requires
into_bitmap-requires g c =
    let bs = c.args.values.now.bits in
    let f = g.R.PlaceRule.position (length bs) in
    let all = all_packed bs c.loop-bytes.taken (map f c.loop-bytes.rest.now) (map f c.args.indices.now) (c.loop-bytes-test.ensures ∙ ap (λ k. k == 0) (sym (length-map c.loop-bytes.rest.now f))) c.loop-bytes.invariant.bits in
    ap length all ∙ length-bits_at bs (map f c.args.indices.now) ∙ length-map c.args.indices.now f

pub returns-clause-bits : goal.returns-clause-bits
returns-clause-bits g c =
    let bs = c.args.values.now.bits in
    let f = g.R.PlaceRule.position (length bs) in
    let all = all_packed bs c.loop-bytes.taken (map f c.loop-bytes.rest.now) (map f c.args.indices.now) (c.loop-bytes-test.ensures ∙ ap (λ k. k == 0) (sym (length-map c.loop-bytes.rest.now f))) c.loop-bytes.invariant.bits in
    IfOk-weaker c.into_bitmap.result _ _ (λ taken is. ap (λ (b : Bits). b.bits) is ∙ all) c.into_bitmap.ensures.value
