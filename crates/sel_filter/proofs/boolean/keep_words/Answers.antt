use Rattle.sel_filter.proofs.Common.{◌≡◌, ◌∙◌, ap, sym, List, Bool, length, arith, take_rest, IfOk-weaker, Bits, bits_from}
use Rattle.sel_filter.proofs.{Selects.length-select, WordFiltering.rows_kept}
use Rattle.sel_filter.proofs.boolean.keep_words.Goals as goal

pub into_bitmap-requires : goal.into_bitmap-requires
into_bitmap-requires c =
    let v = c.as_slice-value_shift in
    let m = c.as_slice-mask_shift in
    let one : v.result.2 ≡ m.result.2 = omega (arith, c.requires.long, v.ensures.len, m.ensures.len) in
    let all = rows_kept _ _ _ _ _ c.min-head.result _ _ _ _ _ _ _ (omega (arith, m.ensures.offset)) c.min-head.ensures (v.ensures.bits ∙ ap (bits_from v.result.0.now v.result.1) one) m.ensures.bits c.in_ok-kept.ensures.value
    c.first_word-word.ensures c.first_word-marks.ensures c.in_ok-append_kept.ensures.appended (rw (take_rest, take_rest) at c.in_ok-append_words.ensures.appended) in
    ap (λ (l : List Bool). length l) all ∙ length-select _ _ c.requires.long ∙ sym c.requires.count

pub returns-clause-bits : goal.returns-clause-bits
returns-clause-bits c =
    let v = c.as_slice-value_shift in
    let m = c.as_slice-mask_shift in
    let one : v.result.2 ≡ m.result.2 = omega (arith, c.requires.long, v.ensures.len, m.ensures.len) in
    let all = rows_kept _ _ _ _ _ c.min-head.result _ _ _ _ _ _ _ (omega (arith, m.ensures.offset)) c.min-head.ensures (v.ensures.bits ∙ ap (bits_from v.result.0.now v.result.1) one) m.ensures.bits c.in_ok-kept.ensures.value
    c.first_word-word.ensures c.first_word-marks.ensures c.in_ok-append_kept.ensures.appended (rw (take_rest, take_rest) at c.in_ok-append_words.ensures.appended) in
    IfOk-weaker c.into_bitmap.result _ _ (λ kept is. ap (λ (b : Bits). b.bits) is ∙ all) c.into_bitmap.ensures.value
