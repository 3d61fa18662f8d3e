use Rattle.sel_kernels.proofs.Common.{◌+◌, ◌-◌, ◌∙◌, ap, sym, arith, slice_index, w64, to_z, of_z, place}
use Rattle.sel_kernels.proofs.Elements.{place_small}
use Rattle.sel_kernels.proofs.gather.sublist.list.place_in_child.Goals as goal

pub overflow_cast-result : goal.overflow_cast-result
overflow_cast-result c =
    let arr = c.args.arr.now in
    let index = to_z w64 (of_z w64 c.args.index) in
    let found = sym (c.negative_to_usize.ensures ∙ ap (λ e. place index (e - c.at-start.result)) c.at.ensures.value ∙ ap (λ s. place index (slice_index arr.offsets (c.args.k + 1) - s)) c.at-start.ensures.value) ∙ c.in_ok-place.was in
    let small = place_small arr.offsets arr.values arr.validity arr.formed c.args.index index c.args.k c.in_ok-place.place c.requires (sym c.is_valid_at.ensures ∙ c.if-not-is_valid_at.false) found in
    omega (arith, small, c.at-start.ensures.value)
