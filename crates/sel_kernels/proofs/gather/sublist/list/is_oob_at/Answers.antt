use Rattle.sel_kernels.proofs.Common.{◌+◌, ◌-◌, ◌∙◌, ap, sym, slice_index, w64, place, is_none, to_z-of_z}
use Rattle.sel_kernels.proofs.Elements.{lacks_is, lacks_none, none_is}
use Rattle.sel_kernels.proofs.gather.sublist.list.is_oob_at.Goals as goal

pub returns-then-not-is_valid_at : goal.returns-then-not-is_valid_at
returns-then-not-is_valid_at c =
    lacks_none c.args.offsets.now c.args.values.now c.args.validity.now c.requires.formed c.args.index c.args.k c.requires.inside (sym c.is_valid_at.ensures ∙ c.if-not-is_valid_at.true)

pub returns : goal.returns
returns c =
    let found = c.negative_to_usize.ensures ∙ ap (λ z. place z (c.at.result - c.at-2.result)) (to_z-of_z w64 c.args.index c.ranges.index)
    ∙ ap (λ e. place c.args.index (e - c.at-2.result)) c.at.ensures.value ∙ ap (λ s. place c.args.index (slice_index c.args.offsets.now (c.args.k + 1) - s)) c.at-2.ensures.value in
    sym (none_is c.negative_to_usize.result c.is_none.result c.is_none.ensures) ∙ ap is_none found
    ∙ lacks_is c.args.offsets.now c.args.values.now c.args.validity.now c.requires.formed c.args.index c.args.k c.requires.inside (sym c.is_valid_at.ensures ∙ c.if-not-is_valid_at.false)
