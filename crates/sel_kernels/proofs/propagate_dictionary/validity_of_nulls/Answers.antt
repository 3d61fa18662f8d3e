use Rattle.sel_kernels.proofs.Common.{◌≡◌, ◌∙◌, refl, ap, sym, map, count_by, masked, is_null, view_value, option_copied}
use Rattle.sel_kernels.proofs.Dictionaries.{all_valid, if_none}
use Rattle.sel_kernels.proofs.propagate_dictionary.validity_of_nulls.Goals as goal

pub returns-then-has_nulls-clause-none : goal.returns-then-has_nulls-clause-none
returns-then-has_nulls-clause-none c =
    let array = c.args.values.now.bytes in
    if_none c.as_ref.result (count_by is_null (masked array.validity (map (view_value array.buffers) array.views)) ≡ 0)
    (λ none. ap (λ v. count_by is_null (masked v (map (view_value array.buffers) array.views))) (sym c.as_ref.ensures.value ∙ ap option_copied none) ∙ all_valid (view_value array.buffers) (λ x. refl) array.views)
