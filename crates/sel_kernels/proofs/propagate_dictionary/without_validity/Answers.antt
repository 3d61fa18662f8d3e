use Rattle.sel_kernels.proofs.{Common.sym, Common.subst, Common.IsTrue, Common.view_value, Dictionaries.bare_rows}
use Rattle.sel_arrow.specs.Texts.{all_text}
use Rattle.sel_kernels.proofs.propagate_dictionary.without_validity.Goals as goal

pub invariant_of-result : goal.invariant_of-result
invariant_of-result c =
    let array = c.args.values.bytes in
    record { texts = subst (λ l. IsTrue (all_text l)) (sym (bare_rows (view_value array.buffers) array.validity array.views c.requires)) c.args.values.texts }
