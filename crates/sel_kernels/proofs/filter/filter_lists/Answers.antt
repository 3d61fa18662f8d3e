use Rattle.sel_kernels.proofs.Common.{◌∙◌, ◌*◌, ap, sym, arith, count_true, blocks, rows, row_count, type_of, well_formed, length-rows, few_rows}
use Rattle.sel_kernels.proofs.KeptColumns.{list_facts, list_formed_kept, list_rows_kept, list_type}
use Rattle.sel_kernels.proofs.filter.filter_lists.Goals as goal

pub filter_child-requires-clause-fills : goal.filter_child-requires-clause-fills
filter_child-requires-clause-fills c =
    let has = list_facts c.args.column.now c.args.size c.args.values.now c.args.validity.now c.requires.parts c.requires.formed in
    length-rows c.args.values.now ∙ has.fills ∙ ap (λ n. n * c.args.size) (sym (length-rows c.args.column.now) ∙ c.requires.long)

pub filter_child-requires-clause-few : goal.filter_child-requires-clause-few
filter_child-requires-clause-few c =
    let has = list_facts c.args.column.now c.args.size c.args.values.now c.args.validity.now c.requires.parts c.requires.formed in
    omega (arith, length-rows c.args.values.now, few_rows c.args.values.now has.child)

pub filter_validity-requires-clause-validity : goal.filter_validity-requires-clause-validity
filter_validity-requires-clause-validity c =
    let has = list_facts c.args.column.now c.args.size c.args.values.now c.args.validity.now c.requires.parts c.requires.formed in
    rw c.as_ref.ensures.value (λ v there. has.covered v there ∙ sym (length-rows c.args.column.now) ∙ c.requires.long)

pub invariant_of-result : goal.invariant_of-result
invariant_of-result c =
    let valid = rw c.as_ref.ensures.value at c.in_ok-validity.ensures.validity in
    let child = c.in-Some.child in
    let made = c.in_ok-child.ensures in
    let boxed = c.in_ok-values.ensures.ok in
    record {
      formed = list_formed_kept c.args.column.now c.args.size c.args.count c.args.values.now c.args.validity.now c.in_ok-validity.validity c.in_ok-values.values c.args.mask.now.bits c.requires.parts c.requires.formed c.requires.long c.requires.count valid
          (ap row_count boxed ∙ made.count child c.in-Some.is) (ap well_formed boxed ∙ made.formed child c.in-Some.is);
    }

pub returns : goal.returns
returns c =
    let valid = rw c.as_ref.ensures.value at c.in_ok-validity.ensures.validity in
    let child = c.in-Some.child in
    let made = c.in_ok-child.ensures in
    let boxed = c.in_ok-values.ensures.ok in
    record {
      rows = list_rows_kept c.args.column.now c.args.size c.args.count c.args.values.now c.args.validity.now c.in_ok-validity.validity c.in_ok-values.values c.args.mask.now.bits c.requires.parts c.requires.formed c.requires.long c.requires.count valid
          (ap (λ x. blocks c.args.size (count_true c.args.mask.now.bits) (rows x)) boxed ∙ made.blocks child c.in-Some.is);
      dtype = list_type c.args.column.now c.args.size c.args.count c.args.values.now c.args.validity.now c.in_ok-validity.validity c.in_ok-values.values c.requires.parts (ap type_of boxed ∙ made.dtype child c.in-Some.is);
      refusal = tt;
    }
