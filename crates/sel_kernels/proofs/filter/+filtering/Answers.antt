use Rattle.sel_kernels.proofs.Common.{◌∙◌, All, ap, sym, subst, map, length, arith, All-get_or, count_true, rows, type_of, well_formed, IsField, shapes_of}
use Rattle.sel_kernels.proofs.Common.{tuples_type, length-rows, length-tuple_rows, rows-Struct, has_fields, type_of-Struct, size_of, sizes_of, one_size}
use Rattle.sel_kernels.proofs.Common.{length-select, few_rows}
use Rattle.sel_kernels.proofs.{KeptColumns.kept_of, KeptColumns.kept_struct_formed, KeptColumns.kept_struct_rows, SelectedRows.fields_more}
use Rattle.sel_kernels.proofs.filter.+filtering.Goals as goal

pub filter_column-filter_struct-requires : goal.filter_column-filter_struct-requires
filter_column-filter_struct-requires t c =
    let len = c.in-Struct.len in
    let fields = c.in-Struct.fields in
    let validity = c.in-Struct.validity in
    let count = ap length (rows-Struct len fields validity) ∙ length-tuple_rows len (map rows fields.items) validity in
    (omega (arith, c.decreases, ap size_of (ap type_of c.in-Struct.is ∙ type_of-Struct len fields validity)), (ap well_formed (sym c.in-Struct.is) ∙ c.requires.formed, (sym count ∙ ap (λ x. length (rows x)) (sym c.in-Struct.is) ∙ c.requires.long, c.requires.count)))

pub filter_column-filter_runs-requires-clause-few : goal.filter_column-filter_runs-requires-clause-few
filter_column-filter_runs-requires-clause-few t c = omega (arith, few_rows c.args.column.now c.requires.formed, length-rows c.args.column.now, c.requires.long)

pub filter_struct-filter_fields-requires : goal.filter_struct-filter_fields-requires
filter_struct-filter_fields-requires t c =
    let has = has_fields c.args._len c.args.fields.now c.args.validity.now c.requires.formed in
    (omega (arith, c.decreases, ap (λ l. sizes_of (shapes_of (map type_of l))) c.deref.ensures.value), (subst (All (IsField (length c.args.mask.now.bits))) (sym c.deref.ensures.value) (subst (λ n. All (IsField n) c.args.fields.now.items) c.requires.long has.fields), c.requires.count))

pub filter_struct-invariant_of-result : goal.filter_struct-invariant_of-result
filter_struct-invariant_of-result t c =
    let validity = rw c.as_ref.ensures.value at c.in_ok-validity.ensures.validity in
    record {
      formed = kept_struct_formed c.args._len c.args.count c.args.fields.now c.in_ok-fields.fields c.args.validity.now c.in_ok-validity.validity c.args.mask.now.bits c.requires.formed c.requires.long c.requires.count c.in_ok-fields.ensures.fields validity;
    }

pub filter_struct-returns : goal.filter_struct-returns
filter_struct-returns t c =
    let ms = c.args.mask.now.bits in
    let validity = rw c.as_ref.ensures.value at c.in_ok-validity.ensures.validity in
    record {
      rows = kept_struct_rows c.args._len c.args.count c.args.fields.now c.in_ok-fields.fields c.args.validity.now c.in_ok-validity.validity ms c.requires.formed c.requires.long c.requires.count
          (c.in_ok-fields.ensures.rows ∙ ap (map (kept_of ms)) c.deref.ensures.value) validity;
      dtype = tuples_type c.args._len c.args.count c.args.fields.now c.in_ok-fields.fields c.args.validity.now c.in_ok-validity.validity (c.in_ok-fields.ensures.dtypes ∙ ap (map type_of) c.deref.ensures.value);
      refusal = tt;
    }

pub filter_fields-filter_column-requires : goal.filter_fields-filter_column-requires
filter_fields-filter_column-requires t c =
    let fits = IsField (length c.args.mask.now.bits) in
    let field = subst fits (sym c.column-item.is) (All-get_or fits c.args.columns.now c.loop-column.column-index c.column-item.result c.loop-column-test.true c.requires.fields) in
    (omega (arith, c.decreases, one_size type_of c.args.columns.now c.loop-column.column-index c.column-item.result c.loop-column-test.true c.column-item.is), (field.1, (length-rows c.column-item.result ∙ field.0, c.requires.count)))

pub filter_fields-loop-column-preserved : goal.filter_fields-loop-column-preserved
filter_fields-loop-column-preserved t c =
    let ms = c.args.mask.now.bits in
    let fits = IsField (length ms) in
    let column = c.column-item.result in
    let part = c.in_ok-column.field-0 in
    let field = subst fits (sym c.column-item.is) (All-get_or fits c.args.columns.now c.loop-column.column-index column c.loop-column-test.true c.requires.fields) in
    fields_more (kept_of ms) (count_true ms) c.args.columns.now c.loop-column.kept.items c.push.new.self.items c.loop-column.column-index column part.column
    c.loop-column-test.true c.column-item.is c.in_ok-push.ensures.items c.in_ok-column.ensures.rows c.in_ok-column.ensures.dtype
    (length-select (rows column) ms (length-rows column ∙ field.0)) part.formed c.loop-column.invariant
