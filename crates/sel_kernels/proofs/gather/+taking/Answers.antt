use Rattle.sel_kernels.proofs.Common.{◌≡◌, ◌≤◌, ◌∙◌, All, pos, ap, sym, subst, map, length, arith, length-map, All-get_or, err_from_is_err_and, max_rows}
use Rattle.sel_kernels.proofs.Common.{primitive_rows, rows, type_of, well_formed, IsField, shapes_of, tuples_type, length-rows, length-number_rows}
use Rattle.sel_kernels.proofs.Common.{has_fields, type_of-Struct, refused_more, size_of, sizes_of, one_size, all_within, exceeded_in_taken, live_index, Null}
use Rattle.sel_kernels.proofs.Common.{[], ◌∷◌, take_rows}
use Rattle.sel_kernels.specs.TakenFields.{TakesColumn}
use Rattle.sel_kernels.proofs.{Takes.validity_within, Takes.within_as, Takes.length-pick, SelectedRows.fields_more}
use Rattle.sel_kernels.proofs.TakenStructs.{taken_of, length-whole, live_within, past_field, struct_exceeded, struct_fits, struct_taken}
use Rattle.sel_kernels.proofs.gather.+taking.Goals as goal

-- Only a binary column has a limit that its rows can exceed.
pub take_any-returns-in_err-take_binary-in-LargeBinary : goal.take_any-returns-in_err-take_binary-in-LargeBinary
take_any-returns-in_err-take_binary-in-LargeBinary t c =
    let p = err_from_is_err_and c.from_residual-in_err-take_binary-in-LargeBinary.result c.from_residual-in_err-take_binary-in-LargeBinary.ensures.1 in
    rw (p.1, p.2, c.in-LargeBinary.is)
    (record { rows = tt; dtype = tt; refusal = c.in_err-take_binary-in-LargeBinary.ensures.refusal })

pub take_any-take_struct-requires : goal.take_any-take_struct-requires
take_any-take_struct-requires t c =
    let len = c.in-Struct.len in
    let fields = c.in-Struct.fields in
    let validity = c.in-Struct.validity in
    let formed = ap well_formed (sym c.in-Struct.is) ∙ c.requires.formed in
    let count = ap (λ x. length (rows x)) c.in-Struct.is ∙ length-whole len fields validity formed in
    (omega (arith, c.decreases, ap size_of (ap type_of c.in-Struct.is ∙ type_of-Struct len fields validity)), (formed, within_as _ _ (primitive_rows c.args.indices.now) count c.requires.inside))

pub take_struct-live_indices-requires : goal.take_struct-live_indices-requires
take_struct-live_indices-requires t c =
    let has = has_fields c.args.count c.args.fields.now c.args.validity.now c.requires.formed in
    validity_within c.args.validity.now c.args.count (primitive_rows c.args.indices.now) has.covered c.requires.inside

pub take_struct-take_fields-requires : goal.take_struct-take_fields-requires
take_struct-take_fields-requires t c =
    let has = has_fields c.args.count c.args.fields.now c.args.validity.now c.requires.formed in
    let fits = IsField c.args.count in
    let live = live_within c.args.count c.args.validity.now (primitive_rows c.args.indices.now) c.requires.inside in
    (omega (arith, c.decreases, ap (λ l. sizes_of (shapes_of (map type_of l))) c.deref.ensures.value), (subst (All fits) (sym c.deref.ensures.value) has.fields, ap (all_within c.args.count) c.in_ok-live.ensures.rows ∙ live))

pub take_any-returns-in-Struct : goal.take_any-returns-in-Struct
take_any-returns-in-Struct t c =
    subst (λ x. TakesColumn c.take_struct.result (type_of x) (take_rows (rows x) (primitive_rows c.args.indices.now))) (sym c.in-Struct.is) c.take_struct.ensures

pub take_struct-returns-in_err-fields : goal.take_struct-returns-in_err-fields
take_struct-returns-in_err-fields t c =
    let fields = c.args.fields.now in
    let validity = c.args.validity.now in
    let indices = primitive_rows c.args.indices.now in
    let p = err_from_is_err_and c.from_residual-in_err-fields.result c.from_residual-in_err-fields.ensures.1 in
    let same : exceeded_in_taken c.deref.result.now (primitive_rows c.in_ok-live.live) ≡ exceeded_in_taken fields.items (map (live_index validity) indices) =
    λ i. exceeded_in_taken (c.deref.ensures.value i) (c.in_ok-live.ensures.rows i)
    in
    rw (p.1, p.2)
    (record { rows = tt; dtype = tt; refusal = (refused_more _ _ c.in_err-fields.field-0.0 (λ limit h. struct_exceeded c.args.count fields validity c.requires.formed indices limit c.requires.inside (subst (λ f. f limit) same h)) c.in_err-fields.ensures.refusal) })

pub take_struct-invariant_of-result : goal.take_struct-invariant_of-result
take_struct-invariant_of-result t c =
    let indices = c.args.indices.now in
    let few : c.len.result ≤ max_rows = omega (arith, c.len.ensures.len, length-number_rows pos indices.values indices.validity, indices.rows_fit) in
    let fields = subst (λ l. All (IsField (length l)) c.in_ok-fields.fields.items) (c.in_ok-live.ensures.rows) c.in_ok-fields.ensures.fields in
    let all = subst (λ m. All (IsField m) c.in_ok-fields.fields.items) (length-map (primitive_rows indices) (live_index c.args.validity.now)) fields in
    record {
      formed = struct_fits c.args.count c.args.fields.now c.args.validity.now c.requires.formed c.len.result c.in_ok-fields.fields c.in_ok-live.live.validity (primitive_rows indices) few c.len.ensures.len all c.in_ok-live.ensures.bits;
    }

pub take_struct-returns : goal.take_struct-returns
take_struct-returns t c =
    let indices = primitive_rows c.args.indices.now in
    let made = c.in_ok-fields.ensures.rows ∙ (λ i. map (taken_of (c.in_ok-live.ensures.rows i)) (c.deref.ensures.value i)) in
    record {
      rows = struct_taken c.args.count c.args.fields.now c.args.validity.now c.requires.formed c.len.result c.in_ok-fields.fields c.in_ok-live.live.validity indices c.requires.inside c.len.ensures.len made c.in_ok-live.ensures.bits;
      dtype = tuples_type c.args.count c.len.result c.args.fields.now c.in_ok-fields.fields c.args.validity.now c.in_ok-live.live.validity (c.in_ok-fields.ensures.dtypes ∙ ap (map type_of) c.deref.ensures.value);
      refusal = tt;
    }

pub take_fields-returns-in_err-column-clause-refusal : goal.take_fields-returns-in_err-column-clause-refusal
take_fields-returns-in_err-column-clause-refusal t c =
    let p = err_from_is_err_and c.from_residual-in_err-column.result c.from_residual-in_err-column.ensures.1 in
    rw (p.1, p.2)
    (refused_more _ _ c.in_err-column.field-0.0
    (λ limit h. past_field c.args.columns.now (primitive_rows c.args.indices.now) c.loop-column.column-index c.column-item.result limit c.loop-column-test.true c.column-item.is h) c.in_err-column.ensures.refusal)

pub take_fields-take_any-requires : goal.take_fields-take_any-requires
take_fields-take_any-requires t c =
    let fits = IsField c.args._count in
    let field = subst fits (sym c.column-item.is) (All-get_or fits c.args.columns.now c.loop-column.column-index c.column-item.result c.loop-column-test.true c.requires.fields) in
    (omega (arith, c.decreases, one_size type_of c.args.columns.now c.loop-column.column-index c.column-item.result c.loop-column-test.true c.column-item.is), (field.1, within_as _ _ (primitive_rows c.args.indices.now) (sym (length-rows c.column-item.result ∙ field.0)) c.requires.inside))

pub take_fields-loop-column-preserved : goal.take_fields-loop-column-preserved
take_fields-loop-column-preserved t c =
    let indices = primitive_rows c.args.indices.now in
    let column = c.column-item.result in
    let part = c.in_ok-column.field-0 in
    fields_more (taken_of indices) (length indices) c.args.columns.now c.loop-column.taken.items c.push.new.self.items c.loop-column.column-index column part.column
    c.loop-column-test.true c.column-item.is c.in_ok-push.ensures.items c.in_ok-column.ensures.rows c.in_ok-column.ensures.dtype (length-pick Null (rows column ∷ []) indices)
    part.formed c.loop-column.invariant
