use Rattle.std.proofs.Common.{◌∙◌, All, ap, sym, subst, refl, true≢false, length, is_some}
use Rattle.sel_arrow.specs.Rows.{rows, well_formed, IsField}
use Rattle.sel_arrow.proofs.NestedFaults.{list_test, block_test}
use Rattle.sel_arrow.proofs.Trees.{struct_test, struct_failed, one_differs, one_more_field, all_fields}
use Rattle.sel_arrow.proofs.column.+forming.Goals as goal

pub Column::is_well_formed-returns-then-is_well_formed : goal.Column::is_well_formed-returns-then-is_well_formed
Column::is_well_formed-returns-then-is_well_formed t c =
    let list = c.in-LargeList in
    let formed = ap well_formed (sym c.deref.ensures) ∙ sym c.is_well_formed.ensures ∙ c.if-is_well_formed.true in
    let count = c.len.ensures.len ∙ ap (λ v. length (rows v)) c.deref-then-is_well_formed.ensures in
    list_test list.offsets list.values.value list.validity _ _ c.fault_of_lists.ensures.rising formed count (sym (ap is_some c.fault_of_lists.ensures.fault) ∙ c.is_none.ensures)
    ∙ ap well_formed (sym list.is)

pub Column::is_well_formed-returns-then-is_well_formed-2 : goal.Column::is_well_formed-returns-then-is_well_formed-2
Column::is_well_formed-returns-then-is_well_formed-2 t c =
    let list = c.in-FixedSizeList in
    let formed = ap well_formed (sym c.deref-in-FixedSizeList.ensures) ∙ sym c.is_well_formed-in-FixedSizeList.ensures ∙ c.if-is_well_formed-2.true in
    let count = c.len-then-is_well_formed-2.ensures.len ∙ ap (λ v. length (rows v)) c.deref-then-is_well_formed-2.ensures in
    block_test list.size list.len list.values.value list.validity _ _ formed count (sym (ap is_some c.fault_of_blocks.ensures) ∙ c.is_none-then-is_well_formed-2.ensures)
    ∙ ap well_formed (sym list.is)

pub Column::is_well_formed-returns-then-are_fields : goal.Column::is_well_formed-returns-then-are_fields
Column::is_well_formed-returns-then-are_fields t c =
    let struct = c.in-Struct in
    let all = subst (All (IsField struct.len)) c.deref-in-Struct.ensures.value (c.are_fields.ensures.0 c.if-are_fields.true) in
    struct_test struct.len struct.fields struct.validity _ all (sym (ap is_some c.fault_of_struct.ensures) ∙ c.is_none-then-are_fields.ensures)
    ∙ ap well_formed (sym struct.is)

pub Column::is_well_formed-returns-else-are_fields : goal.Column::is_well_formed-returns-else-are_fields
Column::is_well_formed-returns-else-are_fields t c =
    let struct = c.in-Struct in
    let fails = λ (all : All (IsField struct.len) struct.fields.items).
    true≢false (sym (c.are_fields.ensures.1 (subst (All (IsField struct.len)) (sym c.deref-in-Struct.ensures.value) all)) ∙ c.if-are_fields.false) in
    c.if-are_fields.false ∙ struct_failed struct.len struct.fields struct.validity fails ∙ ap well_formed (sym struct.is)

pub are_fields-returns-then-len : goal.are_fields-returns-then-len
are_fields-returns-then-len t c =
    (λ h. absurd (true≢false (sym h)), λ all. absurd (one_differs c.args.len _ c.args.columns.now _ c.column-item.result c.loop-column-test.true c.column-item.is c.len.ensures.len c.if-len.true all))

pub are_fields-loop-column-preserved : goal.are_fields-loop-column-preserved
are_fields-loop-column-preserved t c =
    one_more_field c.args.len _ c.args.columns.now _ c.column-item.result c.loop-column-test.true c.column-item.is c.len.ensures.len c.if-len.false (sym c.if-not-is_well_formed.false ∙ c.is_well_formed.ensures) c.loop-column.invariant

pub are_fields-returns : goal.are_fields-returns
are_fields-returns t c = (λ h. all_fields c.args.len c.args.columns.now c.loop-column.column-index c.loop-column-test.false c.loop-column.invariant, λ all. refl)
