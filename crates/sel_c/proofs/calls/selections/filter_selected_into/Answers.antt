use Rattle.std.proofs.Common.{◌≡◌, ◌∙◌, length, ap, sym, arith}
use Rattle.sel_c.proofs.{Common.rows, Common.ArrayRef, Common.type_of, AllKept.all_kept, Made.returns-again, Made.returns-first, Made.returns-no-rows}
use Rattle.sel_filter.proofs.Selects.{none_kept}
use Rattle.sel_c.proofs.calls.selections.filter_selected_into.Goals as goal

pub returns-then-selection-len : goal.returns-then-selection-len
returns-then-selection-len c =
    let column = c.args.column.now in
    let selection = c.args.selection.now in
    let same : length (rows c.column.result.now.column) ≡ length (rows column.column) = ap (λ (x : ArrayRef). length (rows x.column)) c.column.ensures.value in
    let long : length (rows column.column) ≡ length selection.mask.bits = omega (arith, same, c.len.ensures.len, c.len-2.ensures, c.if-len.false) in
    let all = sym selection.counted ∙ c.if-selection-len.true ∙ c.len-3.ensures in
    returns-first _ _ _ _ _ _ _ _ _ (tt, tt)
    (returns-first _ _ _ _ _ _ _ _ _ long
    (returns-again _ _ _ column _ c.put_again.ensures.column c.put_again.ensures.status (sym (all_kept (rows column.column) selection.mask.bits long all))))

pub returns-then-len-le-FEW_ROWS : goal.returns-then-len-le-FEW_ROWS
returns-then-len-le-FEW_ROWS c =
    let column = c.args.column.now in
    let selection = c.args.selection.now in
    let same : length (rows c.column.result.now.column) ≡ length (rows column.column) = ap (λ (x : ArrayRef). length (rows x.column)) c.column.ensures.value in
    let long : length (rows column.column) ≡ length selection.mask.bits = omega (arith, same, c.len.ensures.len, c.len-2.ensures, c.if-len.false) in
    let none = none_kept (rows column.column) selection.mask.bits long (sym selection.counted ∙ c.if-selection-eq0.true) in
    let typed = ap (λ (x : ArrayRef). type_of x.column) c.column-then-len-le-FEW_ROWS.ensures.value in
    returns-first _ _ _ _ _ _ _ _ _ (tt, tt) (returns-first _ _ _ _ _ _ _ _ _ long (returns-no-rows _ _ _ _ c.column-then-len-le-FEW_ROWS.result.now _ none typed c.put_no_rows.ensures))
