use Rattle.std.proofs.Common.{◌≡◌, ◌∙◌, length, ap, sym, arith}
use Rattle.sel_c.proofs.{Common.rows, Common.boolean_rows, Common.ArrayRef, Common.type_of, AllKept.all_forced, AllKept.none_forced, Made.returns-again, Made.returns-first, Made.returns-no-rows}
use Rattle.sel_c.proofs.calls.filters.filter_by.Goals as goal

pub returns-then-count-len : goal.returns-then-count-len
returns-then-count-len c =
    let column = c.args.column.now in
    let mask = c.args.mask.now in
    let same : length (rows c.column.result.now.column) ≡ length (rows column.column) = ap (λ (x : ArrayRef). length (rows x.column)) c.column.ensures.value in
    let long : length (rows column.column) ≡ length (boolean_rows mask) = omega (arith, same, c.len.ensures.len, c.len-2.ensures.len, c.if-len.false) in
    returns-first _ _ _ _ _ _ _ _ _ long
    (returns-again _ _ _ column _ c.put_again.ensures.column c.put_again.ensures.status
    (sym (all_forced (rows column.column) mask.values.bits mask.validity c.is_none.result c.is_none.ensures c.if-is_none.true long (sym c.set_bits-count.ensures ∙ c.if-count-len.true ∙ c.len-then-len-le-FEW_ROWS.ensures))))

pub returns-then-count-eq0 : goal.returns-then-count-eq0
returns-then-count-eq0 c =
    let column = c.args.column.now in
    let mask = c.args.mask.now in
    let same : length (rows c.column.result.now.column) ≡ length (rows column.column) = ap (λ (x : ArrayRef). length (rows x.column)) c.column.ensures.value in
    let long : length (rows column.column) ≡ length (boolean_rows mask) = omega (arith, same, c.len.ensures.len, c.len-2.ensures.len, c.if-len.false) in
    let none = none_forced (rows column.column) mask.values.bits mask.validity c.is_none.result c.is_none.ensures c.if-is_none.true long (sym c.set_bits-count.ensures ∙ c.if-count-eq0.true) in
    let typed = ap (λ (x : ArrayRef). type_of x.column) c.column-then-count-eq0.ensures.value in
    returns-first _ _ _ _ _ _ _ _ _ long (returns-no-rows _ _ _ _ c.column-then-count-eq0.result.now _ none typed c.put_no_rows.ensures)

pub returns-then-is_all_true : goal.returns-then-is_all_true
returns-then-is_all_true c =
    let column = c.args.column.now in
    let mask = c.args.mask.now in
    let same : length (rows c.column.result.now.column) ≡ length (rows column.column) = ap (λ (x : ArrayRef). length (rows x.column)) c.column.ensures.value in
    let long : length (rows column.column) ≡ length (boolean_rows mask) = omega (arith, same, c.len.ensures.len, c.len-2.ensures.len, c.if-len.false) in
    returns-first _ _ _ _ _ _ _ _ _ long
    (returns-again _ _ _ column _ c.put_again-then-is_all_true.ensures.column c.put_again-then-is_all_true.ensures.status
    (sym (all_forced (rows column.column) mask.values.bits mask.validity c.is_none-else-is_none.result c.is_none-else-is_none.ensures c.if-is_none-2.true long (c.is_all_true.ensures.0 c.if-is_all_true.true))))
