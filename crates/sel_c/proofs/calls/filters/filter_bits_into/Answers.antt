use Rattle.std.proofs.Common.{◌≡◌, ◌≤◌, ◌*◌, ◌∙◌, length, ap, sym, arith}
use Rattle.sel_kernels.specs.Select.{select}
use Rattle.sel_c.proofs.{Common.rows, Common.ArrayRef, Common.Bits, AllKept.all_kept, Made.returns-again, Made.returns-first}
use Rattle.sel_c.proofs.calls.filters.filter_bits_into.Goals as goal

pub returns-then-is_all_true : goal.returns-then-is_all_true
returns-then-is_all_true c =
    let column = c.args.column.now in
    let same : length (rows c.column.result.now.column) ≡ length (rows column.column) = ap (λ (x : ArrayRef). length (rows x.column)) c.column.ensures.value in
    let long : c.args.len ≡ length (rows column.column) = omega (arith, same, c.len.ensures.len, c.if-len.false) in
    let enough : c.args.len ≤ 8 * length c.args.mask.now = omega (arith, c.div_ceil.ensures, c.if-mask-div_ceil.false) in
    let bits = c.in-Ok.bits.bits in
    let kept = ap (λ (b : Bits). select (rows column.column) b.bits) (sym c.in-Ok.ensures.value) ∙ all_kept (rows column.column) bits (omega (arith, long, c.in-Ok.ensures.len)) (c.is_all_true.ensures.0 c.if-is_all_true.true) in
    returns-first _ _ _ _ _ _ _ _ _ tt
    (returns-first _ _ _ _ _ _ _ _ _ (long, enough) (returns-again _ _ _ column _ c.put_again.ensures.column c.put_again.ensures.status (sym kept)))
