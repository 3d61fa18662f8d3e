use Rattle.std.proofs.Common.{◌≡◌, ◌∙◌, ap, arith, length, IsTrue}
use Rattle.sel_c.proofs.{Common.primitive_rows, Common.rows, Common.all_within, AllKept.only_taken}
use Rattle.sel_c.proofs.calls.takes.takes_only_row.Goals as goal

pub returns-clause-rows : goal.returns-clause-rows
returns-clause-rows c =
    let column = c.args.column.now in
    let indices = c.args.indices.now in
    let told = c.indices_in_bounds.ensures ∙ ap (λ n. all_within n (primitive_rows indices)) c.len-len.ensures.len in
    let inside : IsTrue (all_within (length (rows column.column)) (primitive_rows indices)) = cc (told, c.if-not-indices_in_bounds.false) in
    let one : length (rows column.column) ≡ 1 = omega (arith, c.len-len.ensures.len, c.if-len-ne1.false) in
    let only : length (primitive_rows indices) ≡ 1 = omega (arith, c.len.ensures.len, c.if-len-ne1-2.false) in
    λ _. only_taken _ (rows column.column) indices.values indices.validity c.is_some.result c.is_some.ensures c.if-is_some.false one only inside
