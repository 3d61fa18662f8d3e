use Rattle.sel_runs.proofs.Common.{◌∙◌, ◌++◌, ap, sym, arith, take_all, drop_all}
use Rattle.sel_runs.proofs.Windows.{read_more}
use Rattle.sel_runs.proofs.copy_values.push_eight.Goals as goal

pub returns-clause-items : goal.returns-clause-items
returns-clause-items g c =
    let xs = c.args.values.now in
    let from_7 = read_more xs _ 7 c.index-values-7.result (omega (arith, c.requires.eight)) c.index-values-7.is (sym (drop_all 8 xs (omega (arith, c.requires.eight)))) in
    let from_6 = read_more xs _ 6 c.index-values-6.result (omega (arith, c.requires.eight)) c.index-values-6.is from_7 in
    let from_5 = read_more xs _ 5 c.index-values-5.result (omega (arith, c.requires.eight)) c.index-values-5.is from_6 in
    let from_4 = read_more xs _ 4 c.index-values-4.result (omega (arith, c.requires.eight)) c.index-values-4.is from_5 in
    let from_3 = read_more xs _ 3 c.index-values-3.result (omega (arith, c.requires.eight)) c.index-values-3.is from_4 in
    let from_2 = read_more xs _ 2 c.index-values-2.result (omega (arith, c.requires.eight)) c.index-values-2.is from_3 in
    let from_1 = read_more xs _ 1 c.index-values-1.result (omega (arith, c.requires.eight)) c.index-values-1.is from_2 in
    let from_0 = read_more xs _ 0 c.index-values-0.result (omega (arith, c.requires.eight)) c.index-values-0.is from_1 in
    c.loop-i.invariant.items ∙ ap (λ l. c.args.out.now.items ++ l) (take_all c.loop-i.i _ c.loop-i-test.false ∙ from_0)
