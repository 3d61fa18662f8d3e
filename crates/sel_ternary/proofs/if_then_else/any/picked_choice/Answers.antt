use Rattle.sel_ternary.proofs.{Common.rules, Common.err_from_is_err_and, Common.rows, ChosenPicks.choice_picked}
use Rattle.sel_ternary.proofs.if_then_else.any.picked_choice.Goals as goal

pub returns : goal.returns
returns c =
    let picked = choice_picked c.args.true_column c.args.false_column c.args.mask.now.bits (rows c.args.if_true.now.column) (rows c.args.if_false.now.column) c.requires.true_side c.requires.false_side in
    record {
      rows = rw (c.as_column.ensures.column, c.as_column-2.ensures.column, picked) at c.in_ok-column.ensures.rows;
      dtype = search rules;
      within = rw (c.as_column.ensures.column, c.as_column-2.ensures.column, picked) at c.in_ok-column.ensures.within;
      refusal = search rules;
    }

pub returns-in_err-column : goal.returns-in_err-column
returns-in_err-column c =
    let p = err_from_is_err_and c.from_residual.result c.from_residual.ensures.1 in
    let picked = choice_picked c.args.true_column c.args.false_column c.args.mask.now.bits (rows c.args.if_true.now.column) (rows c.args.if_false.now.column) c.requires.true_side c.requires.false_side in
    let refusal = rw (c.as_column.ensures.column, c.as_column-2.ensures.column, picked) at c.in_err-column.ensures.refusal in
    record { rows = search rules; dtype = search rules; within = search rules; refusal = rw (p.1, p.2) refusal }
