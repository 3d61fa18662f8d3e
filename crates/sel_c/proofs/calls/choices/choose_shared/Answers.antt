use Rattle.std.proofs.Common.{◌∙◌, inr}
use Rattle.sel_c.proofs.{Common.rows, AllKept.chosen_of_one, AllKept.side_of_one, Made.returns-made}
use Rattle.sel_c.proofs.calls.choices.choose_shared.Goals as goal

pub returns-in-Some : goal.returns-in-Some
returns-in-Some c =
    let is = c.in-Some.ensures in
    let first = c.has_all_rows.ensures c.if-has_all_rows.true in
    let second = c.has_all_rows-then-has_all_rows.ensures c.if-has_all_rows-2.true in
    let same = is.rows ∙ chosen_of_one _ _ (rows c.args.mask.now.column) _ _ is.true_side is.false_side first second in
    let made = returns-made _ _ _ c.in-Some.side.now _ _ _ c.put_again.ensures.column c.put_again.ensures.status same is.dtype (is.within _ _) in
    record {
      rows = made.rows;
      dtype = made.dtype;
      checks = inr (inr (
        (tt, tt, tt),
        inr (inr (
          is.kind,
          inr (inr (
            is.alike,
            inr (inr ((side_of_one _ _ _ is.true_side first, side_of_one _ _ _ is.false_side second), made.checks)),
          )),
        )),
      ));
    }
