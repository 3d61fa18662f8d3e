use Rattle.std.proofs.{Common.◌≤◌, Common.◌∙◌, Common.arith, lemmas.Result.err_from_is_err_and}
use Rattle.sel_bits.specs.Limits.{max_rows}
use Rattle.sel_lines.proofs.Progress.{at_start, advance, finish, give_up, good_number}
use Rattle.sel_lines.proofs.run.run.Goals as goal

pub lines-init : goal.lines-init
lines-init g c = record { within = omega arith; so = at_start _ _; reader_whole = c.requires.reader_whole; writer_whole = c.requires.writer_whole }

pub lines-preserved : goal.lines-preserved
lines-preserved g c =
    let step = rw c.in_default.is at c.in_ok-done.ensures.step in
    let below : c.lines.number ≤ max_rows = good_number c.lines.number step.line step.ends.1 in
    record { within = omega arith; so = advance c.lines.invariant.so step; reader_whole = c.in_ok-done.ensures.input ∙ c.lines.invariant.reader_whole; writer_whole = c.in_ok-done.ensures.output ∙ c.lines.invariant.writer_whole }

pub returns-in-Some-clause-runs : goal.returns-in-Some-clause-runs
returns-in-Some-clause-runs g c = finish c.lines.invariant.so c.in-Some.done (rw c.in-Some.is at c.in_ok-done.ensures.step)

pub returns-in_err-done-clause-runs : goal.returns-in_err-done-clause-runs
returns-in_err-done-clause-runs g c =
    let p = err_from_is_err_and c.from_residual.result c.from_residual.ensures.1 in
    rw (p.1, p.2) (give_up c.lines.invariant.so c.in_err-done.field-0.0 c.in_err-done.ensures.step)
