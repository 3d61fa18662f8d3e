use Rattle.std.proofs.Common.{◌≡◌, ◌∷◌, [], ◌∙◌, refl, rules, sym, ap, None, Some, cond}
use Rattle.std.proofs.{lemmas.Result.err_from_is_err_and, KnownBytes.Appends-kept}
use Rattle.sel_lines.{specs.Output.first_bad_from, specs.Output.output_from, specs.Step.lines_in, proofs.Steps.failed_step, proofs.Steps.last_line}
use Rattle.sel_lines.proofs.Steps.{stopped, unflushed}
use Rattle.sel_lines.specs.declared.reading.LineEnd.TheVariants as ending
use Rattle.sel_lines.proofs.run.serve_line.Goals as goal

pub returns-in_err-end-clause-step : goal.returns-in_err-end-clause-step
returns-in_err-end-clause-step g c =
    let p = err_from_is_err_and c.from_residual.result c.from_residual.ensures.1 in
    rw (p.1, p.2) (failed_step c.args.number c.in_err-end.field-0.0 c.in_err-end.ensures.err.0 _ _ _ c.in_err-end.ensures.fault c.in_err-end.ensures.err.1 c.in_err-end.ensures.err.2)

pub returns-in_err-sent-clause-step : goal.returns-in_err-sent-clause-step
returns-in_err-sent-clause-step g c =
    let p = err_from_is_err_and c.from_residual-in_err-sent.result c.from_residual-in_err-sent.ensures.1 in
    rw (p.1, p.2, c.in_err-sent.ensures.fault) (stopped c.args.number c.in_ok-end.end c.read_line.new.line.items _ _ _ c.in_ok-end.ensures.ok _ _ c.deref.ensures.value (c.as_bytes.ensures.value ∙ c.in_ok-text.ensures.text) _ c.in_err-sent.ensures.err.0 c.in_err-sent.ensures.err.1)

pub returns-in_err-flush-clause-step : goal.returns-in_err-flush-clause-step
returns-in_err-flush-clause-step g c =
    let p = err_from_is_err_and c.from_residual-in_err-flush.result c.from_residual-in_err-flush.ensures.1 in
    rw (p.1, p.2, c.in_err-flush.ensures.fault) (unflushed c.args.number c.in_ok-end.end c.read_line.new.line.items _ _ _ c.in_ok-end.ensures.ok _ _ c.deref.ensures.value (c.as_bytes.ensures.value ∙ c.in_ok-text.ensures.text) _ (Appends-kept _ _ _ _ c.in_ok-sent.ensures.ok c.in_err-flush.ensures.bytes))

pub returns-in_err-flush-2-clause-step : goal.returns-in_err-flush-2-clause-step
returns-in_err-flush-2-clause-step g c =
    let p = err_from_is_err_and c.from_residual-in_err-flush-2.result c.from_residual-in_err-flush-2.ensures.1 in
    rw (p.1, p.2, c.in_err-flush-2.ensures.fault) (unflushed c.args.number c.in_ok-end.end c.read_line.new.line.items _ _ _ c.in_ok-end.ensures.ok _ _ c.deref.ensures.value (c.as_bytes.ensures.value ∙ c.in_ok-text.ensures.text) _ (Appends-kept _ _ _ _ c.in_ok-sent.ensures.ok c.in_err-flush-2.ensures.bytes))

pub returns-clause-step : goal.returns-clause-step
returns-clause-step g c =
    let read = c.in_ok-end.ensures.ok in
    let good = ap (λ l. first_bad_from c.args.number (lines_in c.in_ok-end.end l)) (sym c.deref.ensures.value) ∙ c.in_ok-text.ensures.good ∙ ap (λ b. cond b None (Some c.args.number)) c.if-not-is_good.false in
    let last = last_line c.args.number c.in_ok-end.end c.read_line.new.line.items _ read.2 (λ e. let test = c.eq.ensures in let other = c.if-eq.false in let same = rw e at test in cc) good in
    record { end = c.in_ok-end.end; line = c.read_line.new.line.items; written = c.as_bytes.result.now; no_feed = read.0; reads = read.1; writes = Appends-kept _ _ _ _ c.in_ok-sent.ensures.ok c.flush-2.ensures.bytes; ends = (last.0, last.1, good, c.as_bytes.ensures.value ∙ c.in_ok-text.ensures.text ∙ ap (λ l. output_from c.args.number (lines_in c.in_ok-end.end l)) c.deref.ensures.value) }

pub returns-then-not-is_good-clause-step : goal.returns-then-not-is_good-clause-step
returns-then-not-is_good-clause-step g c =
    let read = c.in_ok-end.ensures.ok in
    let bad = ap (λ l. first_bad_from c.args.number (lines_in c.in_ok-end.end l)) (sym c.deref.ensures.value) ∙ c.in_ok-text.ensures.good ∙ ap (λ b. cond b None (Some c.args.number)) c.if-not-is_good.true in
    record { end = c.in_ok-end.end; line = c.read_line.new.line.items; written = c.as_bytes.result.now; no_feed = read.0; reads = read.1; writes = Appends-kept _ _ _ _ c.in_ok-sent.ensures.ok c.flush.ensures.bytes; ends = (refl, read.2, bad, c.as_bytes.ensures.value ∙ c.in_ok-text.ensures.text ∙ ap (λ l. output_from c.args.number (lines_in c.in_ok-end.end l)) c.deref.ensures.value) }

pub returns-then-eq-clause-step : goal.returns-then-eq-clause-step
returns-then-eq-clause-step g c =
    let feed : c.in_ok-end.end ≡ ending.Feed = search rules in
    let one : lines_in c.in_ok-end.end c.deref.result.now ≡ c.read_line.new.line.items ∷ [] = ap (λ l. lines_in c.in_ok-end.end l) c.deref.ensures.value ∙ ap (λ e. lines_in e c.read_line.new.line.items) feed in
    let good = sym (ap (first_bad_from c.args.number) one) ∙ c.in_ok-text.ensures.good ∙ ap (λ b. cond b None (Some c.args.number)) c.if-not-is_good.false in
    record { end = c.in_ok-end.end; line = c.read_line.new.line.items; written = c.as_bytes.result.now; no_feed = c.in_ok-end.ensures.ok.0; reads = c.in_ok-end.ensures.ok.1; writes = c.in_ok-sent.ensures.ok; ends = (feed, good, c.as_bytes.ensures.value ∙ c.in_ok-text.ensures.text ∙ ap (output_from c.args.number) one) }
