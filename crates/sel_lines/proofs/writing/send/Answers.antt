use Rattle.std.proofs.Common.{◌<◌, ◌-◌, ℕ, arith, take, drop, length, length-take, length-drop, ap, ◌∙◌, true}
use Rattle.sel_lines.{specs.Counted.counted_up, specs.Counted.failures_of, proofs.ReadPieces.sent_more, proofs.ReadPieces.some_taken, proofs.ReadPieces.none_taken}
use Rattle.sel_lines.proofs.writing.send.Goals as goal

-- A write that took none of the rest.
pub returns-then-count-eq0-clause-failures : goal.returns-then-count-eq0-clause-failures
returns-then-count-eq0-clause-failures g c =
    let rest = take (length c.args.text.now - c.loop-sent.sent) (drop c.loop-sent.sent c.args.text.now) in
    let left : 0 < length rest = omega (arith, length-take {A = ℕ}, length-drop {A = ℕ}) in
    c.write.ensures.failures ∙ ap (λ b. counted_up b (failures_of c.loop-sent.writer)) (none_taken c.write.result c.in-Ok.count rest c.in-Ok.is c.if-count-eq0.true left)
    ∙ ap (λ n. counted_up true n) c.loop-sent.invariant.failures

pub loop-sent-preserved : goal.loop-sent-preserved
loop-sent-preserved g c = record {
  within = let bound = c.in-Ok.ensures.bound in omega (arith, length-take {A = ℕ}, length-drop {A = ℕ});
  sent = sent_more _ _ _ c.args.text.now c.loop-sent.sent c.in-Ok.count c.loop-sent.invariant.sent c.in-Ok.ensures.bytes;
  failures = c.write.ensures.failures ∙ ap (λ b. counted_up b (failures_of c.loop-sent.writer)) (some_taken c.write.result c.in-Ok.count _ c.in-Ok.is c.if-count-eq0.false) ∙ c.loop-sent.invariant.failures;
}
