use Rattle.std.{proofs.Common.◌≡◌, proofs.Common.◌≤◌, proofs.Common.◌-◌, proofs.Common.length, proofs.Common.take, specs.Io.KnownBytes.Appends}
use Rattle.sel_lines.specs.Counted.{failures_of}
use Rattle.sel_lines.proofs.writing.send.Given as goal

abbrev pub invariant-loop-sent : goal.invariant-loop-sent
invariant-loop-sent g l = record {
  within : l.sent ≤ length l.text;
  sent : Appends (g.W.Write.contents l.initial.writer.inner) (g.W.Write.contents l.writer.inner) (take l.sent l.text);
  failures : failures_of l.writer ≡ failures_of l.initial.writer;
}

abbrev pub decreases-loop-sent : goal.decreases-loop-sent
decreases-loop-sent g l = length l.text - l.sent
