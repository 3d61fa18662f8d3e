use Rattle.std.proofs.Common.{◌≡◌, ◌-◌, ◌≤◌}
use Rattle.sel_lines.{specs.Counted.failures_of, proofs.Progress.SoFar}
use Rattle.sel_lines.proofs.run.run.Given as goal

abbrev pub invariant-lines : goal.invariant-lines
invariant-lines g l = record {
  within : l.number ≤ 4294967296;
  so : SoFar l.number (g.R.Read.remaining l.initial.reader.inner) (g.R.Read.remaining l.reader.inner)
      (g.W.Write.contents l.initial.writer.inner) (g.W.Write.contents l.writer.inner);
  reader_whole : failures_of l.reader ≡ 0;
  writer_whole : failures_of l.writer ≡ 0;
}

abbrev pub decreases-lines : goal.decreases-lines
decreases-lines g l = 4294967297 - l.number
