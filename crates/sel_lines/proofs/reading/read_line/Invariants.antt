use Rattle.std.{proofs.Common.◌≡◌, proofs.Common.length, specs.Io.KnownBytes.Consumes}
use Rattle.sel_lines.specs.Counted.{failures_of}
use Rattle.sel_lines.specs.Lines.{HasNoFeed}
use Rattle.sel_lines.proofs.reading.read_line.Given as goal

abbrev pub invariant-loop : goal.invariant-loop
invariant-loop g l = record {
  no_feed : HasNoFeed l.line.items;
  read : Consumes (g.R.Read.remaining l.initial.reader.inner) (g.R.Read.remaining l.reader.inner) l.line.items;
  count : length l.line.items ≡ l.counter;
  failures : failures_of l.reader ≡ failures_of l.initial.reader;
}
