use Rattle.std.proofs.Common.{◌≡◌}
use Rattle.sel_lines.proofs.words.split_at_each.Given as goal

abbrev pub invariant-loop-part : goal.invariant-loop-part
invariant-loop-part l = l.parts.items ≡ l.yielded
