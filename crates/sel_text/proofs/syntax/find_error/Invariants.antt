-- Loop invariant: the bytes so far lead to what may come next.
use Rattle.std.proofs.Common.{reverse}
use Rattle.sel_text.proofs.Completions.{LeadsTo}
use Rattle.sel_text.proofs.syntax.find_error.Given as goal

abbrev pub invariant-loop-i : goal.invariant-loop-i
invariant-loop-i l = LeadsTo l.fn.start l.text l.next (reverse l.brackets.items) l.i
