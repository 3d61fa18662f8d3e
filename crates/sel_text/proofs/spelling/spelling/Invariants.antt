-- Loop invariant: the bytes so far, followed by the spelling of the rest, are the spelling.
use Rattle.sel_text.proofs.Spellings.{Spells}
use Rattle.sel_text.proofs.spelling.spelling.Given as goal

abbrev pub invariant-loop-i : goal.invariant-loop-i
invariant-loop-i l = Spells l.text l.spelling.items l.place l.skipped l.i
