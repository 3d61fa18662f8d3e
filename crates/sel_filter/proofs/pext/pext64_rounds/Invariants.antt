use Rattle.sel_filter.proofs.RoundState.{RoundState}
use Rattle.sel_filter.proofs.pext.pext64_rounds.Given as goal

abbrev pub invariant-loop-i : goal.invariant-loop-i
invariant-loop-i l = RoundState l.m l.fn.word.source l.i l.blocks l.word
