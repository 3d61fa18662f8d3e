use Rattle.sel_filter.proofs.Common.{◌+◌, ◌-◌, ◌/◌, length}
use Rattle.sel_filter.proofs.RunFiltering.{IsRunFiltered}
use Rattle.sel_filter.proofs.primitive.filter_runs.Given as goal

abbrev pub invariant-loop-word : goal.invariant-loop-word
invariant-loop-word g l = IsRunFiltered l.fn.out.source l.fn.out.items l.fn.mask.source l.start l.out l.mask

abbrev pub decreases-loop-word : goal.decreases-loop-word
decreases-loop-word g l = length l.mask.source.bits / 64 + 2 - l.mask.words_read
