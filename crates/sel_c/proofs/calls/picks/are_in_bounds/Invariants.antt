-- The row references so far are in bounds.
use Rattle.std.proofs.Common.{All, take}
use Rattle.sel_c.proofs.Common.{HasRow, picks_from}
use Rattle.sel_c.proofs.calls.picks.are_in_bounds.Given as goal

abbrev pub invariant-loop-k : goal.invariant-loop-k
invariant-loop-k l = All (HasRow l.lengths) (take l.k (picks_from 0 l.places.validity.now l.places.words.now))
