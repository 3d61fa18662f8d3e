-- The word has the bits from the last one on.
use Rattle.sel_kernels.proofs.{Common.◌≡◌, Common.◌≤◌, Common.map, Common.drop, Common.length, Common.bits_from, Common.word_of, Takes.bits_at}
use Rattle.sel_kernels.proofs.gather.bitmap.word_of_places.Given as goal

abbrev pub invariant-loop-left : goal.invariant-loop-left
invariant-loop-left g l = (l.word ≡ word_of (drop l.left (bits_at (bits_from l.bytes l.shift l.len) (map (g.R.PlaceRule.position l.len) l.indices)))) × (l.left ≤ length l.indices)

abbrev pub decreases-loop-left : goal.decreases-loop-left
decreases-loop-left g l = l.left
