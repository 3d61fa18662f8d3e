-- Loop invariant: the bits so far, followed by those of the remaining indices, are all bits; each
-- remaining position is in bounds.
use Rattle.sel_kernels.proofs.{Common.◌≡◌, Common.◌++◌, Common.length, Common.map, Common.true, Common.all_below, Takes.bits_at}
use Rattle.sel_kernels.proofs.gather.bitmap.take_bits_at.Given as goal

abbrev pub invariant-loop-bytes : goal.invariant-loop-bytes
invariant-loop-bytes g l = record {
  bits : l.taken ++ bits_at l.values.bits (map (g.R.PlaceRule.position (length l.values.bits)) l.rest) ≡ bits_at l.values.bits (map (g.R.PlaceRule.position (length l.values.bits)) l.indices);
  inside : all_below (length l.values.bits) (map (g.R.PlaceRule.position (length l.values.bits)) l.rest) ≡ true;
}

abbrev pub decreases-loop-bytes : goal.decreases-loop-bytes
decreases-loop-bytes g l = length l.rest
