-- The words so far have no set bit.
use Rattle.std.proofs.Common.{◌-◌, ◌≡◌, ◌*◌, ◌≤◌, false, take, drop, replicate}
use Rattle.sel_bits.proofs.bitmap.Bitmap.zero_words.Given as goal

abbrev pub invariant-loop-words : goal.invariant-loop-words
invariant-loop-words l = record {
  most : l.words ≤ l.most;
  zeros : take (64 * l.words) (drop l.at l.self.bits) ≡ replicate (64 * l.words) false;
}

abbrev pub decreases-loop-words : goal.decreases-loop-words
decreases-loop-words l = l.most - l.words
