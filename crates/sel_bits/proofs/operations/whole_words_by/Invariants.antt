-- The vector has the bytes of the blocks so far, within its reserved capacity.
use Rattle.std.proofs.Common.{◌/◌, length}
use Rattle.std.specs.Vec.{vec_capacity}
use Rattle.sel_bits.specs.Bits.{zip_three}
use Rattle.sel_bits.proofs.WholeWords.{HasBlocks}
use Rattle.sel_bits.proofs.operations.whole_words_by.Given as goal

abbrev pub invariant-loop-block : goal.invariant-loop-block
invariant-loop-block g l = HasBlocks (zip_three g.R.BitRule.on_bits l.x.bits l.y.bits l.z.bits) (length l.x.bits / 64) l.block l.bytes.items (vec_capacity l.bytes)
