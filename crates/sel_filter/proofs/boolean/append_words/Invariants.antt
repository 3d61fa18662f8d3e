-- The kept bits of the words so far follow the initial bits.
use Rattle.sel_filter.proofs.Common.{◌≡◌, ◌*◌, ◌++◌, take, bits_from, select}
use Rattle.sel_filter.proofs.boolean.append_words.Given as goal

abbrev pub invariant-loop-block : goal.invariant-loop-block
invariant-loop-block l = l.kept ≡ l.fn.kept ++ select (take (64 * l.block) (bits_from l.value_bytes l.shift l.len)) (take (64 * l.block) (bits_from l.mask_bytes 0 l.len))
