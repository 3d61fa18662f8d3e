-- The items of the kept arrays of the blocks so far.
use Rattle.sel_filter.proofs.Common.{◌≡◌, ◌*◌, take, flat_map, select}
use Rattle.sel_filter.proofs.arrays.filter_arrays.Given as goal

abbrev pub invariant-loop-block : goal.invariant-loop-block
invariant-loop-block g l = l.kept.items ≡ flat_map (λ array. array) (select (take (64 * l.block) l.arrays) (take (64 * l.block) l.mask.bits))
