use Rattle.sel_gather.proofs.{Common.arith, ListParts.of_list, ListParts.of_block}
use Rattle.sel_gather.proofs.lists.part_of_row.Goals as goal

-- ---- lists with offsets

pub is_valid_at-requires : goal.is_valid_at-requires
is_valid_at-requires c = λ v there. let h = of_list _ _ _ _ c.in-LargeList.is c.requires.formed _ c.requires.inside in omega (arith, h.below, h.covered v there)

pub at-start-requires : goal.at-start-requires
at-start-requires c = let h = of_list _ _ _ _ c.in-LargeList.is c.requires.formed _ c.requires.inside in omega (arith, h.below)

pub overflow_add-i : goal.overflow_add-i
overflow_add-i c = let h = of_list _ _ _ _ c.in-LargeList.is c.requires.formed _ c.requires.inside in omega (arith, h.below, h.short)

pub at-end-requires : goal.at-end-requires
at-end-requires c = let h = of_list _ _ _ _ c.in-LargeList.is c.requires.formed _ c.requires.inside in omega (arith, h.below)

pub overflow_cast-result : goal.overflow_cast-result
overflow_cast-result c = let h = of_list _ _ _ _ c.in-LargeList.is c.requires.formed _ c.requires.inside in omega (arith, h.ordered, h.few, c.at-start.ensures.value)

pub overflow_sub-result : goal.overflow_sub-result
overflow_sub-result c = let h = of_list _ _ _ _ c.in-LargeList.is c.requires.formed _ c.requires.inside in omega (arith, h.ordered, c.at-start.ensures.value, c.at-end.ensures.value)

pub overflow_cast-result-in-LargeList : goal.overflow_cast-result-in-LargeList
overflow_cast-result-in-LargeList c = let h = of_list _ _ _ _ c.in-LargeList.is c.requires.formed _ c.requires.inside in omega (arith, h.few, c.at-end.ensures.value)

-- ---- fixed-size lists

pub is_valid_at-requires-in-FixedSizeList : goal.is_valid_at-requires-in-FixedSizeList
is_valid_at-requires-in-FixedSizeList c = λ v there. let h = of_block _ _ _ _ _ c.in-FixedSizeList.is c.requires.formed _ c.requires.inside in omega (arith, h.below, h.covered v there)

pub overflow_mul-result : goal.overflow_mul-result
overflow_mul-result c = let h = of_block _ _ _ _ _ c.in-FixedSizeList.is c.requires.formed _ c.requires.inside in omega (arith, h.few)

pub overflow_cast-result-in-FixedSizeList : goal.overflow_cast-result-in-FixedSizeList
overflow_cast-result-in-FixedSizeList c = let h = of_block _ _ _ _ _ c.in-FixedSizeList.is c.requires.formed _ c.requires.inside in omega (arith, h.few)
