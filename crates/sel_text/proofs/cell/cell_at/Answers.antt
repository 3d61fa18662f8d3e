use Rattle.std.proofs.Common.{sym, subst, arith, All, ◌∙◌}
use Rattle.sel_text.proofs.Common.{HasCellRow}
use Rattle.sel_text.proofs.CellRows.{list_inside, list_covered, list_bounds, list_few, list_null, list_valid, block_covered, block_bounds, block_few, block_null, block_valid, tuple_covered, tuple_fields, tuple_null, tuple_types, tuple_valid}
use Rattle.sel_text.proofs.cell.cell_at.Goals as goal

pub is_valid_at-requires : goal.is_valid_at-requires
is_valid_at-requires c = list_covered _ _ _ _ _ c.in-LargeList.is c.requires

pub at-requires : goal.at-requires
at-requires c = let inside = list_inside _ _ _ _ _ c.in-LargeList.is c.requires in omega (arith, inside)

pub at-requires-then-is_valid_at : goal.at-requires-then-is_valid_at
at-requires-then-is_valid_at c = let inside = list_inside _ _ _ _ _ c.in-LargeList.is c.requires in omega (arith, inside)

pub overflow_add-i : goal.overflow_add-i
overflow_add-i c = let few = list_few _ _ _ _ _ c.in-LargeList.is c.requires in omega (arith, few)

pub returns-then-is_valid_at-clause-fits : goal.returns-then-is_valid_at-clause-fits
returns-then-is_valid_at-clause-fits c =
    rw (c.deref.ensures, c.at.ensures.value, c.at-then-is_valid_at.ensures.value) (list_bounds _ _ _ _ _ c.in-LargeList.is c.requires)

pub is_valid_at-requires-in-FixedSizeList : goal.is_valid_at-requires-in-FixedSizeList
is_valid_at-requires-in-FixedSizeList c = block_covered _ _ _ _ _ _ c.in-FixedSizeList.is c.requires

pub returns-then-is_valid_at-2-clause-fits : goal.returns-then-is_valid_at-2-clause-fits
returns-then-is_valid_at-2-clause-fits c = rw (c.deref-then-is_valid_at-2.ensures) (block_bounds _ _ _ _ _ _ c.in-FixedSizeList.is c.requires)

pub is_valid_at-requires-in-Struct : goal.is_valid_at-requires-in-Struct
is_valid_at-requires-in-Struct c = tuple_covered _ _ _ _ _ c.in-Struct.is c.requires

pub returns-then-is_valid_at-3-clause-fits : goal.returns-then-is_valid_at-3-clause-fits
returns-then-is_valid_at-3-clause-fits c = subst (All (HasCellRow c.args.i)) (sym c.deref-then-is_valid_at-3.ensures.value) (tuple_fields _ _ _ _ _ c.in-Struct.is c.requires)

pub returns-then-is_valid_at-3-clause-kind : goal.returns-then-is_valid_at-3-clause-kind
returns-then-is_valid_at-3-clause-kind c = rw (c.deref-then-is_valid_at-3.ensures.value) (tuple_types _ _ _ _ _ c.in-Struct.is c.requires)

pub overflow_mul-i : goal.overflow_mul-i
overflow_mul-i c = let few = block_few _ _ _ _ _ _ c.in-FixedSizeList.is c.requires in omega (arith, few)

pub overflow_mul-i-then-is_valid_at-2 : goal.overflow_mul-i-then-is_valid_at-2
overflow_mul-i-then-is_valid_at-2 c = let few = block_few _ _ _ _ _ _ c.in-FixedSizeList.is c.requires in omega (arith, few)

pub overflow_add-i-then-is_valid_at-2 : goal.overflow_add-i-then-is_valid_at-2
overflow_add-i-then-is_valid_at-2 c = let few = block_few _ _ _ _ _ _ c.in-FixedSizeList.is c.requires in omega (arith, few)

pub returns-in-BinaryView-clause-below : goal.returns-in-BinaryView-clause-below
returns-in-BinaryView-clause-below c = c.of_view.ensures.below c.args.column.now

pub returns-in-Utf8View-clause-below : goal.returns-in-Utf8View-clause-below
returns-in-Utf8View-clause-below c = c.of_text.ensures.below c.args.column.now

pub returns-then-is_valid_at-clause-value : goal.returns-then-is_valid_at-clause-value
returns-then-is_valid_at-clause-value c =
    rw (c.deref.ensures, c.at.ensures.value, c.at-then-is_valid_at.ensures.value) (list_valid _ _ _ _ _ c.in-LargeList.is c.requires (sym c.is_valid_at.ensures ∙ c.if-is_valid_at.true))

pub returns-else-is_valid_at-clause-value : goal.returns-else-is_valid_at-clause-value
returns-else-is_valid_at-clause-value c = list_null _ _ _ _ _ c.in-LargeList.is c.requires (sym c.is_valid_at.ensures ∙ c.if-is_valid_at.false)

pub returns-then-is_valid_at-2-clause-value : goal.returns-then-is_valid_at-2-clause-value
returns-then-is_valid_at-2-clause-value c =
    rw (c.deref-then-is_valid_at-2.ensures) (block_valid _ _ _ _ _ _ c.in-FixedSizeList.is c.requires (sym c.is_valid_at-in-FixedSizeList.ensures ∙ c.if-is_valid_at-2.true))

pub returns-else-is_valid_at-2-clause-value : goal.returns-else-is_valid_at-2-clause-value
returns-else-is_valid_at-2-clause-value c = block_null _ _ _ _ _ _ c.in-FixedSizeList.is c.requires (sym c.is_valid_at-in-FixedSizeList.ensures ∙ c.if-is_valid_at-2.false)

pub returns-then-is_valid_at-3-clause-value : goal.returns-then-is_valid_at-3-clause-value
returns-then-is_valid_at-3-clause-value c =
    rw (c.deref-then-is_valid_at-3.ensures.value) (tuple_valid _ _ _ _ _ c.in-Struct.is c.requires (sym c.is_valid_at-in-Struct.ensures ∙ c.if-is_valid_at-3.true))

pub returns-else-is_valid_at-3-clause-value : goal.returns-else-is_valid_at-3-clause-value
returns-else-is_valid_at-3-clause-value c = tuple_null _ _ _ _ _ c.in-Struct.is c.requires (sym c.is_valid_at-in-Struct.ensures ∙ c.if-is_valid_at-3.false)
