-- Loop invariants: the text that remains after the rows so far.
use Rattle.std.proofs.Common.{◌≡◌, ◌≤◌, ◌+◌, ℕ, true, List, ◌++◌, length, map}
use Rattle.sel_text.proofs.Common.{shape_of, shapes_of, Values, listed, all_fit, fields_fit, item_value, bracketed, item_texts, parenthesized, part_texts}
use Rattle.sel_text.proofs.Entries.{IsLeft, HasParts, shapes_from}
use Rattle.sel_text.proofs.item.+reading_rows.Given as goal

abbrev pub invariant-read_items-loop : goal.invariant-read_items-loop
invariant-read_items-loop l =
    (entries : Values) (more : List ℕ) → all_fit (shape_of l.dtype) entries ≡ true → l.fn.bytes ≡ bracketed (item_texts (shape_of l.dtype) entries) ++ more →
    IsLeft (shape_of l.dtype) (listed entries) (map item_value l.items.items) l.rest more × (length l.rest + l.counter ≤ length l.fn.bytes)

abbrev pub invariant-read_parts-loop-k : goal.invariant-read_parts-loop-k
invariant-read_parts-loop-k l =
    (entries : Values) (more : List ℕ) → fields_fit (shapes_of (map shape_of l.dtypes)) entries ≡ true → l.fn.bytes ≡ parenthesized (part_texts (shapes_of (map shape_of l.dtypes)) entries) ++ more →
    HasParts (shapes_from l.k l.dtypes) (listed entries) (map item_value l.parts.items) l.k l.rest more
