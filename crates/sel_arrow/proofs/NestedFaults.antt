-- The rules for columns with children agree with `well_formed`.
use Rattle.std.proofs.Common.{◌≡◌, ℕ, ◌*◌, Bool, true, not, ◌&&◌, nat_le, ◌==◌, List, length, Option, None, is_some, arith}
use Rattle.sel_arrow.proofs.Common.{Bits, IsRising, list_fault, block_fault, struct_length_fault, covers, is_few, rows_between, last_offset, is_rising, rows, row_count, well_formed, Column}
use Rattle.sel_arrow.proofs.NestedRows.{length-rows, rising_test}

-- If no rule of structs is broken, each field has the right number of rows.
pub tuple_fit : (len : ℕ) (fit : Bool) (validity : Option Bits) → struct_length_fault len fit validity ≡ None → fit ≡ true
tuple_fit len fit validity sound = grind arith

-- Lists that break no rule, over a well-formed child.
pub list_test : (offsets : List ℕ) (values : Column) (validity : Option Bits) (n : ℕ) (t : Bool) → IsRising offsets → well_formed values ≡ true → n ≡ length (rows values) → is_some (list_fault offsets n validity) ≡ not t →
    t ≡ (is_rising offsets && is_few (rows_between offsets) && nat_le (last_offset offsets) (row_count values) && covers validity (rows_between offsets) && well_formed values)
list_test offsets values validity n t rising formed count fault = grind (arith, length-rows, rising_test)

-- fixed-size lists that break no rule, over a well-formed child.
pub block_test : (size len : ℕ) (values : Column) (validity : Option Bits) (n : ℕ) (t : Bool) → well_formed values ≡ true → n ≡ length (rows values) → is_some (block_fault size len n validity) ≡ not t →
    t ≡ (is_few len && is_few size && (row_count values == len * size) && covers validity len && well_formed values)
block_test size len values validity n t formed count fault = grind (arith, length-rows)
