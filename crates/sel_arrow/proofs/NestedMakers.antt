-- Columns with children, from parts that break no rule, and with a replaced validity.
use Rattle.std.proofs.Common.{◌≡◌, ◌≢◌, ℕ, Bool, true, false, ◌==◌, List, length, map, Option, None, is_some, All, Vec, Box, Global, refl, ap, sym, subst, ◌∙◌, arith}
use Rattle.sel_arrow.proofs.Common.{list_all, nat_tests, Bits, IsRising, list_fault, block_fault, struct_length_fault, Covers, IsValidityOf, rows, row_count, type_of, well_formed, IsField, IsWellFormed, Column, LargeList, FixedSizeList, Struct}
use Rattle.sel_arrow.proofs.{Lists.all_at, NestedFaults.list_test, NestedFaults.block_test, NestedFaults.tuple_fit}
use Rattle.sel_arrow.proofs.NestedRows.{length-rows, length-list_rows, length-block_rows, length-tuple_rows, has_blocks, blocks_formed, list_tells, block_tells, struct_tells}
use Rattle.sel_arrow.proofs.Trees.{rows-Struct, struct_test, has_fields, fields_make}

-- ---- parts that break no rule

pub lists_make : (offsets : List ℕ) (values : Box Column Global) (validity : Option Bits) (n : ℕ) → IsRising offsets → well_formed values.value ≡ true → n ≡ length (rows values.value) → list_fault offsets n validity ≡ None →
    well_formed (LargeList offsets values validity) ≡ true
lists_make offsets values validity n rising formed count sound = sym (list_test offsets values.value validity n true rising formed count (ap is_some sound))

pub blocks_make : (size len : ℕ) (values : Box Column Global) (validity : Option Bits) (n : ℕ) → well_formed values.value ≡ true → n ≡ length (rows values.value) → block_fault size len n validity ≡ None →
    well_formed (FixedSizeList size len values validity) ≡ true
blocks_make size len values validity n formed count sound = sym (block_test size len values.value validity n true formed count (ap is_some sound))

counted : (len : ℕ) (cs : List Column) → list_all (λ c. row_count c == len) cs ≡ true → All IsWellFormed cs → All (IsField len) cs
counted len cs same formed = grind (arith, all_at)

pub tuples_make : (len : ℕ) (fields : Vec Column Global) (validity : Option Bits) (fit : Bool) → fit ≡ list_all (λ c. row_count c == len) fields.items → All IsWellFormed fields.items → struct_length_fault len fit validity ≡ None →
    well_formed (Struct len fields validity) ≡ true
tuples_make len fields validity fit is formed sound =
    let fits = tuple_fit len fit validity sound in
    sym (struct_test len fields validity true (counted len fields.items (sym is ∙ fits) formed) (ap (λ b. is_some (struct_length_fault len b validity)) (sym fits) ∙ ap is_some sound))

-- ---- a replaced validity

pub lists_under : (offsets : List ℕ) (values : Box Column Global) (old new : Option Bits) → well_formed (LargeList offsets values old) ≡ true → Covers new (length (rows (LargeList offsets values old))) → well_formed (LargeList offsets values new) ≡ true
lists_under offsets values old new formed covers = grind (arith, length-list_rows)

pub blocks_under : (size len : ℕ) (values : Box Column Global) (old new : Option Bits) → well_formed (FixedSizeList size len values old) ≡ true → Covers new (length (rows (FixedSizeList size len values old))) →
    well_formed (FixedSizeList size len values new) ≡ true
blocks_under size len values old new formed covers =
    let has = has_blocks size len values.value old formed in
    let covered = subst (Covers new) (length-block_rows size len (rows values.value) old) covers in
    blocks_formed size len values.value new (record { few = has.few; narrow = has.narrow; fills = has.fills; covered = covered; child = has.child })

pub tuples_under : (len : ℕ) (fields : Vec Column Global) (old new : Option Bits) → well_formed (Struct len fields old) ≡ true → Covers new (length (rows (Struct len fields old))) → well_formed (Struct len fields new) ≡ true
tuples_under len fields old new formed covers =
    let has = has_fields len fields old formed in
    let count = ap length (rows-Struct len fields old) ∙ length-tuple_rows len (map rows fields.items) old in
    fields_make len fields new (record { few = has.few; covered = subst (Covers new) count covers; fields = has.fields })

-- ---- the number of rows, and which are null

pub lists_tell : (offsets : List ℕ) (values : Box Column Global) (validity : Option Bits) → well_formed (LargeList offsets values validity) ≡ true → IsValidityOf (type_of (LargeList offsets values validity)) validity (rows (LargeList offsets values validity))
lists_tell offsets values validity formed = list_tells (LargeList offsets values validity) offsets values validity refl formed

pub blocks_tell : (size len : ℕ) (values : Box Column Global) (validity : Option Bits) → well_formed (FixedSizeList size len values validity) ≡ true →
    IsValidityOf (type_of (FixedSizeList size len values validity)) validity (rows (FixedSizeList size len values validity))
blocks_tell size len values validity formed = block_tells (FixedSizeList size len values validity) size len values validity refl formed

pub tuples_tell : (len : ℕ) (fields : Vec Column Global) (validity : Option Bits) → well_formed (Struct len fields validity) ≡ true → IsValidityOf (type_of (Struct len fields validity)) validity (rows (Struct len fields validity))
tuples_tell len fields validity formed = struct_tells (Struct len fields validity) len fields validity refl formed

pub tuples_count : (len : ℕ) (fields : Vec Column Global) (validity : Option Bits) → length (rows (Struct len fields validity)) ≡ len
tuples_count len fields validity = length-rows (Struct len fields validity)

-- ---- whether a column has a given number of rows

pub count_fits : (len n : ℕ) (c : Column) → n ≡ length (rows c) → n ≡ len → (row_count c == len) ≡ true
count_fits len n c count same = let is : row_count c ≡ len = sym (length-rows c) ∙ sym count ∙ same in grind (arith, nat_tests, is)

pub count_differs : (len n : ℕ) (c : Column) → n ≡ length (rows c) → n ≢ len → (row_count c == len) ≡ false
count_differs len n c count differs = grind (arith, length-rows)

pub ruleset nested_makers = (length-list_rows, length-block_rows, lists_under, blocks_under, tuples_under, lists_tell, blocks_tell, tuples_tell, tuples_count, rows-Struct)

pub ruleset making = (length-rows, lists_make, blocks_make)
