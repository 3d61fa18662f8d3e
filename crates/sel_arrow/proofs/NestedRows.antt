-- Rows of columns with children, and the properties of well-formed columns.
use Rattle.std.proofs.Common.{◌≡◌, ◌≢◌, ℕ, zero, suc, ◌+◌, ◌*◌, ◌≤◌, ◌<◌, Bool, true, ◌&&◌, nat_le, ◌==◌, List, [], ◌∷◌, length, Option, refl, ◌∙◌, arith, get_or, Vec, Box, Global, le-leb}
use Rattle.sel_arrow.proofs.Common.{range_with_len, slice_range, nat_tests, length-replicate, max_rows, Bits, IsRising, Value, Covers, covers, is_few, list_of, list_rows, blocks, block_rows, struct_at, struct_rows, IsValidityOf, pieces, rows_between, last_offset, is_rising, rises_from, rows, row_count, type_of, well_formed, Shape, of_null, Column, LargeList, FixedSizeList, Struct, Row_of-Column, end_of-Column}
use Rattle.std.proofs.lemmas.List.FromFn.{length-map-range_with_len, length-range_with_len}
use mathlib.Core.Former.{Count}
use Rattle.sel_arrow.specs.declared.column.Column.TheVariants.{Struct'}
use Rattle.sel_arrow.proofs.{ByteRows.covers_pieces, ByteRows.length-pieces, ByteRows.length-byte_rows, Lists.both, Lists.and_second, ViewRows.length-view_rows}
use Rattle.sel_arrow.proofs.Rows.{length-mapped, tells-mapped, length-truth_rows, length-number_rows}

-- ---- the number of rows

pub length-list_rows : (offsets : List ℕ) (child : List Value) (validity : Option Bits) → length (list_rows offsets child validity) ≡ rows_between offsets
length-list_rows offsets child validity = length-mapped list_of (pieces offsets child) validity ∙ length-pieces offsets child

pub length-blocks : {A : Type 0} (width n : ℕ) (xs : List A) → length (blocks width n xs) ≡ n
length-blocks width n xs = length-map-range_with_len (λ i. slice_range xs (i * width) (i * width + width)) 0 n

pub length-block_rows : (width n : ℕ) (child : List Value) (validity : Option Bits) → length (block_rows width n child validity) ≡ n
length-block_rows width n child validity = length-mapped list_of (blocks width n child) validity ∙ length-blocks width n child

length-range : (n : ℕ) → length (range_with_len 0 n) ≡ n
length-range n = length-range_with_len 0 n

pub length-tuple_rows : (n : ℕ) (fields : List (List Value)) (validity : Option Bits) → length (struct_rows n fields validity) ≡ n
length-tuple_rows n fields validity = length-mapped (struct_at fields) (range_with_len 0 n) validity ∙ length-range n

pub length-rows : (c : Column) → length (rows c) ≡ row_count c
length-rows c =
    grind (
      arith,
      length-replicate,
      length-truth_rows,
      length-number_rows,
      length-byte_rows,
      length-view_rows,
      length-list_rows,
      length-block_rows,
      length-tuple_rows,
    )

-- ---- the validity agrees with the rows

pub tells-lists : (s : Shape) (offsets : List ℕ) (child : List Value) (validity : Option Bits) → s ≢ of_null → Covers validity (rows_between offsets) → IsValidityOf s validity (list_rows offsets child validity)
tells-lists s offsets child validity other covers = tells-mapped list_of (λ x. refl) s (pieces offsets child) validity other (covers_pieces offsets child validity covers)

pub tells-blocks : (s : Shape) (width n : ℕ) (child : List Value) (validity : Option Bits) → s ≢ of_null → Covers validity n → IsValidityOf s validity (block_rows width n child validity)
tells-blocks s width n child validity other covers = tells-mapped list_of (λ x. refl) s (blocks width n child) validity other (λ v there. rw length-blocks (covers v there))

pub tells-tuples : (s : Shape) (n : ℕ) (fields : List (List Value)) (validity : Option Bits) → s ≢ of_null → Covers validity n → IsValidityOf s validity (struct_rows n fields validity)
tells-tuples s n fields validity other covers = tells-mapped (struct_at fields) (λ x. refl) s (range_with_len 0 n) validity other (λ v there. rw length-range (covers v there))

-- ---- non-decreasing offsets

rises : (a : ℕ) (ns : List ℕ) → ((j k : ℕ) → j ≤ k → k < length (a ∷ ns) → get_or (a ∷ ns) j 0 ≤ get_or (a ∷ ns) k 0) → rises_from a ns ≡ true
rises a [] h = refl
rises a (b ∷ ns) h = both (nat_le a b) (rises_from b ns) (le-leb a b (h 0 1 (omega arith) (omega arith))) (rises b ns (λ j k le below. h (suc j) (suc k) (omega arith) (omega arith)))

pub rising_test : (ns : List ℕ) → IsRising ns → is_rising ns ≡ true
rising_test [] h = absurd (omega (arith, h.some))
rising_test (a ∷ ns) h = rises a ns h.rising

each_rises : (a : ℕ) (ns : List ℕ) (j k : ℕ) → rises_from a ns ≡ true → j ≤ k → k < length (a ∷ ns) → get_or (a ∷ ns) j 0 ≤ get_or (a ∷ ns) k 0
each_rises a (b ∷ ns) zero (suc k) e le h = grind (arith, (each_rises b ns 0 k (and_second (nat_le a b) (rises_from b ns) e) (omega arith) (omega arith)))
each_rises a (b ∷ ns) (suc j) (suc k) e le h = each_rises b ns j k (and_second (nat_le a b) (rises_from b ns) e) (omega arith) (omega arith)
each_rises a ns j k e le h = grind arith

pub tested_rising : (ns : List ℕ) → is_rising ns ≡ true → IsRising ns
tested_rising ns e = grind (arith, each_rises)

-- ---- the parts of well-formed columns

-- The properties of a well-formed list column.
pub record HasLists (offsets : List ℕ) (values : Column) (validity : Option Bits) : Type 0 where
  pub rising : IsRising offsets
  pub few : rows_between offsets ≤ max_rows
  pub ends : last_offset offsets ≤ row_count values
  pub covered : Covers validity (rows_between offsets)
  pub child : well_formed values ≡ true

-- Five tests that hold together.
five_parts : (a b c d e : Bool) → (a && b && c && d && e) ≡ true → (a ≡ true) × (b ≡ true) × (c ≡ true) × (d ≡ true) × (e ≡ true)
five_parts a b c d e h = grind arith

pub has_lists : (offsets : List ℕ) (values : Column) (validity : Option Bits) →
    (is_rising offsets && is_few (rows_between offsets) && nat_le (last_offset offsets) (row_count values) && covers validity (rows_between offsets) && well_formed values) ≡ true → HasLists offsets values validity
has_lists offsets values validity h = grind (arith, five_parts, tested_rising)

pub lists_formed : (offsets : List ℕ) (values : Column) (validity : Option Bits) → HasLists offsets values validity →
    (is_rising offsets && is_few (rows_between offsets) && nat_le (last_offset offsets) (row_count values) && covers validity (rows_between offsets) && well_formed values) ≡ true
lists_formed offsets values validity h = grind (arith, rising_test)

-- The properties of a well-formed fixed-size list column.
pub record HasBlocks (size len : ℕ) (values : Column) (validity : Option Bits) : Type 0 where
  pub few : len ≤ max_rows
  pub narrow : size ≤ max_rows
  pub fills : row_count values ≡ len * size
  pub covered : Covers validity len
  pub child : well_formed values ≡ true

equal : (m n : ℕ) → (m == n) ≡ true → m ≡ n
equal m n h = grind (arith, nat_tests, h)

pub has_blocks : (size len : ℕ) (values : Column) (validity : Option Bits) →
    (is_few len && is_few size && (row_count values == len * size) && covers validity len && well_formed values) ≡ true → HasBlocks size len values validity
has_blocks size len values validity h = grind (arith, five_parts)

pub blocks_formed : (size len : ℕ) (values : Column) (validity : Option Bits) → HasBlocks size len values validity →
    (is_few len && is_few size && (row_count values == len * size) && covers validity len && well_formed values) ≡ true
blocks_formed size len values validity h = grind arith

-- The validity of a well-formed struct column has the right length, and the number of rows is in
-- bounds.
pub struct_covered : (len : ℕ) (validity : Option Bits) (fields : Bool) → (is_few len && covers validity len && fields) ≡ true → (len ≤ max_rows) × Covers validity len × (fields ≡ true)
struct_covered len validity fields h = grind arith

-- ---- the same for a column that is equal to one of these

pub list_tells : (c : Column) (offsets : List ℕ) (values : Box Column Global) (validity : Option Bits) → c ≡ LargeList offsets values validity → well_formed c ≡ true → IsValidityOf (type_of c) validity (rows c)
list_tells c offsets values validity is formed = grind (arith, tells-lists)

pub block_tells : (c : Column) (size len : ℕ) (values : Box Column Global) (validity : Option Bits) → c ≡ FixedSizeList size len values validity → well_formed c ≡ true → IsValidityOf (type_of c) validity (rows c)
block_tells c size len values validity is formed = grind (arith, tells-blocks)

abbrev pub row_of : Column → (n : Count) × Row_of-Column n
row_of (Struct' len n fields validity) = (_, fields)
row_of _ = (_, end_of-Column)

pub struct_tells : (c : Column) (len : ℕ) (fields : Vec Column Global) (validity : Option Bits) → c ≡ Struct len fields validity → well_formed c ≡ true → IsValidityOf (type_of c) validity (rows c)
struct_tells c len fields validity is formed = grind (arith, tells-tuples)

pub ruleset row_counts = (length-rows)

pub ruleset telling = (list_tells, block_tells, struct_tells)
