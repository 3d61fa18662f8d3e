-- A row of a list column, and its child rows.
use Rattle.sel_gather.proofs.Common.{◌≡◌, ℕ, ◌+◌, ◌-◌, ◌*◌, ◌≤◌, ◌<◌, true, List, length, Option, Box, Global, ap, sym, ◌∙◌, arith, get_or, max_rows, Bits}
use Rattle.sel_gather.proofs.Common.{Covers, rows_between, last_offset, rows, row_count, well_formed, Column, LargeList, FixedSizeList, NullColumn, Boolean}
use Rattle.sel_gather.proofs.Common.{Int8, Int16, Int32, Int64, Int128, UInt8, UInt16, UInt32, UInt64, UInt128, LargeBinary, BinaryView, Utf8View, LargeList'}
use Rattle.sel_gather.proofs.Common.{FixedSizeList', Struct', has_lists, has_blocks, struct_covered, length-rows, child, Bool, if◌then◌else◌, false, [], take}
use Rattle.sel_gather.proofs.Common.{drop, slice_range, get_or-map-range_with_len, valid_at, list_of, blocks, pieces, Null, length-pieces, get_or-pieces}
use Rattle.sel_gather.proofs.Common.{HasLists, HasBlocks, length-blocks, null_mapped, valid_mapped, is_listing, type_of, part_of, Some, None, subst, refl}
use Rattle.std.proofs.lemmas.Nat.{mul-le}
use Rattle.sel_gather.proofs.Below.{child_formed}

-- The number of rows of a well-formed column is in bounds.
pub few_rows : (c : Column) → well_formed c ≡ true → row_count c ≤ max_rows
few_rows (NullColumn column) h = column.rows_fit
few_rows (Boolean column) h = column.rows_fit
few_rows (Int8 column) h = column.rows_fit
few_rows (Int16 column) h = column.rows_fit
few_rows (Int32 column) h = column.rows_fit
few_rows (Int64 column) h = column.rows_fit
few_rows (Int128 column) h = column.rows_fit
few_rows (UInt8 column) h = column.rows_fit
few_rows (UInt16 column) h = column.rows_fit
few_rows (UInt32 column) h = column.rows_fit
few_rows (UInt64 column) h = column.rows_fit
few_rows (UInt128 column) h = column.rows_fit
few_rows (LargeBinary column) h = column.rows_fit
few_rows (BinaryView column) h = column.rows_fit
few_rows (Utf8View column) h = column.bytes.rows_fit
few_rows (LargeList' offsets p values validity) h = (has_lists offsets values validity h).few
few_rows (FixedSizeList' size len p values validity) h = (has_blocks size len values validity h).few
few_rows (Struct' len n fields validity) h = (struct_covered len validity _ h).0

pub few_below : (c : Column) → is_listing (type_of c) ≡ true → well_formed c ≡ true → length (rows (child c)) ≤ max_rows
few_below c is formed = omega (arith, length-rows (child c), few_rows (child c) (child_formed c is formed))

-- List i is within the child rows.
pub block_inside : (i n size : ℕ) → i < n → i * size + size ≤ n * size
block_inside i n size h = omega (arith, mul-le (i + 1) size n size (omega (arith, h)) (omega arith))

-- ---- the child rows of row i

abbrev pub IsPart : Column → ℕ → Option (ℕ × ℕ) → Type 0
IsPart c i None = get_or (rows c) i Null ≡ Null
IsPart c i (Some part) = (get_or (rows c) i Null ≡ list_of (take part.1 (drop part.0 (rows (child c))))) × (part.0 + part.1 ≤ length (rows (child c)))

pub part_is : (c : Column) (i : ℕ) → is_listing (type_of c) ≡ true → well_formed c ≡ true → i < length (rows c) → IsPart c i (part_of c i)
part_is (LargeList' offsets p values validity) i is formed h = cases (valid_at validity i) refl
  where
    has : HasLists offsets values validity
    has = has_lists offsets values validity formed

    below : i < rows_between offsets
    below = omega (arith, h, length-rows (LargeList' offsets p values validity))

    covered : Covers validity (length (pieces offsets (rows values)))
    covered = λ v there. rw length-pieces (has.covered v there)

    cases : (b : Bool) → valid_at validity i ≡ b →
        IsPart (LargeList' offsets p values validity) i (if b then Some (get_or offsets i 0, get_or offsets (i + 1) 0 - get_or offsets i 0) else None)
    cases true e =
        let found = valid_mapped list_of (pieces offsets (rows values)) validity i [] e (rw length-pieces below) covered in
        let ends : get_or offsets (i + 1) 0 ≤ last_offset offsets = has.rising.rising (i + 1) (length offsets - 1) (omega (arith, below)) (omega (arith, below)) in
        let ordered : get_or offsets i 0 ≤ get_or offsets (i + 1) 0 = has.rising.rising i (i + 1) (omega arith) (omega (arith, below)) in
        (found ∙ ap list_of (get_or-pieces offsets (rows values) i below), omega (arith, ends, ordered, has.ends, length-rows values))
    cases false e = null_mapped list_of (pieces offsets (rows values)) validity i e (rw length-pieces below) covered
part_is (FixedSizeList' size len p values validity) i is formed h = cases (valid_at validity i) refl
  where
    has : HasBlocks size len values validity
    has = has_blocks size len values validity formed

    below : i < len
    below = omega (arith, h, length-rows (FixedSizeList' size len p values validity))

    covered : Covers validity (length (blocks size len (rows values)))
    covered = λ v there. rw length-blocks (has.covered v there)

    cases : (b : Bool) → valid_at validity i ≡ b → IsPart (FixedSizeList' size len p values validity) i (if b then Some (i * size, size) else None)
    cases true e =
        let found = valid_mapped list_of (blocks size len (rows values)) validity i [] e (rw length-blocks below) covered in
        let at = get_or-map-range_with_len (λ k. slice_range (rows values) (k * size) (k * size + size)) 0 len i i [] below (omega arith) in
        let width : (i * size + size) - i * size ≡ size = omega arith in
        let part : get_or (blocks size len (rows values)) i [] ≡ take size (drop (i * size) (rows values)) = at ∙ ap (λ n. take n (drop (i * size) (rows values))) width in
        (found ∙ ap list_of part, omega (arith, has.fills, length-rows values, block_inside i len size below))
    cases false e = null_mapped list_of (blocks size len (rows values)) validity i e (rw length-blocks below) covered
part_is c i is formed h = absurd (cc is)

-- ---- lists with offsets

-- The place of row i among the offsets, as the code reads it.
pub record ListPlace (offsets : List ℕ) (validity : Option Bits) (i : ℕ) : Type 0 where
  pub below : i < rows_between offsets
  pub covered : Covers validity (rows_between offsets)
  pub short : rows_between offsets ≤ max_rows
  pub ordered : get_or offsets i 0 ≤ get_or offsets (i + 1) 0
  pub few : get_or offsets (i + 1) 0 ≤ max_rows

pub of_list : (c : Column) (offsets : List ℕ) (values : Box Column Global) (validity : Option Bits) → c ≡ LargeList offsets values validity → well_formed c ≡ true → (i : ℕ) → i < length (rows c) → ListPlace offsets validity i
of_list c offsets values validity is formed i inside =
    let has = has_lists offsets values.value validity (ap well_formed (sym is) ∙ formed) in
    let below : i < rows_between offsets = omega (arith, inside, length-rows c, ap row_count is) in
    let ends : get_or offsets (i + 1) 0 ≤ last_offset offsets = has.rising.rising (i + 1) (length offsets - 1) (omega (arith, below)) (omega (arith, below)) in
    record {
      below = below;
      covered = has.covered;
      short = has.few;
      ordered = has.rising.rising i (i + 1) (omega arith) (omega (arith, below));
      few = omega (arith, ends, has.ends, few_rows values.value has.child);
    }

-- The row and its child rows.
pub record OfList (offsets : List ℕ) (values c : Column) (i : ℕ) : Type 0 where
  pub row : get_or (rows c) i Null ≡ list_of (take (get_or offsets (i + 1) 0 - get_or offsets i 0) (drop (get_or offsets i 0) (rows (child c))))
  pub ordered : get_or offsets i 0 ≤ get_or offsets (i + 1) 0
  pub inside : get_or offsets (i + 1) 0 ≤ length (rows (child c))
  pub few : length (rows (child c)) ≤ max_rows

module _ (c : Column) (offsets : List ℕ) (values : Box Column Global) (validity : Option Bits) (is : c ≡ LargeList offsets values validity) (formed : well_formed c ≡ true) (i : ℕ) (inside : i < length (rows c)) where
  list_part : (b : Bool) → valid_at validity i ≡ b → IsPart c i (if b then Some (get_or offsets i 0, get_or offsets (i + 1) 0 - get_or offsets i 0) else None)
  list_part b e =
      subst (IsPart c i) (ap (λ x. part_of x i) is ∙ ap (λ (t : Bool). if t then Some (get_or offsets i 0, get_or offsets (i + 1) 0 - get_or offsets i 0) else None) e)
      (part_is c i (ap (λ x. is_listing (type_of x)) is) formed inside)

  pub list_null : valid_at validity i ≡ false → get_or (rows c) i Null ≡ Null
  list_null e = list_part false e

  pub list_row : valid_at validity i ≡ true → OfList offsets values.value c i
  list_row e =
      let part = list_part true e in
      let ordered = (of_list c offsets values validity is formed i inside).ordered in
      record { row = part.0; ordered = ordered; inside = omega (arith, ordered, part.1); few = few_below c (ap (λ x. is_listing (type_of x)) is) formed }

-- ---- fixed-size lists

pub record BlockPlace (size len : ℕ) (validity : Option Bits) (i : ℕ) : Type 0 where
  pub below : i < len
  pub covered : Covers validity len
  pub few : i * size + size ≤ max_rows

pub of_block : (c : Column) (size len : ℕ) (values : Box Column Global) (validity : Option Bits) → c ≡ FixedSizeList size len values validity → well_formed c ≡ true → (i : ℕ) → i < length (rows c) → BlockPlace size len validity i
of_block c size len values validity is formed i inside =
    let has = has_blocks size len values.value validity (ap well_formed (sym is) ∙ formed) in
    let below : i < len = omega (arith, inside, length-rows c, ap row_count is) in
    record { below = below; covered = has.covered; few = omega (arith, block_inside i len size below, has.fills, few_rows values.value has.child) }

pub record OfBlock (size : ℕ) (c : Column) (i : ℕ) : Type 0 where
  pub row : get_or (rows c) i Null ≡ list_of (take size (drop (i * size) (rows (child c))))
  pub inside : i * size + size ≤ length (rows (child c))
  pub few : length (rows (child c)) ≤ max_rows
  pub narrow : size ≤ max_rows

module _ (c : Column) (size len : ℕ) (values : Box Column Global) (validity : Option Bits) (is : c ≡ FixedSizeList size len values validity) (formed : well_formed c ≡ true) (i : ℕ) (inside : i < length (rows c)) where
  block_part : (b : Bool) → valid_at validity i ≡ b → IsPart c i (if b then Some (i * size, size) else None)
  block_part b e =
      subst (IsPart c i) (ap (λ x. part_of x i) is ∙ ap (λ (t : Bool). if t then Some (i * size, size) else None) e) (part_is c i (ap (λ x. is_listing (type_of x)) is) formed inside)

  pub block_null : valid_at validity i ≡ false → get_or (rows c) i Null ≡ Null
  block_null e = block_part false e

  pub block_row : valid_at validity i ≡ true → OfBlock size c i
  block_row e =
      let part = block_part true e in
      let few = few_below c (ap (λ x. is_listing (type_of x)) is) formed in
      record { row = part.0; inside = part.1; few = few; narrow = omega (arith, few, part.1) }
