-- The child rows of lists.
use Rattle.std.proofs.Common.{◌<◌, replicate, ◌≡◌, ℕ, ◌+◌, ◌*◌, Bool, true, ◌||◌, List, [], ◌∷◌, ◌++◌, map, length, Option, Some, refl, sym, ap, ◌∙◌, arith, append_assoc, length-append}
use Rattle.sel_text.proofs.Common.{common_steps, max_rows, of_null, exceeds_limit, eq-eqb, flat_map, list_all, slice_range, range_with_len, nat_tests, length-replicate, list_all-append, Bits, Malformed, masked, too_many, Covers, list_fault, block_fault, list_of, list_rows, block_rows, rows, Shape, of_large_list, of_fixed_size_list, Value, Null, Values, no_values, next_value, listed, is_valid, Column, both, and_first, and_second, offsets_below, fits, all_fit, block_in, entries_in, ShowsRows, NullSlots}
use Rattle.sel_text.proofs.FittingRows.{nulls_fit}
use Rattle.sel_text.proofs.ItemRows.{values_back}
use Rattle.sel_text.proofs.Making.{all_nulls, first_of_three, first_of_four}
use Rattle.sel_text.proofs.OffsetsBelow.{count_between, ends_inside, parts_between, slice_here}
use Rattle.sel_text.proofs.Refusals.{many_past, no_difference}
use Rattle.sel_text.proofs.Shown.{show_next}

listed_fit : (s : Shape) (vs : Values) → all_fit s vs ≡ true → list_all (fits s) (listed vs) ≡ true
listed_fit s no_values fit = refl
listed_fit s (next_value v vs) fit = both (fits s v) (list_all (fits s) (listed vs)) (and_first _ _ fit) (listed_fit s vs (and_second _ _ fit))

-- ---- the child rows of each row of a list type

list_entries : (s : Shape) (b : NullSlots) (row : Value) → fits (of_large_list s) row ≡ true → is_valid row ≡ true → row ≡ list_of (entries_in b row)
list_entries s b row fit valid = grind (arith, common_steps, values_back)

pub list_below : (s : Shape) (b : NullSlots) (row : Value) → fits (of_large_list s) row ≡ true → list_all (fits s) (entries_in b row) ≡ true
list_below s b row fit = grind (arith, common_steps, listed_fit)

block_entries : (s : Shape) (size : ℕ) (row : Value) → fits (of_fixed_size_list s size) row ≡ true → is_valid row ≡ true → row ≡ list_of (block_in size row)
block_entries s size row fit valid = grind (arith, common_steps, values_back)

pub block_below : (s : Shape) (size : ℕ) (row : Value) → fits (of_fixed_size_list s size) row ≡ true → list_all (fits s) (block_in size row) ≡ true
block_below s size row fit = grind (arith, common_steps, nulls_fit, listed_fit, and_second)

block_long : (s : Shape) (size : ℕ) (row : Value) → fits (of_fixed_size_list s size) row ≡ true → length (block_in size row) ≡ size
block_long s size row fit = grind (arith, nat_tests, length-replicate, and_first)

-- ---- if the rows of a list fit a type

module _ (below : Value → List Value) (p : Value → Bool) where
  -- The child rows fit it as well.
  pub all_below : (q : Value → Bool) → ((row : Value) → p row ≡ true → list_all q (below row) ≡ true) → (rows : List Value) → list_all p rows ≡ true → list_all q (flat_map below rows) ≡ true
  all_below q each [] fit = refl
  all_below q each (row ∷ rows) fit =
      list_all-append q (below row) (flat_map below rows)
      ∙ both (list_all q (below row)) (list_all q (flat_map below rows)) (each row (and_first _ _ fit)) (all_below q each rows (and_second _ _ fit))

  -- If each valid row is a list of its child rows, these lists show the rows.
  lists_show : ((row : Value) → p row ≡ true → is_valid row ≡ true → row ≡ list_of (below row)) → (rows : List Value) → list_all p rows ≡ true → ShowsRows rows (map list_of (map below rows))
  lists_show each [] fit = tt
  lists_show each (row ∷ rows) fit = show_next row (list_of (below row)) rows (map list_of (map below rows)) (each row (and_first _ _ fit)) (lists_show each rows (and_second _ _ fit))

  -- Fixed-size lists.
  blocks_long : (size : ℕ) → ((row : Value) → p row ≡ true → length (below row) ≡ size) → (rows : List Value) → list_all p rows ≡ true → length (flat_map below rows) ≡ length rows * size
  blocks_long size each [] fit = omega arith
  blocks_long size each (row ∷ rows) fit = grind (arith, common_steps, and_first, and_second, (blocks_long size each rows (and_second (p row) (list_all p rows) fit)))

  -- The parts of the child with this size are the lists.
  blocks_from : (size : ℕ) → ((row : Value) → p row ≡ true → length (below row) ≡ size) → (rows pre child : List Value) (k : ℕ) → list_all p rows ≡ true → length pre ≡ k * size → child ≡ pre ++ flat_map below rows →
      map (λ i. slice_range child (i * size) (i * size + size)) (range_with_len k (length rows)) ≡ map below rows
  blocks_from size sized [] pre child k fit long is = refl
  blocks_from size sized (row ∷ rows) pre child k fit long is =
      let count = sized row (and_first _ _ fit) in
      let next : length (pre ++ below row) ≡ (k + 1) * size = omega (arith, length-append pre (below row)) in
      let here = slice_here pre (below row) (flat_map below rows) (k * size) (k * size + size) (sym long) (ap (λ n. k * size + n) (sym count)) in
      let rest = blocks_from size sized rows (pre ++ below row) child (k + 1) (and_second (p row) (list_all p rows) fit) next (is ∙ sym (append_assoc pre (below row) (flat_map below rows))) in
      ap (λ l. slice_range l (k * size) (k * size + size) ∷ map (λ i. slice_range child (i * size) (i * size + size)) (range_with_len (k + 1) (length rows))) is ∙ cc (here, rest)

-- The child rows of lists fit the type of the entries.
pub lists_fit : (b : NullSlots) (s : Shape) (vs below : List Value) → below ≡ flat_map (entries_in b) vs → list_all (fits (of_large_list s)) vs ≡ true → list_all (fits s) below ≡ true
lists_fit b s vs below read fit = ap (list_all (fits s)) read ∙ all_below (entries_in b) (fits (of_large_list s)) (fits s) (list_below s b) vs fit

pub blocks_fit : (s : Shape) (size : ℕ) (vs below : List Value) → below ≡ flat_map (block_in size) vs → list_all (fits (of_fixed_size_list s size)) vs ≡ true → list_all (fits s) below ≡ true
blocks_fit s size vs below read fit = ap (list_all (fits s)) read ∙ all_below (block_in size) (fits (of_fixed_size_list s size)) (fits s) (block_below s size) vs fit

-- ---- list columns

pub same_lists : (o p : List ℕ) (c d : Column) (v w : Option Bits) → o ≡ p → c ≡ d → v ≡ w → list_rows o (rows c) v ≡ list_rows p (rows d) w
same_lists o p c d v w offsets child validity = ap (λ x. list_rows x (rows c) v) offsets ∙ ap (λ x. list_rows p (rows x) v) child ∙ ap (λ x. list_rows p (rows d) x) validity

pub same_blocks : (size side n m : ℕ) (c d : Column) (v w : Option Bits) → size ≡ side → n ≡ m → c ≡ d → v ≡ w → block_rows size n (rows c) v ≡ block_rows side m (rows d) w
same_blocks size side n m c d v w width count child validity = grind (arith, common_steps)

pub lists_made : (b : NullSlots) (s : Shape) (vs child : List Value) (offsets : List ℕ) (validity : Option Bits) → list_all (fits (of_large_list s)) vs ≡ true → offsets ≡ offsets_below (entries_in b) vs → child ≡ flat_map (entries_in b) vs →
    ((plain : List Value) → ShowsRows vs plain → masked validity plain ≡ vs) → list_rows offsets child validity ≡ vs
lists_made b s vs child offsets validity fit ends is hides =
    ap (λ l. masked validity (map list_of l)) (parts_between (entries_in b) vs offsets ends child is) ∙ hides (map list_of (map (entries_in b) vs)) (lists_show (entries_in b) (fits (of_large_list s)) (list_entries s b) vs fit)

pub lists_past : (below : Value → List Value) (vs : List Value) (offsets : List ℕ) (count : ℕ) (validity : Option Bits) (m : Malformed) → offsets ≡ offsets_below below vs → count ≡ length (flat_map below vs) → Covers validity (length vs) →
    list_fault offsets count validity ≡ Some m → too_many (length vs) ≡ true
lists_past below vs offsets count validity m ends long covers is = grind (arith, nat_tests, count_between, ends_inside, no_difference, first_of_three)

pub blocks_made : (s : Shape) (size : ℕ) (vs child : List Value) (n : ℕ) (validity : Option Bits) → list_all (fits (of_fixed_size_list s size)) vs ≡ true → n ≡ length vs → child ≡ flat_map (block_in size) vs →
    ((plain : List Value) → ShowsRows vs plain → masked validity plain ≡ vs) → block_rows size n child validity ≡ vs
blocks_made s size vs child n validity fit count is hides =
    let below = block_in size in
    ap (λ k. block_rows size k child validity) count
    ∙ ap (λ l. masked validity (map list_of l)) (blocks_from below (fits (of_fixed_size_list s size)) size (block_long s size) vs [] child 0 fit (omega arith) is)
    ∙ hides (map list_of (map below vs)) (lists_show below (fits (of_fixed_size_list s size)) (block_entries s size) vs fit)

pub blocks_count : (s : Shape) (size n : ℕ) (vs : List Value) → list_all (fits (of_fixed_size_list s size)) vs ≡ true → n ≡ length vs → length (flat_map (block_in size) vs) ≡ n * size
blocks_count s size n vs fit same = blocks_long (block_in size) (fits (of_fixed_size_list s size)) size (block_long s size) vs fit ∙ ap (λ k. k * size) (sym same)

pub blocks_past : (s : Shape) (size : ℕ) (vs : List Value) (n count : ℕ) (validity : Option Bits) (m : Malformed) → list_all (fits (of_fixed_size_list s size)) vs ≡ true → n ≡ length vs → count ≡ length (flat_map (block_in size) vs) → Covers validity (length vs) →
    block_fault size n count validity ≡ Some m → (too_many (length vs) || too_many size) ≡ true
blocks_past s size vs n count validity m fit same long covers is = grind (arith, common_steps, blocks_long, fits, block_long, no_difference, first_of_four, eq-eqb)

-- Too many child rows exceed a limit.
pub blocks_many : (b : NullSlots) (s : Shape) (size n : ℕ) (vs : List Value) → list_all (fits (of_fixed_size_list s size)) vs ≡ true → n ≡ length vs → max_rows < n * size → exceeds_limit b s (flat_map (block_in size) vs) ≡ true
blocks_many b s size n vs fit same many = grind (arith, common_steps, blocks_count, many_past, nat_tests)

-- Child rows of the null type are as many nulls.
pub blocks_null : (size n : ℕ) (vs : List Value) → list_all (fits (of_fixed_size_list of_null size)) vs ≡ true → n ≡ length vs → replicate (n * size) Null ≡ flat_map (block_in size) vs
blocks_null size n vs fit same = grind (arith, common_steps, blocks_count, all_nulls, all_below, fits, block_below)

-- The same if their number has more than 64 bits.
pub blocks_wide : (b : NullSlots) (s : Shape) (size n : ℕ) (vs : List Value) → list_all (fits (of_fixed_size_list s size)) vs ≡ true → n ≡ length vs → (n * size < 18446744073709551616 → ⊥) → exceeds_limit b s (flat_map (block_in size) vs) ≡ true
blocks_wide b s size n vs fit same wide = let many : max_rows < n * size = grind (arith, wide) in blocks_many b s size n vs fit same many
