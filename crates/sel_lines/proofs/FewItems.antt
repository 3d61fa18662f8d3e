-- A word has no more rows, and no more items and bytes in them, than a column can have.
use Rattle.std.proofs.Common.{rules, ◌≡◌, ◌≤◌, ℕ, suc, pos, ◌+◌, ◌*◌, Bool, cond, List, [], ◌∷◌, length, length-append, map, replicate, Option, Some, arith, refl, ap, sym, codes, bytes_eq, ◌==◌, option_map}
use Rattle.sel_lines.proofs.Common.{common_steps, slice_split, length-replicate, list_of, Value, Null, Number, Items, items_in, joined_items, byte_count, bytes_needed, blocks_of, block_of, parsed_width, standing_for, all_some, column_of, row_of, AreFew, list_of_word, lists_of, number_of, string_value}
use Rattle.sel_gather.proofs.ItemRuns.{listed_values}
use Rattle.sel_lines.proofs.{Pieces.weight, Pieces.split_weight, Pieces.few_parts, RowLemmas.mapped_some}

either : {A P : Type 0} (b : Bool) (x y z : A) → cond b x y ≡ z → (x ≡ z → P) → (y ≡ z → P) → P
either b x y z is one other = grind (arith, common_steps)

-- `total` measures rows, and grows by at most 17 for each byte and separator of a row's word.
abbrev GrowsSlowly : (List ℕ → Option Value) → (List Value → ℕ) → Type 0
GrowsSlowly value_of total =
    (part : List ℕ) (row : Value) (rows : List Value) → value_of part ≡ Some row →
    total (row ∷ rows) ≤ 17 * suc (length part) + total rows

all_held : (value_of : List ℕ → Option Value) (total : List Value → ℕ) → total [] ≡ 0 → GrowsSlowly value_of total →
    (parts : List (List ℕ)) (read : List Value) → all_some (map value_of parts) ≡ Some read →
    (length read ≡ length parts) × (total read ≤ 17 * weight parts)
all_held value_of total zero slow [] read is = let none : [] ≡ read = cc in rw (← none) (refl, omega (arith, zero))
all_held value_of total zero slow (part ∷ parts) read is = search (rules, (all_held value_of total zero slow parts))

-- The rows of the words between separators.
few_rows : (value_of : List ℕ → Option Value) (total : List Value → ℕ) (none : Bool) (p : ℕ → Bool) (word : List ℕ) (read : List Value) →
    total [] ≡ 0 → GrowsSlowly value_of total →
    cond none (Some []) (all_some (map value_of (slice_split p word))) ≡ Some read →
    (length read ≤ suc (length word)) × (total read ≤ 17 * suc (length word))
few_rows value_of total none p word read zero slow is =
    either none (Some []) (all_some (map value_of (slice_split p word))) (Some read) is
    (λ made. let empty : [] ≡ read = cc in rw (← empty) (omega arith, omega (arith, zero)))
    (λ made.
    let held = all_held value_of total zero slow (slice_split p word) read made in
    let all = split_weight p word in
    (omega (arith, held.0, few_parts (slice_split p word), all), omega (arith, held.1, all)))

-- ---- strings

row_bytes : (word : List ℕ) (row : Value) → row_of string_value word ≡ Some row → byte_count row ≤ length word
row_bytes word row is = grind (arith, common_steps)

pub few_texts : (word : List ℕ) (rows : List Value) → Some rows ≡ column_of string_value word →
    (length rows ≤ suc (length word)) × (bytes_needed rows ≤ 17 * suc (length word))
few_texts word rows is =
    few_rows (row_of string_value) bytes_needed (bytes_eq word (codes "-")) (λ b. b == 44) word rows refl
    (λ part row rows here. omega (arith, row_bytes part row here)) (sym is)

-- ---- lists

item_count : (word : List ℕ) (row : Value) → list_of_word word ≡ Some row → length (items_in 0 row) ≤ suc (length word)
item_count word row is =
    either (bytes_eq word (codes "_")) (Some Null) (option_map list_of (column_of number_of word)) (Some row) is
    (λ made. let same : Null ≡ row = cc in rw (← same) (omega arith))
    (λ made. mapped_some list_of (column_of number_of word) row made (λ items here same.
    let count = (few_rows (row_of number_of) (λ rows. 0) (bytes_eq word (codes "-")) (λ b. b == 44) word items refl
    (λ part row rows at. omega arith) here).0 in
    rw (← same, listed_values items) count))

pub few_lists : (word : List ℕ) (read : List Value) → length word ≤ 1048576 → lists_of word ≡ Some read → AreFew read (joined_items 0 read)
few_lists word read short is =
    let few = few_rows list_of_word (λ rows. length (joined_items 0 rows)) (bytes_eq word (codes ".")) (λ b. b == 124) word read refl
    (λ part row rows here. omega (arith, item_count part row here, length-append (items_in 0 row) (joined_items 0 rows))) is in
    record { rows = omega (arith, few.0, short); items = omega (arith, few.1, short) }

-- ---- fixed-size lists

stored_count : (w : ℕ) (word : List ℕ) (row : Value) → w ≤ 16 → list_of_word word ≡ Some row →
    length (items_in w (standing_for w row)) ≤ 17 * suc (length word)
stored_count w word Null narrow is =
    omega (arith, narrow, ap length (listed_values (replicate w (Number (pos 0)))), length-replicate w (Number (pos 0)))
stored_count w word (Items items) narrow is = let count = item_count word (Items items) is in omega (arith, count)
stored_count w word row narrow is = omega (arith, narrow, length-replicate w Null)

block_count : (w : ℕ) (word : List ℕ) (row : Value) → w ≤ 16 → block_of w word ≡ Some row → length (items_in w (standing_for w row)) ≤ 17 * suc (length word)
block_count w word row narrow is = grind (arith, common_steps, stored_count)

pub few_blocks : (w : ℕ) (word : List ℕ) (read : List Value) → w ≤ 16 → length word ≤ 1048576 → blocks_of w word ≡ Some read → AreFew read (joined_items w (map (standing_for w) read))
few_blocks w word read narrow short is =
    let few = few_rows (block_of w) (λ rows. length (joined_items w (map (standing_for w) rows))) (bytes_eq word (codes "."))
    (λ b. b == 124) word read refl
    (λ part row rows here. omega (arith, block_count w part row narrow here, length-append {A = Value})) is in
    record { rows = omega (arith, few.0, short); items = omega (arith, few.1, short) }

pub narrow_width : (word : List ℕ) (w : ℕ) → Some w ≡ parsed_width word → w ≤ 16
narrow_width word w is = grind (arith, common_steps)
