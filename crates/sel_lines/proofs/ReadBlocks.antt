-- Fixed-size lists that are parsed one by one.
use Rattle.std.proofs.Common.{rules, ◌≡◌, ℕ, ℤ, zero, suc, pos, ◌*◌, Bool, true, List, [], ◌∷◌, ◌++◌, length, get_or, map, replicate, Bor, Some, None, arith, refl, ap, sym, ◌∙◌, ◌==◌}
use Rattle.sel_lines.proofs.Common.{common_steps, list_all, map-append, append-nil, length-map, length-replicate, list_all-append, Bits, hidden, list_of, blocks, block_rows, rows, Value, Null, Truth, Number, is_valid, validities, both, and_first, and_second, items_in, joined_items, blocks_of, is_block, parsed_width, HasBlocks, standing_for, entries_text, fixed_words, shown_list, number_of, truth_of}
use Rattle.sel_arrow.specs.{NestedArrays.block_column, declared.fixed_size_list.FixedSizeListArray.FixedSizeListArray}
use Rattle.sel_gather.proofs.{ItemRuns.listed_values, Rebuilt.IsBlock, Rebuilt.blocks_length, Rebuilt.blocks_rebuilt}
use Rattle.sel_lines.{specs.declared.blocks.Blocks.Blocks, specs.declared.rows.Rows.Rows, proofs.ReadLists.held_length, proofs.RowLemmas.items_more}
use Rattle.sel_kernels.{specs.Entries.at_each, proofs.Elements.long_rows}

-- ---- a row, and the list that is stored for it

list_stands : (w : ℕ) (v : Value) → is_block w v ≡ true → IsBlock w (standing_for w v)
list_stands w v h = search (rules, listed_values, length-replicate)

lists_stand : (w : ℕ) (read : List Value) → list_all (is_block w) read ≡ true → (k : ℕ) → IsBlock w (get_or (map (standing_for w) read) k Null)
lists_stand w [] all k = tt
lists_stand w (v ∷ read) all zero = list_stands w v (and_first (is_block w v) (list_all (is_block w) read) all)
lists_stand w (v ∷ read) all (suc k) = lists_stand w read (and_second (is_block w v) (list_all (is_block w) read) all) k

-- Each row has the same number of items.
pub standing_length : (w : ℕ) (read : List Value) → list_all (is_block w) read ≡ true → length (joined_items w (map (standing_for w) read)) ≡ length read * w
standing_length w read all = blocks_length w (map (standing_for w) read) (lists_stand w read all) ∙ ap (λ n. n * w) (length-map read (standing_for w))

are_there : (w : ℕ) (read : List Value) → list_all (is_block w) read ≡ true → replicate (length read) true ≡ validities (map (standing_for w) read)
are_there w [] all = refl
are_there w (v ∷ read) all = search (rules, (are_there w read (and_second (is_block w v) (list_all (is_block w) read) all)))

shown_again : (w : ℕ) (read : List Value) → hidden (validities read) (map (standing_for w) read) ≡ read
shown_again w [] = refl
shown_again w (Null ∷ read) = ap (λ l. Null ∷ l) (shown_again w read)
shown_again w (v ∷ read) = ap (λ l. v ∷ l) (shown_again w read)

-- A list has as many items as were parsed.
pub width_is : (w n : ℕ) (items : Rows ℤ) → n ≡ length items.values.items → (n == w) ≡ is_block w (shown_list (Some items))
width_is w n items count =
    ap (λ m. m == w) (count
    ∙ sym (ap length (listed_values (hidden items.validity.items (map Number items.values.items)))
    ∙ held_length items.validity.items items.values.items))

-- ---- one more row

pub block_more : (w : ℕ) (read : List Value) (old new : Blocks) (row : Value) (xs : List ℤ) (bs : List Bool) (b : Bool) → HasBlocks w read old → length bs ≡ length xs →
    new.values.items ≡ old.values.items ++ xs → new.flags.items ≡ old.flags.items ++ bs → new.validity.items ≡ old.validity.items ++ b ∷ [] → is_valid row ≡ b →
    hidden bs (map Number xs) ≡ items_in w (standing_for w row) → is_block w row ≡ true → HasBlocks w (read ++ row ∷ []) new
block_more w read old new row xs bs b has paired values flags valid is held wide = grind (arith, common_steps, items_more, append-nil, map-append, list_all-append, both)

pub plain_zeros : (w : ℕ) → hidden (replicate w true) (map Number (replicate w (pos 0))) ≡ replicate w (Number (pos 0))
plain_zeros zero = refl
plain_zeros (suc w) = ap (λ l. Number (pos 0) ∷ l) (plain_zeros w)

-- ---- the column

pub blocks_made : (w n : ℕ) (read : List Value) (parts : Blocks) (child : List Value) (validity : Bits) → HasBlocks w read parts → n ≡ length parts.validity.items →
    child ≡ hidden parts.flags.items (map Number parts.values.items) → validity.bits ≡ parts.validity.items → block_rows w n child (Some validity) ≡ read
blocks_made w n read parts child validity has count items valid =
    let st = standing_for w in
    let many : length read ≡ n = sym (count ∙ ap length has.valid ∙ length-map read is_valid) in
    ap (λ bs. hidden bs (map list_of (blocks w n child))) (valid ∙ has.valid)
    ∙ ap (hidden (validities read))
    (blocks_rebuilt w (map st read) child None n (lists_stand w read has.all) (length-map read st ∙ many) (items ∙ has.items) (ap (λ k. replicate k true) (sym many) ∙ are_there w read has.all))
    ∙ shown_again w read

-- ---- the output

-- The message of the error or the elements, printed.
pub entries_printed : (arr : FixedSizeListArray) (w : ℕ) (read : List Value) (index : ℤ) (b : Bool) → rows (block_column arr) ≡ read →
    arr.size ≡ w →
    entries_text arr.size (rows (block_column arr)) (at_each arr index) b ≡ entries_text w read (replicate (length read) (Number index)) b
entries_printed arr w read index b is size =
    ap (λ s. entries_text s (rows (block_column arr)) (at_each arr index) b) size ∙ ap (λ xs. entries_text w xs (at_each arr index) b) is
    ∙ ap (λ n. entries_text w read (replicate n (Number index)) b) (sym (long_rows arr) ∙ ap length is)

pub fixed_answered : (words : List (Bor (List ℕ))) (d : Bor (List ℕ)) (w : ℕ) (read : List Value) (index : ℤ) (b : Bool) (text : List ℕ) → length words ≡ 4 →
    Some w ≡ parsed_width (get_or words 0 d).now → blocks_of w (get_or words 1 d).now ≡ Some read → Some (Number index) ≡ number_of (get_or words 2 d).now → Some (Truth b) ≡ truth_of (get_or words 3 d).now →
    text ≡ entries_text w read (replicate (length read) (Number index)) b → Some text ≡ fixed_words (map (λ word. word.now) words)
fixed_answered words d w read index b text four wide held placed asked made = grind (arith, common_steps)
