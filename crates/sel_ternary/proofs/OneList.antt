-- A column with one list, which is not null.
use Rattle.sel_ternary.proofs.Common.{◌≡◌, ℕ, zero, suc, ◌+◌, ◌≤◌, ◌&&◌, ◌==◌, ◌*◌, true, None, List, [], ◌∷◌, length, get_or, refl, ap, sym, ◌∙◌, arith}
use Rattle.sel_ternary.proofs.Common.{append-nil, rows, well_formed, Value, Null, Column, joined_items}
use Rattle.std.specs.Prelude.{nat_le}
use Rattle.sel_bits.specs.Limits.{max_rows}
use Rattle.sel_bits.specs.Validity.{covers}
use Rattle.sel_arrow.specs.{Masked.is_few, Value.listed, Value.values_of}
use Rattle.sel_arrow.specs.{Nested.list_of, Rows.row_count, Pieces.rows_between, Pieces.last_offset, Pieces.is_rising}
use Rattle.sel_arrow.proofs.NestedRows.{lists_formed, blocks_formed}
use Rattle.sel_gather.{specs.Ends.item_ends, proofs.ItemRuns.listed_values, proofs.Rebuilt.IsBlock, proofs.Rebuilt.lists_fit, proofs.Rebuilt.blocks_fit}

-- The only row.
abbrev only : List Value → List Value
only entries = list_of entries ∷ []

items_of : (w : ℕ) (entries : List Value) → joined_items w (only entries) ≡ entries
items_of w entries = append-nil _ ∙ listed_values entries

pub one_ends : (entries : List Value) → item_ends 0 (only entries) ≡ length entries ∷ []
one_ends entries =
    let plain : 0 + length (listed (values_of entries)) ≡ length (listed (values_of entries)) = omega arith in
    ap (λ n. n ∷ []) (plain ∙ ap length (listed_values entries))

all_blocks : (w : ℕ) (entries : List Value) → length entries ≡ w → (k : ℕ) → IsBlock w (get_or (only entries) k Null)
all_blocks w entries long zero = ap length (listed_values entries) ∙ long
all_blocks w entries long (suc k) = tt

pub one_list_formed : (offsets : List ℕ) (entries : List Value) (values : Column) → offsets ≡ 0 ∷ length entries ∷ [] → rows values ≡ entries → well_formed values ≡ true →
    (is_rising offsets && is_few (rows_between offsets) && nat_le (last_offset offsets) (row_count values) && covers None (rows_between offsets) && well_formed values) ≡ true
one_list_formed offsets entries values ends is formed =
    lists_formed offsets values None (lists_fit (only entries) offsets values None 1 refl (omega arith) (ends ∙ ap (λ l. 0 ∷ l) (sym (one_ends entries))) (is ∙ sym (items_of 0 entries)) (λ b there. absurd (cc there)) formed)

pub one_block_formed : (w : ℕ) (entries : List Value) (values : Column) → length entries ≡ w → w ≤ max_rows → rows values ≡ entries → well_formed values ≡ true →
    (is_few 1 && is_few w && (row_count values == 1 * w) && covers None 1 && well_formed values) ≡ true
one_block_formed w entries values long narrow is formed =
    blocks_formed w 1 values None (blocks_fit w (only entries) values None 1 (all_blocks w entries long) refl (omega arith) narrow (is ∙ sym (items_of w entries)) (λ b there. absurd (cc there)) formed)
