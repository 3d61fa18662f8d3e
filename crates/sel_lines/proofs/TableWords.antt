-- The words of a line of `table`, and the types of its columns.
use Rattle.sel_lines.proofs.Common.{get_or-map, length-map, length-drop, take_all, type_of, of_int64, Value, ArrayRef, all_some, column_of, index_of, number_of, truth_of, type_of_each}
use Rattle.std.proofs.Common.{◌≡◌, ℕ, ◌-◌, ◌<◌, Bor, List, ◌∷◌, All, length, get_or, map, take, drop, Option, Some, arith, refl, ap, sym, ◌∙◌}
use Rattle.sel_lines.{specs.Table.table_read, specs.Table.table_words, proofs.RowLemmas.map_now}

-- ---- types

pub same_types : (xs ys : List ArrayRef) → type_of_each xs ≡ type_of_each ys → All (λ c. type_of c.column ≡ of_int64) ys → All (λ c. type_of c.column ≡ of_int64) xs
same_types xs ys same numbers = λ k d h.
    let type = λ (c : ArrayRef). type_of c.column in
    let there : k < length ys = omega (arith, h, length-map xs type, length-map ys type, ap length same) in
    sym (get_or-map type xs k d of_int64 h) ∙ ap (λ l. get_or l k of_int64) same ∙ get_or-map type ys k d of_int64 there ∙ numbers k d there

-- ---- the words of a line

pub table_words_read : (words rest : List (Bor (List ℕ))) (d : Bor (List ℕ)) (mask indices : List Value) (columns : Option (List (List Value))) → 2 < length words → rest ≡ drop 2 words →
    Some mask ≡ column_of truth_of (get_or words 0 d).now → Some indices ≡ column_of index_of (get_or words 1 d).now → columns ≡ all_some (map (λ word. column_of number_of word.now) rest) →
    table_read (Some mask) (Some indices) columns ≡ table_words (map (λ word. word.now) words)
table_words_read (first ∷ second ∷ column ∷ columns) rest d mask indices found h is masked indexed read =
    rw (read, is, ← masked, ← indexed, map_now (column_of number_of) (column ∷ columns)) refl
table_words_read words rest d mask indices found h is masked indexed read = absurd (omega arith)

pub rest_is : (words : List (Bor (List ℕ))) (n : ℕ) → take (length words - n) (drop n words) ≡ drop n words
rest_is words n = take_all (length words - n) (drop n words) (omega (arith, length-drop n words))
