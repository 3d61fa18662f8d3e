-- Rows that are not null, by their type.
use Rattle.std.proofs.Common.{◌≡◌, ◌≢◌, ℕ, true, List, ◌++◌, [], length, drop, append-nil, refl, ap, sym, subst, ◌∙◌, codes}
use Rattle.sel_text.proofs.Common.{false≢true, Shape, Shapes, of_large_list, of_fixed_size_list, of_struct, Value, Null, Items, Tuple, Values, listed}
use Rattle.sel_text.proofs.Common.{values_of, and_first, and_second, all_fit, fields_fit, fits_count, bracketed, item_texts, parenthesized, part_texts, text_of}
use Rattle.sel_text.{specs.Readings.BeginsWith, proofs.Printed.listed_texts, proofs.Told.unlike}

-- `R` holds for each value of a type whose row text the text begins with, and the rest.
abbrev pub Reads : (Value → List ℕ → Type 0) → Shape → List ℕ → Type 0
Reads R s text = (v : Value) (more : List ℕ) → BeginsWith s v text more → R v more

-- The text does not begin with `null`.
abbrev pub NotNull : List ℕ → Type 0
NotNull text = (rest : List ℕ) → text ≢ codes "null" ++ rest

module _ (R : Value → List ℕ → Type 0) (text : List ℕ) (filled : NotNull text) (t : Shape) where
  pub list_row : (s : Shape) → of_large_list s ≡ t → ((vs : Values) (more : List ℕ) → all_fit s vs ≡ true → text ≡ bracketed (item_texts s vs) ++ more → R (Items vs) more) → Reads R t text
  list_row s same read = subst (λ t. Reads R t text) same row
    where
      row : Reads R (of_large_list s) text
      row Null more begins = absurd (filled more begins.whole)
      row (Items vs) more begins = read vs more begins.fit begins.whole
      row v more begins = absurd (false≢true begins.fit)

  pub block_row : (s : Shape) (size : ℕ) → of_fixed_size_list s size ≡ t →
      ((vs : Values) (more : List ℕ) → fits_count (of_fixed_size_list s size) (length (listed vs)) ≡ true → all_fit s vs ≡ true → text ≡ bracketed (item_texts s vs) ++ more → R (Items vs) more) → Reads R t text
  block_row s size same read = subst (λ t. Reads R t text) same row
    where
      row : Reads R (of_fixed_size_list s size) text
      row Null more begins = absurd (filled more begins.whole)
      row (Items vs) more begins = read vs more (and_first _ _ begins.fit) (and_second _ _ begins.fit) begins.whole
      row v more begins = absurd (false≢true begins.fit)

  pub tuple_row : (ss : Shapes) → of_struct ss ≡ t → ((vs : Values) (more : List ℕ) → fields_fit ss vs ≡ true → text ≡ parenthesized (part_texts ss vs) ++ more → R (Tuple vs) more) → Reads R t text
  tuple_row ss same read = subst (λ t. Reads R t text) same row
    where
      row : Reads R (of_struct ss) text
      row Null more begins = absurd (filled more begins.whole)
      row (Tuple vs) more begins = read vs more begins.fit begins.whole
      row v more begins = absurd (false≢true begins.fit)

-- A text that begins with `null` begins with no other value.
pub null_read : (s : Shape) (v : Value) (text rest more : List ℕ) → text ≡ codes "null" ++ rest → BeginsWith s v text more → (Null ≡ v) × (rest ≡ more)
null_read s Null text rest more is begins = (refl, ap (drop 4) (sym is ∙ begins.whole))
null_read s v text rest more is begins = absurd (unlike s Null v rest more refl begins.fit (sym is ∙ begins.whole) refl)

-- The text of rows is that of a list of these rows.
pub rows_text : (s : Shape) (vs : List Value) (text : List ℕ) → text ≡ text_of s vs → text ≡ bracketed (item_texts s (values_of vs)) ++ []
rows_text s vs text is = is ∙ ap bracketed (sym (listed_texts s vs)) ∙ sym (append-nil (bracketed (item_texts s (values_of vs))))
