-- The fields of a struct column, by position.
use Rattle.sel_gather.proofs.Common.{get_or_default, get_or_past, ◌≡◌, ℕ, ◌≤◌, ◌<◌, List, ◌∷◌, length, Option, Vec, Global, refl, ap, sym, ◌∙◌, get_or, Bits}
use Rattle.sel_gather.proofs.Common.{Column, Struct, Row_of-Column, end_of-Column, more_of-Column, items-the_row-Column, items_hidden-the_row-Column-0, Struct'}
use Rattle.sel_gather.proofs.Common.{columns_in, fields_of, field}
use mathlib.Core.Former.{Count}

abbrev row_of : Column → (n : Count) × Row_of-Column n
row_of (Struct' len n fields validity) = (_, fields)
row_of _ = (_, end_of-Column)

listed_columns : (n : _) (row : Row_of-Column n) → columns_in row ≡ items-the_row-Column n row
listed_columns n end_of-Column = refl
listed_columns n (more_of-Column c rest) = ap (λ l. c ∷ l) (listed_columns _ rest)

pub fields_of-Struct : (len : ℕ) (fields : Vec Column Global) (validity : Option Bits) → fields_of (Struct len fields validity) ≡ fields.items
fields_of-Struct len fields validity =
    let row = row_of (Struct len fields validity) in
    listed_columns row.0 row.1 ∙ items_hidden-the_row-Column-0 fields

pub any_default : {X : Type 0} (xs : List X) (j : ℕ) (d e : X) → j < length xs → get_or xs j d ≡ get_or xs j e
any_default xs j d e lt = get_or_default xs j d e lt

pub field_found : (c : Column) (j len : ℕ) (fields : Vec Column Global) (validity : Option Bits) (x : Column) → c ≡ Struct len fields validity →
    j < length fields.items → x ≡ get_or fields.items j x → x ≡ field j c
field_found c j len fields validity x is lt same =
    same ∙ any_default fields.items j x c lt ∙ ap (λ l. get_or l j c) (sym (fields_of-Struct len fields validity)) ∙ ap (λ y. get_or (fields_of y) j c) (sym is)

pub field_missing : (c : Column) (j len : ℕ) (fields : Vec Column Global) (validity : Option Bits) → c ≡ Struct len fields validity →
    length fields.items ≤ j → c ≡ field j c
field_missing c j len fields validity is le =
    sym (get_or_past fields.items j c le) ∙ ap (λ l. get_or l j c) (sym (fields_of-Struct len fields validity)) ∙ ap (λ y. get_or (fields_of y) j c) (sym is)
