-- The definitions for a struct column, in terms of the list of its fields.
use Rattle.std.proofs.lemmas.Grind.{common_steps}
use Rattle.std.proofs.Common.{◌≡◌, ◌≢◌, ℕ, ◌+◌, ◌≤◌, ◌<◌, Bool, true, false, ◌&&◌, ◌==◌, not, All, List, [], ◌∷◌, length, take, get_or, map, Option, is_some, Vec, Global, refl, ap, sym, subst, ◌∙◌, arith, take_all, rules}
use Rattle.sel_arrow.proofs.Common.{All-nil, All-head, All-tail, All-more, max_rows, Bits, struct_length_fault, Covers, covers, is_few, struct_rows, rows, rows_of_each, row_count, well_formed, all_well_formed, IsField, Column, Struct, Row_of-Column, end_of-Column, more_of-Column, items-the_row-Column, items_hidden-the_row-Column-0}
use Rattle.sel_arrow.proofs.{Lists.false_unless, Lists.and_first, Lists.and_second, NestedRows.row_of, NestedRows.length-rows, NestedRows.struct_covered}

each_rows : (n : _) (row : Row_of-Column n) → rows_of_each row ≡ map rows (items-the_row-Column n row)
each_rows n end_of-Column = refl
each_rows n (more_of-Column c rest) = ap (λ l. rows c ∷ l) (each_rows _ rest)

pub rows-Struct : (len : ℕ) (fields : Vec Column Global) (validity : Option Bits) → rows (Struct len fields validity) ≡ struct_rows len (map rows fields.items) validity
rows-Struct len fields validity =
    let row = row_of (Struct len fields validity) in
    ap (λ l. struct_rows len l validity) (each_rows row.0 row.1 ∙ ap (map rows) (items_hidden-the_row-Column-0 fields))

-- Whether each column is well-formed and has `len` rows.
abbrev pub are_fields : ℕ → List Column → Bool
are_fields len [] = true
are_fields len (c ∷ cs) = (row_count c == len) && well_formed c && are_fields len cs

each_well_formed : (len : ℕ) (n : _) (row : Row_of-Column n) → all_well_formed len row ≡ are_fields len (items-the_row-Column n row)
each_well_formed len n end_of-Column = refl
each_well_formed len n (more_of-Column c rest) = ap (λ b. (row_count c == len) && well_formed c && b) (each_well_formed len _ rest)

pub well_formed-Struct : (len : ℕ) (fields : Vec Column Global) (validity : Option Bits) →
    well_formed (Struct len fields validity) ≡ (is_few len && covers validity len && are_fields len fields.items)
well_formed-Struct len fields validity =
    let row = row_of (Struct len fields validity) in
    ap (λ b. is_few len && covers validity len && b) (each_well_formed len row.0 row.1 ∙ ap (are_fields len) (items_hidden-the_row-Column-0 fields))

-- ---- the same as a proposition

pub fields_formed : (len : ℕ) (cs : List Column) → are_fields len cs ≡ true → All (IsField len) cs
fields_formed len [] h = All-nil (IsField len)
fields_formed len (c ∷ cs) h = grind (arith, and_first, (fields_formed len cs (and_second ((row_count c == len) && well_formed c) (are_fields len cs) h)))

pub formed_fields : (len : ℕ) (cs : List Column) → All (IsField len) cs → are_fields len cs ≡ true
formed_fields len [] h = refl
formed_fields len (c ∷ cs) h = search (rules, All-head, (formed_fields len cs (All-tail (IsField len) c cs h)))

-- The properties of a well-formed struct column.
pub record HasFields (len : ℕ) (cs : List Column) (validity : Option Bits) : Type 0 where
  pub few : len ≤ max_rows
  pub covered : Covers validity len
  pub fields : All (IsField len) cs

pub has_fields : (len : ℕ) (fields : Vec Column Global) (validity : Option Bits) → well_formed (Struct len fields validity) ≡ true → HasFields len fields.items validity
has_fields len fields validity h = grind (arith, common_steps, struct_covered, well_formed-Struct, fields_formed)

pub fields_make : (len : ℕ) (fields : Vec Column Global) (validity : Option Bits) → HasFields len fields.items validity → well_formed (Struct len fields validity) ≡ true
fields_make len fields validity h = grind (arith, well_formed-Struct, formed_fields)

-- Fields that fit, given the rules for the number of rows and the validity.
pub struct_test : (len : ℕ) (fields : Vec Column Global) (validity : Option Bits) (t : Bool) → All (IsField len) fields.items → is_some (struct_length_fault len true validity) ≡ not t → t ≡ well_formed (Struct len fields validity)
struct_test len fields validity t fit fault = grind (arith, formed_fields, well_formed-Struct)

-- Fields that do not fit.
pub struct_failed : (len : ℕ) (fields : Vec Column Global) (validity : Option Bits) → (All (IsField len) fields.items → ⊥) → false ≡ well_formed (Struct len fields validity)
struct_failed len fields validity none = sym (false_unless (well_formed (Struct len fields validity)) (λ e. none (has_fields len fields validity e).fields))

-- ---- field by field

pub one_differs : (len n : ℕ) (cs : List Column) (i : ℕ) (c : Column) → i < length cs → c ≡ get_or cs i c → n ≡ length (rows c) → n ≢ len → All (IsField len) cs → ⊥
one_differs len n cs i c lt is count differs all = grind (arith, length-rows)

pub one_more_field : (len n : ℕ) (cs : List Column) (i : ℕ) (c : Column) → i < length cs → c ≡ get_or cs i c → n ≡ length (rows c) → n ≡ len → true ≡ well_formed c → All (IsField len) (take i cs) → All (IsField len) (take (i + 1) cs)
one_more_field len n cs i c lt is count same formed all =
    All-more (IsField len) cs i c lt all (subst (IsField len) is (sym (length-rows c) ∙ sym count ∙ same, sym formed))

pub all_fields : (len : ℕ) (cs : List Column) (i : ℕ) → length cs ≤ i → All (IsField len) (take i cs) → All (IsField len) cs
all_fields len cs i le all = subst (All (IsField len)) (take_all i cs le) all
