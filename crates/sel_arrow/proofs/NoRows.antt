-- Columns without rows.
use Rattle.std.proofs.Common.{◌≡◌, ℕ, pos, ◌≤◌, ◌*◌, true, ◌&&◌, ◌==◌, List, [], ◌∷◌, map, length, None, Vec, Global, refl, ap, sym, ◌∙◌, arith}
use Rattle.sel_arrow.proofs.Common.{All, list_all, max_rows, IsOffsets, IsRising, widths_fit, covers, is_few, rows, row_count, well_formed, IsField, Column, Struct as StructColumn}
use Rattle.sel_arrow.specs.declared.datatype.ArrowDataType.{ArrowDataType, Struct}
use Rattle.sel_arrow.proofs.{NestedRows.length-rows, Trees.fields_make, Types.type_of-Struct, Types.widths_fit_struct}

-- ---- the only offset of a column without rows

rising_alone : (n : ℕ) → IsRising (n ∷ [])
rising_alone n = grind arith

-- A single offset is well-formed.
pub one_offset : IsOffsets (λ x. x) (pos 0 ∷ [])
one_offset = record { positive = refl; rising = rising_alone 0 }

-- The offset 0 represents the number 0.
pub one_shown : (ns : List ℕ) → (pos 0 ∷ []) ≡ map pos ns → ns ≡ 0 ∷ []
one_shown [] e = cc
one_shown (n ∷ []) e = cc
one_shown (n ∷ (m ∷ ns)) e = cc

pub alone_rises : (ns : List ℕ) → (pos 0 ∷ []) ≡ map pos ns → IsRising ns
alone_rises ns e = rw (one_shown ns e) (rising_alone 0)

pub ruleset no_bytes = (one_offset, one_shown, alone_rises)

-- ---- columns with children

none_counted : (column : Column) → rows column ≡ [] → row_count column ≡ 0
none_counted column none = sym (length-rows column) ∙ ap length none

-- No fixed-size lists, over a child without rows.
pub blocks_of_none : (size : ℕ) (values : Column) → size ≤ max_rows → well_formed values ≡ true → rows values ≡ [] →
    (is_few 0 && is_few size && (row_count values == 0 * size) && covers None 0 && well_formed values) ≡ true
blocks_of_none size values narrow formed none = grind (arith, none_counted)

-- A column without rows can be a field of a struct column without rows.
pub field_of_none : (column : Column) → rows column ≡ [] → well_formed column ≡ true → IsField 0 column
field_of_none column none formed = (none_counted column none, formed)

pub tuples_of_none : (fields : Vec Column Global) → All (IsField 0) fields.items → well_formed (StructColumn 0 fields None) ≡ true
tuples_of_none fields all = fields_make 0 fields None (record { few = omega arith; covered = λ v there. cc; fields = all })

-- If the list sizes in a struct type are in bounds, so are those in its field types.
pub fields_fit : (dtype : ArrowDataType) (fields : Vec ArrowDataType Global) (dtypes : List ArrowDataType) → dtype ≡ Struct fields → dtypes ≡ fields.items → widths_fit dtype ≡ true → list_all widths_fit dtypes ≡ true
fields_fit dtype fields dtypes is same fit = rw same (sym (ap widths_fit is ∙ widths_fit_struct fields) ∙ fit)

pub ruleset no_tuples = (tuples_of_none, type_of-Struct)
