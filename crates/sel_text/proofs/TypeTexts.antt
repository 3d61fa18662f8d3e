-- The texts of types with children.
use Rattle.std.proofs.Common.{arith, ◌≡◌, ℕ, List, [], ◌∷◌, ◌++◌, map, Vec, Global, refl, ap, sym, ◌∙◌, codes}
use Rattle.sel_text.proofs.Common.{common_steps, shape_of, shapes_of, angled, type_text, type_texts}
use Rattle.sel_arrow.{specs.declared.datatype.ArrowDataType.ArrowDataType, specs.declared.datatype.ArrowDataType.Struct, proofs.Types.struct_shape}

abbrev pub text_of_type : ArrowDataType → List ℕ
text_of_type dtype = type_text (shape_of dtype)

each_text : (dtypes : List ArrowDataType) → type_texts (shapes_of (map shape_of dtypes)) ≡ map text_of_type dtypes
each_text [] = refl
each_text (dtype ∷ dtypes) = ap (λ l. text_of_type dtype ∷ l) (each_text dtypes)

pub struct_text : (dtype : ArrowDataType) (fields : Vec ArrowDataType Global) → dtype ≡ Struct fields → codes "struct" ++ angled (map text_of_type fields.items) ≡ text_of_type dtype
struct_text dtype fields is = sym (ap type_text (struct_shape dtype fields is) ∙ ap (λ l. codes "struct" ++ angled l) (each_text fields.items))

-- The text of a struct type, from its brackets on.
pub struct_behind : (fields : Vec ArrowDataType Global) (dtypes : List ArrowDataType) (bytes rest : List ℕ) → fields.items ≡ dtypes → bytes ≡ angled (map text_of_type dtypes) ++ rest → codes "struct" ++ bytes ≡ text_of_type (Struct fields) ++ rest
struct_behind fields dtypes bytes rest are is = grind (arith, common_steps, struct_text)
