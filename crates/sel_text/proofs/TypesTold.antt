-- A text begins with the text of at most one type.
use Rattle.std.proofs.Common.{◌≡◌, ◌≢◌, ◌<◌, ◌+◌, ◌-◌, nat_lt, ℕ, true, List, [], ◌∷◌, ◌++◌, get_or, drop, refl, ap, sym, ◌∙◌, arith, codes, ◌==◌, if◌then◌else◌}
use Rattle.sel_text.proofs.Making.{told_more}
use Rattle.sel_text.proofs.Common.{common_steps, nat_tests, Fault, ReportsLimit, decimal, Shape, Shapes, no_shapes, of_null, of_boolean, of_int8, of_int16, of_int32, of_int64, of_int128, of_uint8, of_uint16, of_uint32, of_uint64, of_uint128, of_large_binary, of_binary_view, of_utf8_view, of_large_list, of_fixed_size_list, of_struct, is_plain, angled, type_text, type_texts}

-- The type whose text a text begins with, without its children; it is determined by the bytes in
-- which the names of types differ.
abbrev begun : List ℕ → Shape
begun text =
    let first = get_or text 0 0 in
    let second = get_or text 1 0 in
    let third = get_or text 2 0 in
    if first == 110 then of_null else
    if first == 98 then (if second == 111 then of_boolean else if get_or text 3 0 == 97 then of_large_binary else of_binary_view) else
    if first == 105 then (if second == 56 then of_int8 else if second == 51 then of_int32 else if second == 54 then of_int64 else if third == 54 then of_int16 else of_int128) else
    if first == 117 then (if second == 56 then of_uint8 else if second == 51 then of_uint32 else if second == 54 then of_uint64 else if second == 116 then of_utf8_view else if third == 54 then of_uint16 else of_uint128) else
    if first == 108 then of_large_list of_null else
    if first == 102 then of_fixed_size_list of_null 0 else of_struct no_shapes

abbrev without_children : Shape → Shape
without_children (of_large_list s) = of_large_list of_null
without_children (of_fixed_size_list s n) = of_fixed_size_list of_null 0
without_children (of_struct ss) = of_struct no_shapes
without_children s = s

begins : (s : Shape) (more : List ℕ) → begun (type_text s ++ more) ≡ without_children s
begins (of_large_list s) more = refl
begins s more = refl

plain_kept : (s : Shape) → is_plain (without_children s) ≡ true → without_children s ≡ s
plain_kept s plain = grind (arith, common_steps)

append_same : (a r t : List ℕ) → a ++ r ≡ a ++ t → r ≡ t
append_same [] r t same = same
append_same (x ∷ a) r t same = append_same a r t (ap (drop 1) same)

-- A text that begins with a type without a child begins with no other type.
pub plain_told : (a s : Shape) (text rest more : List ℕ) → is_plain a ≡ true → text ≡ type_text a ++ rest → text ≡ type_text s ++ more → (a ≡ s) × (rest ≡ more)
plain_told a s text rest more plain one other =
    let heads : without_children a ≡ without_children s = sym (begins a rest) ∙ ap begun (sym one ∙ other) ∙ begins s more in
    let kept : without_children a ≡ a = plain_kept a (plain_of a plain) in
    let same : a ≡ s = sym kept ∙ heads ∙ plain_kept s (ap is_plain (sym heads ∙ kept) ∙ plain) in
    (same, append_same (type_text a) rest more (sym one ∙ other ∙ ap (λ b. type_text b ++ more) (sym same)))
  where
    plain_of : (a : Shape) → is_plain a ≡ true → is_plain (without_children a) ≡ true
    plain_of (of_struct ss) plain = plain
    plain_of s plain = plain

pub blocks_told : (s : Shape) (text more : List ℕ) → codes "fixed" ++ text ≡ type_text s ++ more →
    (child : Shape) × (size : ℕ) × (s ≡ of_fixed_size_list child size) × (text ≡ 60 ∷ (decimal size ++ (44 ∷ (type_text child ++ (62 ∷ more)))))
blocks_told (of_fixed_size_list child size) text more is = grind (arith, common_steps)
blocks_told s text more is = let first = ap (λ l. get_or l 0 0) is in absurd (omega (arith, first))

pub lists_told : (s : Shape) (text more : List ℕ) → codes "list" ++ text ≡ type_text s ++ more → (child : Shape) × (s ≡ of_large_list child) × (text ≡ 60 ∷ (type_text child ++ (62 ∷ more)))
lists_told (of_large_list child) text more is = (child, refl, grind (arith, common_steps, is))
lists_told s text more is = let first = ap (λ l. get_or l 0 0) is in absurd (omega (arith, first))

-- A child that is too deep for the levels below makes its parent too deep.
pub deeper_told : (levels d : ℕ) (fault : Fault) → 0 < levels → ReportsLimit (nat_lt (levels - 1) d) fault → ReportsLimit (nat_lt levels (d + 1)) fault
deeper_told levels d fault some = told_more _ _ fault (λ deep. grind (arith, nat_tests, deep, some))

pub tuples_told : (s : Shape) (text more : List ℕ) → codes "struct" ++ text ≡ type_text s ++ more → (parts : Shapes) × (s ≡ of_struct parts) × (text ≡ angled (type_texts parts) ++ more)
tuples_told (of_struct parts) text more is = (parts, refl, ap (drop 6) is)
tuples_told s text more is = let first = ap (λ l. get_or l 0 0) is in absurd (omega (arith, first))

-- Nor does one that begins with `i` or `u` and no bit width.
pub no_signed : (text : List ℕ) → ((rest : List ℕ) → text ≢ codes "8" ++ rest) → ((rest : List ℕ) → text ≢ codes "16" ++ rest) → ((rest : List ℕ) → text ≢ codes "32" ++ rest) → ((rest : List ℕ) → text ≢ codes "64" ++ rest) → ((rest : List ℕ) → text ≢ codes "128" ++ rest) →
    (s : Shape) (more : List ℕ) → 105 ∷ text ≢ type_text s ++ more
no_signed text a b c d f of_int8 more is = a more (ap (drop 1) is)
no_signed text a b c d f s more is = grind (arith, common_steps)

pub no_unsigned : (text : List ℕ) → ((rest : List ℕ) → text ≢ codes "8" ++ rest) → ((rest : List ℕ) → text ≢ codes "16" ++ rest) → ((rest : List ℕ) → text ≢ codes "32" ++ rest) → ((rest : List ℕ) → text ≢ codes "64" ++ rest) → ((rest : List ℕ) → text ≢ codes "128" ++ rest) →
    ((rest : List ℕ) → text ≢ codes "tf8" ++ rest) → (s : Shape) (more : List ℕ) → 117 ∷ text ≢ type_text s ++ more
no_unsigned text a b c d f g of_uint8 more is = a more (ap (drop 1) is)
no_unsigned text a b c d f g s more is = grind (arith, common_steps)

pub no_plain : (text : List ℕ) → ((rest : List ℕ) → text ≢ codes "i" ++ rest) → ((rest : List ℕ) → text ≢ codes "null" ++ rest) → ((rest : List ℕ) → text ≢ codes "bool" ++ rest) → ((rest : List ℕ) → text ≢ codes "binary" ++ rest) → ((rest : List ℕ) → text ≢ codes "binview" ++ rest) →
    ((rest : List ℕ) → text ≢ codes "u" ++ rest) → (s : Shape) (more : List ℕ) → is_plain s ≡ true → text ≢ type_text s ++ more
no_plain text a b c d f g s more plain is = grind (arith, common_steps)
