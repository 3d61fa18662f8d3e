-- The texts of types that are still to be parsed.
use Rattle.std.proofs.Common.{◌≡◌, ◌≢◌, ℕ, ◌+◌, ◌-◌, ◌<◌, ◌≤◌, true, List, [], ◌∷◌, ◌++◌, map, get_or, drop, refl, ap, sym, ◌∙◌, arith, subst, ◌^◌, nat_lt, IsTrue}
use Rattle.sel_text.proofs.Common.{common_steps, nat_tests, map-append, shape_of, Shape, Shapes, no_shapes, next_shape, shapes_of, of_fixed_size_list, of_struct, ArrowDataType, and_first, and_second, both, angled, type_text, type_texts, ReportsLimit, deepest, depth, widths_written, all_widths_written, Fault}
use Rattle.sel_text.proofs.Commas.{after, joined_inside}
use Rattle.sel_text.proofs.Making.{told_more}

-- After the opening bracket.
pub behind_bracket : (s : Shape) (ss : Shapes) (text more : List ℕ) → 60 ∷ text ≡ angled (type_texts (next_shape s ss)) ++ more → text ≡ type_text s ++ after 62 (type_texts ss) more
behind_bracket s ss text more is = ap (drop 1) is ∙ joined_inside 62 (type_texts (next_shape s ss)) more

-- Types that were parsed, followed by others.
abbrev pub shapes_then : List Shape → Shapes → Shapes
shapes_then [] others = others
shapes_then (s ∷ read) others = next_shape s (shapes_then read others)

then_one : (read : List Shape) (s : Shape) (others : Shapes) → shapes_then (read ++ s ∷ []) others ≡ shapes_then read (next_shape s others)
then_one [] s others = refl
then_one (r ∷ read) s others = ap (next_shape r) (then_one read s others)

then_none : (read : List Shape) → shapes_then read no_shapes ≡ shapes_of read
then_none [] = refl
then_none (r ∷ read) = ap (next_shape r) (then_none read)

-- The types that remain while types are parsed.
pub record IsLeft (all : Shapes) (read : List ArrowDataType) (rest more : List ℕ) : Type 0 where
  pub first : Shape
  pub others : Shapes
  pub narrow : all_widths_written (next_shape first others) ≡ true
  pub whole : shapes_then (map shape_of read) (next_shape first others) ≡ all
  pub text : rest ≡ type_text first ++ after 62 (type_texts others) more

-- At first all types remain.
pub all_left : (s : Shape) (ss : Shapes) (text more : List ℕ) → all_widths_written (next_shape s ss) ≡ true → 60 ∷ text ≡ angled (type_texts (next_shape s ss)) ++ more → IsLeft (next_shape s ss) [] text more
all_left s ss text more narrow is = record { first = s; others = ss; narrow = narrow; whole = refl; text = behind_bracket s ss text more is }

shapes_grown : (read grown : List ArrowDataType) (field : ArrowDataType) (s : Shape) → grown ≡ read ++ field ∷ [] → shape_of field ≡ s → map shape_of grown ≡ map shape_of read ++ s ∷ []
shapes_grown read grown field s is here = ap (map shape_of) is ∙ map-append shape_of read (field ∷ []) ∙ ap (λ s. map shape_of read ++ s ∷ []) here

-- The closing bracket follows the last type.
pub last_read : (all : Shapes) (read grown : List ArrowDataType) (field : ArrowDataType) (rest text end more : List ℕ) (left : IsLeft all read rest more) → grown ≡ read ++ field ∷ [] →
    (shape_of field ≡ left.first) × (text ≡ after 62 (type_texts left.others) more) → text ≡ 62 ∷ end → (shapes_of (map shape_of grown) ≡ all) × (end ≡ more)
last_read all read grown field rest text end more left is told closed = go left.others left.whole told.1
  where
    go : (others : Shapes) → shapes_then (map shape_of read) (next_shape left.first others) ≡ all → text ≡ after 62 (type_texts others) more → (shapes_of (map shape_of grown) ≡ all) × (end ≡ more)
    go no_shapes whole behind = grind (arith, common_steps, then_none, shapes_grown, read, left, is, then_one, closed)
    go (next_shape s ss) whole behind = let first : 62 ≡ 44 = ap (λ l. get_or l 0 0) (sym closed ∙ behind) in absurd (omega (arith, first))

-- Otherwise a comma and another type follow.
pub more_left : (all : Shapes) (read grown : List ArrowDataType) (field : ArrowDataType) (rest text behind more : List ℕ) (left : IsLeft all read rest more) → grown ≡ read ++ field ∷ [] →
    (shape_of field ≡ left.first) × (text ≡ after 62 (type_texts left.others) more) → text ≡ 44 ∷ behind → IsLeft all grown behind more
more_left all read grown field rest text behind more left is told comma = go left.others left.narrow left.whole told.1
  where
    go : (others : Shapes) → all_widths_written (next_shape left.first others) ≡ true → shapes_then (map shape_of read) (next_shape left.first others) ≡ all → text ≡ after 62 (type_texts others) more → IsLeft all grown behind more
    go no_shapes narrow whole here = let first : 44 ≡ 62 = ap (λ l. get_or l 0 0) (sym comma ∙ here) in absurd (omega (arith, first))
    go (next_shape s ss) narrow whole here = record {
      first = s;
      others = ss;
      narrow = and_second (widths_written left.first) (all_widths_written (next_shape s ss)) narrow;
      whole = ap (λ l. shapes_then l (next_shape s ss)) (shapes_grown read grown field left.first is told.0) ∙ then_one (map shape_of read) left.first (next_shape s ss) ∙ whole;
      text = ap (drop 1) (sym comma ∙ here);
    }

-- The list sizes of the first remaining type have 64 bits.
pub left_narrow : (all : Shapes) (read : List ArrowDataType) (rest more : List ℕ) (left : IsLeft all read rest more) → IsTrue (widths_written left.first)
left_narrow all read rest more left = and_first (widths_written left.first) (all_widths_written left.others) left.narrow

-- After `struct<`, a bracket means that there are no types, and a letter that there are some.
pub no_types : (parts : Shapes) (rest more : List ℕ) → 60 ∷ 62 ∷ rest ≡ angled (type_texts parts) ++ more → (parts ≡ no_shapes) × (rest ≡ more)
no_types no_shapes rest more is = (refl, ap (drop 2) is)
no_types (next_shape s ss) rest more is = absurd (letter s (after 62 (type_texts ss) more) rest (behind_bracket s ss (62 ∷ rest) more is))
  where
    letter : (s : Shape) (more rest : List ℕ) → 62 ∷ rest ≡ type_text s ++ more → ⊥
    letter (of_fixed_size_list s n) more rest is = let first = ap (λ l. get_or l 0 0) is in omega (arith, first)
    letter s more rest is = let first = ap (λ l. get_or l 0 0) is in omega (arith, first)

-- Without a bracket there are types.
pub some_types : (parts : Shapes) (text more : List ℕ) → 60 ∷ text ≡ angled (type_texts parts) ++ more → ((rest : List ℕ) → text ≢ 62 ∷ rest) → (first : Shape) × (others : Shapes) × (parts ≡ next_shape first others)
some_types no_shapes text more is none = absurd (none more (ap (drop 1) is))
some_types (next_shape s ss) text more is none = (s, ss, refl)

-- The list size of a fixed-size list type, and the list sizes in its child type.
pub block_narrow : (s : Shape) (size : ℕ) → widths_written (of_fixed_size_list s size) ≡ true → (size < 2 ^ 64) × (widths_written s ≡ true)
block_narrow s size narrow = (grind (arith, nat_tests, and_first (nat_lt size (2 ^ 64)) (widths_written s) narrow), and_second (nat_lt size (2 ^ 64)) (widths_written s) narrow)

-- No type is nested more deeply than the deepest one.
first_depth : (read : List Shape) (s : Shape) (ss : Shapes) → depth s ≤ deepest (shapes_then read (next_shape s ss))
first_depth [] s ss = omega arith
first_depth (r ∷ read) s ss = let others = first_depth read s ss in omega (arith, others)

-- So a field that is nested too deeply makes the struct so.
pub field_told : (all : Shapes) (read : List ArrowDataType) (rest more : List ℕ) (left : IsLeft all read rest more) (levels : ℕ) (fault : Fault) → 0 < levels →
    ReportsLimit (nat_lt (levels - 1) (depth left.first)) fault → ReportsLimit (nat_lt levels (depth (of_struct all))) fault
field_told all read rest more left levels fault some told = grind (arith, nat_tests, told_more, first_depth)

-- One more type increases the nesting depth only if it is deeper itself.
pub grown_depth : (read grown : List ArrowDataType) (field : ArrowDataType) (levels : ℕ) → grown ≡ read ++ field ∷ [] → deepest (shapes_of (map shape_of read)) < levels → depth (shape_of field) < levels →
    deepest (shapes_of (map shape_of grown)) < levels
grown_depth read grown field levels is few one = subst (λ l. deepest (shapes_of (map shape_of l)) < levels) (sym is) (go read few)
  where
    go : (read : List ArrowDataType) → deepest (shapes_of (map shape_of read)) < levels → deepest (shapes_of (map shape_of (read ++ field ∷ []))) < levels
    go [] few = omega (arith, one, few)
    go (r ∷ read) few = let others = go read (omega (arith, few)) in omega (arith, few, others)

-- One more type has a list size of more than 64 bits only if it has it itself.
pub grown_narrow : (read grown : List ArrowDataType) (field : ArrowDataType) → grown ≡ read ++ field ∷ [] → all_widths_written (shapes_of (map shape_of read)) ≡ true → widths_written (shape_of field) ≡ true →
    all_widths_written (shapes_of (map shape_of grown)) ≡ true
grown_narrow read grown field is narrow one = subst (λ l. all_widths_written (shapes_of (map shape_of l)) ≡ true) (sym is) (go read narrow)
  where
    go : (read : List ArrowDataType) → all_widths_written (shapes_of (map shape_of read)) ≡ true → all_widths_written (shapes_of (map shape_of (read ++ field ∷ []))) ≡ true
    go [] narrow = both (widths_written (shape_of field)) true one refl
    go (r ∷ read) narrow = both (widths_written (shape_of r)) (all_widths_written (shapes_of (map shape_of (read ++ field ∷ [])))) (and_first _ _ narrow) (go read (and_second _ _ narrow))
