-- The values of lists and structs that are still to be parsed.
use Rattle.std.proofs.Common.{add-one, ◌≡◌, ◌≢◌, ℕ, zero, suc, ◌+◌, ◌≤◌, ◌<◌, true, true≢false, List, [], ◌∷◌, ◌++◌, length, drop, map, get_or, refl, ap, sym, ◌∙◌, arith, append_assoc, append-nil}
use Rattle.sel_text.proofs.Common.{nat_tests, common_steps, drop_more, drop_all, shape_of, Shape, Shapes, next_shape, shapes_of, Value, Values, no_values, next_value, listed, ArrowDataType, and_first, and_second, fits, all_fit, fields_fit, bracketed, item_texts, parenthesized, part_texts, value_text}
use Rattle.sel_text.specs.Readings.{BeginsWith}
use Rattle.sel_text.proofs.Commas.{after, inside, joined_inside}
use Rattle.sel_text.proofs.Told.{after_no_digit, no_value}

-- ---- lists

-- The values of a list that remain after those that were parsed; at least one.
pub record IsLeft (s : Shape) (all read : List Value) (rest more : List ℕ) : Type 0 where
  pub first : Value
  pub others : Values
  pub fit : fits s first ≡ true
  pub others_fit : all_fit s others ≡ true
  pub whole : read ++ (first ∷ listed others) ≡ all
  pub text : rest ≡ value_text s first ++ after 93 (item_texts s others) more

-- After the opening bracket.
pub items_opened : (s : Shape) (vs : Values) (text rest more : List ℕ) → text ≡ 91 ∷ rest → text ≡ bracketed (item_texts s vs) ++ more → rest ≡ inside 93 (item_texts s vs) more
items_opened s vs text rest more opens is = ap (drop 1) (sym opens ∙ is) ∙ joined_inside 93 (item_texts s vs) more

left_of : (s : Shape) (all read : List Value) (v : Value) (vs : Values) (rest more : List ℕ) → all_fit s (next_value v vs) ≡ true → read ++ (v ∷ listed vs) ≡ all → rest ≡ value_text s v ++ after 93 (item_texts s vs) more → IsLeft s all read rest more
left_of s all read v vs rest more fit whole is = record { first = v; others = vs; fit = and_first _ _ fit; others_fit = and_second _ _ fit; whole = whole; text = is }

-- If the closing bracket follows at once, there is no value.
pub no_items : (s : Shape) (vs : Values) (rest end more : List ℕ) → all_fit s vs ≡ true → rest ≡ inside 93 (item_texts s vs) more → rest ≡ 93 ∷ end → ([] ≡ listed vs) × (end ≡ more)
no_items s no_values rest end more fit is closes = (refl, ap (drop 1) (sym closes ∙ is))
no_items s (next_value v vs) rest end more fit is closes = absurd (no_value s v 93 end (after 93 (item_texts s vs) more) (and_first (fits s v) (all_fit s vs) fit) refl (sym closes ∙ is))

-- Otherwise there is at least one value.
pub some_items : (s : Shape) (vs : Values) (rest more : List ℕ) → all_fit s vs ≡ true → rest ≡ inside 93 (item_texts s vs) more → ((end : List ℕ) → rest ≢ 93 ∷ end) → IsLeft s (listed vs) [] rest more
some_items s no_values rest more fit is other = absurd (other more is)
some_items s (next_value v vs) rest more fit is other = left_of s (listed (next_value v vs)) [] v vs rest more fit refl is

pub item_begins : (s : Shape) (all read : List Value) (rest more : List ℕ) → (left : IsLeft s all read rest more) → BeginsWith s left.first rest (after 93 (item_texts s left.others) more)
item_begins s all read rest more left = record { fit = left.fit; end = after_no_digit 93 (item_texts s left.others) more (omega arith); whole = left.text }

-- The closing bracket follows the last value.
pub last_item : (s : Shape) (all read : List Value) (rest next end more : List ℕ) → (left : IsLeft s all read rest more) → next ≡ after 93 (item_texts s left.others) more → next ≡ 93 ∷ end →
    (read ++ left.first ∷ [] ≡ all) × (end ≡ more)
last_item s all read rest next end more left is closes = go left.others left.whole is
  where
    go : (others : Values) → read ++ (left.first ∷ listed others) ≡ all → next ≡ after 93 (item_texts s others) more → (read ++ left.first ∷ [] ≡ all) × (end ≡ more)
    go no_values whole is = (whole, ap (drop 1) (sym closes ∙ is))
    go (next_value v vs) whole is = let first : 93 ≡ 44 = ap (λ l. get_or l 0 0) (sym closes ∙ is) in absurd (omega (arith, first))

-- A comma and another value follow any other value.
pub more_items : (s : Shape) (all read : List Value) (rest next behind more : List ℕ) → (left : IsLeft s all read rest more) → next ≡ after 93 (item_texts s left.others) more → next ≡ 44 ∷ behind →
    IsLeft s all (read ++ left.first ∷ []) behind more
more_items s all read rest next behind more left is comma = go left.others left.others_fit left.whole is
  where
    go : (others : Values) → all_fit s others ≡ true → read ++ (left.first ∷ listed others) ≡ all → next ≡ after 93 (item_texts s others) more → IsLeft s all (read ++ left.first ∷ []) behind more
    go no_values fit whole is = let first : 44 ≡ 93 = ap (λ l. get_or l 0 0) (sym comma ∙ is) in absurd (omega (arith, first))
    go (next_value v vs) fit whole is = left_of s all (read ++ left.first ∷ []) v vs behind more fit (append_assoc read (left.first ∷ []) (v ∷ listed vs) ∙ whole) (ap (drop 1) (sym comma ∙ is))

-- The text does not end after a value.
some_after : (close : ℕ) (texts : List (List ℕ)) (more : List ℕ) → 0 < length (after close texts more)
some_after close [] more = omega arith
some_after close (x ∷ texts) more = omega arith

pub not_ended : (s : Shape) (all read : List Value) (rest more : List ℕ) → IsLeft s all read rest more → length rest ≡ 0 → ⊥
not_ended s all read rest more left none = grind (arith, common_steps, some_after)

-- Each value takes at least one byte.
pub less_room : (s : Shape) (all read : List Value) (rest next behind more : List ℕ) → (left : IsLeft s all read rest more) → next ≡ after 93 (item_texts s left.others) more → next ≡ 44 ∷ behind → length behind < length rest
less_room s all read rest next behind more left is comma = grind (arith, common_steps)

-- ---- structs

-- The parts from a position on; no comma precedes the first part.
abbrev pub parts_from : ℕ → List (List ℕ) → List ℕ → List ℕ
parts_from zero texts more = inside 41 texts more
parts_from (suc place) texts more = after 41 texts more

-- The values of a struct that remain after those that were parsed.
pub record HasParts (ss : Shapes) (all read : List Value) (place : ℕ) (rest more : List ℕ) : Type 0 where
  pub others : Values
  pub whole : read ++ listed others ≡ all
  pub fit : fields_fit ss others ≡ true
  pub text : rest ≡ parts_from place (part_texts ss others) more

pub parts_opened : (ss : Shapes) (vs : Values) (text rest more : List ℕ) → fields_fit ss vs ≡ true → text ≡ 40 ∷ rest → text ≡ parenthesized (part_texts ss vs) ++ more → HasParts ss (listed vs) [] 0 rest more
parts_opened ss vs text rest more fit opens is = record { others = vs; whole = refl; fit = fit; text = ap (drop 1) (sym opens ∙ is) ∙ joined_inside 41 (part_texts ss vs) more }

-- The next of these values.
pub record HasPart (s : Shape) (ss : Shapes) (all read : List Value) (place : ℕ) (rest more : List ℕ) : Type 0 where
  pub first : Value
  pub others : Values
  pub whole : read ++ (first ∷ listed others) ≡ all
  pub fit : fits s first ≡ true
  pub others_fit : fields_fit ss others ≡ true
  pub text : rest ≡ parts_from place (value_text s first ∷ part_texts ss others) more

has_part : (s : Shape) (ss : Shapes) (all read : List Value) (place : ℕ) (rest more : List ℕ) → HasParts (next_shape s ss) all read place rest more → HasPart s ss all read place rest more
has_part s ss all read place rest more has = go has.others has.whole has.fit has.text
  where
    go : (vs : Values) → read ++ listed vs ≡ all → fields_fit (next_shape s ss) vs ≡ true → rest ≡ parts_from place (part_texts (next_shape s ss) vs) more → HasPart s ss all read place rest more
    go no_values whole fit is = absurd (true≢false (sym fit))
    go (next_value v vs) whole fit is = grind (arith, common_steps, and_first, fits, and_second)

-- The types from a position on.
abbrev pub shapes_from : ℕ → List ArrowDataType → Shapes
shapes_from place dtypes = shapes_of (map shape_of (drop place dtypes))

pub part_left : (dtypes : List ArrowDataType) (all read : List Value) (place : ℕ) (dtype : ArrowDataType) (rest more : List ℕ) → place < length dtypes → dtype ≡ get_or dtypes place dtype →
    HasParts (shapes_from place dtypes) all read place rest more → HasPart (shape_of dtype) (shapes_from (place + 1) dtypes) all read place rest more
part_left dtypes all read place dtype rest more there is has = grind (arith, common_steps, drop_more, has_part)

-- A comma precedes each part but the first.
pub comma_before : (place : ℕ) (text : List ℕ) (texts : List (List ℕ)) (rest more : List ℕ) → 0 < place → rest ≡ parts_from place (text ∷ texts) more → ((next : List ℕ) → rest ≢ 44 ∷ next) → ⊥
comma_before zero text texts rest more later is no_comma = absurd (omega (arith, later))
comma_before (suc place) text texts rest more later is no_comma = no_comma _ is

-- The part after its comma.
part_text : (place : ℕ) (text : List ℕ) (texts : List (List ℕ)) (rest next more : List ℕ) → (place ≡ 0 → next ≡ rest) → (0 < place → rest ≡ 44 ∷ next) → rest ≡ parts_from place (text ∷ texts) more → next ≡ text ++ after 41 texts more
part_text zero text texts rest next more first other is = first refl ∙ is
part_text (suc place) text texts rest next more first other is = ap (drop 1) (sym (other (omega arith)) ∙ is)

pub part_begins : (s : Shape) (ss : Shapes) (all read : List Value) (place : ℕ) (rest next more : List ℕ) → (part : HasPart s ss all read place rest more) → (place ≡ 0 → next ≡ rest) → (0 < place → rest ≡ 44 ∷ next) → BeginsWith s part.first next (after 41 (part_texts ss part.others) more)
part_begins s ss all read place rest next more part first other = grind (arith, common_steps, after_no_digit, part_text)

pub part_read : (s : Shape) (ss : Shapes) (all read : List Value) (place : ℕ) (rest next more : List ℕ) → (part : HasPart s ss all read place rest more) → next ≡ after 41 (part_texts ss part.others) more →
    HasParts ss all (read ++ part.first ∷ []) (place + 1) next more
part_read s ss all read place rest next more part is = record { others = part.others; whole = append_assoc read (part.first ∷ []) (listed part.others) ∙ part.whole; fit = part.others_fit; text = rw add-one is }

-- The closing bracket follows the last part.
pub parts_end : (dtypes : List ArrowDataType) (all read : List Value) (place : ℕ) (rest more : List ℕ) → length dtypes ≤ place → HasParts (shapes_from place dtypes) all read place rest more → (read ≡ all) × (rest ≡ 41 ∷ more)
parts_end dtypes all read place rest more past has = grind (arith, nat_tests, drop_all, append-nil)
