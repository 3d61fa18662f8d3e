-- Row text determines its value.
use Rattle.std.proofs.Common.{◌≡◌, ℕ, ℤ, pos, negsuc, ◌^◌, ◌≤◌, ◌<◌, Bool, true, false, List, [], ◌∷◌, ◌++◌, length, get_or, drop, refl, ap, sym, ◌∙◌, arith, ◌==◌, nat_lt, if◌then◌else◌}
use Rattle.sel_text.proofs.Common.{common_steps, cond_both, digit_value, decimal, mag, join_with_byte, list_all, AllDigits, nat_tests, decimal_is_IsNumeral_wide, Shape, Shapes, no_shapes, next_shape, Value, Null, Truth, Number, Bytes, Items, Tuple, Values, no_values, next_value, values_of, both, and_first, and_second, fits, all_fit, fields_fit, fits_number, hex_text, quoted, is_text_shape, bytes_text, item_shape, part_shapes, item_texts, part_texts, value_text, text_of, NoDigit}
use Rattle.sel_text.specs.Laws.{TextDeterminesRows}
use Rattle.sel_text.proofs.Commas.{after, inside, joined_inside}
use Rattle.sel_text.proofs.Ends.{few_digits}
use Rattle.sel_text.proofs.Decoded.{signed_apart, hex_apart, escaped_apart}
use Rattle.sel_text.proofs.Equalities.{list_of_back}
use Rattle.sel_text.proofs.Printed.{listed_texts}

-- ---- row texts after an opening bracket

pub after_no_digit : (close : ℕ) (xs : List (List ℕ)) (r : List ℕ) → 10 ≤ digit_value close → NoDigit (after close xs r)
after_no_digit close [] r past = past
after_no_digit close (x ∷ xs) r past = omega arith

-- ---- the first byte determines the kind of a value

-- The kind of a value: null, boolean, number, bytes, list or struct.
abbrev kind : Value → ℕ
kind Null = 0
kind (Truth truth) = 1
kind (Number number) = 2
kind (Bytes bytes) = 3
kind (Items vs) = 4
kind (Tuple vs) = 5

abbrev kind_of : ℕ → ℕ
kind_of b =
    if b == 110 then 0 else if b == 116 then 1 else if b == 102 then 1 else if b == 45 then 2 else if nat_lt (digit_value b) 10 then 2 else
    if b == 34 then 3 else if b == 104 then 3 else if b == 91 then 4 else if b == 40 then 5 else 6

first_digit : (ds r : List ℕ) → 0 < length ds → AllDigits 10 ds → kind_of (get_or (ds ++ r) 0 0) ≡ 2
first_digit [] r some digits = absurd (omega arith)
first_digit (d ∷ ds) r some digits = let digit = digits.0 in grind (arith, nat_tests, digit)

-- A number of a type has at most 128 bits.
pub small_number : (s : Shape) (z : ℤ) → fits_number s z ≡ true → mag z < 2 ^ 128
small_number s z fit = grind (arith, nat_tests)

-- A negative number has a signed type.
pub small_below : (s : Shape) (n : ℕ) → fits_number s (negsuc n) ≡ true → n < 2 ^ 127
small_below s n fit = grind (arith, nat_tests)

starts : (s : Shape) (v : Value) (r : List ℕ) → fits s v ≡ true → kind_of (get_or (value_text s v ++ r) 0 0) ≡ kind v
starts s (Number (pos n)) r fit =
    let small = small_number s (pos n) fit in
    let is = decimal_is_IsNumeral_wide n (few_digits n (omega (arith, small))) in
    first_digit (decimal n) r is.0.0 is.0.1
starts s (Bytes bytes) r fit = cond_both (is_text_shape s) _ _ (λ text. kind_of (get_or (text ++ r) 0 0) ≡ 3) (λ _. refl) (λ _. refl)
starts s (Truth true) r fit = refl
starts s (Truth false) r fit = refl
starts s v r fit = refl

bytes_apart : (s : Shape) (bs cs r t : List ℕ) → bytes_text s bs ++ r ≡ bytes_text s cs ++ t → (bs ≡ cs) × (r ≡ t)
bytes_apart s bs cs r t e = go (is_text_shape s) e
  where
    go : (b : Bool) → (if b then quoted bs else hex_text bs) ++ r ≡ (if b then quoted cs else hex_text cs) ++ t → (bs ≡ cs) × (r ≡ t)
    go true e = grind (arith, common_steps, escaped_apart)
    go false e = grind (arith, common_steps, hex_apart)

-- No text begins with the row texts of two values of different kinds.
pub unlike : (s : Shape) (v w : Value) (r t : List ℕ) → fits s v ≡ true → fits s w ≡ true → value_text s v ++ r ≡ value_text s w ++ t → (kind v == kind w) ≡ false → ⊥
unlike s v w r t fv fw e differ =
    let same : kind v ≡ kind w = sym (starts s v r fv) ∙ ap (λ l. kind_of (get_or l 0 0)) e ∙ starts s w t fw in
    grind (arith, nat_tests, same, differ)

-- No value begins with a closing bracket.
pub no_value : (s : Shape) (v : Value) (close : ℕ) (r t : List ℕ) → fits s v ≡ true → kind_of close ≡ 6 → close ∷ r ≡ value_text s v ++ t → ⊥
no_value s v close r t fit none e =
    let one : kind v ≡ 6 = sym (starts s v t fit) ∙ ap (λ l. kind_of (get_or l 0 0)) (sym e) ∙ none in
    never v one
  where
    never : (v : Value) → kind v ≡ 6 → ⊥
    never Null one = cc
    never v one = cc

-- ---- the row texts of values

-- The values of a list, each after a comma, and those of a struct, are determined by their row texts.
abbrev TellsItems : Shape → Values → Type 0
TellsItems s vs = (ws : Values) (r t : List ℕ) → all_fit s vs ≡ true → all_fit s ws ≡ true → after 93 (item_texts s vs) r ≡ after 93 (item_texts s ws) t → (vs ≡ ws) × (r ≡ t)

abbrev TellsParts : Shapes → Values → Type 0
TellsParts ss vs = (ws : Values) (r t : List ℕ) → fields_fit ss vs ≡ true → fields_fit ss ws ≡ true → after 41 (part_texts ss vs) r ≡ after 41 (part_texts ss ws) t → (vs ≡ ws) × (r ≡ t)

-- This extends to values after the opening bracket.
items_inside : (s : Shape) (vs ws : Values) (r t : List ℕ) → TellsItems s vs → all_fit s vs ≡ true → all_fit s ws ≡ true → inside 93 (item_texts s vs) r ≡ inside 93 (item_texts s ws) t → (vs ≡ ws) × (r ≡ t)
items_inside s no_values no_values r t tells fv fw e = (refl, cc)
items_inside s no_values (next_value w ws) r t tells fv fw e = absurd (no_value s w 93 r (after 93 (item_texts s ws) t) (and_first _ _ fw) refl e)
items_inside s (next_value v vs) no_values r t tells fv fw e = absurd (no_value s v 93 t (after 93 (item_texts s vs) r) (and_first _ _ fv) refl (sym e))
items_inside s (next_value v vs) (next_value w ws) r t tells fv fw e = tells (next_value w ws) r t fv fw (ap (λ l. 44 ∷ l) e)

parts_inside : (ss : Shapes) (vs ws : Values) (r t : List ℕ) → TellsParts ss vs → fields_fit ss vs ≡ true → fields_fit ss ws ≡ true → inside 41 (part_texts ss vs) r ≡ inside 41 (part_texts ss ws) t → (vs ≡ ws) × (r ≡ t)
parts_inside no_shapes no_values no_values r t tells fv fw e = (refl, cc)
parts_inside (next_shape s ss) (next_value v vs) (next_value w ws) r t tells fv fw e = tells (next_value w ws) r t fv fw (ap (λ l. 44 ∷ l) e)
parts_inside ss vs ws r t tells fv fw e = absurd cc

-- The row texts after an opening bracket.
unbracket : (first close : ℕ) (xs ys : List (List ℕ)) (r t : List ℕ) → (first ∷ join_with_byte 44 xs ++ close ∷ []) ++ r ≡ (first ∷ join_with_byte 44 ys ++ close ∷ []) ++ t → inside close xs r ≡ inside close ys t
unbracket first close xs ys r t e = sym (joined_inside close xs r) ∙ ap (drop 1) e ∙ joined_inside close ys t

mutual
  -- A value is determined by its row text, before any rest that does not begin with a digit.
  tells : (v w : Value) (s : Shape) (r t : List ℕ) → fits s v ≡ true → fits s w ≡ true → NoDigit r → NoDigit t → value_text s v ++ r ≡ value_text s w ++ t → (v ≡ w) × (r ≡ t)
  tells Null Null s r t fv fw nr nt e = (refl, cc)
  tells (Truth true) (Truth true) s r t fv fw nr nt e = (refl, cc)
  tells (Truth true) (Truth false) s r t fv fw nr nt e = let first : 116 ≡ 102 = ap (λ l. get_or l 0 0) e in absurd (omega (arith, first))
  tells (Truth false) (Truth true) s r t fv fw nr nt e = let first : 102 ≡ 116 = ap (λ l. get_or l 0 0) e in absurd (omega (arith, first))
  tells (Truth false) (Truth false) s r t fv fw nr nt e = (refl, cc)
  tells (Number y) (Number z) s r t fv fw nr nt e =
      let parts = signed_apart y z r t (small_number s y fv) (small_number s z fw) nr nt e in
      (ap Number parts.0, parts.1)
  tells (Bytes bs) (Bytes cs) s r t fv fw nr nt e = let parts = bytes_apart s bs cs r t e in (ap Bytes parts.0, parts.1)
  tells (Items vs) (Items ws) s r t fv fw nr nt e =
      let child = item_shape s in
      let rest = unbracket 91 93 (item_texts child vs) (item_texts child ws) r t e in
      let parts = items_inside child vs ws r t (tells_items vs child) (and_second _ _ fv) (and_second _ _ fw) rest in
      (ap Items parts.0, parts.1)
  tells (Tuple vs) (Tuple ws) s r t fv fw nr nt e =
      let shapes = part_shapes s in
      let rest = unbracket 40 41 (part_texts shapes vs) (part_texts shapes ws) r t e in
      let parts = parts_inside shapes vs ws r t (tells_parts vs shapes) (and_second _ _ fv) (and_second _ _ fw) rest in
      (ap Tuple parts.0, parts.1)
  tells v w s r t fv fw nr nt e = absurd (unlike s v w r t fv fw e refl)

  tells_items : (vs : Values) (s : Shape) → TellsItems s vs
  tells_items no_values s no_values r t fv fw e = (refl, ap (drop 1) e)
  tells_items (next_value v vs) s (next_value w ws) r t fv fw e =
      let one = tells v w s (after 93 (item_texts s vs) r) (after 93 (item_texts s ws) t) (and_first _ _ fv) (and_first _ _ fw)
      (after_no_digit 93 (item_texts s vs) r (omega arith)) (after_no_digit 93 (item_texts s ws) t (omega arith)) (ap (drop 1) e) in
      let rest = tells_items vs s ws r t (and_second _ _ fv) (and_second _ _ fw) one.1 in
      (ap (λ x. next_value x vs) one.0 ∙ ap (next_value w) rest.0, rest.1)
  tells_items vs s ws r t fv fw e = let first = ap (λ l. get_or l 0 0) e in absurd (omega (arith, first))

  tells_parts : (vs : Values) (ss : Shapes) → TellsParts ss vs
  tells_parts no_values no_shapes no_values r t fv fw e = (refl, ap (drop 1) e)
  tells_parts (next_value v vs) (next_shape s ss) (next_value w ws) r t fv fw e =
      let one = tells v w s (after 41 (part_texts ss vs) r) (after 41 (part_texts ss ws) t) (and_first _ _ fv) (and_first _ _ fw)
      (after_no_digit 41 (part_texts ss vs) r (omega arith)) (after_no_digit 41 (part_texts ss ws) t (omega arith)) (ap (drop 1) e) in
      let rest = tells_parts vs ss ws r t (and_second _ _ fv) (and_second _ _ fw) one.1 in
      (ap (λ x. next_value x vs) one.0 ∙ ap (next_value w) rest.0, rest.1)
  tells_parts vs ss ws r t fv fw e = absurd cc

-- ---- lists of values

pub all_fits : (s : Shape) (vs : List Value) → list_all (fits s) vs ≡ true → all_fit s (values_of vs) ≡ true
all_fits s [] fit = refl
all_fits s (v ∷ vs) fit = both (fits s v) (all_fit s (values_of vs)) (and_first _ _ fit) (all_fits s vs (and_second _ _ fit))

text_inside : (s : Shape) (vs : List Value) → text_of s vs ++ [] ≡ 91 ∷ inside 93 (item_texts s (values_of vs)) []
text_inside s vs = grind (arith, common_steps, listed_texts, joined_inside)

pub texts_tell : TextDeterminesRows
texts_tell shape rows others fit fitted same =
    let texts : 91 ∷ inside 93 (item_texts shape (values_of rows)) [] ≡ 91 ∷ inside 93 (item_texts shape (values_of others)) [] =
    sym (text_inside shape rows) ∙ ap (λ l. l ++ []) same ∙ text_inside shape others in
    let body : inside 93 (item_texts shape (values_of rows)) [] ≡ inside 93 (item_texts shape (values_of others)) [] = cc in
    let fv = all_fits shape rows fit in
    let fw = all_fits shape others fitted in
    let told = items_inside shape (values_of rows) (values_of others) [] [] (tells_items (values_of rows) shape) fv fw body in
    list_of_back rows others (ap Items told.0)
