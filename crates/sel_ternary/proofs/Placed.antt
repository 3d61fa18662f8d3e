-- If-then-else of views into the data buffers of the true and false values.
use Rattle.sel_ternary.proofs.Common.{common_steps, ◌≡◌, ℕ, zero, suc, ◌+◌, ◌-◌, ◌≤◌, ◌<◌, ◌∙◌, sym, refl, ap, arith, List, [], ◌∷◌, ◌++◌, length, map, get_or}
use Rattle.sel_ternary.proofs.Common.{take, drop, replicate, Bool, true, false, list_all, eq-eqb, length-append, take_all, Bytes, is_placed, view_value, View}
use Rattle.sel_ternary.proofs.Common.{choose, broadcast_true, broadcast_false, broadcast_both, can_rise, raised, scalar_buffers}
use Rattle.sel_arrow.{specs.Views.view_of, specs.Views.inline_bytes, specs.Views.is_inline, specs.Views.word_at, proofs.Texts.utf8_passes}
use Rattle.std.{specs.Prelude.leb, specs.List.slice_range, proofs.Common.⊎_elim}
use Rattle.std.proofs.lemmas.{Bool.leb-false, Bool.le-leb, Bool.lt-leb, Bool.cases_Bool, List.take-map, List.drop-map}
use Rattle.sel_bits.specs.Limits.{max_buffers}
use Rattle.sel_arrow.proofs.Lists.{all_at, all_more, all_of_them, none_at, all_part, both, and_first, and_second}
use Rattle.sel_gather.proofs.Raising.{Behind, all_raised, raised_values}
use Rattle.sel_ternary.{specs.ViewSides.all_rise, proofs.Chosen.repeated_then, proofs.Chosen.repeated_otherwise, proofs.Chosen.repeated_both}

pub ruleset all_views = (all_at, all_more, all_of_them, none_at, all_part)

pub map-part : {A B : Type 0} → (f : A → B) (k at : ℕ) (l : List A) → map f (take k (drop at l)) ≡ take k (drop at (map f l))
map-part f k at l = sym (take-map f k (drop at l)) ∙ ap (take k) (sym (drop-map f at l))

-- ---- a property of each entry of the result

pub all_chosen : {A : Type 0} → (p : A → Bool) (ms : List Bool) (ts fs : List A) → list_all p ts ≡ true → list_all p fs ≡ true → list_all p (choose ms ts fs) ≡ true
all_chosen p (true ∷ ms) (t ∷ ts) (f ∷ fs) a b = both (p t) (list_all p (choose ms ts fs)) (and_first (p t) (list_all p ts) a) (all_chosen p ms ts fs (and_second (p t) (list_all p ts) a) (and_second (p f) (list_all p fs) b))
all_chosen p (false ∷ ms) (t ∷ ts) (f ∷ fs) a b = both (p f) (list_all p (choose ms ts fs)) (and_first (p f) (list_all p fs) b) (all_chosen p ms ts fs (and_second (p t) (list_all p ts) a) (and_second (p f) (list_all p fs) b))
all_chosen p ms ts fs a b = refl

all_repeated : {A : Type 0} → (p : A → Bool) (n : ℕ) (x : A) → p x ≡ true → list_all p (replicate n x) ≡ true
all_repeated p zero x a = refl
all_repeated p (suc n) x a = both (p x) (list_all p (replicate n x)) a (all_repeated p n x a)

pub all_chosen_one : {A : Type 0} → (p : A → Bool) (ms : List Bool) (x : A) (fs : List A) → p x ≡ true → list_all p fs ≡ true → list_all p (broadcast_true ms x fs) ≡ true
all_chosen_one p ms x fs a b = ap (list_all p) (repeated_then ms x fs) ∙ all_chosen p ms (replicate (length ms) x) fs (all_repeated p (length ms) x a) b

pub all_chosen_or_one : {A : Type 0} → (p : A → Bool) (ms : List Bool) (ts : List A) (x : A) → list_all p ts ≡ true → p x ≡ true → list_all p (broadcast_false ms ts x) ≡ true
all_chosen_or_one p ms ts x a b = ap (list_all p) (repeated_otherwise ms ts x) ∙ all_chosen p ms ts (replicate (length ms) x) a (all_repeated p (length ms) x b)

pub all_chosen_of_two : {A : Type 0} → (p : A → Bool) (ms : List Bool) (x y : A) → p x ≡ true → p y ≡ true → list_all p (broadcast_both ms x y) ≡ true
all_chosen_of_two p ms x y a b = ap (list_all p) (repeated_both ms x y) ∙ all_chosen p ms (replicate (length ms) x) (replicate (length ms) y) (all_repeated p (length ms) x a) (all_repeated p (length ms) y b)

-- ---- the positions of the data buffers of the true and false values

pub front_behind : {A : Type 0} → (d : A) (xs ys : List A) → Behind d (xs ++ ys) xs 0
front_behind d xs ys i inside = grind (arith, common_steps, length-append)

pub back_behind : {A : Type 0} → (d : A) (xs ys : List A) → Behind d (xs ++ ys) ys (length xs)
back_behind d xs ys i inside = grind (arith, common_steps, length-append)

not_raised : (view : View) → raised view 0 ≡ view
not_raised view = grind (arith, common_steps)

none_raised : (views : List View) → map (λ view. raised view 0) views ≡ views
none_raised [] = refl
none_raised (view ∷ views) = (λ i. not_raised view i ∷ none_raised views i)

-- Views into the first data buffers are in bounds for all, and have the same bytes.
module _ (own more : List (List ℕ)) (views : List View) (placed : list_all (is_placed own) views ≡ true) where
  pub front_placed : list_all (is_placed (own ++ more)) views ≡ true
  front_placed = ap (list_all (is_placed (own ++ more))) (sym (none_raised views)) ∙ all_raised (own ++ more) own 0 views (front_behind [] own more) placed

  pub front_values : map (view_value (own ++ more)) views ≡ map (view_value own) views
  front_values = ap (map (view_value (own ++ more))) (sym (none_raised views)) ∙ raised_values (own ++ more) own 0 views (front_behind [] own more) placed

-- So are views with raised buffer indices into the data buffers after the first ones.
module _ (own before : List (List ℕ)) (views : List View) (placed : list_all (is_placed own) views ≡ true) where
  pub back_placed : list_all (is_placed (before ++ own)) (map (λ view. raised view (length before)) views) ≡ true
  back_placed = all_raised (before ++ own) own (length before) views (back_behind [] before own) placed

  pub back_values : map (view_value (before ++ own)) (map (λ view. raised view (length before)) views) ≡ map (view_value own) views
  back_values = raised_values (before ++ own) own (length before) views (back_behind [] before own) placed

-- Buffer indices can be raised as far as they fit 32 bits.
pub views_rise : (own : List (List ℕ)) (k : ℕ) (views : List View) → list_all (is_placed own) views ≡ true → k + length own ≤ max_buffers → all_rise k views ≡ true
views_rise own k [] placed room = refl
views_rise own k (view ∷ views) placed room =
    both (can_rise k view) (all_rise k views) (rises view (and_first (is_placed own view) (list_all (is_placed own) views) placed)) (views_rise own k views (and_second (is_placed own view) (list_all (is_placed own) views) placed) room)
  where
    rises : (view : View) → is_placed own view ≡ true → can_rise k view ≡ true
    rises view there = grind (arith, common_steps, room)

-- ---- the view of a scalar

module _ (all : List (List ℕ)) (bytes : List ℕ) (k : ℕ) (view : View) (is : view ≡ view_of bytes k 0) (there : 12 < length bytes → (k < length all) × (get_or all k [] ≡ bytes)) where
  as_long : (view_of bytes k 0).length ≡ length bytes
  as_long = ⊎_elim (λ e. rw e refl) (λ e. rw e refl) (cases_Bool (leb (length bytes) 12))

  lies_inline : leb (length bytes) 12 ≡ true → is_inline view ≡ true
  lies_inline e = ap (λ (v : View). leb v.length 12) is ∙ ap (λ n. leb n 12) as_long ∙ e

  abbrev far : View
  far = record { length = length bytes; prefix = word_at bytes 0; buffer_idx = k; offset = 0 }

  lies_far : leb (length bytes) 12 ≡ false → view ≡ far
  lies_far e = is ∙ rw e refl

  named : leb (length bytes) 12 ≡ false → slice_range (get_or all k []) 0 (0 + length bytes) ≡ bytes
  named e = ap (λ l. slice_range l 0 (0 + length bytes)) (there (leb-false (length bytes) 12 e)).1 ∙ whole
    where
      whole : slice_range bytes 0 (0 + length bytes) ≡ bytes
      whole = let same : 0 + length bytes - 0 ≡ length bytes = omega arith in ap (λ n. take n bytes) same ∙ take_all (length bytes) bytes (omega arith)

  pub scalar_placed : is_placed all view ≡ true
  scalar_placed = grind (arith, common_steps, all, lies_inline, there, named, eq-eqb, lies_far)

  inline_value : is_inline view ≡ true → view_value all view ≡ Bytes (inline_bytes view)
  inline_value d = rw d refl

  pub scalar_value : (length bytes ≤ 12 → inline_bytes view ≡ bytes) → view_value all view ≡ Bytes bytes
  scalar_value inline = grind (arith, common_steps, inline_value, lies_inline, all, lies_far, named)

-- The data buffer of a scalar, if it has one, is after those of a column.
pub scalar_there : (before : List (List ℕ)) (bytes : List ℕ) → 12 < length bytes → (length before < length (before ++ scalar_buffers bytes)) × (get_or (before ++ scalar_buffers bytes) (length before) [] ≡ bytes)
scalar_there before bytes long = grind (arith, common_steps, length-append)

-- The first of two scalars.
pub first_there : (first second : List ℕ) → 12 < length first → (0 < length (scalar_buffers first ++ scalar_buffers second)) × (get_or (scalar_buffers first ++ scalar_buffers second) 0 [] ≡ first)
first_there first second long = grind (arith, common_steps, length-append)

pub ruleset texts = (all_chosen, all_chosen_one, all_chosen_or_one, all_chosen_of_two, utf8_passes)
