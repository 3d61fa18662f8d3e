-- If-then-else of views into the concatenated data buffers of the true and false values: the values
-- of the views, and that they are in bounds.
use Rattle.sel_ternary.proofs.Common.{arith, common_steps, ◌≡◌, ℕ, ◌≤◌, ◌∙◌, sym, ap, List, ◌++◌, length, map, Bool, true, Option, None, list_all, length-map, Bits, masked}
use Rattle.sel_ternary.proofs.Common.{Covers, Bytes, is_placed, view_value, View, choose, broadcast_true, broadcast_false, broadcast_both, raised}
use Rattle.sel_ternary.proofs.Common.{scalar_buffers}
use Rattle.sel_arrow.specs.Views.{view_of, inline_bytes}
use Rattle.sel_ternary.proofs.Placed.{all_chosen, all_chosen_one, all_chosen_or_one, all_chosen_of_two, front_placed, front_values, back_placed, back_values}
use Rattle.sel_ternary.proofs.Placed.{scalar_placed, scalar_value, scalar_there, first_there}
use Rattle.sel_ternary.proofs.Validities.{IsChosenValidity, length-choose_of_two, no_validity, sides, rows_choose, rows_choose_one, rows_choose_or_one, rows_choose_of_two}

-- Two columns.
module _ (first second : List (List ℕ)) (ts fs : List View) (pt : list_all (is_placed first) ts ≡ true) (pf : list_all (is_placed second) fs ≡ true)
    (ms : List Bool) (out : List View) (all : List (List ℕ)) (joined : all ≡ first ++ second) (is : out ≡ choose ms ts (map (λ view. raised view (length first)) fs)) where
  pub both_placed : list_all (is_placed all) out ≡ true
  both_placed = grind (arith, common_steps, joined, all_chosen, first, second, front_placed, back_placed)

  pub both_rows : (vt vf v : Option Bits) → length (masked vt (map (view_value first) ts)) ≡ length ms → length (masked vf (map (view_value second) fs)) ≡ length ms
      → Covers vt (length ts) → Covers vf (length fs) → IsChosenValidity ms vt vf v
      → masked v (map (view_value all) out) ≡ choose ms (masked vt (map (view_value first) ts)) (masked vf (map (view_value second) fs))
  both_rows vt vf v p q ct cf valid =
      let lifted = λ (view : View). raised view (length first) in
      let fronts = front_values first second ts pt in
      let backs = back_values second first fs pf in
      ap (λ l. masked v (map (view_value l) out)) joined
      ∙ rows_choose (view_value (first ++ second)) ms out v vt vf ts (map lifted fs) (ap (λ l. length (masked vt l)) fronts ∙ p) (ap (λ l. length (masked vf l)) backs ∙ q) ct (λ b there. cf b there ∙ sym (length-map fs lifted)) is valid
      ∙ (λ i. choose ms (masked vt (fronts i)) (masked vf (backs i)))

-- A column and a scalar.
module _ (own : List (List ℕ)) (views : List View) (placed : list_all (is_placed own) views ≡ true) (bytes : List ℕ) (x : View) (k : ℕ) (view_is : x ≡ view_of bytes k 0) (after : k ≡ length own)
    (inline : length bytes ≤ 12 → inline_bytes x ≡ bytes) (ms : List Bool) (out : List View) (all : List (List ℕ)) (joined : all ≡ own ++ scalar_buffers bytes) where
  is_x : x ≡ view_of bytes (length own) 0
  is_x = view_is ∙ ap (λ n. view_of bytes n 0) after

  lies : is_placed all x ≡ true
  lies = ap (λ l. is_placed l x) joined ∙ scalar_placed (own ++ scalar_buffers bytes) bytes (length own) x is_x (scalar_there own bytes)

  means : view_value all x ≡ Bytes bytes
  means = ap (λ l. view_value l x) joined ∙ scalar_value (own ++ scalar_buffers bytes) bytes (length own) x is_x (scalar_there own bytes) inline

  fronts_placed : list_all (is_placed all) views ≡ true
  fronts_placed = ap (λ l. list_all (is_placed l) views) joined ∙ front_placed own (scalar_buffers bytes) views placed

  fronts : map (view_value all) views ≡ map (view_value own) views
  fronts = ap (λ l. map (view_value l) views) joined ∙ front_values own (scalar_buffers bytes) views placed

  pub one_placed : out ≡ broadcast_true ms x views → list_all (is_placed all) out ≡ true
  one_placed is = ap (list_all (is_placed all)) is ∙ all_chosen_one (is_placed all) ms x views lies fronts_placed

  pub one_rows : (vf v : Option Bits) → out ≡ broadcast_true ms x views → length (masked vf (map (view_value own) views)) ≡ length ms → Covers vf (length views) → IsChosenValidity ms None vf v
      → masked v (map (view_value all) out) ≡ broadcast_true ms (Bytes bytes) (masked vf (map (view_value own) views))
  one_rows vf v is q cf valid = grind (arith, common_steps, rows_choose_one, all, fronts, means)

  pub or_one_placed : out ≡ broadcast_false ms views x → list_all (is_placed all) out ≡ true
  or_one_placed is = ap (list_all (is_placed all)) is ∙ all_chosen_or_one (is_placed all) ms views x fronts_placed lies

  pub or_one_rows : (vt v : Option Bits) → out ≡ broadcast_false ms views x → length (masked vt (map (view_value own) views)) ≡ length ms → Covers vt (length views) → IsChosenValidity ms vt None v
      → masked v (map (view_value all) out) ≡ broadcast_false ms (masked vt (map (view_value own) views)) (Bytes bytes)
  or_one_rows vt v is p ct valid = grind (arith, common_steps, rows_choose_or_one, all, fronts, means)

-- Two scalars.
module _ (first second : List ℕ) (x y : View) (is_x : x ≡ view_of first 0 0) (k : ℕ) (view_is : y ≡ view_of second k 0) (after : k ≡ length (scalar_buffers first))
    (inline_x : length first ≤ 12 → inline_bytes x ≡ first) (inline_y : length second ≤ 12 → inline_bytes y ≡ second)
    (ms : List Bool) (out : List View) (all : List (List ℕ)) (joined : all ≡ scalar_buffers first ++ scalar_buffers second) (is : out ≡ broadcast_both ms x y) where
  abbrev two : List (List ℕ)
  two = scalar_buffers first ++ scalar_buffers second

  is_y : y ≡ view_of second (length (scalar_buffers first)) 0
  is_y = view_is ∙ ap (λ n. view_of second n 0) after

  pub two_placed : list_all (is_placed all) out ≡ true
  two_placed =
      (λ i. list_all (is_placed (joined i)) (is i))
      ∙ all_chosen_of_two (is_placed two) ms x y (scalar_placed two first 0 x is_x (first_there first second)) (scalar_placed two second (length (scalar_buffers first)) y is_y (scalar_there (scalar_buffers first) second))

  pub two_rows : map (view_value all) out ≡ broadcast_both ms (Bytes first) (Bytes second)
  two_rows =
      ap (λ l. map (view_value l) out) joined
      ∙ rows_choose_of_two (view_value two) ms out None x y _ _ is (scalar_value two first 0 x is_x (first_there first second) inline_x)
      (scalar_value two second (length (scalar_buffers first)) y is_y (scalar_there (scalar_buffers first) second) inline_y)

pub ruleset joined_rows = (sides, both_rows, one_rows, or_one_rows, both_placed, one_placed, or_one_placed)

pub ruleset two_scalars = (length-choose_of_two, no_validity, two_rows, two_placed)
