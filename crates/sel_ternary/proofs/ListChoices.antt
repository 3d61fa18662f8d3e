-- If-then-else of list columns: the limits that the rows exceed, with the columns that are gathered and with the values that are given.
use Rattle.sel_ternary.proofs.Common.{common_steps, ◌≡◌, ℕ, ◌≤◌, true, List, [], ◌∷◌, length, inl, sym, subst, arith, rows, type_of, well_formed, Shape, Value}
use Rattle.sel_ternary.proofs.Common.{Column, length-rows, joined_items, exceeded_taken, refused_more, passes_neither, IsLimitOrMemory, ExceedsNone}
use Rattle.sel_ternary.proofs.Common.{IfOk-weaker}
use Rattle.sel_bits.specs.{declared.faults.Limit.Limit, declared.faults.PolarsError.PolarsError, Limits.max_rows}
use Rattle.std.{specs.Prelude.IfOk, specs.Prelude.IfErr, proofs.Common.Result, proofs.Common.inr}
use Rattle.sel_arrow.specs.{Shape.of_large_list, Shape.of_fixed_size_list, declared.array_ref.ArrayRef.ArrayRef}
use Rattle.sel_gather.{specs.Children.child, proofs.ListParts.few_rows}
use Rattle.sel_ternary.specs.ListSides.{below, exceeded_below, exceeded_lists, exceeded_held}
use Rattle.sel_ternary.specs.{Steps.IsBelow, Sides.Side, Sides.exceeded_flat}
use Rattle.sel_ternary.proofs.SameNeeds.{Like, block_child, list_child, same_needs}

-- A column has at most 2^32 - 1 rows.
pub few_bits : (c : Column) → well_formed c ≡ true → length (rows c) ≤ max_rows
few_bits c formed = omega (arith, few_rows c formed, length-rows c)

-- ---- the child of lists that are over a column like another one

like_list : (s : Shape) (a b : Column) → IsBelow (of_large_list s) a b → Like s (child a) b
like_list s a b is = grind (arith, common_steps, list_child)

like_block : (s : Shape) (w : ℕ) (a b : Column) → IsBelow (of_fixed_size_list s w) a b → Like s (child a) b
like_block s w a b is = grind (arith, common_steps, block_child)

back : (s : Shape) (a b : Column) → Like s a b → Like s b a
back s a b like = record { first = like.second; second = like.first; held = sym like.held }

-- Rows exceed the same limits with columns like these.
held_like : (s : Shape) (a b c d : Column) → Like s a c → Like s b d → (vs : List Value) (limit : Limit) → exceeded_held s (a ∷ b ∷ []) vs limit → exceeded_held s (c ∷ d ∷ []) vs limit
held_like s a b c d first second vs limit (inl past) = inl past
held_like s a b c d first second vs limit (inr past) = inr (same_needs s (a ∷ b ∷ []) (c ∷ d ∷ []) (first, (second, tt)) vs limit past)

held_both : (s : Shape) (a b c d : Column) → Like s a c → Like s b d → (vs : List Value) (limit : Limit) →
    (exceeded_held s (a ∷ b ∷ []) vs limit → exceeded_held s (c ∷ d ∷ []) vs limit) × (exceeded_held s (c ∷ d ∷ []) vs limit → exceeded_held s (a ∷ b ∷ []) vs limit)
held_both s a b c d first second vs limit = (held_like s a b c d first second vs limit, held_like s c d a b (back s a c first) (back s b d second) vs limit)

-- Rows exceed the same limits with the lists as with their children.
same_below : (type : Shape) (a b c d : Column) → IsBelow type a c → IsBelow type b d → (vs : List Value) (limit : Limit) →
    (exceeded_taken type (a ∷ b ∷ []) vs limit → exceeded_below type (c ∷ d ∷ []) vs limit) × (exceeded_below type (c ∷ d ∷ []) vs limit → exceeded_taken type (a ∷ b ∷ []) vs limit)
same_below (of_large_list s) a b c d first second vs limit = held_both s (child a) (child b) c d (like_list s a c first) (like_list s b d second) (joined_items 0 vs) limit
same_below (of_fixed_size_list s w) a b c d first second vs limit = held_both s (child a) (child b) c d (like_block s w a c first) (like_block s w b d second) (joined_items w vs) limit
same_below type a b c d first second vs limit = absurd first

-- ---- errors and results

module _ {A C : Type 0} (result : Result A PolarsError) (own : C → Column) (type : Shape) (t f : Side C ArrayRef) (a b : Column) (is : type_of a ≡ type) (other : type_of b ≡ type)
    (first : IsBelow (type_of a) a (below own t)) (second : IsBelow (type_of b) b (below own f)) (vs ws : List Value) (same : vs ≡ ws) where
  at_first : IsBelow type a (below own t)
  at_first = subst (λ s. IsBelow s a (below own t)) is first

  at_second : IsBelow type b (below own f)
  at_second = subst (λ s. IsBelow s b (below own f)) other second

  alike : exceeded_taken (type_of a) (a ∷ b ∷ []) vs ≡ exceeded_taken type (a ∷ b ∷ []) ws
  alike = λ i. exceeded_taken (is i) (a ∷ b ∷ []) (same i)

  pub refused_choice : IfErr result (IsLimitOrMemory (exceeded_taken (type_of a) (a ∷ b ∷ []) vs)) → IfErr result (IsLimitOrMemory (exceeded_lists own type t f ws))
  refused_choice h = grind (arith, common_steps, refused_more, same_below, at_first, at_second, alike)

  -- A result exceeds no limit if the rows themselves exceed none.
  pub answered_choice : ExceedsNone (exceeded_flat t f ws) → IfOk result (λ _. ExceedsNone (exceeded_taken (type_of a) (a ∷ b ∷ []) vs)) → IfOk result (λ _. ExceedsNone (exceeded_lists own type t f ws))
  answered_choice flat h =
      IfOk-weaker result _ _ (λ _ none. passes_neither (exceeded_flat t f ws) (exceeded_below type (below own t ∷ below own f ∷ []) ws) flat
      (λ limit past. none limit ((same_below type a b (below own t) (below own f) at_first at_second ws limit).1 past)))
      (subst (λ past. IfOk result (λ _. ExceedsNone past)) alike h)
