-- If-then-else of rows.
use Rattle.std.proofs.Common.{◌≡◌, ℕ, ◌<◌, Bool, true, false, List, length, Option, Some, None, arith, refl, ap, sym, ◌∙◌, Decides, ◌==◌, ◌&&◌, count_by}
use Rattle.sel_lines.proofs.Common.{common_steps, Decides-and, Decides-eqb, Bits, bool_rows, Value, Truth, is_null}
use Rattle.sel_lines.specs.Choose.{choose_result}
use Rattle.sel_arrow.proofs.Rows.{length-truth_rows}
use Rattle.sel_ternary.specs.Choose.{choose}
use Rattle.sel_kernels.{specs.Select.effective_mask, proofs.Selects.in_force-all, proofs.Dictionaries.bare_rows}

test : (mask ts fs : List Value) → Decides ((count_by is_null mask == 0) && ((length ts == length mask) && (length fs == length mask)))
    ((count_by is_null mask ≡ 0) × ((length ts ≡ length mask) × (length fs ≡ length mask)))
test mask ts fs = Decides-and _ _ (Decides-eqb (count_by is_null mask) 0) (Decides-and _ _ (Decides-eqb (length ts) (length mask)) (Decides-eqb (length fs) (length mask)))

pub no_nulls : (n : ℕ) (b : Bool) → b ≡ false → (0 < n → b ≡ true) → n ≡ 0
no_nulls n b is some = grind (arith, common_steps)

-- The effective mask of a mask without nulls is its values.
plain_mask : (bits : List Bool) (validity : Option Bits) → count_by is_null (bool_rows bits validity) ≡ 0 →
    effective_mask (bool_rows bits validity) ≡ bits
plain_mask bits validity none = sym (ap effective_mask (bare_rows Truth validity bits none)) ∙ in_force-all bits None refl

pub chosen : (bits : List Bool) (validity : Option Bits) (ts fs : List Value) → count_by is_null (bool_rows bits validity) ≡ 0 → length ts ≡ length (bool_rows bits validity) → length fs ≡ length (bool_rows bits validity)
    → Some (choose bits ts fs) ≡ choose_result (bool_rows bits validity) ts fs
chosen bits validity ts fs none long other = grind (arith, common_steps, plain_mask, test)

pub ruleset choices = (length-truth_rows, no_nulls, chosen)
