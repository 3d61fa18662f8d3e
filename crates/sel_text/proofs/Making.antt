-- The results of column constructors, and their errors.
use Rattle.std.proofs.Common.{◌≡◌, Bool, true, false, ◌||◌, List, [], ◌∷◌, length, replicate, Option, Some, None, refl, ap, arith}
use Rattle.sel_text.proofs.Common.{common_steps, list_all, of_null, Value, Null, first_broken, IsFaultOrMemory, Malformed, fits, ReportsLimit, make_fault, IsMemoryFault, Fault, Limit}
use Rattle.sel_bits.specs.declared.faults.MakeError.{MakeError}

-- A limit that the child rows exceed is a limit of the whole.
pub told_more : (p q : Bool) (fault : Fault) → (p ≡ true → q ≡ true) → ReportsLimit p fault → ReportsLimit q fault
told_more p q fault more told = grind (arith, common_steps)

pub told_wanting : (p : Bool) (fault : Fault) → IsMemoryFault fault → ReportsLimit p fault
told_wanting p fault wants = grind (arith, common_steps)

-- An error of a constructor for an exceeded limit is reported as `Limit`.
pub maker_told : (rule : Option Malformed) (error : MakeError) (p : Bool) → IsFaultOrMemory rule error → ((m : Malformed) → rule ≡ Some m → p ≡ true) → ReportsLimit p (make_fault error)
maker_told rule error p is past = grind (arith, common_steps)

pub maker_wanting : (rule : Option Malformed) (error : MakeError) → IsFaultOrMemory rule error → rule ≡ None → IsMemoryFault (make_fault error)
maker_wanting rule error is kept = grind (arith, common_steps)

-- If only the first of three rules can be broken, a broken rule is the first.
pub first_of_three : (a b d : Bool) (r s t m : Malformed) → b ≡ false → d ≡ false → first_broken ((r, a) ∷ (s, b) ∷ (t, d) ∷ []) ≡ Some m → a ≡ true
first_of_three a b d r s t m second third is = grind (arith, second, third, is)

pub first_of_four : (a b d e : Bool) (r s t u m : Malformed) → d ≡ false → e ≡ false → first_broken ((r, a) ∷ (s, b) ∷ (t, d) ∷ (u, e) ∷ []) ≡ Some m → (a || b) ≡ true
first_of_four a b d e r s t u m third fourth is = grind (arith, third, fourth, is)

-- Each row of the null type is null.
pub all_nulls : (vs : List Value) → list_all (fits of_null) vs ≡ true → replicate (length vs) Null ≡ vs
all_nulls [] fit = refl
all_nulls (Null ∷ vs) fit = ap (λ l. Null ∷ l) (all_nulls vs fit)
all_nulls vs fit = absurd cc
