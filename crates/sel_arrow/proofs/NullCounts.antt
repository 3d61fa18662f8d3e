-- The number of null rows, from the validity.
use Rattle.std.proofs.Common.{◌≡◌, ◌≢◌, ℕ, zero, suc, true, false, List, [], ◌∷◌, length, Option, Some, None, replicate, refl, ap, ◌∙◌, arith, cond, count_by, not}
use Rattle.std.proofs.lemmas.List.Sums.{sum_by-cons}
use Rattle.sel_arrow.proofs.Common.{Bits, Value, is_null, validities, Shape, of_null, IsValidityOf}

-- The number of null rows is the number of false entries of their validity.
nulls_of : (vs : List Value) → count_by is_null vs ≡ count_by not (validities vs)
nulls_of [] = refl
nulls_of (v ∷ vs) = simp (sum_by-cons, (nulls_of vs))

all_true : (n : ℕ) → count_by not (replicate n true) ≡ 0
all_true zero = refl
all_true (suc n) = sum_by-cons (λ b. cond (not b) 1 0) true (replicate n true) ∙ omega (arith, all_true n)

all_false : (n : ℕ) → count_by not (replicate n false) ≡ n
all_false zero = refl
all_false (suc n) = sum_by-cons (λ b. cond (not b) 1 0) false (replicate n false) ∙ omega (arith, all_false n)

-- In a null column every row is null.
pub nulls_all : (s : Shape) (validity : Option Bits) (vs : List Value) → IsValidityOf s validity vs → s ≡ of_null → count_by is_null vs ≡ length vs
nulls_all s validity vs tells is = grind (arith, nulls_of, all_false)

-- In any other column without a validity no row is null.
pub nulls_none : (s : Shape) (vs : List Value) → IsValidityOf s None vs → s ≢ of_null → count_by is_null vs ≡ 0
nulls_none of_null vs tells other = absurd (other refl)
nulls_none s vs tells other = nulls_of vs ∙ ap (count_by not) tells ∙ all_true (length vs)

-- In any other column with a validity, its false bits count the null rows.
pub nulls_some : (s : Shape) (validity : Bits) (vs : List Value) → IsValidityOf s (Some validity) vs → s ≢ of_null → count_by is_null vs ≡ count_by not validity.bits
nulls_some of_null validity vs tells other = absurd (other refl)
nulls_some s validity vs tells other = nulls_of vs ∙ ap (count_by not) tells

pub ruleset null_counts = (nulls_all, nulls_none, nulls_some)
