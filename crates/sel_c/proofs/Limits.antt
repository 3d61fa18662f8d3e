-- The statuses of calls.
use Rattle.std.proofs.lemmas.Grind.{common_steps}
use Rattle.std.proofs.Common.{◌≡◌, ℕ, ◌≤◌, List, [], ◌∷◌, inl, inr, arith}
use Rattle.sel_c.proofs.Common.{Limit, PolarsError, error_status, ok, out_of_memory, ReturnsFirst, IsOkOrLimit, ExceedsNone, IsLimitOrMemory}

-- A kernel's error is out of memory or an exceeded limit, so a call returns its status after all checks.
pub returns-error : (status : ℕ) (Past : Limit → Type 0) (fault : PolarsError) → status ≡ error_status fault → IsLimitOrMemory Past fault → ReturnsFirst status [] (IsOkOrLimit status Past)
returns-error status Past fault is past = grind (arith, common_steps)

-- A result that exceeds no limit is stored, unless memory runs out.
pub returns-put : (status : ℕ) (Past : Limit → Type 0) → status ≤ out_of_memory → ExceedsNone Past → ReturnsFirst status [] (IsOkOrLimit status Past)
returns-put status Past low none = grind (arith, common_steps)

-- A call returns success or out of memory.
pub returns-low : (status : ℕ) → status ≤ out_of_memory → ReturnsFirst status [] (status ≡ ok)
returns-low status low = grind (arith, common_steps)

-- A call's other conditions hold where the first one is known to.
pub without-first : (status code : ℕ) (Right : Type 0) (conditions : List (ℕ × Type 0)) (AllHold : Type 0) → Right → ReturnsFirst status ((code, Right) ∷ conditions) AllHold → ReturnsFirst status conditions AllHold
without-first status code Right [] AllHold right (inl memory) = inl memory
without-first status code Right (next ∷ conditions) AllHold right (inl memory) = inl memory
without-first status code Right conditions AllHold right (inr (inl fails)) = absurd (fails.1 right)
without-first status code Right conditions AllHold right (inr (inr rest)) = rest.1

abbrev pub all_of : List (ℕ × Type 0) → Type 0
all_of [] = Unit {0}
all_of (check ∷ checks) = check.1 × all_of checks

-- Where all conditions hold, another fact follows from what holds then.
pub returns-more : (status : ℕ) (conditions : List (ℕ × Type 0)) (A B : Type 0) → (all_of conditions → A → B) → ReturnsFirst status conditions A → ReturnsFirst status conditions B
returns-more status [] A B more (inl memory) = inl memory
returns-more status [] A B more (inr a) = inr (more tt a)
returns-more status (c ∷ cs) A B more (inl memory) = inl memory
returns-more status (c ∷ cs) A B more (inr (inl fails)) = inr (inl fails)
returns-more status (c ∷ cs) A B more (inr (inr rest)) = inr (inr (rest.0, returns-more status cs A B (λ all. more (rest.0, all)) rest.1))

-- The same limits, stated in another way.
pub limit-more : (status : ℕ) (E F : Limit → Type 0) → ((limit : Limit) → E limit → F limit) → ((limit : Limit) → F limit → E limit) → IsOkOrLimit status E → IsOkOrLimit status F
limit-more status E F more back h5 = grind (arith, common_steps)
