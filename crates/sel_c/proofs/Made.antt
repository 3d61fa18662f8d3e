-- Properties of the column that a call stores in a handle, and of its status.
use Rattle.std.proofs.lemmas.Grind.{common_steps}
use Rattle.std.proofs.Common.{◌≡◌, ◌≢◌, ◌≤◌, ℕ, arith, List, [], ◌∷◌, inl, inr, refl}
use Rattle.sel_c.proofs.Common.{Limit, PolarsError, rows, type_of, Shape, Value, ArrayRef, Held, error_status, ok, out_of_memory, Makes, ReturnsFirst, ExceedsNone, IsLimitOrMemory, IsOkOrLimit, ReturnsColumn}
use Rattle.sel_bits.specs.declared.faults.PolarsError.TheVariants.{ComputeError, OutOfMemory, SizeLimit}
use Rattle.sel_c.proofs.Limits.{returns-error}

-- A column that exceeds no limit is stored, unless memory runs out.
pub returns-made : (status : ℕ) (before after : Held) (column : ArrayRef) (values : List Value) (shape : Shape) (exceeded : Limit → Type 0) → Makes status before after (λ made. made ≡ column) → status ≤ out_of_memory →
    rows column.column ≡ values → type_of column.column ≡ shape → ExceedsNone exceeded → ReturnsColumn status before after values shape [] (IsOkOrLimit status exceeded)
returns-made status before after column values shape exceeded made low same typed none = grind (arith, common_steps)

-- The column itself is stored, which has these rows, unless memory runs out.
pub returns-again : (status : ℕ) (before after : Held) (column : ArrayRef) (values : List Value) → Makes status before after (λ made. made ≡ column) → status ≤ out_of_memory → rows column.column ≡ values →
    ReturnsColumn status before after values (type_of column.column) [] (status ≡ ok)
returns-again status before after column values made low same = grind (arith, common_steps)

-- A column without rows is stored, unless memory runs out.
pub returns-no-rows : (status : ℕ) (before after : Held) (values : List Value) (column : ArrayRef) (shape : Shape) → [] ≡ values → type_of column.column ≡ shape →
    ReturnsColumn status before after [] (type_of column.column) [] (status ≡ ok) → ReturnsColumn status before after values shape [] (status ≡ ok)
returns-no-rows status before after values column shape none typed told = grind (arith, common_steps)

-- On an error nothing is stored.
pub returns-none : (status : ℕ) (before : Held) (values : List Value) (shape : Shape) (conditions : List (ℕ × Type 0)) (AllHold : Type 0) → status ≢ ok → ReturnsFirst status conditions AllHold →
    ReturnsColumn status before before values shape conditions AllHold
returns-none status before values shape conditions AllHold other first = grind (arith, common_steps)

-- A kernel returns an error.
pub returns-failed : (status : ℕ) (before : Held) (values : List Value) (shape : Shape) (exceeded : Limit → Type 0) (fault : PolarsError) → status ≢ ok → status ≡ error_status fault → IsLimitOrMemory exceeded fault →
    ReturnsColumn status before before values shape [] (IsOkOrLimit status exceeded)
returns-failed status before values shape exceeded fault other number refusal = returns-none status before values shape [] (IsOkOrLimit status exceeded) other (returns-error status exceeded fault number refusal)

-- The first condition does not hold, and its status is returned.
pub returns-refused : (code : ℕ) (before : Held) (values : List Value) (shape : Shape) (Right : Type 0) (conditions : List (ℕ × Type 0)) (AllHold : Type 0) → code ≢ ok → (Right → ⊥) →
    ReturnsColumn code before before values shape ((code, Right) ∷ conditions) AllHold
returns-refused code before values shape Right conditions AllHold other wrong = returns-none code before values shape ((code, Right) ∷ conditions) AllHold other (inr (inl (refl, wrong)))

-- A condition that holds is put before the others.
pub returns-first : (status : ℕ) (before after : Held) (values : List Value) (shape : Shape) (code : ℕ) (Right : Type 0) (conditions : List (ℕ × Type 0)) (AllHold : Type 0) → Right →
    ReturnsColumn status before after values shape conditions AllHold → ReturnsColumn status before after values shape ((code, Right) ∷ conditions) AllHold
returns-first status before after values shape code Right conditions AllHold right told = record { rows = told.rows; dtype = told.dtype; checks = inr (inr (right, told.checks)) }

-- A kernel returns an error, a limit only if the first condition holds.
pub returns-limit-after : (status : ℕ) (before : Held) (values : List Value) (shape : Shape) (code : ℕ) (Right : Type 0) (exceeded : Limit → Type 0) (fault : PolarsError) → status ≢ ok → status ≡ error_status fault →
    IsLimitOrMemory (λ limit. Right × exceeded limit) fault → ReturnsColumn status before before values shape ((code, Right) ∷ []) (IsOkOrLimit status exceeded)
returns-limit-after status before values shape code Right exceeded OutOfMemory other number refusal =
    returns-none status before values shape ((code, Right) ∷ []) (IsOkOrLimit status exceeded) other (inl number)
returns-limit-after status before values shape code Right exceeded (SizeLimit limit) other number refusal =
    returns-first status before before values shape code Right [] (IsOkOrLimit status exceeded) refusal.0
    (returns-failed status before values shape exceeded (SizeLimit limit) other number refusal.1)
returns-limit-after status before values shape code Right exceeded ComputeError other number refusal = absurd refusal
