-- What the calls for if-then-else guarantee; they differ by which values are broadcast.
use Rattle.std.specs.Prelude.{◌≡◌, ℕ, Bool, List, ◌++◌, [], ◌∷◌, length}
use Rattle.sel_arrow.specs.Shape.{of_boolean}
use Rattle.sel_arrow.specs.Value.{Value}
use Rattle.sel_gather.specs.Need.{exceeded_taken}
use Rattle.sel_ffi.specs.Held.{Held}
use Rattle.sel_ffi.specs.Status.{no_column, unsupported_type, type_mismatch, length_mismatch}
use Rattle.sel_ffi.specs.Status.{held_columns, held_rows, held_type, HasColumn}
use Rattle.sel_c.specs.Returns.{IsOkOrLimit, ReturnsColumn}
use Rattle.sel_ternary.specs.Chosen.{chosen_rows, SideFits}
use Rattle.sel_kernels.specs.Select.{effective_mask}

-- The column of an if-then-else is made: it has these values and the type of the true values.
abbrev pub Chooses : ℕ → Held → Held → Held → Held → Held → Type 0 → List Value → Type 0
Chooses code mask if_true if_false before after LengthsFit values =
    ReturnsColumn code before after values (held_type if_true)
    ((no_column, HasColumn mask × HasColumn if_true × HasColumn if_false)
    ∷ (unsupported_type, held_type mask ≡ of_boolean)
    ∷ (type_mismatch, held_type if_true ≡ held_type if_false)
    ∷ (length_mismatch, LengthsFit) ∷ [])
    (IsOkOrLimit code (exceeded_taken (held_type if_true)
    (held_columns if_true ++ held_columns if_false) values))

-- The same where the true or the false values are broadcast unless they are a column.
abbrev pub ChoosesFrom : ℕ → Held → Held → Held → Bool → Bool → Held → Held → Type 0
ChoosesFrom code mask if_true if_false true_column false_column before after =
    Chooses code mask if_true if_false before after
    (SideFits true_column (length (held_rows if_true)) (length (held_rows mask))
    × SideFits false_column (length (held_rows if_false)) (length (held_rows mask)))
    (chosen_rows true_column false_column (effective_mask (held_rows mask)) (held_rows if_true)
    (held_rows if_false))
