-- The output for `fixed W LISTS INDEX OOB`.
use Rattle.std.specs.Prelude.{ℕ, ◌&&◌, Bool, not, List, [], ◌∷◌, length, replicate, Option, None}
use Rattle.std.specs.Prelude.{Some, if◌then◌else◌, option_and_then}
use Rattle.sel_bits.specs.Faults.{error_text}
use Rattle.sel_bits.specs.declared.faults.PolarsError.TheVariants.{ComputeError}
use Rattle.sel_arrow.specs.Value.{Value, Number, Truth}
use Rattle.sel_kernels.specs.Entries.{fixed_get, any_out_of_bounds}
use Rattle.sel_lines.specs.Blocks.{blocks_of, parsed_width}
use Rattle.sel_lines.specs.Columns.{column_text}
use Rattle.sel_lines.specs.Numbers.{number_of, truth_of}
use Rattle.sel_lines.specs.Words.{if_both}

-- The element of each list at its index, printed, or the message of the error.
abbrev pub entries_text : ℕ → List Value → List Value → Bool → List ℕ
entries_text width rows indices null_on_oob =
    if not null_on_oob && any_out_of_bounds rows width indices then error_text ComputeError
    else column_text (fixed_get rows width indices)

-- The output for one index and a boolean; none for other values.
abbrev pub fixed_answer : ℕ → List Value → Value → Value → Option (List ℕ)
fixed_answer width rows (Number index) (Truth null_on_oob) =
    Some (entries_text width rows (replicate (length rows) (Number index)) null_on_oob)
fixed_answer width rows index null_on_oob = None

-- The output for a list size and the other arguments.
abbrev pub fixed_read : List ℕ → List ℕ → List ℕ → ℕ → Option (List ℕ)
fixed_read lists index oob width =
    option_and_then (λ rows. if_both (fixed_answer width rows) (number_of index) (truth_of oob))
    (blocks_of width lists)

-- The output for the arguments of `fixed`.
abbrev pub fixed_words : List (List ℕ) → Option (List ℕ)
fixed_words (width ∷ lists ∷ index ∷ oob ∷ []) =
    option_and_then (fixed_read lists index oob) (parsed_width width)
fixed_words _ = None
