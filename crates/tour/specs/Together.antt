-- Rows of several columns that come from the same source rows.
use Rattle.std.specs.Prelude.{ℕ, List, [], ◌∷◌, map, Option}
use Rattle.sel_arrow.specs.Value.{Value, Null}
use Rattle.polars_compute.specs.Laws.{source_pick}
use Rattle.sel_kernels.specs.Pick.{pick}
use Rattle.sel_kernels.specs.Select.{effective_mask, kept}

-- The source row of each index among the rows that the mask keeps; none for a null index.
abbrev pub source_picks : List Value → List Value → List (Option (ℕ × ℕ))
source_picks mask indices = map (source_pick (kept (effective_mask mask))) indices

-- The rows of each column at the same row references.
abbrev pub rows_at : List (Option (ℕ × ℕ)) → List (List Value) → List (List Value)
rows_at picks columns = map (λ rows. pick Null (rows ∷ []) picks) columns
