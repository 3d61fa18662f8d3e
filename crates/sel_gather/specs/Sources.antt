-- The source columns of gathered rows, and the rows gathered from them.
use Rattle.std.specs.Prelude.{List, [], ◌∷◌, map}
use Rattle.std.specs.Borrow.{Bor}
use Rattle.sel_arrow.specs.Columns.{binview_rows}
use Rattle.sel_arrow.specs.Rows.{rows, type_of}
use Rattle.sel_arrow.specs.Shape.{Shape, of_null}
use Rattle.sel_arrow.specs.Value.{Value, Null}
use Rattle.sel_arrow.specs.declared.binview.BinaryViewArray.{BinaryViewArray}
use Rattle.sel_arrow.specs.declared.column.Column.{Column}
use Rattle.sel_runs.specs.Picks.{pick}
use Rattle.sel_runs.specs.Runs.{expand}
use Rattle.sel_runs.specs.declared.runs.Run.{Run}

-- The type of the first column; the type of null columns if there is no column.
abbrev pub first_type : List Column → Shape
first_type [] = of_null
first_type (column ∷ columns) = type_of column

-- The columns that references point to.
abbrev pub columns_of : List (Bor Column) → List Column
columns_of sources = map (λ c. c.now) sources

-- The rows of each column.
abbrev pub rows_of : List (Bor Column) → List (List Value)
rows_of sources = map (λ c. rows c.now) sources

-- The rows that runs refer to; null for a run without a source.
abbrev pub picked : List (Bor Column) → List Run → List Value
picked sources runs = pick Null (rows_of sources) (expand runs)

-- The rows of each view column.
abbrev pub binviews : List (Bor BinaryViewArray) → List (List Value)
binviews sources = map (λ s. binview_rows s.now) sources
