-- The rows that one run refers to.
use Rattle.std.specs.Prelude.{List}
use Rattle.std.specs.Borrow.{Bor}
use Rattle.sel_bits.specs.declared.native.NativeType.{Ghosts}
use Rattle.sel_arrow.specs.Value.{Value, Null}
use Rattle.sel_arrow.specs.declared.binary.BinaryArray.{BinaryArray}
use Rattle.sel_arrow.specs.declared.column.Column.{Column}
use Rattle.sel_runs.specs.Picks.{pick}
use Rattle.sel_runs.specs.Runs.{unrolled}
use Rattle.sel_runs.specs.declared.runs.Run.{Run}
use Rattle.sel_gather.specs.Sources.{rows_of}
use Rattle.sel_gather.specs.Steps.{binaries}

-- The rows that a run refers to; null if it has no source.
abbrev pub run_rows : List (Bor Column) → Run → List Value
run_rows sources run = pick Null (rows_of sources) (unrolled run)

-- The same for binary columns.
abbrev pub run_bytes : {O : Type 0} {type : Ghosts O}
    → List (Bor (BinaryArray O type)) → Run → List Value
run_bytes sources run = pick Null (binaries sources) (unrolled run)
