-- The columns so far are well-formed and have `len` rows.
use Rattle.std.proofs.Common.{All, take}
use Rattle.sel_arrow.specs.Rows.{IsField}
use Rattle.sel_arrow.proofs.column.+forming.Given as goal

abbrev pub invariant-are_fields-loop-column : goal.invariant-are_fields-loop-column
invariant-are_fields-loop-column l = All (IsField l.len) (take l.column-index l.columns)
