-- Loop invariant: the rows of the fields so far fit their types.
use Rattle.std.proofs.Common.{All, take}
use Rattle.sel_text.specs.Fits.{RowsFit}
use Rattle.sel_text.proofs.fit.+fitting.Given as goal

abbrev pub invariant-law_fields_fit-loop-field : goal.invariant-law_fields_fit-loop-field
invariant-law_fields_fit-loop-field l = All RowsFit (take l.field-index l.fields)
