use Rattle.std.proofs.Common.{◌≡◌, true, take}
use Rattle.sel_arrow.proofs.Common.{list_all, widths_fit}
use Rattle.sel_arrow.proofs.datatype.+widths_fit.Given as goal

-- The list sizes in the types so far are in bounds.
abbrev pub invariant-all_widths_fit-loop-dtype : goal.invariant-all_widths_fit-loop-dtype
invariant-all_widths_fit-loop-dtype l = list_all widths_fit (take l.dtype-index l.dtypes) ≡ true
