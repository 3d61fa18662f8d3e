-- The rows so far are UTF-8.
use Rattle.std.proofs.Common.{◌≡◌, true, take}
use Rattle.sel_arrow.specs.Columns.{binview_rows}
use Rattle.sel_arrow.specs.Texts.{all_text}
use Rattle.sel_arrow.proofs.binview.BinaryViewArray.is_utf8.Given as goal

abbrev pub invariant-loop-i : goal.invariant-loop-i
invariant-loop-i l = all_text (take l.i (binview_rows l.self)) ≡ true
