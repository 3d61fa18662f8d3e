use Rattle.std.proofs.Common.{ap}
use Rattle.sel_text.{specs.Cells.cell_value, proofs.Equalities.bytes_told}
use Rattle.sel_text.proofs.equal.equal_bytes.Goals as goal

pub returns-in-View : goal.returns-in-View
returns-in-View c = bytes_told _ _ _ _ _ c.eq-in-View.ensures c.bytes_at.ensures (ap cell_value c.in-View.is)

pub returns-in-Text : goal.returns-in-Text
returns-in-Text c = bytes_told _ _ _ _ _ c.eq-in-Text.ensures c.bytes_at-in-Text.ensures (ap cell_value c.in-Text.is)
