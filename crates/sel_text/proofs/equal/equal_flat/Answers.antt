use Rattle.std.proofs.Common.{◌∙◌, ap, sym}
use Rattle.sel_text.proofs.{Common.Bytes, Common.cell_value, Equalities.bytes_shown}
use Rattle.sel_text.proofs.equal.equal_flat.Goals as goal

pub returns-in-View : goal.returns-in-View
returns-in-View c = bytes_shown _ _ _ c.equal_bytes-in-View.ensures (ap Bytes c.bytes_at.ensures ∙ sym (ap cell_value c.in-View.is))

pub returns-in-Text : goal.returns-in-Text
returns-in-Text c = bytes_shown _ _ _ c.equal_bytes-in-Text.ensures (ap Bytes c.bytes_at-in-Text.ensures ∙ sym (ap cell_value c.in-Text.is))
