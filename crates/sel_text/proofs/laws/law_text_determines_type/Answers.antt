use Rattle.sel_text.proofs.OneType.{one_type}
use Rattle.sel_text.proofs.laws.law_text_determines_type.Goals as goal

pub returns : goal.returns
returns c = one_type
