use Rattle.sel_runs.proofs.Common.{◌∙◌, sym}
use Rattle.sel_runs.proofs.Windows.{all_true}
use Rattle.sel_runs.proofs.bits.unless_all_true.Goals as goal

pub returns-then-unset_bits-eq0-clause-bits : goal.returns-then-unset_bits-eq0-clause-bits
returns-then-unset_bits-eq0-clause-bits c = all_true c.args.bits.bits c.args.len c.requires (sym c.unset_bits.ensures ∙ c.if-unset_bits-eq0.true)
