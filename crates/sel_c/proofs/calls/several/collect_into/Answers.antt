use Rattle.std.proofs.Common.{inr, rules}
use Rattle.sel_c.proofs.calls.several.collect_into.Goals as goal

pub returns : goal.returns
returns c =
    let told = rw c.in-Ok.ensures.value at c.collect_picks_into.ensures in
    record { rows = told.rows; dtype = told.dtype; checks = inr (inr (search rules, inr (inr (search rules, told.checks)))) }
