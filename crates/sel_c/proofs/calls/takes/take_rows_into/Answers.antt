use Rattle.sel_c.proofs.Common.{type_of, of_uint32}
use Rattle.std.proofs.Common.{◌≡◌, inr, rules}
use Rattle.sel_c.proofs.calls.takes.take_rows_into.Goals as goal

pub returns-in-Ok : goal.returns-in-Ok
returns-in-Ok c =
    let typed : type_of c.in-Ok.at.column ≡ of_uint32 = search rules in
    let told = rw c.in-Ok.ensures.rows at c.take_into-status.ensures in
    record { rows = told.rows; dtype = told.dtype; checks = inr (inr (tt, inr (inr (search rules, inr (inr (search rules, search (rules, told.checks, typed))))))) }
