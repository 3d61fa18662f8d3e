use Rattle.std.proofs.Common.{inr, rules}
use Rattle.sel_c.proofs.{Made.returns-made}
use Rattle.sel_c.proofs.calls.choices.choose_into.Goals as goal

pub returns-in-Ok-choice : goal.returns-in-Ok-choice
returns-in-Ok-choice c =
    let made = returns-made _ _ _ c.in-Ok-choice.chosen _ _ _ c.put.ensures.column c.put.ensures.status c.in-Ok-choice.ensures.rows c.in-Ok-choice.ensures.dtype c.in-Ok-choice.ensures.within in
    let told = rw c.in-Ok.ensures.bits at made in
    record { rows = told.rows; dtype = told.dtype; checks = inr (inr ((tt, tt, tt), inr (inr (c.in-Ok.ensures.kind, inr (inr (search rules, inr (inr ((search rules, search rules), told.checks)))))))) }
