use Rattle.std.proofs.Common.{w64}
use Rattle.sel_c.proofs.Common.{to_z-of_z}
use Rattle.sel_c.{proofs.Made.returns-failed, proofs.Made.returns-made}
use Rattle.sel_c.proofs.calls.lists.element_into.Goals as goal

pub returns-in-Ok : goal.returns-in-Ok
returns-in-Ok c = rw (← to_z-of_z w64 c.args.index c.ranges.index)
    (returns-made _ _ _ _ _ _ _ c.put.ensures.column c.put.ensures.status c.in-Ok.ensures.rows c.in-Ok.ensures.dtype c.in-Ok.ensures.within)

pub returns-in-Err : goal.returns-in-Err
returns-in-Err c = rw (← to_z-of_z w64 c.args.index c.ranges.index)
    (returns-failed _ _ _ _ _ _ c.status_of.ensures.own.0 c.status_of.ensures.number c.in-Err.ensures.refusal)
