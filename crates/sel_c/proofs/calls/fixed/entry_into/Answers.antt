use Rattle.std.proofs.Common.{w64, to_z, of_z}
use Rattle.sel_c.proofs.{Entries.get-error, Entries.same-indices, Made.returns-first, Made.returns-made, Made.returns-none}
use Rattle.sel_kernels.specs.Entries.{at_each}
use Rattle.sel_c.proofs.calls.fixed.entry_into.Goals as goal

pub returns-in-Ok : goal.returns-in-Ok
returns-in-Ok c = rw (← same-indices c.args.lists.now c.args.index c.ranges.index) (returns-first _ _ _ _ _ _ _ _ _ c.in-Ok.ensures.inside
    (returns-made _ _ _ _ _ _ _ c.put.ensures.column c.put.ensures.status c.in-Ok.ensures.rows c.in-Ok.ensures.dtype c.in-Ok.ensures.within))

pub returns-in-Err : goal.returns-in-Err
returns-in-Err c = rw (← same-indices c.args.lists.now c.args.index c.ranges.index) (returns-none _ _ _ _ _ _ c.status_of.ensures.own.0
    (get-error _ c.args.null_on_oob c.args.lists.now
    (at_each c.args.lists.now (to_z w64 (of_z w64 c.args.index))) c.in-Err.fault c.status_of.ensures.number c.in-Err.ensures.refusal))
