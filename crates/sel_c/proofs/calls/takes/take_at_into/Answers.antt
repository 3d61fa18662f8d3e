use Rattle.std.proofs.Common.{arith}
use Rattle.sel_c.proofs.Common.{index_out_of_bounds}
use Rattle.sel_c.proofs.Made.{returns-first, returns-limit-after, returns-made, returns-refused}
use Rattle.sel_c.proofs.calls.takes.take_at_into.Goals as goal

pub returns-in-Some : goal.returns-in-Some
returns-in-Some c =
    let told = c.in-Ok.ensures in
    returns-first _ _ _ _ _ _ _ _ _ (rw c.in-Some.is at told.within)
    (returns-made _ _ _ _ _ _ _ c.put.ensures.column c.put.ensures.status (rw c.in-Some.is at told.rows) (rw c.in-Some.is at told.dtype) (rw c.in-Some.is at told.limits))

pub returns-in-None : goal.returns-in-None
returns-in-None c =
    let fails = rw c.in-None.is at c.in-Ok.ensures.outside in
    returns-refused index_out_of_bounds c.args.out.now.tree _ _ _ _ _ (omega arith) (λ all. absurd (cc (all, fails)))

pub returns-in-Err : goal.returns-in-Err
returns-in-Err c =
    returns-limit-after _ _ _ _ _ _ _ _ c.status_of.ensures.own.0 c.status_of.ensures.number c.in-Err.ensures.refusal
