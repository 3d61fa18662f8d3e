use Rattle.std.proofs.Common.{Some, subst, sym}
use Rattle.sel_ffi.specs.Held.{Held}
use Rattle.sel_c.specs.Takes.{Takes}
use Rattle.sel_c.proofs.takes.sel_take.Goals as goal

pub returns : goal.returns
returns c =
    let before = c.args.out.now.tree in
    let after = c.take_into.new.out.tree in
    subst (λ (of : Held). Takes c.take_into.result of c.args.indices.now.tree before after) (sym c.in-Some.ensures)
    (subst (λ (indices : Held). Takes c.take_into.result (Some c.in-Some.column.now) indices before after) (sym c.in-Some-column.ensures.column) c.take_into.ensures)
