use Rattle.std.proofs.Common.{subst, sym}
use Rattle.sel_ffi.specs.Held.{Held}
use Rattle.sel_c.specs.Takes.{TakesAt}
use Rattle.sel_c.proofs.takes.sel_take_rows.Goals as goal

pub returns : goal.returns
returns c =
    subst (λ (of : Held). TakesAt c.take_rows_into.result of c.args.indices.now c.args.bits.now c.args.has_bits c.args.out.now.tree c.take_rows_into.new.out.tree) (sym c.in-Some.ensures) c.take_rows_into.ensures
