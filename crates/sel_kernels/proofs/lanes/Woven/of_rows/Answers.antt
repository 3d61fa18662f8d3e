use Rattle.sel_kernels.proofs.{Common.arith, Common.refl, Common.sym, Common.subst, Common.HasLeft, Flattening.first_part, Flattening.rows_some}
use Rattle.sel_kernels.proofs.lanes.Woven.of_rows.Goals as goal

pub bounds-lanes-0 : goal.bounds-lanes-0
bounds-lanes-0 c = (rows_some 0 c.args.rows c.args.lanes.now (omega (arith, c.requires.some, c.requires.left.counted))).1

pub invariant_of-result : goal.invariant_of-result
invariant_of-result c =
    record {
      rest = subst (HasLeft c.args.lanes.now c.args.left)
          (sym (first_part c.args.rows _ (record { width = 0; step = 0 }) c.args.lanes.now refl (omega (arith, c.requires.some, c.requires.left.counted)))) c.requires.left;
    }

pub returns : goal.returns
returns c = first_part c.args.rows _ (record { width = 0; step = 0 }) c.args.lanes.now refl (omega (arith, c.requires.some, c.requires.left.counted))
