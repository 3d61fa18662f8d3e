use Rattle.std.proofs.{Common.Some, Common.subst, Common.sym, Common.w64, Common.ℤ, lemmas.Int.to_z-of_z}
use Rattle.sel_ffi.specs.Held.{Held}
use Rattle.sel_c.specs.Elements.{GetsListElements}
use Rattle.sel_c.proofs.lists.sel_list_get.Goals as goal

pub returns : goal.returns
returns c =
    let status = c.sublist_get_into.result in
    let before = c.args.out.now.tree in
    let after = c.sublist_get_into.new.out.tree in
    subst (λ (of : Held). GetsListElements status of c.args.index before after) (sym c.in-Some.ensures.column)
    (subst (λ (i : ℤ). GetsListElements status (Some c.in-Some.column.now) i before after) (to_z-of_z w64 c.args.index c.ranges.index) c.sublist_get_into.ensures)
