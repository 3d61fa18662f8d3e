use Rattle.std.proofs.Common.{◌≡◌, ◌∙◌, [], List, inr, rules, subst, w64, ℤ, to_z, of_z}
use Rattle.sel_c.proofs.Common.{to_z-of_z, list_column, rows, type_of, Shape, Value}
use Rattle.sel_c.specs.Elements.{GetsElements}
use Rattle.sel_c.proofs.calls.lists.sublist_get_into.Goals as goal

pub returns : goal.returns
returns c =
    let index = to_z w64 (of_z w64 c.args.index) in
    let lists = list_column c.in-Ok-into_array.lists in
    let held : rows lists ≡ rows c.args.column.now.column = c.in-Ok-into_array.ensures.rows ∙ c.in-Ok.ensures.rows in
    let typed : type_of lists ≡ type_of c.args.column.now.column = c.in-Ok-into_array.ensures.dtype ∙ c.in-Ok.ensures.dtype in
    let told = subst (λ (i : ℤ). GetsElements c.element_into-status.result (rows c.args.column.now.column)
    (type_of c.args.column.now.column) i [] c.args.out.now.tree c.element_into-status.new.out.tree) (to_z-of_z w64 c.args.index c.ranges.index)
    (subst (λ (vs : List Value). GetsElements c.element_into-status.result vs
    (type_of c.args.column.now.column) index [] c.args.out.now.tree c.element_into-status.new.out.tree) held
    (subst (λ (s : Shape). GetsElements c.element_into-status.result
    (rows lists) s index [] c.args.out.now.tree c.element_into-status.new.out.tree) typed c.element_into-status.ensures)) in
    record { rows = told.rows; dtype = told.dtype; checks = inr (inr (tt, inr (inr (search rules, told.checks)))) }
