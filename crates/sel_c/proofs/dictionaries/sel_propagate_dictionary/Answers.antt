use Rattle.std.proofs.Common.{Some, subst, sym}
use Rattle.sel_ffi.specs.Held.{Held}
use Rattle.sel_c.specs.Dictionaries.{PropagatesNulls}
use Rattle.sel_c.proofs.dictionaries.sel_propagate_dictionary.Goals as goal

pub returns : goal.returns
returns c =
    let status = c.propagate_columns_into.result in
    let old_keys = c.args.out_keys.now.tree in
    let new_keys = c.propagate_columns_into.new.out_keys.tree in
    let old_values = c.args.out_values.now.tree in
    let new_values = c.propagate_columns_into.new.out_values.tree in
    subst (λ (keys : Held). PropagatesNulls status keys c.args.values.now.tree old_keys new_keys old_values new_values) (sym c.in-Some.ensures.column)
    (subst (λ (values : Held). PropagatesNulls status (Some c.in-Some.at.now) values old_keys new_keys old_values new_values) (sym c.in-Some-column.ensures.column) c.propagate_columns_into.ensures)
