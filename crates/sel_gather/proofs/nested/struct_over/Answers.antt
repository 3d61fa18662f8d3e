use Rattle.sel_gather.proofs.Common.{◌≡◌, ◌∙◌, ap, subst, length, map, get_or, length-map, rows, type_of, shapes_of, shape_list, Null, pick, expand}
use Rattle.sel_arrow.proofs.{Trees.rows-Struct, Trees.fields_make, Types.type_of-Struct}
use Rattle.sel_gather.proofs.{Below.listed_shapes, ItemRuns.rows_of, Rebuilt.IsTuple, Rebuilt.tuples_rebuilt, Layouts.picked_tuples}
use Rattle.sel_runs.proofs.RunLists.{length-pick}
use Rattle.sel_gather.proofs.nested.struct_over.Goals as goal

pub returns-clause-rows : goal.returns-clause-rows
returns-clause-rows c =
    let xss = rows_of c.args.sources.now in
    let ps = expand c.args.runs.now in
    let vs = pick Null xss ps in
    let ss = shapes_of (map type_of c.args.fields.items) in
    let count : length (shape_list ss) ≡ length c.args.fields.items = ap length (listed_shapes (map type_of c.args.fields.items)) ∙ length-map c.args.fields.items type_of in
    rows-Struct c.args.len c.args.fields c.in_ok-validity.validity
    ∙ tuples_rebuilt (length c.args.fields.items) vs (map rows c.args.fields.items) c.in_ok-validity.validity c.args.len
    (λ k. subst (λ n. IsTuple n (get_or vs k Null)) count (picked_tuples c.args.sources.now ss ps c.requires.tuples k))
    (length-pick Null xss ps ∙ c.requires.may.len) c.requires.parts c.in_ok-validity.ensures.bits

pub returns-clause-dtype : goal.returns-clause-dtype
returns-clause-dtype c = type_of-Struct c.args.len c.args.fields c.in_ok-validity.validity

pub returns-clause-formed : goal.returns-clause-formed
returns-clause-formed c =
    fields_make c.args.len c.args.fields c.in_ok-validity.validity (record { few = c.requires.may.few; covered = c.in_ok-validity.ensures.covers; fields = c.requires.fields })
