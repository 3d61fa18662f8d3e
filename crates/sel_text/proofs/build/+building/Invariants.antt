-- Loop invariant: the fields so far, none of which exceeds a limit.
use Rattle.std.proofs.Common.{◌≡◌, map, take, true, false}
use Rattle.sel_text.proofs.Common.{list_all, shape_of, of_struct, shapes_of, HasParts, fits, rows_repeated, any_exceeds_limit}
use Rattle.sel_text.proofs.build.+building.Given as goal

abbrev pub invariant-push_fields-loop-k : goal.invariant-push_fields-loop-k
invariant-push_fields-loop-k l =
    list_all (fits (of_struct (shapes_of (map shape_of l.dtypes)))) (rows_repeated l.items) ≡ true →
    HasParts l.fields.items l.fn.fields.items (map shape_of (take l.k l.dtypes)) (rows_repeated l.items)
    × (any_exceeds_limit l.beneath (shapes_of (map shape_of (take l.k l.dtypes))) 0 (rows_repeated l.items) ≡ false)
