use Rattle.sel_ternary.proofs.Common.{◌∙◌, map, w32, cast_unsigned, top, is_set, if◌then◌else◌}
use Rattle.std.specs.Simd.Lanes.{sel_l}
use Rattle.sel_ternary.proofs.PairLanes.{chosen_fields}
use Rattle.sel_ternary.proofs.if_then_else.view_lanes.chosen_pair.Goals as goal

pub returns : goal.returns
returns c = λ a b x y trues falses.
    let m = c.args.mask in
    c.views_of.ensures (if is_set m 0 then a else x) (if is_set m 1 then b else y)
    ((λ i. sel_l (map (top 31) (map (cast_unsigned w32) (c.set_pair.ensures i))) (trues i) (falses i)) ∙ chosen_fields (is_set m 0) (is_set m 1) a b x y)
