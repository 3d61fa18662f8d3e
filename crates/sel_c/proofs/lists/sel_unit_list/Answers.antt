use Rattle.std.proofs.Common.{◌<◌, inr, rules}
use Rattle.sel_arrow.specs.Depth.{depth}
use Rattle.sel_ffi.specs.Status.{held_type, HasColumn}
use Rattle.sel_c.proofs.Limits.{returns-low}
use Rattle.sel_c.proofs.lists.sel_unit_list.Goals as goal

pub returns-in-Ok-array_to_unit_list : goal.returns-in-Ok-array_to_unit_list
returns-in-Ok-array_to_unit_list c =
    let has : HasColumn c.args.of.now.tree = search rules in
    let shallow : depth (held_type c.args.of.now.tree) < 128 = search rules in
    record { rows = search rules; dtype = search rules; checks = inr (inr (has, inr (inr (shallow, returns-low c.put.result c.put.ensures.status)))) }
