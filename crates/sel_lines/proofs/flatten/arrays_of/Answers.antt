use Rattle.std.proofs.Common.{◌∙◌, sym, ap, map, map-id, rules}
use Rattle.std.proofs.lemmas.Iterator.{Adapters.YieldsList-from_vec, Consumers.YieldsList-end}
use Rattle.sel_arrow.specs.Columns.{primitive_rows}
use Rattle.sel_lines.specs.declared.flatten.Part.{Part}
use Rattle.sel_lines.proofs.flatten.arrays_of.Goals as goal

pub returns-clause-rows : goal.returns-clause-rows
returns-clause-rows c =
    let end = YieldsList-end (YieldsList-from_vec {s = c.into_iter-part-iterator.result} c.args.parts.items (search rules) (search rules))
    c.loop-part.yielded c.loop-part.part-iterator c.loop-part.yielded_by c.next.result c.next.new.self c.in-None.is c.next.ensures.steps in
    c.loop-part.invariant.same ∙ ap (map (λ (part : Part). primitive_rows part.column)) (sym (map-id c.loop-part.yielded) ∙ end.0)
