use Rattle.std.proofs.Common.{◌≡◌, map, take}
use Rattle.sel_lines.proofs.flatten.widths_of.Given as goal

abbrev pub invariant-loop-part : goal.invariant-loop-part
invariant-loop-part l = l.widths.items ≡ map (λ part. part.width) (take l.part-index l.parts)
