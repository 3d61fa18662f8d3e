use Rattle.std.proofs.Common.{◌≡◌, take, map}
use Rattle.sel_c.proofs.calls.wides.joined_all.Given as goal

abbrev pub invariant-loop-pair : goal.invariant-loop-pair
invariant-loop-pair g l = map g.T.NativeType.number l.numbers.items ≡ map g.T.InWords.shown_by (take l.pair-index l.words)
