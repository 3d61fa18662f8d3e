use Rattle.std.proofs.Common.{◌≡◌, ◌≤◌, ◌-◌, length, take, map}
use Rattle.sel_c.proofs.calls.wides.split_all.Given as goal

abbrev pub invariant-loop-i : goal.invariant-loop-i
invariant-loop-i g l = (l.i ≤ length l.numbers) × (length l.out ≡ length l.numbers) × (map g.T.NativeType.number (take l.i l.numbers) ≡ map g.T.InWords.shown_by (take l.i l.out))

abbrev pub decreases-loop-i : goal.decreases-loop-i
decreases-loop-i g l = length l.numbers - l.i
