use Rattle.std.proofs.Common.{◌≤◌}
use Rattle.sel_ffi.proofs.{Common.depth, Common.type_of, Common.ArrayRef, Depths.all_more, Depths.each, Depths.not_all}
use Rattle.sel_ffi.proofs.depth.arrays_are_within.Goals as goal

pub returns-then-not-is_within : goal.returns-then-not-is_within
returns-then-not-is_within c =
    not_all (λ (x : ArrayRef). type_of x.column) _ _ _ _ _ c.loop-array-test.true c.array-item.is
    (λ low. absurd (cc (c.is_within.ensures.1 (rw (c.as_column.ensures.column) low), c.if-not-is_within.true)))

pub loop-array-preserved : goal.loop-array-preserved
loop-array-preserved c =
    all_more (λ (x : ArrayRef). depth (type_of x.column) ≤ c.args.levels) _ _ _ _ c.loop-array-test.true c.array-item.is (rw (c.as_column.ensures.column) at (c.is_within.ensures.0 c.if-not-is_within.false)) c.loop-array.invariant

pub returns : goal.returns
returns c = each (λ (x : ArrayRef). type_of x.column) _ _ _ c.loop-array-test.false c.loop-array.invariant
