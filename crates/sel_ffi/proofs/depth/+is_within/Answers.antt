use Rattle.std.proofs.Common.{◌<◌, ◌≤◌, arith}
use Rattle.sel_ffi.proofs.{Common.depth, Common.type_of, Common.Column, Depths.all_more, Depths.each, Depths.not_all}
use Rattle.sel_arrow.proofs.Types.{struct_type}
use Rattle.sel_ffi.proofs.depth.+is_within.Goals as goal

pub is_within-returns-then-levels-gt0-3 : goal.is_within-returns-then-levels-gt0-3
is_within-returns-then-levels-gt0-3 t c =
    let within = rw (c.deref-then-levels-gt0-3.ensures.value) at c.are_within.ensures in
    let some : 0 < c.args.levels = c.if-levels-gt0-3.true in
    rw (struct_type _ _ _ _ c.in-Struct.is) (λ yes. omega (arith, within.0 yes, some), λ low. within.1 (omega (arith, low, some)))

pub are_within-returns-then-not-is_within : goal.are_within-returns-then-not-is_within
are_within-returns-then-not-is_within t c =
    not_all type_of _ _ _ _ _ c.loop-column-test.true c.column-item.is (λ low. absurd (cc (c.is_within.ensures.1 low, c.if-not-is_within.true)))

pub are_within-loop-column-preserved : goal.are_within-loop-column-preserved
are_within-loop-column-preserved t c =
    all_more (λ (x : Column). depth (type_of x) ≤ c.args.levels) _ _ _ _ c.loop-column-test.true c.column-item.is (c.is_within.ensures.0 c.if-not-is_within.false) c.loop-column.invariant

pub are_within-returns : goal.are_within-returns
are_within-returns t c = each type_of _ _ _ c.loop-column-test.false c.loop-column.invariant
