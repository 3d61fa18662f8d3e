-- What an iterator over the row references of a flatten has left.
use Rattle.std.specs.Prelude.{ℕ, List, Option}
use Rattle.sel_kernels.specs.Lanes.{left_picks}
use Rattle.sel_kernels.specs.declared.lanes.Woven.{Woven}

-- The remaining row references of the iterator.
abbrev pub woven_picks : Woven → List (Option (ℕ × ℕ))
woven_picks woven =
    left_picks woven.lane woven.at woven.part woven.row woven.rows woven.lanes.now
