-- The first `at` bits are appended to the initial ones.
use Rattle.std.proofs.Common.{◌≡◌, ◌≤◌, ◌-◌, ◌++◌, take, drop}
use Rattle.sel_bits.proofs.bit_sink.append_bitmap.Given as goal

abbrev pub invariant-loop-at : goal.invariant-loop-at
invariant-loop-at g l = (l.at ≤ l.len) × (g.S.BitSink.so_far l.sink ≡ g.S.BitSink.so_far l.initial.sink ++ take l.at (drop l.start l.map.bits)) × (g.S.BitSink.beside l.sink ≡ g.S.BitSink.beside l.initial.sink)

abbrev pub decreases-loop-at : goal.decreases-loop-at
decreases-loop-at g l = l.len - l.at
