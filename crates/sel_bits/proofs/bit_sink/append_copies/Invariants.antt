-- The first `at` bits are appended to the initial ones.
use Rattle.std.proofs.Common.{◌≡◌, ◌≤◌, ◌-◌, ◌++◌, replicate}
use Rattle.sel_bits.proofs.bit_sink.append_copies.Given as goal

abbrev pub invariant-loop-at : goal.invariant-loop-at
invariant-loop-at g l = (l.at ≤ l.len) × (g.S.BitSink.so_far l.sink ≡ g.S.BitSink.so_far l.initial.sink ++ replicate l.at l.value) × (g.S.BitSink.beside l.sink ≡ g.S.BitSink.beside l.initial.sink)

abbrev pub decreases-loop-at : goal.decreases-loop-at
decreases-loop-at g l = l.len - l.at
