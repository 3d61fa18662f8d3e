-- The vector has the bytes so far, within its reserved capacity and in its place.
use Rattle.std.proofs.Common.{◌≡◌, ◌++◌, take}
use Rattle.std.specs.Vec.{vec_capacity, vec_ptr}
use Rattle.std.specs.Int.{bytes_low_first}
use Rattle.sel_bits.proofs.operations.push_word.Given as goal

abbrev pub invariant-loop-i : goal.invariant-loop-i
invariant-loop-i g l = (l.out.items ≡ l.initial.out.items ++ take l.i (bytes_low_first 0 8 l.word)) × (vec_capacity l.out ≡ vec_capacity l.initial.out) × (vec_ptr l.out ≡ vec_ptr l.initial.out)
