use Rattle.std.proofs.Common.{◌≡◌, take, map}
use Rattle.sel_ffi.specs.Inputs.{view_in}
use Rattle.sel_ffi.proofs.views.views_of.Given as goal

abbrev pub invariant-loop-word : goal.invariant-loop-word
invariant-loop-word l = l.views.items ≡ map view_in (take l.word-index l.words)
