-- Loop invariant: the values so far fit the type.
use Rattle.std.proofs.Common.{◌≡◌, true, take}
use Rattle.sel_text.proofs.Common.{list_all, fits_number}
use Rattle.sel_text.proofs.fit.law_numbers_fit.Given as goal

abbrev pub invariant-loop-value : goal.invariant-loop-value
invariant-loop-value g l = list_all (λ x. fits_number g.T.FitsShape.shape (g.T.NativeType.number x)) (take l.value-index l.values) ≡ true
