-- Loop invariant: the number of the digits so far.
use Rattle.std.{proofs.Common.◌≡◌, proofs.Common.take, specs.Str.Parse.digits_value}
use Rattle.sel_text.proofs.numerals.number_of.Given as goal

abbrev pub invariant-loop-digit : goal.invariant-loop-digit
invariant-loop-digit l = l.number ≡ digits_value 10 (take l.digit-index l.digits)
