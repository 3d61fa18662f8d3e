use Rattle.sel_text.proofs.{Common.◌≡◌, Common.MatchResult, Common.Number, Common.item_value, Common.IsMemoryFault, Numbers.minus_told}
use Rattle.sel_text.proofs.item.read_number.Goals as goal

pub returns-in-Some : goal.returns-in-Some
returns-in-Some g c = minus_told (λ z more. MatchResult c.read_negative.result (λ read. (item_value read.0 ≡ Number z) × (read.1.now ≡ more)) IsMemoryFault) _ _ _ c.in-Some.ensures c.read_negative.ensures
