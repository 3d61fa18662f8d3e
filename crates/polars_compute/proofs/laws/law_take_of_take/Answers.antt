use Rattle.polars_compute.proofs.LawProofs.{takes_compose}
use Rattle.polars_compute.proofs.laws.law_take_of_take.Goals as goal

pub returns : goal.returns
returns c = takes_compose
