-- A `&` to it shows nothing, so it shows the same to every thread.
use denote.RattleType.{RattleType}
use denote.Param.Send.{IsSync}
use Rattle.sel_bits.specs.contracts.two_lists.Carved as carved

pub sync : (F B : RattleType) → IsSync (carved.the_row F B)
sync F B = record { shared = λ p b o κ. tt }
