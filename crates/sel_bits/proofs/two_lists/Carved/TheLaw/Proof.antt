-- A `&` to it holds nothing. Assumes `Logic`.
use base.Fraction.{full_share}
use denote.RattleType.{RattleType}
use denote.Memory.{part_at}
use denote.Param.Laws.{Laws}
use denote.SharingLaws.{nothing_shr_laws}
use denote.Struct.Lending.{Lends-nothing}
use Rattle.sel_bits.specs.contracts.two_lists.Carved as carved
use Rattle.sel_bits.proofs.two_lists.Carved.TheLaw.Statement.{statement}

pub shares : (F B : RattleType) (L : Laws F) (K : Laws B) → statement F B L K
shares F B L K = record {
  shr_laws = λ d b o. nothing_shr_laws;
  shares = λ M 𝓤 𝓛 d κ ts b o. Lends-nothing 𝓛 (part_at (carved.the_written F B) full_share d b o) (carved.the_written F B).lives κ ts;
}
