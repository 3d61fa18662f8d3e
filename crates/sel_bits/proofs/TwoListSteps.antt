-- The fields of a `Carved`, as entries of a walk. Assumes `Logic`.
--     pair, empty              the machine values of a struct of two fields, and of one of none
--     fields_out, fields_in    the two fields are [the list], and back
use Rattle.std.proofs.Common.{◌≡◌, List, [], ◌∷◌, ◌++◌, refl, ◌∙◌}
use seplogic.Ra.Ura.{Ura}
use mir.Val.{Val, vstruct, vcons, vnil, of_list}
use types.Logic.{Logic}
use types.Kit.{Item, Goal, Seq, Step, step, ‵, ◌$◌, move, drop, fsplit, fjoin, fpick, fpack, feq_i, feq_l}
use denote.RattleType.{RattleType, Valss}
use denote.Param.Laws.{Laws}
use denote.Steps.{nothing}
use denote.Struct.Struct.{Shape, within}
use Rattle.core.specs.contracts.marker.PhantomData as marker
use Rattle.std_alloc.specs.contracts.vec.Vec as V
use Rattle.std_alloc.proofs.vec.Vec.TheLaws as vec_laws
use Rattle.std_heap.specs.contracts.Global as heap
use Rattle.std_heap.specs.contracts.GlobalAllocator.TheImpl.{ghosts}
use Rattle.std_heap.proofs.Global.TheLaws as heap_laws
use Rattle.sel_bits.specs.contracts.two_lists.Carved.TheInside as inside
use Rattle.sel_bits.proofs.LentSteps.{Good, tells}

abbrev pub empty : Val
empty = vstruct vnil

abbrev pub pair : Val → Val → Val
pair u v = vstruct (vcons u (vcons v vnil))

-- a list of the heap
abbrev pub Heaped : RattleType → RattleType
Heaped R = V.the_row R heap.the_row ghosts

abbrev pub heaped-laws : (R : RattleType) → Laws R → Laws (Heaped R)
heaped-laws R LR = vec_laws.the_row_laws R heap.the_row ghosts LR heap_laws.the_row_laws

-- what a struct owns reads only its fields
abbrev of_fields : List RattleType → Shape
of_fields Rs = record { name = []; args = []; types = []; fields = Rs }

module _ (R S : RattleType) {M : Type 1} {𝓤 : Ura M} {𝓛 : Logic 𝓤} {K : Type 0} {Γ : List (Item 𝓤)} {G : Goal 𝓤 𝓛.H} where
  pub fields_out : K → Laws R → (d : (inside.the_row R S).Denot) (vs : List Val)
      → ((u : Val) → vs ≡ pair u empty ∷ [] → Good (Heaped R) u → Seq K 𝓛 (‵ ((Heaped R).own_val d.list (u ∷ [])) ∷ Γ) G)
      → Seq K 𝓛 (‵ ((inside.the_row R S).own_val d vs) ∷ Γ) G
  fields_out t LR d vs k =
      fpick t (λ vss. fsplit t $ feq_l t (λ all. fsplit t $ move t (1 ∷ []) $ fsplit t $ fpick t (λ ws. fsplit t $ feq_l t (λ none. drop t $ drop t $
      tells t (Heaped R) (heaped-laws R LR) d.list vss.0 (λ u is good. k u (all ∙ (λ i. vstruct (of_list (is i ++ (none i ++ []))) ∷ [])) good)))))

  pub fields_in : K → (d : (inside.the_row R S).Denot) (u : Val) → Step K 𝓛 (‵ ((inside.the_row R S).own_val d (pair u empty ∷ [])) ∷ Γ) G (‵ ((Heaped R).own_val d.list (u ∷ [])) ∷ Γ) G
  fields_in t d u = step (λ s.
      nothing t $ nothing t $ feq_i t (List Val) (empty ∷ []) (empty ∷ []) refl $ fjoin t $
      fpack t (Valss []) (within (of_fields []) tt (empty ∷ [])) tt $ fjoin t $ move t (1 ∷ 0 ∷ []) $ fjoin t $
      feq_i t (List Val) (pair u empty ∷ []) (pair u empty ∷ []) refl $ fjoin t $
      fpack t (Valss (Heaped R ∷ marker.the_row S ∷ [])) (within (of_fields (Heaped R ∷ marker.the_row S ∷ [])) (d.list, (d.behind, tt)) (pair u empty ∷ [])) (u ∷ [], (empty ∷ [], tt)) $ s)
