-- A raw pointer with its allocator, and what they own, as entries of a proof context. Assumes
-- `Logic`.
--     both                     the machine value of a pointer beside an allocator
--     loose_out, loose_in      a `Loose` by value is [what the box owned; the allocator], and back
use Rattle.std.proofs.Common.{◌≡◌, ℕ, List, [], ◌∷◌, ◌++◌, refl, subst}
use Rattle.sel_ffi.proofs.Walks.{Al, bare, block_ptr, box_owns, dnil, drop, feq_i, feq_l, fjoin, fpack, fpick, fsplit, fst∗, Goal, Good, handle_tells, impl}
use Rattle.sel_ffi.proofs.Walks.{in_a_block, Item, Laws, layout, Logic, lone, move, never, nothing, null_ptr, of_list, Ptr, ptr_val, RattleType, RawPtr, sem}
use Rattle.sel_ffi.proofs.Walks.{Seq, shape, Step, step, tnil, Ura, Val, Valss, vcons, vnil, vptr, vstruct, within, ‵, ◌$◌}
use Rattle.core.specs.declared.alloc.Allocator.{Ghosts}
use Rattle.sel_ffi.specs.contracts.loose.Loose as loose

abbrev pub both : Val → Val → Val
both p h = vstruct (vcons p (vcons h vnil))

module _ (R : RattleType) (Z : RattleType) (LZ : Laws Z) (g : Ghosts Z.Denot) where
  abbrev pub Loose : RattleType
  Loose = loose.the_row R Z g

  abbrev al : Al
  al = record { row = Z; laws = LZ; g = g; d = impl [] tnil dnil; drops = impl [] tnil dnil }

  module _ {M : Type 1} {𝓤 : Ura M} {𝓛 : Logic 𝓤} {K : Type 0} {Γ : List (Item 𝓤)} {G : Goal 𝓤 𝓛.H} where
    pub loose_out : K → (l : Loose.Denot) (vs : List Val)
        → ((b o : ℕ) (h : Val) → l.at ≡ block_ptr b o → vs ≡ both (vptr b o) h ∷ [] → Good (layout Z) h
        → Seq K 𝓛 (‵ (box_owns (g.dealloc_token l.alloc) R (block_ptr b o) l.value) ∷ ‵ (Z.own_val l.alloc (h ∷ [])) ∷ Γ) G)
        → Seq K 𝓛 (‵ (Loose.own_val l vs) ∷ Γ) G
    loose_out t l vs k =
        fsplit t $ fpick t (λ parts. fsplit t $ feq_l t (λ is. fsplit t $ feq_l t (λ points. fsplit t $
        handle_tells al t l.alloc parts.1.0 (λ h alone fits. move t (1 ∷ []) $ drop t $ move t (1 ∷ []) $
        in_a_block t l.at (λ p. box_owns (g.dealloc_token l.alloc) R p l.value) (fst∗ 𝓤 (never 𝓤) (sem 𝓛 (g.dealloc_token l.alloc (bare (lone R.mir)) null_ptr))) (λ b o e. k b o h e
        (subst (λ (p : Ptr). vs ≡ both (ptr_val p) h ∷ []) e
        (subst (λ (hs : List Val). vs ≡ vstruct (of_list (ptr_val l.at ∷ (hs ++ []))) ∷ []) alone
        (subst (λ (ps : List Val). vs ≡ vstruct (of_list (ps ++ (parts.1.0 ++ []))) ∷ []) points is))) fits)))))

    pub loose_in : K → (b o : ℕ) (h : Val) (a : Z.Denot) (x : R.Denot)
        → Step K 𝓛 (‵ (Loose.own_val (record { at = block_ptr b o; alloc = a; value = x }) (both (vptr b o) h ∷ [])) ∷ Γ) G
        (‵ (box_owns (g.dealloc_token a) R (block_ptr b o) x) ∷ ‵ (Z.own_val a (h ∷ [])) ∷ Γ) G
    loose_in t b o h a x = step (λ s. let v : Val = both (vptr b o) h in
        nothing t $ move t (2 ∷ 0 ∷ []) $ fjoin t $ feq_i t (List Val) (vptr b o ∷ []) (vptr b o ∷ []) refl $ fjoin t $
        feq_i t (List Val) (v ∷ []) (v ∷ []) refl $ fjoin t $
        fpack t (Valss (RawPtr ∷ Z ∷ [])) (within (shape (loose.the_type R Z g)) (block_ptr b o, (a, tt)) (v ∷ [])) (vptr b o ∷ [], (h ∷ [], tt)) $ fjoin t $ s)
