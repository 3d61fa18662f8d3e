-- A handle: a struct of a pointer and an allocator, which owns a box, or nothing at the null pointer. Assumes `Logic`.
--     Owner, owner             such a struct, for values of the type R, and one by its parts
--     form, Row                what it owns beside its fields, and its type
--     ptr_good                 its machine values, which those of a `Loose` are too, are of its type
--     handle_out, handle_in    a handle by value is [what it owns; the allocator], and back
--     either_held              the two cases of what it owns: null, and a box
use Rattle.std.proofs.Common.{◌≡◌, ℕ, List, [], ◌∷◌, ◌++◌, refl, subst, lit<}
use Rattle.std.{specs.declared.alloc.Global.Global, proofs.GlobalToken.dealloc_token-Testable}
use Rattle.sel_ffi.proofs.Walks.{Al, and_tt, bare, block_ptr, box_owns, dnil, drop, exits_of, fact_use, feq_i, feq_l, fjoin, fpack, fpick, fsplit, fst∗, ghosts}
use Rattle.sel_ffi.proofs.Walks.{given, Goal, Good, guard_i, handle_tells, has_ty, hidden, impl, in_a_block, Item, layout, learn, lies_at, Logic, lone, move}
use Rattle.sel_ffi.proofs.Walks.{never, nothing, null_ptr, of_list, Owning, Ptr, ptr_val, RattleType, RawPtr, RawPtr-field, row, sem, Seq, shape, snd∗, Step}
use Rattle.sel_ffi.proofs.Walks.{step, Struct, Sym, T, tcons, Testable, tnil, Ty, ty_ptr, ty_struct, under, Ura, use1, Val, Valss, via, vstruct, wholly}
use Rattle.sel_ffi.proofs.{Walks.within, Walks.WT, Walks.‵, Walks.◌$◌, Common.Option, Common.None, Common.Some, Common.held_owns, LooseSteps.both}
use Rattle.std.specs.contracts.alloc.Global as heap
use Rattle.std.proofs.alloc.Global.TheLaws as heap_laws

-- The pointer, the allocator and the value.
abbrev pub Parts : RattleType → Type 0
Parts R = Ptr × (Global × Option R.Denot)

pub record Owner (R : RattleType) : Type 2 where
  pub struct : Owning
  pub parts : struct.D → Parts R
  pub make : Parts R → struct.D
  pub back : (x : Parts R) → parts (make x) ≡ x

abbrev pub owner : {R : RattleType} (struct : Owning) (parts : struct.D → Parts R) (make : Parts R → struct.D) → ((x : Parts R) → parts (make x) ≡ x) → Owner R
owner struct parts make back = record { struct = struct; parts = parts; make = make; back = back }

abbrev pub Z : RattleType
Z = heap.the_row

abbrev pub al : Al
al = record { row = Z; laws = heap_laws.the_row_laws; g = ghosts; d = impl [] tnil dnil; drops = impl [] tnil dnil }

abbrev pub handle_ty : Sym → Ty
handle_ty name = ty_struct name (tcons ty_ptr (tcons (layout Z) tnil))

pub ptr_good : (name : Sym) (p : Ptr) (h : Val) → Good (layout Z) h → T (has_ty (handle_ty name) (both (ptr_val p) h)) × WT (both (ptr_val p) h)
ptr_good name (block_ptr b o) h fits = (and_tt (has_ty (layout Z) h) fits.0, (tt, (fits.1, tt)))
ptr_good name null_ptr h fits = (and_tt (has_ty (layout Z) h) fits.0, (record { fits = lit< tt }, (fits.1, tt)))

module _ {R : RattleType} (O : Owner R) where
  abbrev owned : Parts R → base.Fml.Fml
  owned x = held_owns R x.1.0 x.0 x.1.1

  abbrev fields : O.struct.D → Ptr × (Global × Unit {0})
  fields d = ((O.parts d).0, ((O.parts d).1.0, tt))

  abbrev pub form : Owning
  form = record {
    name = O.struct.name;
    args = [];
    types = [];
    parts = RawPtr-field ∷ heap.the_field ∷ [];
    D = O.struct.D;
    as_values = fields;
    coded = O.struct.coded;
    heap = λ d. owned (O.parts d);
    exit = λ k. hidden (under (λ d. ((O.parts d).0, (heap.the_field.into (O.parts d).1.0, tt))) (exits_of k (RawPtr ∷ heap.the_field.row ∷ [])));
    shr_at = wholly (Struct (record { name = O.struct.name; args = []; types = []; fields = RawPtr ∷ Z ∷ [] })) fields (λ d. owned (O.parts d));
  }

  abbrev pub Row : RattleType
  Row = row form

  module _ {M : Type 1} {𝓤 : Ura M} {𝓛 : Logic 𝓤} {K : Type 0} {Γ : List (Item 𝓤)} {G : Goal 𝓤 𝓛.H} where
    pub handle_out : K → (d : Row.Denot) (vs : List Val)
        → ((h : Val) → vs ≡ both (ptr_val (O.parts d).0) h ∷ [] → Good (layout Z) h → Seq K 𝓛 (‵ (owned (O.parts d)) ∷ ‵ (Z.own_val (O.parts d).1.0 (h ∷ [])) ∷ Γ) G)
        → Seq K 𝓛 (‵ (Row.own_val d vs) ∷ Γ) G
    handle_out t d vs k = let x = O.parts d in
        fsplit t $ fpick t (λ vss. fsplit t $ feq_l t (λ ev. fsplit t $ feq_l t (λ ep. fsplit t $ handle_tells al t x.1.0 vss.1.0 (λ h ea fits. move t (1 ∷ []) $ drop t $ move t (1 ∷ []) $ k h
        (subst (λ (ws : List Val). vs ≡ vstruct (of_list (ptr_val x.0 ∷ (ws ++ []))) ∷ []) ea (subst (λ (ps : List Val). vs ≡ vstruct (of_list (ps ++ (vss.1.0 ++ []))) ∷ []) ep ev)) fits))))

    handle_has : K → (d : Row.Denot) (h : Val)
        → Step K 𝓛 (‵ (Row.own_val d (both (ptr_val (O.parts d).0) h ∷ [])) ∷ Γ) G (‵ (owned (O.parts d)) ∷ ‵ (Z.own_val (O.parts d).1.0 (h ∷ [])) ∷ Γ) G
    handle_has t d h = step (λ s. let p = (O.parts d).0 in let v : Val = both (ptr_val p) h in
        nothing t $ move t (2 ∷ 0 ∷ []) $ fjoin t $ feq_i t (List Val) (ptr_val p ∷ []) (ptr_val p ∷ []) refl $ fjoin t $ feq_i t (List Val) (v ∷ []) (v ∷ []) refl $ fjoin t $
        fpack t (Valss (RawPtr ∷ Z ∷ [])) (within (shape form) (p, (heap.the_field.into (O.parts d).1.0, tt)) (v ∷ [])) (ptr_val p ∷ [], (h ∷ [], tt)) $ fjoin t $ s)

    pub handle_in : K → (h : Val) (x : Parts R)
        → Step K 𝓛 (‵ (Row.own_val (O.make x) (both (ptr_val x.0) h ∷ [])) ∷ Γ) G (‵ (owned x) ∷ ‵ (Z.own_val x.1.0 (h ∷ [])) ∷ Γ) G
    handle_in t h x = subst (λ (y : Parts R). Step K 𝓛 (‵ (Row.own_val (O.make x) (both (ptr_val y.0) h ∷ [])) ∷ Γ) G (‵ (owned y) ∷ ‵ (Z.own_val y.1.0 (h ∷ [])) ∷ Γ) G) (O.back x) (handle_has t (O.make x) h)

module _ {M : Type 1} {𝓤 : Ura M} {𝓛 : Logic 𝓤} {K : Type 0} {Γ : List (Item 𝓤)} {G : Goal 𝓤 𝓛.H} where
  -- No value if the pointer is null, else a box whose pointer is not null.
  pub either_held : K → (R : RattleType) (a : Global) (p : Ptr) (held : Option R.Denot)
      → (p ≡ null_ptr → held ≡ None → Seq K 𝓛 Γ G)
      → ((b o : ℕ) (x : R.Denot) → p ≡ block_ptr b o → held ≡ Some x → Testable (block_ptr b o) → Seq K 𝓛 (‵ (box_owns (ghosts.dealloc_token a) R (block_ptr b o) x) ∷ Γ) G)
      → Seq K 𝓛 (‵ (held_owns R a p held) ∷ Γ) G
  either_held t R a p None none one = feq_l t (λ e. none e refl)
  either_held t R a p (Some x) none one =
      in_a_block t p (λ q. box_owns (ghosts.dealloc_token a) R q x) (fst∗ 𝓤 (never 𝓤) (sem 𝓛 (ghosts.dealloc_token a (bare (lone R.mir)) null_ptr))) (λ b o e.
      use1 𝓛 (given (Testable (block_ptr b o)) (‵ (box_owns (ghosts.dealloc_token a) R (block_ptr b o) x)))
      (fact_use 𝓤 (Testable (block_ptr b o)) (via 𝓤 _ (snd∗ 𝓤 (sem 𝓛 (lies_at R base.Fraction.full_share (block_ptr b o) x)) (sem 𝓛 (ghosts.dealloc_token a (bare (lone R.mir)) (block_ptr b o)))) (dealloc_token-Testable 𝓛 a (bare (lone R.mir)) (block_ptr b o)))
      (guard_i 𝓤 (Testable (block_ptr b o)) (sem 𝓛 (box_owns (ghosts.dealloc_token a) R (block_ptr b o) x)))) $ learn t (λ may. one b o x e refl may))
