-- Read access to what a handle has: a struct of a pointer, with a share of what is there for a
-- lifetime that lasts. A `&` to the struct gives a `&` to its pointer field and, if there is a value,
-- a `&` to the value for the same lifetime. Assumes `Logic`.
--     ref_struct          such a struct
--     word, Data          its machine value, and the type of its pointer field
--     told, opened        the pointer field's machine value, and a `&` to that field
--     parted              a `&` to the struct as a `&` to its pointer field and a borrow of what it owns
--     either_ref          the two cases of that borrow: null, and a `&` to the value
use Rattle.std.proofs.Common.{◌≡◌, ℕ, List, [], ◌∷◌, ◌++◌, refl, ap, ◌∙◌}
use Rattle.sel_ffi.proofs.Walks.{ !, assume, await, block_ptr, by, done, drop, emp, ent, exits_of, fact, fact_i, fbor, fdead, feq, feq_i, feq_l, fex, fjoin}
use Rattle.sel_ffi.proofs.Walks.{flft, Fml, fpack, fpick, fsep, fsplit, fsplit3, ftrue, fupd, fwand, Goal, heard, hidden, hidden_shr, id⊢, InBlock, Is, Item}
use Rattle.sel_ffi.proofs.Walks.{keep, later, Laws, Lft, Logic, meet_⊑_left, move, nothing, now, null_ptr, of_list, Owning, part_at, pick, Ptr, ptr_val, qed}
use Rattle.sel_ffi.proofs.Walks.{RattleType, raw, RawPtr, RawPtr-field, row, sem, sep, Seq, Share, shared_of, Soaks, some as exists, split, Struct, suffices}
use Rattle.sel_ffi.proofs.Walks.{Sym, Testable, under, upd_i, updating, Ura, use0, use1, use2, Val, vcons, vnil, vstruct, wholly, ‵, ◌$◌, ◌∵◌, ◌⊛◌}
use Rattle.sel_ffi.proofs.Common.{Option, None, Some, lasts, ref_owns}
use base.Fml.{fseps}
use types.Tokens.{bor_open, obor_close, obor_alter, bor_fracture}
use denote.{Shares.bor-Cut, Sharing.ShrLaws, Moves.moves_from, SharingLaws.contraction, Struct.Laws.RawPtr-copy, Copied.Copied, Copied.Struct-Copied}
use denote.Struct.{OwningLaws.part_in, OwningLaws.part_out, Lending.lent_at, Lending.lent_at_shr_laws, Lending.in_block_says}
use denote.Opens.{Cuts, Cuts-Halves, Cuts-both, Cuts-map, Opens, unhide, hide}
use base.Share

abbrev pub word : Ptr → Val
word p = vstruct (vcons (ptr_val p) vnil)

-- What a struct owns does not read its name.
module _ (name : Sym) where
  abbrev pub Data : RattleType
  Data = Struct (record { name = name; args = []; types = []; fields = RawPtr ∷ [] })

  pub told : (p : Ptr) (vs : List Val) → Is Data (p, tt) vs → vs ≡ word p ∷ []
  told p vs is = is.1.0 ∙ ap (λ (ws : List Val). vstruct (of_list (ws ++ [])) ∷ []) is.1.1.0

  module _ {M : Type 1} {𝓤 : Ura M} (𝓛 : Logic 𝓤) where
    pub copied : Copied 𝓛 Data
    copied = Struct-Copied 𝓛 (record { name = name; args = []; types = []; fields = RawPtr ∷ [] }) (refl, tt) (RawPtr-copy.copied M 𝓤 𝓛, tt)

    pub opened : Opens 𝓛 Data
    opened = copied.opens

-- The struct: it owns this beside its pointer field.
module _ (R : RattleType) (S : Owning) (at : S.D → Ptr) (held : S.D → Option R.Denot) where
  abbrev pub ref_struct : Owning
  ref_struct = record {
    name = S.name;
    args = [];
    types = [];
    parts = RawPtr-field ∷ [];
    D = S.D;
    as_values = λ d. (at d, tt);
    coded = S.coded;
    heap = λ d. ref_owns R (at d) (held d);
    exit = λ k. hidden (under (λ d. (at d, tt)) (exits_of k (RawPtr ∷ [])));
    shr_at = wholly (Data S.name) (λ d. (at d, tt)) (λ d. ref_owns R (at d) (held d));
  }

-- What is owned can be duplicated, since a share of a lifetime token splits into two.
module _ {M : Type 1} {𝓤 : Ura M} (𝓛 : Logic 𝓤) {R : RattleType} (LR : Laws R) where
  open 𝓛 use {H, A}

  module _ (p : Ptr) (x : R.Denot) where
    abbrev reads : ℕ → Fml
    reads a = fsep (lasts a) (lent_at R p x (a ∷ []))

    made : (may : Testable p) (a : ℕ) (e : Share) → ent 𝓤 (sep 𝓤 (A.lft (a ∷ []) e) (sem 𝓛 (lent_at R p x (a ∷ [])))) (sem 𝓛 (ref_owns R p (Some x)))
    made may a e = qed 𝓛 (‵ (flft (a ∷ []) e) ∷ ‵ (lent_at R p x (a ∷ [])) ∷ []) ∵ fpack ! Share (λ s. flft (a ∷ []) s) e $ fjoin ! $ fpack ! ℕ reads a $
        nothing ! $ fpack ! (Testable p) (λ _. ftrue) may $ fjoin ! $ done !

  twice : (p : Ptr) (held : Option R.Denot) → ent 𝓤 (sem 𝓛 (ref_owns R p held)) (sep 𝓤 (sem 𝓛 (ref_owns R p held)) (sem 𝓛 (ref_owns R p held)))
  twice p None = qed 𝓛 (‵ (feq Ptr p null_ptr) ∷ []) ∵ feq_l ! (λ e. feq_i ! Ptr p null_ptr e $ feq_i ! Ptr p null_ptr e $ done !)
  twice p (Some x) = qed 𝓛 (‵ (ref_owns R p (Some x)) ∷ []) ∵ fsplit ! $ fpick ! (λ may. drop ! $ fpick ! (λ a. fsplit ! $ fpick ! (λ e.
      use1 𝓛 (‵ (flft (a ∷ []) (Share.left e)) ⊛ ‵ (flft (a ∷ []) (Share.right e))) (𝓛.lfts.lft_split (a ∷ []) e) $ split ! $ move ! (2 ∷ []) $
      use1 𝓛 (‵ (lent_at R p x (a ∷ [])) ⊛ ‵ (lent_at R p x (a ∷ []))) (contraction 𝓛 (lent_at R p x) (lent_at_shr_laws R LR.shr_laws p x) (a ∷ [])) $ split ! $
      move ! (2 ∷ 0 ∷ []) $ use2 𝓛 (‵ (ref_owns R p (Some x))) (made p x may a (Share.left e)) $ move ! (2 ∷ 1 ∷ []) $ use2 𝓛 (‵ (ref_owns R p (Some x))) (made p x may a (Share.right e)) $ done !)))

  owned_Cuts : (p : Ptr) (held : Option R.Denot) → Cuts 𝓛 (λ q. ref_owns R p held)
  owned_Cuts p held = record {
    cut = λ q q₁ q₂ m. twice p held;
    join = λ q q₁ q₂ m. qed 𝓛 (‵ (ref_owns R p held) ∷ ‵ (ref_owns R p held) ∷ []) ∵ drop ! $ done !;
  }

  -- A borrow of what is owned of a value is a `&` to the value for the same lifetime.
  module _ (p : Ptr) (x : R.Denot) (κ : Lft) (q : Share) where
    abbrev Owns : Fml
    Owns = ref_owns R p (Some x)

    laws : ShrLaws (lent_at R p x)
    laws = lent_at_shr_laws R LR.shr_laws p x

    -- The value is shared for a lifetime whose token is borrowed for κ.
    abbrev Kept : ℕ → Share → Fml
    Kept a e = fsep (fbor κ (flft (a ∷ []) e)) (lent_at R p x (a ∷ []))

    abbrev AnyKept : Fml
    AnyKept = fex ℕ (λ a. fex Share (λ e. Kept a e))

    -- With the token back, what is owned is whole again.
    whole : (may : Testable p) (a : ℕ) (e : Share) → ent 𝓤 (sem 𝓛 (lent_at R p x (a ∷ []))) (sem 𝓛 (fwand (fsep (fdead κ) (fseps (flft (a ∷ []) e ∷ []))) (fupd Owns)))
    unfolding fseps
    whole may a e = qed 𝓛 (‵ (lent_at R p x (a ∷ [])) ∷ []) ∵ assume ! (‵ (fsep (fdead κ) (fsep (flft (a ∷ []) e) ftrue))) $ suffices ! (sem 𝓛 Owns) (upd_i 𝓤 (sem 𝓛 Owns)) $
        fsplit3 ! $ keep ! (1 ∷ 3 ∷ []) $ by ! (made p x may a e)

    token_kept : ent 𝓤 (sep 𝓤 (A.bor κ Owns) (A.lft κ q)) (H.⇛ (sep 𝓤 (fact 𝓤 (Testable p)) (sep 𝓤 (sem 𝓛 AnyKept) (A.lft κ q))))
    unfolding fseps
    token_kept = qed 𝓛 (‵ (fbor κ Owns) ∷ ‵ (flft κ q) ∷ []) ∵ updating ! $ bor_open ! tt $ move ! (1 ∷ []) $ fsplit ! $ fpick ! (λ may. drop ! $ fpick ! (λ a. fsplit ! $ fpick ! (λ e. move ! (1 ∷ []) $
        use1 𝓛 (‵ (lent_at R p x (a ∷ [])) ⊛ ‵ (lent_at R p x (a ∷ []))) (contraction 𝓛 (lent_at R p x) laws (a ∷ [])) $ split ! $
        use1 𝓛 (‵ (fwand (fsep (fdead κ) (fseps (flft (a ∷ []) e ∷ []))) (fupd Owns))) (whole may a e) $
        nothing ! $ move ! (3 ∷ 0 ∷ []) $ fjoin ! $ move ! (3 ∷ 0 ∷ 1 ∷ []) $ obor_alter ! tt (flft (a ∷ []) e ∷ []) $
        use1 𝓛 (‵ (fbor κ (flft (a ∷ []) e)) ⊛ ‵ ftrue) (id⊢ 𝓤 _) $ split ! $ keep ! (0 ∷ 3 ∷ 2 ∷ []) $ fjoin ! $
        fpack ! Share (λ s. Kept a s) e $ fpack ! ℕ (λ b. fex Share (λ s. Kept b s)) a $
        use0 𝓛 (raw (fact 𝓤 (Testable p))) (fact_i 𝓤 (Testable p) (emp 𝓤) may) $ now ! $ done !)))

    -- A lifetime whose token is borrowed for κ lasts for κ.
    reaches : (a : ℕ) (e : Share) → ent 𝓤 (sep 𝓤 (A.bor κ (flft (a ∷ []) e)) (sem 𝓛 (lent_at R p x (a ∷ [])))) (H.⇛ (sem 𝓛 (lent_at R p x κ)))
    reaches a e = qed 𝓛 (‵ (fbor κ (flft (a ∷ []) e)) ∷ ‵ (lent_at R p x (a ∷ [])) ∷ []) ∵ updating ! $ bor_fracture ! tt (λ r. flft (a ∷ []) r) e $
        use2 𝓛 (‵ (lent_at R p x κ)) (moves_from 𝓛 (lent_at R p x) laws κ (a ∷ []) (a ∷ []) (meet_⊑_left (a ∷ []) κ)) $ now ! $ done !

    shown : ent 𝓤 (sep 𝓤 (A.bor κ Owns) (A.lft κ q)) (H.⇛ (sep 𝓤 (fact 𝓤 (Testable p)) (sep 𝓤 (sem 𝓛 (lent_at R p x κ)) (A.lft κ q))))
    shown = qed 𝓛 (‵ (fbor κ Owns) ∷ ‵ (flft κ q) ∷ []) ∵ updating ! $
        use2 𝓛 (later (raw (fact 𝓤 (Testable p)) ⊛ (‵ AnyKept ⊛ ‵ (flft κ q)))) token_kept $ await ! tt $ split ! $ move ! (1 ∷ []) $ split ! $
        fpick ! (λ a. fpick ! (λ e. fsplit ! $ use2 𝓛 (later (‵ (lent_at R p x κ))) (reaches a e) $ await ! tt $ move ! (2 ∷ 0 ∷ 1 ∷ []) $ now ! $ done !))

  none_shown : (p : Ptr) (κ : Lft) (q : Share) → ent 𝓤 (sep 𝓤 (A.bor κ (ref_owns R p None)) (A.lft κ q)) (H.⇛ (sep 𝓤 (fact 𝓤 (p ≡ null_ptr)) (A.lft κ q)))
  none_shown p κ q = qed 𝓛 (‵ (fbor κ (ref_owns R p None)) ∷ ‵ (flft κ q) ∷ []) ∵ updating ! $ bor_open ! tt $ move ! (1 ∷ []) $ feq_l ! (λ e. feq_i ! Ptr p null_ptr e $ move ! (1 ∷ 0 ∷ []) $ obor_close ! tt $ drop ! $
      use0 𝓛 (raw (fact 𝓤 (p ≡ null_ptr))) (fact_i 𝓤 (p ≡ null_ptr) (emp 𝓤) e) $ now ! $ done !)

  module _ (S : Owning) (at : S.D → Ptr) (held : S.D → Option R.Denot) where
    abbrev Row : RattleType
    Row = row (ref_struct R S at held)

    abbrev Pointer : RattleType
    Pointer = Data S.name

    row_Cuts : (d : S.D) (b o : ℕ) → Cuts 𝓛 (λ q. part_at Row q d b o)
    row_Cuts d b o = Cuts-map 𝓛 (λ q. fsep (part_at Pointer q (at d, tt) b o) (ref_owns R (at d) (held d))) (λ q. part_at Row q d b o)
        (λ q. part_in 𝓛 (ref_struct R S at held) q d b o) (λ q. part_out 𝓛 (ref_struct R S at held) q d b o)
        (Cuts-both 𝓛 (λ q. part_at Pointer q (at d, tt) b o) (λ q. ref_owns R (at d) (held d)) ((copied S.name 𝓛).cuts (at d, tt) b o) (owned_Cuts (at d) (held d)))

    -- A `&` to the struct is a `&` to its pointer field and a borrow of what it owns.
    module _ (d : S.D) (b o : ℕ) (κ : Lft) (q : Share) where
      abbrev Part : Share → Fml
      Part s = part_at Pointer s (at d, tt) b o

      abbrev Held-owns : Fml
      Held-owns = ref_owns R (at d) (held d)

      out : (s : Share) → ent 𝓤 (sem 𝓛 (part_at Row s d b o)) (sep 𝓤 (sem 𝓛 (Part s)) (sep 𝓤 (sem 𝓛 Held-owns) (emp 𝓤)))
      out s = qed 𝓛 (‵ (part_at Row s d b o) ∷ []) ∵ use1 𝓛 (‵ (Part s) ⊛ ‵ Held-owns) (part_out 𝓛 (ref_struct R S at held) s d b o) $ split ! $ use0 𝓛 (raw (emp 𝓤)) (id⊢ 𝓤 (emp 𝓤)) $ move ! (1 ∷ 2 ∷ 0 ∷ []) $ done !

      back : (s : Share) → ent 𝓤 (sep 𝓤 (sem 𝓛 (Part s)) (sep 𝓤 (sem 𝓛 Held-owns) (emp 𝓤))) (sem 𝓛 (part_at Row s d b o))
      back s = qed 𝓛 (‵ (Part s) ∷ ‵ Held-owns ∷ raw (emp 𝓤) ∷ []) ∵ move ! (2 ∷ []) $ drop ! $ by ! (part_in 𝓛 (ref_struct R S at held) s d b o)

      pub parted : ent 𝓤 (sep 𝓤 (sem 𝓛 (hidden_shr Row κ d b o)) (A.lft κ q)) (H.⇛ (sep 𝓤 (sem 𝓛 (hidden_shr Pointer κ (at d, tt) b o)) (sep 𝓤 (A.bor κ Held-owns) (A.lft κ q))))
      parted = qed 𝓛 (‵ (hidden_shr Row κ d b o) ∷ ‵ (flft κ q) ∷ []) ∵ updating ! $ unhide ! $
          use2 𝓛 (later (exists (λ (s : Share). ‵ (fbor κ (part_at Row s d b o))) ⊛ ‵ (flft κ q))) (𝓛.shr_bors.shr_bor_carve κ ((κ, q) ∷ []) (λ s. part_at Row s d b o) (Cuts-Halves 𝓛 (λ s. part_at Row s d b o) (row_Cuts d b o)) (λ x m. m)) $
          await ! tt $ split ! $ pick ! (λ s.
          use2 𝓛 (later (‵ (fbor κ (Part s)) ⊛ (‵ (fbor κ Held-owns) ⊛ ‵ (flft κ q)))) (bor-Cut 𝓛 κ ((κ, q) ∷ []) (λ x m. m) (part_at Row s d b o) (Part s) Held-owns (emp 𝓤) (back s) (out s)) $
          await ! tt $ split ! $ move ! (1 ∷ []) $ split ! $ move ! (2 ∷ 1 ∷ []) $
          use2 𝓛 (later (‵ (shared_of Pointer (at d, tt) b o κ) ⊛ ‵ (flft κ q))) ((copied S.name 𝓛).shares s κ (at d, tt) κ ((κ, q) ∷ []) b o (λ x m. m) (λ x m. m)) $ await ! tt $ split ! $ hide ! $
          move ! (0 ∷ 2 ∷ []) $ now ! $ done !)

module _ {M : Type 1} {𝓤 : Ura M} {𝓛 : Logic 𝓤} {K : Type 0} {Γ : List (Item 𝓤)} {G : Goal 𝓤 𝓛.H} {R : RattleType} (LR : Laws R) where
  -- A borrow of what is owned: nothing if the pointer is null, else a `&` to the value,
  -- and a pointer that can be compared with null.
  pub either_ref : K → Soaks G → (p : Ptr) (held : Option R.Denot) {κ : Lft} {q : Share}
      → (p ≡ null_ptr → held ≡ None → Seq K 𝓛 (‵ (flft κ q) ∷ Γ) G)
      → ((b o : ℕ) (x : R.Denot) → p ≡ block_ptr b o → held ≡ Some x → Testable (block_ptr b o) → Seq K 𝓛 (‵ (hidden_shr R κ x b o) ∷ ‵ (flft κ q) ∷ Γ) G)
      → Seq K 𝓛 (‵ (fbor κ (ref_owns R p held)) ∷ ‵ (flft κ q) ∷ Γ) G
  either_ref t z p None {κ} {q} none one = use2 𝓛 (later (raw (fact 𝓤 (p ≡ null_ptr)) ⊛ ‵ (flft κ q))) (none_shown 𝓛 LR p κ q) $ await t z $ split t $ heard t (p ≡ null_ptr) (λ e. none e refl)
  either_ref t z (block_ptr b o) (Some x) {κ} {q} none one =
      use2 𝓛 (later (raw (fact 𝓤 (Testable (block_ptr b o))) ⊛ (‵ (lent_at R (block_ptr b o) x κ) ⊛ ‵ (flft κ q)))) (shown 𝓛 LR (block_ptr b o) x κ q) $ await t z $ split t $ heard t (Testable (block_ptr b o)) (λ may. split t $
      fsplit t $ drop t $ hide t $ one b o x refl refl may)
  either_ref t z null_ptr (Some x) {κ} {q} none one =
      use2 𝓛 (later (raw (fact 𝓤 (Testable null_ptr)) ⊛ (‵ (lent_at R null_ptr x κ) ⊛ ‵ (flft κ q)))) (shown 𝓛 LR null_ptr x κ q) $ await t z $ split t $ heard t (Testable null_ptr) (λ may. split t $
      fsplit t $ use1 𝓛 (raw (fact 𝓤 (InBlock null_ptr))) (in_block_says 𝓛 null_ptr) $ heard t (InBlock null_ptr) (λ wrong. absurd wrong))
