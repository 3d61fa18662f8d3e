-- A list of 64-bit integers comes apart into its values, its spare capacity as bytes, and what joins them again. Assumes `Logic`.
use Rattle.std.proofs.Common.{◌≡◌, ℕ, ◌+◌, ◌-◌, ◌*◌, ◌^◌, ◌<◌, ◌≤◌, List, [], ◌∷◌, length, refl, arith}
use Rattle.std.proofs.lemmas.List.{with_items_is}
use Rattle.std.specs.Vec.{with_items}
use seplogic.Ra.Ura.{Ura}
use mir.Syntax.{Ty, w8, w64, ty_int, ty_array, given as dict_at}
use mir.Val.{Val, vstruct, vcons, vnil}
use base.Fraction.{full_share}
use base.Logic.{SProp, ent, sep, wand, apply∗}
use base.Fml.{Fml, fsep, feq, fall, fwand, froom}
use types.Logic.{Logic, sem}
use types.Kit.{Item, Goal, Step, step, ‵, raw, ◌⊛◌, ◌$◌, ◌∵◌, !, qed, move, keep, drop, use0, use1, use2, split, frame, each, assume, show, rewrite, fsplit, fjoin, fpack, feq_l, feq_i, flt_l, flt_i, done}
use denote.RattleType.{RattleType, Valss}
use denote.Builtin.{u8, i64}
use denote.Array.{Array}
use denote.Memory.{part_at}
use denote.Param.Laws.{Laws, of_field}
use denote.Param.Shared.{copy_shared}
use denote.RawPtr.{block_ptr}
use denote.Steps.{nothing}
use denote.Struct.Field.{u8-field, i64-field}
use denote.Struct.Laws.{u8-laws, u8-copy, i64-laws, i64-copy}
use denote.Struct.Struct.{Struct, Shape, within}
use Rattle.std_alloc.specs.Vec.Ownership.{lodged}
use Rattle.std_alloc.proofs.VecSteps.El.{El, no_al, el_d, vec_val, handle}
use Rattle.std_alloc.proofs.VecSteps.Opens.{Blk, blk_out, blk_in, vec_made}
use Rattle.std_alloc.proofs.VecSteps.Rows.{empty as no_values, all_room}
use Rattle.std_heap.specs.contracts.Global
use Rattle.std_heap.specs.contracts.GlobalAllocator.TheImpl.{ghosts}
use Rattle.std_heap.proofs.Global.TheLaws as global-laws
use Rattle.sel_bits.specs.TwoLists.{Places, both_owned}
use Rattle.sel_bits.specs.contracts.two_lists.Carved as carved
use Rattle.sel_bits.specs.contracts.two_lists.Carved.TheInside as inside
use Rattle.sel_bits.specs.declared.two_lists.Carved.TheInside as Parts
use Rattle.sel_bits.proofs.TwoListSteps.{empty, fields_in, pair}

abbrev pub byte_laws : Laws u8
byte_laws = of_field u8-field u8-laws refl (copy_shared u8-field u8-copy)

abbrev pub int_laws : Laws i64
int_laws = of_field i64-field i64-laws refl (copy_shared i64-field i64-copy)

-- a list in a block of the heap, and one in another's block
abbrev pub Owned : El
Owned = record { row = i64; laws = int_laws; al = record { row = Global.the_row; laws = global-laws.the_row_laws; g = ghosts; d = dict_at 0; drops = dict_at 0 } }

abbrev Lent : El
Lent = record { row = i64; laws = int_laws; al = no_al }

abbrev LentBytes : El
LentBytes = record { row = u8; laws = byte_laws; al = no_al }

abbrev pub triple : Val → Val → Val → Val
triple u v w = vstruct (vcons u (vcons v (vcons w vnil)))

abbrev plain : List RattleType → Shape
plain Rs = record { name = []; args = []; types = []; fields = Rs }

module _ {M : Type 1} {𝓤 : Ura M} {𝓛 : Logic 𝓤} {K : Type 0} {Γ : List (Item 𝓤)} {G : Goal 𝓤 𝓛.H} where
  -- a struct of three fields is made of what they own
  pub triple_in : K → (R S T : RattleType) (x : R.Denot) (y : S.Denot) (z : T.Denot) (u v w : Val)
      → Step K 𝓛 (‵ ((Struct (plain (R ∷ S ∷ T ∷ []))).own_val (x, (y, (z, tt))) (triple u v w ∷ [])) ∷ Γ) G (‵ (R.own_val x (u ∷ [])) ∷ ‵ (S.own_val y (v ∷ [])) ∷ ‵ (T.own_val z (w ∷ [])) ∷ Γ) G
  triple_in t R S T x y z u v w = step (λ s.
      nothing t $ move t (3 ∷ 0 ∷ []) $ fjoin t $ move t (2 ∷ 0 ∷ []) $ fjoin t $ move t (1 ∷ 0 ∷ []) $ fjoin t $
      feq_i t (List Val) (triple u v w ∷ []) (triple u v w ∷ []) refl $ fjoin t $
      fpack t (Valss (R ∷ S ∷ T ∷ [])) (within (plain (R ∷ S ∷ T ∷ [])) (x, (y, (z, tt))) (triple u v w ∷ [])) (u ∷ [], (v ∷ [], (w ∷ [], tt))) $ s)

module _ {M : Type 1} {𝓤 : Ura M} (𝓛 : Logic 𝓤) where
  open 𝓛 use {H}

  -- values without spare capacity
  pub values_lent : (b o n : ℕ) (xs : List i64.Denot) → 0 < n → n * 8 < 2 ^ 63 → ent 𝓤 (sem 𝓛 (part_at (Array i64 n) full_share xs b o)) (sem 𝓛 (lodged i64 (block_ptr b o) n n xs))
  values_lent b o n xs some fit =
      let none_spare : 0 ≡ n - n = omega arith in
      qed 𝓛 (‵ (part_at (Array i64 n) full_share xs b o) ∷ []) ∵
      use0 𝓛 (‵ (froom (ty_array (ty_int w64) 0) b (o + n * 8))) (𝓛.laws.room_nil (ty_int w64) b (o + n * 8)) $
      rewrite ! 0 (λ (j : ℕ). ‵ (froom (ty_array (ty_int w64) j) b (o + n * 8))) none_spare refl $ nothing ! $ move ! (2 ∷ 1 ∷ 0 ∷ []) $
      blk_in Lent ! tt b o n n xs some $ flt_i ! (n * 8) (2 ^ 63) fit $ fjoin ! $ done !

  module _ (b o c : ℕ) (some : 0 < c) where
    -- room for bytes is an empty list with this capacity
    pub room_lent : c * 1 < 2 ^ 63 → ent 𝓤 (H.room (ty_array (ty_int w8) c) b o) (sem 𝓛 (lodged u8 (block_ptr b o) 0 c []))
    room_lent fit =
        let whole : c ≡ c - 0 = omega arith in
        let start : o ≡ o + 0 * 1 = omega arith in
        qed 𝓛 (‵ (froom (ty_array (ty_int w8) c) b o) ∷ []) ∵
        rewrite ! 0 (λ (z : ℕ × ℕ). ‵ (froom (ty_array (ty_int w8) z.0) b z.1)) {x = (c - 0, o + 0 * 1)} (λ i. (whole i, start i)) refl $ nothing ! $ move ! (1 ∷ 0 ∷ []) $
        use0 𝓛 (‵ (part_at (Array u8 0) full_share [] b o)) (no_values LentBytes 𝓛 [] b o refl) $
        blk_in LentBytes ! tt b o 0 c [] some $ flt_i ! (c * 1) (2 ^ 63) fit $ fjoin ! $ done !

    -- and back, whatever the list has by then
    pub lent_room : (k : ℕ) (ys : List u8.Denot) → k ≤ c → ent 𝓤 (sem 𝓛 (lodged u8 (block_ptr b o) k c ys)) (H.room (ty_array (ty_int w8) c) b o)
    lent_room k ys few =
        qed 𝓛 (‵ (lodged u8 (block_ptr b o) k c ys) ∷ []) ∵ fsplit ! $ drop ! $ blk_out LentBytes ! tt b o k c ys some $ keep ! (0 ∷ 1 ∷ []) $
        use2 𝓛 (‵ (froom (ty_array (ty_int w8) c) b o)) (all_room LentBytes 𝓛 b o k c ys few) $ done !

  module _ (d : el_d Owned) (b o : ℕ) (hv : Val) where
    abbrev n : ℕ
    n = d.len

    abbrev c : ℕ
    c = d.cap

    abbrev room : ℕ
    room = 8 * (c - n)

    abbrev far : ℕ
    far = o + n * 8

    abbrev pub places : Places
    places = record { at = block_ptr b o; len = n; behind = block_ptr b far; room = room }

    abbrev u : Val
    u = vec_val Owned hv b o n c

    abbrev Ints : Ty
    Ints = ty_array (ty_int w64) (c - n)

    abbrev Bytes : Ty
    Bytes = ty_array (ty_int w8) room

    abbrev Both : Type 0
    Both = List i64.Denot × (ℕ × List u8.Denot)

    abbrev Given : Both → Fml
    Given t = fsep (feq ℕ (length t.0) n) (both_owned i64 u8 places t.0 t.1.0 t.1.1)

    abbrev Whole : Both → Fml
    Whole t = (inside.the_row i64 u8).own_val (record { list = with_items d t.0; behind = record {} }) (pair u empty ∷ [])

    pub apart : d.ptr ≡ block_ptr b o → 0 < n → n < c → n < 2 ^ 64 → c < 2 ^ 64 → c * 8 < 2 ^ 63
        → ent 𝓤 (sep 𝓤 (sem 𝓛 (Blk Owned d.alloc b o n c d.items)) (sem 𝓛 (handle Owned d.alloc hv)))
        (sep 𝓤 (sem 𝓛 (lodged i64 (block_ptr b o) n n d.items)) (sep 𝓤 (sem 𝓛 (lodged u8 (block_ptr b far) 0 room [])) (sem 𝓛 (carved.the_own i64 u8 places (pair u empty ∷ [])))))
    apart at some spare fn fc fit =
        let pos : 0 < c = omega arith in
        let live : 0 < room = omega arith in
        let same : room * 1 ≡ (c - n) * 8 = omega arith in
        let Back : SProp 𝓤 = wand 𝓤 (H.room Bytes b far) (H.room Ints b far) in
        qed 𝓛 (‵ (Blk Owned d.alloc b o n c d.items) ∷ ‵ (handle Owned d.alloc hv) ∷ []) ∵ blk_out Owned ! d.alloc b o n c d.items pos $
        -- [the values; the spare room; the right to free; the handle]
        move ! (1 ∷ []) $ use1 𝓛 (‵ (froom Bytes b far) ⊛ raw Back) (𝓛.laws.room_as Ints Bytes b far same tt) $ split ! $
        move ! (2 ∷ []) $ use1 𝓛 (‵ (lodged i64 (block_ptr b o) n n d.items)) (values_lent b o n d.items some (omega arith)) $ frame ! $
        use1 𝓛 (‵ (lodged u8 (block_ptr b far) 0 room [])) (room_lent b far room live (omega arith)) $ frame ! $
        -- [the way back; the right to free; the handle]
        show ! (λ (i : Parts.Inside i64.Denot u8.Denot). sem 𝓛 (fsep (feq ℕ i.list.len n) (fall Both (λ t. fwand (Given t) ((inside.the_row i64 u8).own_val (record { list = with_items i.list t.0; behind = i.behind }) (pair u empty ∷ []))))))
        (record { list = d; behind = record {} }) $
        feq_i ! ℕ n n refl $ frame ! $ each ! (λ t. wand 𝓤 (sem 𝓛 (Given t)) (sem 𝓛 (Whole t))) (λ t. assume {P = sem 𝓛 (Whole t)} ! (‵ (Given t)) $ fsplit ! $ feq_l ! (λ long. fsplit ! $
        fsplit ! $ drop ! $ blk_out Lent ! tt b o n n t.0 some $ move ! (1 ∷ []) $ drop ! $ move ! (1 ∷ []) $ drop ! $
        -- [the values; the bytes; the way back; the right to free; the handle]
        move ! (1 ∷ []) $ fsplit ! $ flt_l ! (λ few.
        use1 𝓛 (‵ (froom Bytes b far)) (lent_room b far room live t.1.0 t.1.1 (omega arith)) $
        move ! (0 ∷ 2 ∷ []) $ use2 𝓛 (‵ (froom Ints b far)) (apply∗ 𝓤 (H.room Bytes b far) (H.room Ints b far)) $
        move ! (1 ∷ 0 ∷ []) $ blk_in Owned ! d.alloc b o n c t.0 pos $
        vec_made Owned ! {hv = hv} (with_items d t.0) b o n c t.0 (at, refl, refl, with_items_is d t.0 long) fn fc fit $
        fields_in i64 u8 ! (record { list = with_items d t.0; behind = record {} }) u $ done !)))
