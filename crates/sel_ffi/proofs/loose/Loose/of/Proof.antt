-- `of` splits the box by a call, and pairs the pointer with the allocator.
use Rattle.std.proofs.Common.{List, [], ◌∷◌, ◌++◌, refl, sym, ap, ◌∙◌, subst, ◌≡◌, true, ◌&&◌}
use Rattle.sel_ffi.proofs.Walks.{ !, a_type, agg, Al, alloc_all, and_then, and_tt, Args, await, bare, block_ptr, bounded, box_in, box_out, box_owns, calls_at}
use Rattle.sel_ffi.proofs.Walks.{Clauses, Contract, dcons, dnil, done, drop, emp, Ended, ends_at, ent, enter, entered, fact, fact_i, feq_l, fjoin, fld, flft}
use Rattle.sel_ffi.proofs.Walks.{fm_of, Fn, fpick, free_all, fsplit, fst∗, ftrue, get, get_in, Goes-blank, handle_tells, has_ty, heard, id⊢, in_a_block}
use Rattle.sel_ffi.proofs.Walks.{inst_fn, join, lands_as, Lasts, lasts, later, layout, look_at, move, never, no, no_more, nothing, null_ptr, of_list, of_opd}
use Rattle.sel_ffi.proofs.Walks.{only, owns, param, param_laws, pass_all, pick, plain, Ptr, ptr_val, qed, RattleType, raw, RawPtr, returns, rewrite, says, sem}
use Rattle.sel_ffi.proofs.Walks.{sets, some, split, split3, stay_dropped, Stays, stop, sub, suffices, T, Tables, tables, token, triple_of, use0, use1, Val}
use Rattle.sel_ffi.proofs.Walks.{vptr, vstruct, walk_Meets, walk_of, whole, WpFn, WpFn-mono, WT, ‵, ◌$◌, ◌∵◌, ◌⊑◌, ◌⊛◌}
use Rattle.sel_ffi.proofs.{LooseSteps.both, LooseSteps.loose_in, loose.Loose.of.Statement.statement}
use Rattle.sel_ffi.specs.contracts.loose.Loose.of.Key.{name as #self}
use contract.Running.{tables_of}
use denote.Struct.Tuple.{Tuple}
use Rattle.std_alloc.specs.contracts.boxed.Box.into_raw_with_allocator as apart
use Rattle.std_alloc.proofs.boxed.Box.into_raw_with_allocator.Met as apart_met
use Rattle.std_alloc.proofs.BoxSteps.Form as box
use Rattle.sel_ffi.specs.contracts.loose.Loose.of as F
use Rattle.sel_ffi.proofs.loose.Loose.of.Code as code

pub of_spec : {M : Type 1} → statement M
unfolding tables_of
of_spec 𝓤 𝓛 𝓜 𝓡 wired X A LX LA g d dx da met gluex gluea =
    let H = 𝓛.H in let 𝓣 : Tables 𝓤 H = tables_of 𝓤 H 𝓜 (tables 𝓤 H 𝓜 𝓡 𝓡.env) in
    let al : Al = record { row = A; laws = LA; g = g; d = d; drops = da } in
    let Bx : box.Bx = record { row = X; laws = LX; al = al } in
    let args : Args = bounded (a_type ∷ a_type ∷ []) (X, (A, tt)) (dcons d (dcons dx (dcons da dnil))) in
    let fn : Fn = inst_fn args code.function in
    let Tr : Ended = F.ended X A g d dx da in
    let c : Clauses 𝓤 Tr = F.clauses X A g d dx da 𝓛 𝓜.mem 𝓡.returns in
    let hs : Stays Tr.signature.params Tr.kept = (stay_dropped (plain (λ _. box.B Bx)) no, tt) in
    let W = walk_of 𝓛 Tr hs c in
    let Apart : Contract 𝓤 = triple_of 𝓛 (apart.signature X A g d da dx) (apart.spec X A g d da dx 𝓛 𝓜.mem 𝓡.returns) in
    let Pair : RattleType = Tuple (RawPtr ∷ param 1 A ∷ []) in
    entered 𝓤 H (triple_of 𝓛 Tr.signature (F.spec X A g d dx da 𝓛 𝓜.mem 𝓡.returns)) 𝓣.C 𝓣.Λ (#self args) fn (code.unfolded 𝓤 H 𝓜 𝓡 wired (X, (A, tt)) d dx da)
    (walk_Meets 𝓛 Tr hs (Goes-blank 𝓛 2 (plain (λ _. box.B Bx)) no (λ κs x f. tt), tt) c (WpFn 𝓤 H 𝓣.C 𝓣.Λ fn) (WpFn-mono 𝓤 H 𝓛.laws 𝓣 fn) (λ z.
    let κ = z.0.0.0 in let κ' = z.0.0.1.0 in let q = z.0.1.0 in let q' = z.0.1.1.0 in let v = z.0.3.0 in let vs = z.0.4.0 in
    let t = ‵ (flft κ q) in let t' = ‵ (flft κ' q') in let inX = κ ⊑ X.lives in let inA = κ' ⊑ A.lives in
    qed 𝓛 (((t ⊛ t' ⊛ ‵ ftrue) ⊛ ‵ (owns (box.B Bx ∷ []) z.0.3 z.0.4)) ∷ (raw (fact 𝓤 inX) ⊛ raw (fact 𝓤 inA) ⊛ raw (emp 𝓤)) ∷ []) ∵
    move ! (1 ∷ []) $ split3 ! $ heard ! inX (λ leX. heard ! inA (λ leA. drop ! $ split ! $ move ! (1 ∷ []) $ fsplit ! $
    box_out Bx ! v vs (λ b o hv e is fits. box_in Bx ! v b o v.value e refl $
    let w = box.word Bx hv b o in let typed = box.box_typed Bx hv b o fits in
    let y : Apart.Ghost = ((z.0.0, z.0.1, tt, z.0.3, (w ∷ [], tt)), tt) in
    suffices ! (WpFn 𝓤 H 𝓣.C 𝓣.Λ fn (w ∷ []) (W.post z)) (subst (λ (us : List Val). ent 𝓤 (WpFn 𝓤 H 𝓣.C 𝓣.Λ fn (w ∷ []) (W.post z)) (WpFn 𝓤 H 𝓣.C 𝓣.Λ fn us (W.post z))) (sym (λ i. is i ++ [])) (id⊢ 𝓤 (WpFn 𝓤 H 𝓣.C 𝓣.Λ fn (w ∷ []) (W.post z)))) $
    enter ! 𝓣.C 𝓣.Λ fn (w ∷ []) (W.post z) $ alloc_all ! (λ l. pass_all ! refl (typed, tt) $ sets ! (of_opd ! (get ! refl)) refl typed $
    -- [the box; nothing; the tokens].
    fjoin ! $ move ! (1 ∷ 0 ∷ []) $ join ! $
    nothing ! $ use0 𝓛 (raw (fact 𝓤 inA)) (fact_i 𝓤 inA (emp 𝓤) leA) $ join ! $ use0 𝓛 (raw (fact 𝓤 inX)) (fact_i 𝓤 inX (emp 𝓤) leX) $ join ! $ move ! (1 ∷ 0 ∷ []) $ join ! $
    use1 𝓛 (raw (Apart.pre y)) (id⊢ 𝓤 _) $
    calls_at ! (fm_of 𝓤 H 𝓛.laws 𝓣) Apart (apart_met.met 𝓤 𝓛 𝓜 𝓡 (code.calls-std_alloc::boxed::Box::into_raw_with_allocator 𝓡.env wired) X A LX LA g d da dx met gluea gluex) y
    (and_then ! (get ! refl) (no_more !)) (λ u.
    use1 𝓛 (later (some (λ (r : Ptr × A.Denot). ((t ⊛ t' ⊛ ‵ ftrue) ⊛ ‵ (Pair.own_val r (u ∷ []))) ⊛ some (λ (ws : Lasts (apart.ended X A g d da dx) z.0.0 z.0.3).
    ‵ (lasts (apart.ended X A g d da dx) z.0.0 z.0.3 ws) ⊛ raw (fact 𝓤 (r.1 ≡ v.alloc)) ⊛ ‵ (box_owns (token al v.alloc) (param 0 X) r.0 v.value))))) (id⊢ 𝓤 _) $
    await ! tt $ pick ! (λ r. split ! $ move ! (1 ∷ []) $ pick ! (λ ws. split3 ! $ drop ! $ heard ! (r.1 ≡ v.alloc) (λ same.
    in_a_block ! r.0 (λ p. box_owns (token al v.alloc) (param 0 X) p v.value) (fst∗ 𝓤 (never 𝓤) (sem 𝓛 (token al v.alloc (bare (layout X)) null_ptr))) (λ b' o' at.
    move ! (1 ∷ []) $ split ! $ move ! (1 ∷ []) $ fpick ! (λ parts. fsplit ! $ feq_l ! (λ whole_is. fsplit ! $ feq_l ! (λ points. fsplit ! $
    rewrite ! 0 (λ (a : A.Denot). ‵ (A.own_val a parts.1.0)) same refl $ handle_tells al ! v.alloc parts.1.0 (λ h alone fits'.
    let good : T (has_ty (layout A) h && true) × (Unit {0} × (WT h × Unit {0})) = (and_tt (has_ty (layout A) h) fits'.0, (tt, (fits'.1, tt))) in
    lands_as ! (ap only (whole_is ∙ (λ i. vstruct (of_list ((points ∙ ap (λ (p : Ptr). ptr_val p ∷ []) at) i ++ (alone i ++ []))) ∷ []))) refl good $
    sets ! (of_opd ! (get_in ! (fld ! refl (stop !)) (sub ! 0 refl (whole !)))) refl (tt, tt) $ sets ! (of_opd ! (get_in ! (fld ! refl (stop !)) (sub ! 1 refl (whole !)))) refl fits' $
    sets ! (of_opd ! (get ! refl)) refl fits' $ sets ! (agg ! (and_then ! (get ! refl) (and_then ! (get ! refl) (no_more !)))) refl good $
    returns ! (look_at ! 0 refl) $ free_all ! refl $
    -- [the allocator; nothing; the tokens; what the box owned].
    move ! (1 ∷ []) $ drop ! $ move ! (2 ∷ 0 ∷ []) $ loose_in (param 0 X) (param 1 A) (param_laws 1 A LA) g ! b' o' h v.alloc v.value $
    suffices ! _ (ends_at 𝓛 Tr hs c z (both (vptr b' o') h) (record { at = block_ptr b' o'; alloc = v.alloc; value = v.value }) ((tt, (tt, tt)), tt) (tt, tt)) $ says ! refl $
    nothing ! $ nothing ! $ fjoin ! $ join ! $ move ! (1 ∷ 0 ∷ []) $ join ! $ done !)))))))))))))))
