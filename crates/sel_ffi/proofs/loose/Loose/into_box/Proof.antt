-- `into_box` passes the pointer and the allocator to a call.
use Rattle.std.proofs.Common.{List, [], ◌∷◌, ◌++◌, refl, sym, ap, subst, ◌≡◌, true, ◌&&◌}
use Rattle.sel_ffi.proofs.Walks.{ !, a_type, after, Al, alloc_all, and_then, and_tt, Args, at_ret, await, block_ptr, blocks, bounded, box_in, box_out}
use Rattle.sel_ffi.proofs.Walks.{calls_at_last, Clauses, Contract, dcons, dnil, done, drop, emp, Ended, ends_at, ent, enter, entered, env, exec, fact, fact_i}
use Rattle.sel_ffi.proofs.Walks.{feq_i, first, fjoin, fld, flft, fm_of, Fn, free_all, fsplit, ftrue, get, get_in, Goes-blank, has_ty, heard, id⊢, inst_fn, join}
use Rattle.sel_ffi.proofs.Walks.{lands_last, Lasts, lasts, later, layout, look_at, move, no, no_more, nothing, of_opd, only, owns, param, param_laws, pass_all}
use Rattle.sel_ffi.proofs.Walks.{pick, plain, qed, RattleType, raw, returns, rewrite, says, sets, some, split, split3, stay_dropped, Stays, stop, sub, suffices}
use Rattle.sel_ffi.proofs.Walks.{T, Tables, tables, triple_of, use0, use1, Val, vptr, walk_Meets, walk_of, whole, WpFn, WpFn-mono, WT, ‵, ◌$◌, ◌∵◌, ◌⊑◌, ◌⊛◌}
use Rattle.sel_ffi.proofs.{LooseSteps.both, LooseSteps.loose_out, loose.Loose.into_box.Statement.statement}
use Rattle.sel_ffi.specs.contracts.loose.Loose.into_box.Key.{name as #self}
use contract.Running.{tables_of}
use Rattle.std_alloc.specs.contracts.boxed.Box.from_raw as made
use Rattle.std_alloc.proofs.boxed.Box.from_raw.Met as made_met
use Rattle.std_alloc.proofs.BoxSteps.Form as box
use Rattle.sel_ffi.specs.contracts.loose.Loose as loose
use Rattle.sel_ffi.specs.contracts.loose.Loose.into_box as F
use Rattle.sel_ffi.proofs.loose.Loose.into_box.Code as code

pub into_box_spec : {M : Type 1} → statement M
unfolding tables_of
into_box_spec 𝓤 𝓛 𝓜 𝓡 wired X A LX LA g d dx da met gluex gluea =
    let H = 𝓛.H in let 𝓣 : Tables 𝓤 H = tables_of 𝓤 H 𝓜 (tables 𝓤 H 𝓜 𝓡 𝓡.env) in
    let al : Al = record { row = A; laws = LA; g = g; d = d; drops = da } in
    let Bx : box.Bx = record { row = X; laws = LX; al = al } in
    let args : Args = bounded (a_type ∷ a_type ∷ []) (X, (A, tt)) (dcons d (dcons dx (dcons da dnil))) in
    let fn : Fn = inst_fn args code.function in
    let From : RattleType = loose.the_row (param 0 X) (param 1 A) g in
    let Tr : Ended = F.ended X A g d dx da in
    let c : Clauses 𝓤 Tr = F.clauses X A g d dx da 𝓛 𝓜.mem 𝓡.returns in
    let hs : Stays Tr.signature.params Tr.kept = (stay_dropped (plain (λ _. From)) no, tt) in
    let W = walk_of 𝓛 Tr hs c in
    let Made : Contract 𝓤 = triple_of 𝓛 (made.signature X A g d da) (made.spec X A g d da 𝓛 𝓜.mem 𝓡.returns) in
    entered 𝓤 H (triple_of 𝓛 Tr.signature (F.spec X A g d dx da 𝓛 𝓜.mem 𝓡.returns)) 𝓣.C 𝓣.Λ (#self args) fn (code.unfolded 𝓤 H 𝓜 𝓡 wired (X, (A, tt)) d dx da)
    (walk_Meets 𝓛 Tr hs (Goes-blank 𝓛 2 (plain (λ _. From)) no (λ κs x f. tt), tt) c (WpFn 𝓤 H 𝓣.C 𝓣.Λ fn) (WpFn-mono 𝓤 H 𝓛.laws 𝓣 fn) (λ z.
    let κ = z.0.0.0 in let κ' = z.0.0.1.0 in let q = z.0.1.0 in let q' = z.0.1.1.0 in let v = z.0.3.0 in let vs = z.0.4.0 in
    let t = ‵ (flft κ q) in let t' = ‵ (flft κ' q') in let inX = κ ⊑ X.lives in let inA = κ' ⊑ A.lives in
    qed 𝓛 (((t ⊛ t' ⊛ ‵ ftrue) ⊛ ‵ (owns (From ∷ []) z.0.3 z.0.4)) ∷ (raw (fact 𝓤 inX) ⊛ raw (fact 𝓤 inA) ⊛ raw (emp 𝓤)) ∷ []) ∵
    move ! (1 ∷ []) $ split3 ! $ heard ! inX (λ leX. heard ! inA (λ leA. drop ! $ split ! $ move ! (1 ∷ []) $ fsplit ! $
    loose_out (param 0 X) (param 1 A) (param_laws 1 A LA) g ! v vs (λ b o h e is fits.
    let w = both (vptr b o) h in let typed : T (has_ty (layout A) h && true) × (Unit {0} × (WT h × Unit {0})) = (and_tt (has_ty (layout A) h) fits.0, (tt, (fits.1, tt))) in
    let y : Made.Ghost = ((z.0.0, z.0.1, tt, (v.alloc, (block_ptr b o, tt)), (h ∷ [], (vptr b o ∷ [], tt))), v.value) in
    suffices ! (WpFn 𝓤 H 𝓣.C 𝓣.Λ fn (w ∷ []) (W.post z)) (subst (λ (us : List Val). ent 𝓤 (WpFn 𝓤 H 𝓣.C 𝓣.Λ fn (w ∷ []) (W.post z)) (WpFn 𝓤 H 𝓣.C 𝓣.Λ fn us (W.post z))) (sym (λ i. is i ++ [])) (id⊢ 𝓤 (WpFn 𝓤 H 𝓣.C 𝓣.Λ fn (w ∷ []) (W.post z)))) $
    enter ! 𝓣.C 𝓣.Λ fn (w ∷ []) (W.post z) $ alloc_all ! (λ l. pass_all ! refl (typed, tt) $
    sets ! (of_opd ! (get_in ! (fld ! refl (stop !)) (sub ! 0 refl (whole !)))) refl (tt, tt) $ sets ! (of_opd ! (get_in ! (fld ! refl (stop !)) (sub ! 1 refl (whole !)))) refl fits $
    first ! $ blocks ! $ sets ! (of_opd ! (get ! refl)) refl fits $
    -- [what the box owned; the allocator; nothing; the tokens].
    move ! (2 ∷ []) $ feq_i ! (List Val) (vptr b o ∷ []) (vptr b o ∷ []) refl $ fjoin ! $ move ! (2 ∷ 0 ∷ []) $ fjoin ! $ move ! (2 ∷ 0 ∷ []) $ join ! $
    move ! (1 ∷ []) $ use0 𝓛 (raw (fact 𝓤 inA)) (fact_i 𝓤 inA (emp 𝓤) leA) $ join ! $ use0 𝓛 (raw (fact 𝓤 inX)) (fact_i 𝓤 inX (emp 𝓤) leX) $ join ! $ move ! (1 ∷ 0 ∷ []) $ join ! $
    use1 𝓛 (raw (Made.pre y)) (id⊢ 𝓤 _) $
    calls_at_last ! (fm_of 𝓤 H 𝓛.laws 𝓣) Made (made_met.met 𝓤 𝓛 𝓜 𝓡 (code.calls-std_alloc::boxed::Box::from_raw 𝓡.env wired) X A LX LA g d da met gluea) y
    (and_then ! (get ! refl) (and_then ! (get ! refl) (no_more !))) (λ u.
    use1 𝓛 (later (some (λ (r : (box.B Bx).Denot). ((t ⊛ t' ⊛ ‵ ftrue) ⊛ ‵ ((box.B Bx).own_val r (u ∷ []))) ⊛ some (λ (ws : Lasts (made.ended X A g d da) z.0.0 y.0.3).
    ‵ (lasts (made.ended X A g d da) z.0.0 y.0.3 ws) ⊛ raw (fact 𝓤 (r.value ≡ v.value)) ⊛ raw (fact 𝓤 (r.alloc ≡ v.alloc)))))) (id⊢ 𝓤 _) $
    await ! tt $ pick ! (λ r. split ! $ move ! (1 ∷ []) $ pick ! (λ ws. split3 ! $ drop ! $ heard ! (r.value ≡ v.value) (λ same. heard ! (r.alloc ≡ v.alloc) (λ _.
    split ! $ move ! (1 ∷ []) $ box_out Bx ! r (u ∷ []) (λ b' o' hv e' is' fits'. box_in Bx ! r b' o' r.value e' refl $
    rewrite ! 0 (λ (us : List Val). ‵ ((box.B Bx).own_val r us)) (sym is') refl $
    let good : T (has_ty (box.box_ty Bx) u) × WT u = subst (λ (x : Val). T (has_ty (box.box_ty Bx) x) × WT x) (sym (ap only is')) (box.box_typed Bx hv b' o' fits') in
    -- [the box; the tokens].
    lands_last ! refl good $ exec ! 𝓣.C 𝓣.Λ (env fn.locals l) (after 3 fn.body) (at_ret (env fn.locals l) (W.post z)) $
    sets ! (of_opd ! (get ! refl)) refl good $ returns ! (look_at ! 0 refl) $ free_all ! refl $
    suffices ! _ (ends_at 𝓛 Tr hs c z u r ((tt, (tt, tt)), tt) (tt, tt)) $ says ! same $
    nothing ! $ nothing ! $ fjoin ! $ join ! $ move ! (1 ∷ 0 ∷ []) $ join ! $ done !))))))))))))
