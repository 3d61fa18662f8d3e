-- `into_vec` hands the memory to `lodge`.
use Rattle.std.proofs.Common.{◌≡◌, ◌^◌, ◌<◌, ◌≤◌, List, [], ◌∷◌, ◌++◌, length, refl, sym, ap, ◌∙◌, subst}
use mir.Syntax.{Fn, Args, a_type, w64}
use mir.MapTy.{inst_fn}
use mir.Val.{Val, vptr, vint}
use base.Logic.{ent, emp, id⊢}
use base.Fml.{ftrue, flft}
use contract.BorrowLft.{◌⊑◌}
use prog.Wp.{WpFn, Tables}
use contract.Monad.{fact, fact_i}
use contract.Running.{tables, tables_of}
use sound.WpLaws.{fm_of, WpFn-mono}
use types.Kit.{‵, raw, ◌⊛◌, some, later, ◌$◌, ◌∵◌, at_ret, !, qed, move, drop, use0, use1, join, split, pick, rewrite, fsplit, fjoin, feq_i, flt_i, suffices, await, done}
use types.Part.{whole, sub}
use types.Run.{stop, fld, no_more, and_then, of_opd, first, blocks, exec, returns, enter}
use types.ByLocal.{alloc_all, pass_all, free_all, look_at, get, get_in, sets, lands_last, env}
use denote.RattleType.{RattleType, owns}
use denote.Exit.{no}
use denote.Param.{param, layouts}
use denote.Param.Laws.{param_laws}
use denote.RawPtr.{block_ptr}
use denote.Signature.{plain}
use denote.Steps.{heard, nothing, only}
use denote.Triple.Call.{calls_at_last}
use denote.Triple.Clauses.{Ended, Clauses, Lasts, lasts}
use denote.Triple.Spec.{triple_of}
use denote.Triple.Statement.{Contract}
use denote.Triple.Table.{entered}
use denote.Triple.Walked.{says, Stays, stay_dropped, walk_of, ends_at, walk_Meets}
use Rattle.core.proofs.alloc.Calls.{Goes-blank}
use Rattle.core.proofs.alloc.Shapes.{after}
use Rattle.std_alloc.specs.contracts.vec.lodge as made
use Rattle.std_alloc.proofs.vec.lodge.Met as made_met
use Rattle.sel_bits.specs.contracts.lent.Lent as lent
use Rattle.sel_bits.proofs.LentSteps.{three, Good, Listed, listed-laws, tells, memory_out}
use Rattle.sel_bits.specs.contracts.lent.Lent.into_vec as F
use Rattle.sel_bits.specs.contracts.lent.Lent.into_vec.Key.{name as #self}
use Rattle.sel_bits.proofs.lent.Lent.into_vec.Statement.{statement}
use Rattle.sel_bits.proofs.lent.Lent.into_vec.Code as code

pub into_vec_spec : {M : Type 1} → statement M
unfolding tables_of
into_vec_spec 𝓤 𝓛 𝓜 𝓡 wired X LX =
    let H = 𝓛.H in let 𝓣 : Tables 𝓤 H = tables_of 𝓤 H 𝓜 (tables 𝓤 H 𝓜 𝓡 𝓡.env) in
    let args : Args = layouts (a_type ∷ []) (X, tt) in
    let fn : Fn = inst_fn args code.function in
    let From : RattleType = lent.the_row (param 0 X) in
    let To : RattleType = Listed (param 0 X) in
    let Tr : Ended = F.ended X in
    let c : Clauses 𝓤 Tr = F.clauses X 𝓛 𝓜.mem 𝓡.returns in
    let hs : Stays Tr.signature.params Tr.kept = (stay_dropped (plain (λ _. From)) no, tt) in
    let W = walk_of 𝓛 Tr hs c in
    let Made : Contract 𝓤 = triple_of 𝓛 (made.signature X) (made.spec X 𝓛 𝓜.mem 𝓡.returns) in
    entered 𝓤 H (triple_of 𝓛 Tr.signature (F.spec X 𝓛 𝓜.mem 𝓡.returns)) 𝓣.C 𝓣.Λ (#self args) fn (code.unfolded 𝓤 H 𝓜 𝓡 wired (X, tt))
    (walk_Meets 𝓛 Tr hs (Goes-blank 𝓛 1 (plain (λ _. From)) no (λ κs x f. tt), tt) c (WpFn 𝓤 H 𝓣.C 𝓣.Λ fn) (WpFn-mono 𝓤 H 𝓛.laws 𝓣 fn) (λ z.
    let κ = z.0.0.0 in let q = z.0.1.0 in let v = z.0.3.0 in let vs = z.0.4.0 in let n = v.len in let room = v.room in let xs = v.items in
    let t = ‵ (flft κ q) in let inX = κ ⊑ X.lives in
    qed 𝓛 (((t ⊛ ‵ ftrue) ⊛ ‵ (owns (From ∷ []) z.0.3 z.0.4)) ∷ (raw (fact 𝓤 inX) ⊛ raw (emp 𝓤)) ∷ []) ∵
    move ! (1 ∷ []) $ split ! $ heard ! inX (λ leX. drop ! $ split ! $ move ! (1 ∷ []) $ fsplit ! $
    memory_out (param 0 X) ! v.at n room xs vs (λ b o e is fn' fc.
    let w : Val = three (vptr b o) n room in
    let Asked = (n ≡ length xs) × (n ≤ room) × (room < 2 ^ 63) in
    let y : Made.Ghost = ((z.0.0, z.0.1, tt, (block_ptr b o, (n, (room, tt))), (vptr b o ∷ [], (vint w64 n ∷ [], (vint w64 room ∷ [], tt)))), xs) in
    let IsMade : To.Denot → Type 0 = λ r. (r.items ≡ xs) × (r.len ≡ n) × (r.cap ≡ room) × (r.ptr ≡ block_ptr b o) in
    suffices ! (WpFn 𝓤 H 𝓣.C 𝓣.Λ fn (w ∷ []) (W.post z)) (subst (λ (us : List Val). ent 𝓤 (WpFn 𝓤 H 𝓣.C 𝓣.Λ fn (w ∷ []) (W.post z)) (WpFn 𝓤 H 𝓣.C 𝓣.Λ fn us (W.post z))) (sym (λ i. is i ++ [])) (id⊢ 𝓤 (WpFn 𝓤 H 𝓣.C 𝓣.Λ fn (w ∷ []) (W.post z)))) $
    enter ! 𝓣.C 𝓣.Λ fn (w ∷ []) (W.post z) $ alloc_all ! (λ l. pass_all ! refl ((tt, (tt, (record { fits = fn' }, (record { fits = fc }, tt)))), tt) $
    sets ! (of_opd ! (get_in ! (fld ! refl (stop !)) (sub ! 0 refl (whole !)))) refl (tt, tt) $
    sets ! (of_opd ! (get_in ! (fld ! refl (stop !)) (sub ! 1 refl (whole !)))) refl (tt, record { fits = fn' }) $
    sets ! (of_opd ! (get_in ! (fld ! refl (stop !)) (sub ! 2 refl (whole !)))) refl (tt, record { fits = fc }) $
    first ! $ blocks ! $
    -- [the memory; nothing; the token]
    use0 𝓛 (raw (fact 𝓤 Asked)) (fact_i 𝓤 Asked (emp 𝓤) (v.counted.0, v.counted.1, v.small)) $ join ! $ use0 𝓛 (raw (fact 𝓤 inX)) (fact_i 𝓤 inX (emp 𝓤) leX) $ join ! $
    move ! (1 ∷ []) $ flt_i ! room (2 ^ 64) fc $ feq_i ! (List Val) (vint w64 room ∷ []) (vint w64 room ∷ []) refl $ fjoin ! $ fjoin ! $
    flt_i ! n (2 ^ 64) fn' $ feq_i ! (List Val) (vint w64 n ∷ []) (vint w64 n ∷ []) refl $ fjoin ! $ fjoin ! $
    feq_i ! (List Val) (vptr b o ∷ []) (vptr b o ∷ []) refl $ fjoin ! $ move ! (2 ∷ 0 ∷ []) $ join ! $ join ! $
    use1 𝓛 (raw (Made.pre y)) (id⊢ 𝓤 _) $
    calls_at_last ! (fm_of 𝓤 H 𝓛.laws 𝓣) Made (made_met.met 𝓤 𝓛 𝓜 𝓡 (code.calls-std_alloc::vec::lodge 𝓡.env wired) X LX) y
    (and_then ! (get ! refl) (and_then ! (get ! refl) (and_then ! (get ! refl) (no_more !)))) (λ u.
    use1 𝓛 (later (some (λ (r : To.Denot). ((t ⊛ ‵ ftrue) ⊛ ‵ (To.own_val r (u ∷ []))) ⊛ some (λ (ws : Lasts (made.ended X) z.0.0 y.0.3).
    ‵ (lasts (made.ended X) z.0.0 y.0.3 ws) ⊛ raw (fact 𝓤 (IsMade r)))))) (id⊢ 𝓤 _) $
    await ! tt $ pick ! (λ r. split ! $ move ! (1 ∷ []) $ pick ! (λ ws. split ! $ drop ! $ heard ! (IsMade r) (λ same.
    split ! $ move ! (1 ∷ []) $ tells ! To (listed-laws (param 0 X) (param_laws 0 X LX)) r (u ∷ []) (λ u' is' good'.
    let good : Good To u = subst (Good To) (sym (ap only is')) good' in
    rewrite ! 0 (λ w. ‵ (To.own_val r (w ∷ []))) (sym (ap only is')) refl $
    lands_last ! refl good $ exec ! 𝓣.C 𝓣.Λ (env fn.locals l) (after 4 fn.body) (at_ret (env fn.locals l) (W.post z)) $
    sets ! (of_opd ! (get ! refl)) refl good $ returns ! (look_at ! 0 refl) $ free_all ! refl $
    suffices ! _ (ends_at 𝓛 Tr hs c z u r (tt, tt) (tt, tt)) $ says ! (same.0, same.3 ∙ sym e, same.1, same.2) $
    nothing ! $ nothing ! $ fjoin ! $ join ! $ move ! (1 ∷ 0 ∷ []) $ join ! $ done !))))))))))
