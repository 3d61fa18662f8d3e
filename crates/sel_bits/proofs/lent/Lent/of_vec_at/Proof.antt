-- `of_vec_at` takes the memory from `dislodge`.
use Rattle.std.proofs.Common.{◌≡◌, ℕ, ◌^◌, ◌<◌, ◌≤◌, List, [], ◌∷◌, ◌++◌, length, refl, sym, ap, ◌∙◌, subst}
use mir.Syntax.{Fn, Args, a_type, w64}
use mir.MapTy.{inst_fn}
use mir.Val.{Val, vptr, vint}
use base.Logic.{ent, emp, id⊢}
use base.Fml.{ftrue, flft}
use contract.BorrowLft.{◌⊑◌}
use prog.Wp.{WpFn, Tables}
use contract.Monad.{fact, fact_i}
use contract.Running.{tables, tables_of}
use sound.WpLaws.{fm_of, WpFn-mono}
use types.Kit.{‵, raw, ◌⊛◌, some, later, ◌$◌, ◌∵◌, !, qed, move, drop, use0, use1, join, split, split3, pick, rewrite, fsplit, fjoin, feq_l, flt_l, suffices, await, done}
use types.Part.{agg}
use types.Run.{no_more, and_then, of_opd, returns, enter}
use types.ByLocal.{alloc_all, pass_all, free_all, look_at, get, sets, lands_as}
use denote.RattleType.{RattleType, owns}
use denote.Builtin.{RawPtr, usize}
use denote.Exit.{no, yes}
use denote.Param.{param, layouts}
use denote.RawPtr.{Ptr, block_ptr, ptr_val}
use denote.Signature.{plain}
use denote.Steps.{heard, nothing, only}
use denote.Triple.Call.{calls_at}
use denote.Triple.Clauses.{Ended, Clauses, Lasts, lasts}
use denote.Triple.Spec.{triple_of}
use denote.Triple.Statement.{Contract}
use denote.Triple.Table.{entered}
use denote.Triple.Walked.{says, Stays, stay_dropped, walk_of, ends_at, walk_Meets}
use Rattle.core.proofs.alloc.Calls.{Goes-blank}
use Rattle.std_alloc.specs.Vec.Ownership.{lodged}
use Rattle.std_alloc.specs.contracts.vec.lodged.Vec+T+Lodged.dislodge as gone
use Rattle.std_alloc.proofs.vec.lodged.Vec+T+Lodged.dislodge.Met as gone_met
use Rattle.std_alloc.proofs.VecSteps.El.{El, vec_val, vec_typed}
use Rattle.std_alloc.proofs.VecSteps.Opens.{vec_had, vec_made}
use Rattle.std_alloc.proofs.OfLodged.{lodging}
use Rattle.sel_bits.specs.contracts.lent.Lent as lent
use Rattle.sel_bits.proofs.{LentSteps.three, LentSteps.Listed, LentSteps.memory_in, lent.Lent.of_vec_at.Statement.statement}
use Rattle.sel_bits.specs.contracts.lent.Lent.of_vec_at as F
use Rattle.sel_bits.specs.contracts.lent.Lent.of_vec_at.Key.{name as #self}
use Rattle.sel_bits.proofs.lent.Lent.of_vec_at.Code as code

pub of_vec_at_spec : {M : Type 1} → statement M
unfolding tables_of
of_vec_at_spec 𝓤 𝓛 𝓜 𝓡 wired X LX =
    let H = 𝓛.H in let 𝓣 : Tables 𝓤 H = tables_of 𝓤 H 𝓜 (tables 𝓤 H 𝓜 𝓡 𝓡.env) in
    let args : Args = layouts (a_type ∷ []) (X, tt) in
    let fn : Fn = inst_fn args code.function in
    let E : El = lodging X LX in
    let From : RattleType = Listed (param 0 X) in
    let To : RattleType = lent.the_row (param 0 X) in
    let Tr : Ended = F.ended X in
    let c : Clauses 𝓤 Tr = F.clauses X 𝓛 𝓜.mem 𝓡.returns in
    let hs : Stays Tr.signature.params Tr.kept = (stay_dropped (plain (λ _. From)) no, (stay_dropped (plain (λ _. RawPtr)) yes, (stay_dropped (plain (λ _. usize)) yes, tt))) in
    let W = walk_of 𝓛 Tr hs c in
    let Gone : Contract 𝓤 = triple_of 𝓛 (gone.signature X) (gone.spec X 𝓛 𝓜.mem 𝓡.returns) in
    entered 𝓤 H (triple_of 𝓛 Tr.signature (F.spec X 𝓛 𝓜.mem 𝓡.returns)) 𝓣.C 𝓣.Λ (#self args) fn (code.unfolded 𝓤 H 𝓜 𝓡 wired (X, tt))
    (walk_Meets 𝓛 Tr hs (Goes-blank 𝓛 1 (plain (λ _. From)) no (λ κs x f. tt), (Goes-blank 𝓛 1 (plain (λ _. RawPtr)) yes (λ κs x f. tt), (Goes-blank 𝓛 1 (plain (λ _. usize)) yes (λ κs x f. tt), tt))) c (WpFn 𝓤 H 𝓣.C 𝓣.Λ fn) (WpFn-mono 𝓤 H 𝓛.laws 𝓣 fn) (λ z.
    let κ = z.0.0.0 in let q = z.0.1.0 in let d = z.0.3.0 in let at = z.0.3.1.0 in let room = z.0.3.1.1.0 in
    let t = ‵ (flft κ q) in let inX = κ ⊑ X.lives in let Asked = (d.ptr ≡ at) × (d.cap ≡ room) in
    qed 𝓛 (((t ⊛ ‵ ftrue) ⊛ ‵ (owns (From ∷ RawPtr ∷ usize ∷ []) z.0.3 z.0.4)) ∷ (raw (fact 𝓤 inX) ⊛ raw (fact 𝓤 Asked)) ∷ []) ∵
    move ! (1 ∷ []) $ split ! $ heard ! inX (λ leX. heard ! Asked (λ asked. split ! $ move ! (1 ∷ []) $ fsplit ! $
    vec_had E ! d z.0.4.0 (λ b o hv e is fn' fc fit fa. vec_made E ! d b o d.len d.cap d.items (e, refl, refl, refl) fn' fc fit $
    move ! (1 ∷ []) $ fsplit ! $ feq_l ! (λ at_is. fsplit ! $ fsplit ! $ feq_l ! (λ room_is. flt_l ! (λ fr. drop ! $
    -- [the list; the token]
    let u : Val = vec_val E hv b o d.len d.cap in let good = vec_typed E hv b o d.len d.cap fa fn' fc in
    let there = at_is ∙ ap (λ (p : Ptr). ptr_val p ∷ []) (sym asked.0 ∙ e) in
    let us : List Val = u ∷ vptr b o ∷ vint w64 room ∷ [] in
    let y : Gone.Ghost = ((z.0.0, z.0.1, tt, (d, tt), (u ∷ [], tt)), tt) in
    suffices ! (WpFn 𝓤 H 𝓣.C 𝓣.Λ fn us (W.post z)) (subst (λ (ws : List Val). ent 𝓤 (WpFn 𝓤 H 𝓣.C 𝓣.Λ fn us (W.post z)) (WpFn 𝓤 H 𝓣.C 𝓣.Λ fn ws (W.post z))) (sym (λ i. is i ++ (there i ++ (room_is i ++ [])))) (id⊢ 𝓤 (WpFn 𝓤 H 𝓣.C 𝓣.Λ fn us (W.post z)))) $
    enter ! 𝓣.C 𝓣.Λ fn us (W.post z) $ alloc_all ! (λ l. pass_all ! refl (good, ((tt, tt), ((tt, record { fits = fr }), tt))) $
    sets ! (of_opd ! (get ! refl)) refl good $
    nothing ! $ use0 𝓛 (raw (fact 𝓤 inX)) (fact_i 𝓤 inX (emp 𝓤) leX) $ join ! $ nothing ! $ move ! (2 ∷ 0 ∷ []) $ fjoin ! $ move ! (2 ∷ 0 ∷ []) $ join ! $ join ! $
    use1 𝓛 (raw (Gone.pre y)) (id⊢ 𝓤 _) $
    calls_at ! (fm_of 𝓤 H 𝓛.laws 𝓣) Gone (gone_met.met 𝓤 𝓛 𝓜 𝓡 (code.calls-std_alloc::vec::lodged::Vec+T+Lodged::dislodge 𝓡.env wired) X LX) y
    (and_then ! (get ! refl) (no_more !)) (λ w.
    use1 𝓛 (later (some (λ (r : ℕ). ((t ⊛ ‵ ftrue) ⊛ ‵ (usize.own_val r (w ∷ []))) ⊛ some (λ (ws : Lasts (gone.ended X) z.0.0 y.0.3).
    ‵ (lasts (gone.ended X) z.0.0 y.0.3 ws) ⊛ raw (fact 𝓤 (r ≡ d.len)) ⊛ ‵ (lodged (param 0 X) d.ptr d.len d.cap d.items))))) (id⊢ 𝓤 _) $
    await ! tt $ pick ! (λ r. split ! $ move ! (1 ∷ []) $ pick ! (λ ws. split3 ! $ drop ! $ heard ! (r ≡ d.len) (λ same.
    move ! (1 ∷ []) $ split ! $ move ! (1 ∷ []) $ fsplit ! $ feq_l ! (λ is_r. flt_l ! (λ fl. move ! (1 ∷ []) $
    -- [the memory; the token]
    rewrite ! 0 (λ (p : Ptr). ‵ (lodged (param 0 X) p d.len d.cap d.items)) e refl $
    rewrite ! 0 (λ (k : ℕ). ‵ (lodged (param 0 X) (block_ptr b o) d.len k d.items)) asked.1 refl $
    lands_as ! (ap only is_r ∙ ap (vint w64) same) refl (tt, record { fits = fn' }) $
    sets ! (agg ! (and_then ! (get ! refl) (and_then ! (get ! refl) (and_then ! (get ! refl) (no_more !))))) refl (tt, (tt, (record { fits = fn' }, (record { fits = fr }, tt)))) $
    returns ! (look_at ! 0 refl) $ free_all ! refl $
    let counted : (d.len ≡ length d.items) × (d.len ≤ room) = (d.ok.0, subst (λ (k : ℕ). d.len ≤ k) asked.1 d.ok.1) in let small = subst (λ (k : ℕ). k < 2 ^ 63) asked.1 d.small in
    memory_in (param 0 X) ! b o d.len room d.items fn' fr $
    suffices ! _ (ends_at 𝓛 Tr hs c z (three (vptr b o) d.len room) (record { at = block_ptr b o; len = d.len; room = room; items = d.items; counted = counted; small = small }) (tt, (tt, (tt, tt))) (tt, (tt, (tt, tt)))) $ says ! (refl, sym e ∙ asked.0, refl, refl) $
    nothing ! $ nothing ! $ fjoin ! $ nothing ! $ fjoin ! $ nothing ! $ fjoin ! $ join ! $ move ! (1 ∷ 0 ∷ []) $ join ! $ done !)))))))))))))))
