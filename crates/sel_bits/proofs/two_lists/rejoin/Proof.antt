-- `rejoin` hands the memory of both lists to what waits for it.
use Rattle.std.proofs.Common.{◌≡◌, ℕ, ◌+◌, List, [], ◌∷◌, ◌++◌, length, refl, sym, ◌∙◌, subst, arith}
use mir.Syntax.{Fn, Args, a_type}
use mir.MapTy.{inst_fn}
use mir.Val.{Val, vptr}
use base.Logic.{ent, id⊢, all_e, apply∗}
use base.Fml.{Fml, fsep, feq, fwand}
use contract.BorrowLft.{◌⊑◌}
use prog.Wp.{WpFn, Tables}
use contract.Monad.{fact}
use contract.Running.{tables, tables_of}
use sound.WpLaws.{WpFn-mono}
use types.Logic.{sem}
use types.Kit.{‵, raw, ◌⊛◌, ◌$◌, ◌∵◌, !, qed, move, drop, use1, use2, split, rewrite, fsplit, fjoin, fpick, feq_i, feq_l, flt_i, suffices, done}
use types.Part.{whole, sub}
use types.Run.{stop, fld, of_opd, returns, enter}
use types.ByLocal.{alloc_all, pass_all, free_all, look_at, get, get_in, sets}
use denote.RattleType.{RattleType, owns}
use denote.Exit.{no}
use denote.Laws.{Typed}
use denote.Param.{param, layouts}
use denote.Param.Laws.{param_laws}
use denote.RawPtr.{Ptr}
use denote.Signature.{plain, types_at}
use denote.Steps.{heard, nothing}
use denote.Triple.Clauses.{Ended, Clauses}
use denote.Triple.Entry.{alive}
use denote.Triple.Spec.{triple_of}
use denote.Triple.Table.{entered}
use denote.Triple.Walked.{says, Stays, stay_dropped, walk_of, ends_at, walk_Meets}
use Rattle.core.proofs.alloc.Calls.{Goes-blank}
use Rattle.std.specs.Vec.{with_items}
use Rattle.std.proofs.lemmas.List.{with_items_is}
use Rattle.std_alloc.specs.Vec.Ownership.{lodged}
use Rattle.sel_bits.specs.TwoLists.{Places, both_owned}
use Rattle.sel_bits.specs.contracts.lent.Lent as lent
use Rattle.sel_bits.specs.contracts.two_lists.Carved as carved
use Rattle.sel_bits.specs.contracts.two_lists.Carved.TheInside as inside
use Rattle.sel_bits.proofs.LentSteps.{three, memory_out}
use Rattle.sel_bits.proofs.TwoListSteps.{pair, empty, fields_out}
use Rattle.sel_bits.specs.contracts.two_lists.rejoin as F
use Rattle.sel_bits.specs.contracts.two_lists.rejoin.Key.{name as #self}
use Rattle.sel_bits.proofs.two_lists.rejoin.Statement.{statement}
use Rattle.sel_bits.proofs.two_lists.rejoin.Code as code

pub rejoin_spec : {M : Type 1} → statement M
unfolding tables_of
rejoin_spec 𝓤 𝓛 𝓜 𝓡 wired X Y LX LY =
    let H = 𝓛.H in let 𝓣 : Tables 𝓤 H = tables_of 𝓤 H 𝓜 (tables 𝓤 H 𝓜 𝓡 𝓡.env) in
    let args : Args = layouts (a_type ∷ a_type ∷ []) (X, (Y, tt)) in
    let fn : Fn = inst_fn args code.function in
    let A : RattleType = param 0 X in let B : RattleType = param 1 Y in
    let C : RattleType = carved.the_row A B in
    let Tr : Ended = F.ended X Y in
    let c : Clauses 𝓤 Tr = F.clauses X Y 𝓛 𝓜.mem 𝓡.returns in
    let hs : Stays Tr.signature.params Tr.kept = (stay_dropped (plain (λ _. lent.the_row A)) no, (stay_dropped (plain (λ _. lent.the_row B)) no, (stay_dropped (plain (λ _. C)) no, tt))) in
    let W = walk_of 𝓛 Tr hs c in
    entered 𝓤 H (triple_of 𝓛 Tr.signature (F.spec X Y 𝓛 𝓜.mem 𝓡.returns)) 𝓣.C 𝓣.Λ (#self args) fn (code.unfolded 𝓤 H 𝓜 𝓡 wired (X, (Y, tt)))
    (walk_Meets 𝓛 Tr hs (Goes-blank 𝓛 2 (plain (λ _. lent.the_row A)) no (λ κs x f. tt), (Goes-blank 𝓛 2 (plain (λ _. lent.the_row B)) no (λ κs x f. tt), (Goes-blank 𝓛 2 (plain (λ _. C)) no (λ κs x f. tt), tt))) c (WpFn 𝓤 H 𝓣.C 𝓣.Λ fn) (WpFn-mono 𝓤 H 𝓛.laws 𝓣 fn) (λ z.
    let front = z.0.3.0 in let back = z.0.3.1.0 in let p : Places = z.0.3.1.1.0 in let vss = z.0.4 in let vs = vss.1.1.0 in
    let xs = front.items in let ys = back.items in
    let toks = alive 𝓛 Tr.signature z.0.0 z.0.1 in
    let inX = z.0.0.0 ⊑ X.lives in let inY = z.0.0.1.0 ⊑ Y.lives in
    let AtFront = (front.at ≡ p.at) × (front.len ≡ p.len) × (front.room ≡ p.len) in
    let AtBack = (back.at ≡ p.behind) × (back.room ≡ p.room) in
    qed 𝓛 ((raw toks ⊛ ‵ (owns (types_at Tr.signature.params z.0.0) z.0.3 vss)) ∷ (raw (fact 𝓤 inX) ⊛ raw (fact 𝓤 inY) ⊛ raw (fact 𝓤 AtFront) ⊛ raw (fact 𝓤 AtBack)) ∷ []) ∵
    move ! (1 ∷ []) $ split ! $ drop ! $ split ! $ drop ! $ split ! $ heard ! AtFront (λ at_front. heard ! AtBack (λ at_back. split ! $ move ! (1 ∷ []) $ fsplit ! $
    memory_out A ! front.at front.len front.room xs vss.0 (λ b o e₀ is₀ fn₀ fc₀. move ! (1 ∷ []) $ fsplit ! $
    memory_out B ! back.at back.len back.room ys vss.1.0 (λ b' o' e₁ is₁ fn₁ fc₁. move ! (1 ∷ []) $ fsplit ! $ fsplit ! $ fpick ! (λ typed. drop ! $ fpick ! (λ v. fsplit ! $ feq_l ! (λ len.
    -- [what waits; nothing; the memory of the back; that of the front; the tokens]
    let Items : Type 0 = List A.Denot × (ℕ × List B.Denot) in
    let Given : Items → Fml = λ t. fsep (feq ℕ (length t.0) p.len) (both_owned A B p t.0 t.1.0 t.1.1) in
    let Whole : Items → Fml = λ t. (inside.the_row A B).own_val (record { list = with_items v.list t.0; behind = v.behind }) vs in
    let both : Items = (xs, (back.len, ys)) in
    let long : length xs ≡ p.len = sym front.counted.0 ∙ at_front.1 in
    use1 𝓛 (‵ (fwand (Given both) (Whole both))) (all_e 𝓤 (λ t. sem 𝓛 (fwand (Given t) (Whole t))) both) $ move ! (2 ∷ []) $
    rewrite ! 0 (λ (q : Ptr). ‵ (lodged B q back.len back.room ys)) (sym e₁ ∙ at_back.0) refl $
    rewrite ! 0 (λ (k : ℕ). ‵ (lodged B p.behind back.len k ys)) at_back.1 refl $
    flt_i ! back.len (p.room + 1) (omega (arith, back.counted.1, at_back.1)) $ fjoin ! $ move ! (3 ∷ []) $
    rewrite ! 0 (λ (q : Ptr). ‵ (lodged A q front.len front.room xs)) (sym e₀ ∙ at_front.0) refl $
    rewrite ! 0 (λ (k : ℕ). ‵ (lodged A p.at k front.room xs)) at_front.1 refl $
    rewrite ! 0 (λ (k : ℕ). ‵ (lodged A p.at p.len k xs)) at_front.2 refl $
    fjoin ! $ feq_i ! ℕ (length xs) p.len long $ fjoin ! $
    use2 𝓛 (‵ (Whole both)) (apply∗ 𝓤 (sem 𝓛 (Given both)) (sem 𝓛 (Whole both))) $
    fields_out A B ! (param_laws 0 X LX) (record { list = with_items v.list xs; behind = v.behind }) vs (λ u is₂ good.
    -- [the list; nothing; the tokens]
    move ! (1 ∷ []) $ drop ! $
    let us : List Val = three (vptr b o) front.len front.room ∷ three (vptr b' o') back.len back.room ∷ pair u empty ∷ [] in
    suffices ! (WpFn 𝓤 H 𝓣.C 𝓣.Λ fn us (W.post z)) (subst (λ (ws : List Val). ent 𝓤 (WpFn 𝓤 H 𝓣.C 𝓣.Λ fn us (W.post z)) (WpFn 𝓤 H 𝓣.C 𝓣.Λ fn ws (W.post z))) (sym (λ i. is₀ i ++ (is₁ i ++ (is₂ i ++ [])))) (id⊢ 𝓤 (WpFn 𝓤 H 𝓣.C 𝓣.Λ fn us (W.post z)))) $
    enter ! 𝓣.C 𝓣.Λ fn us (W.post z) $
    alloc_all ! (λ l. pass_all ! refl ((tt, (tt, (record { fits = fn₀ }, (record { fits = fc₀ }, tt)))), ((tt, (tt, (record { fits = fn₁ }, (record { fits = fc₁ }, tt)))), ((subst (Typed C.mir) is₂ typed).0, tt))) $
    sets ! (of_opd ! (get_in ! (fld ! refl (stop !)) (sub ! 0 refl (whole !)))) refl good $
    sets ! (of_opd ! (get ! refl)) refl good $
    returns ! (look_at ! 0 refl) $ free_all ! refl $
    suffices ! _ (ends_at 𝓛 Tr hs c z u (with_items v.list xs) (tt, (tt, (tt, tt))) (tt, (tt, (tt, tt)))) $ says ! (with_items_is v.list xs (long ∙ sym len)) $
    nothing ! $ nothing ! $ fjoin ! $ nothing ! $ fjoin ! $ nothing ! $ fjoin ! $ move ! (2 ∷ 0 ∷ 1 ∷ []) $ done !)))))))))))
