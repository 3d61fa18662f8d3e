-- `carve` takes the list apart, and makes a lent list of each part.
use Rattle.std.proofs.Common.{◌≡◌, ℕ, ◌+◌, ◌-◌, ◌*◌, ◌^◌, ◌<◌, List, [], ◌∷◌, ◌++◌, refl, sym, ap, ◌∙◌, subst, lit<, arith}
use mir.Syntax.{Fn, w64}
use mir.Val.{Val, vptr, vint}
use base.Logic.{ent, emp, id⊢}
use base.Fml.{ftrue}
use prog.Wp.{WpFn, Tables}
use contract.Monad.{fact, fact_i}
use contract.Running.{tables, tables_of}
use sound.WpLaws.{fm_of, WpFn-mono}
use types.Kit.{‵, raw, ◌⊛◌, some, later, ◌$◌, ◌∵◌, !, qed, move, drop, use0, use1, use2, join, split, split3, pick, rewrite, fsplit, fjoin, fpack, feq_l, feq_i, flt_l, flt_i, suffices, await, done}
use types.Part.{agg}
use types.Run.{no_more, and_then, of_opd, lit, returns, enter}
use types.ByLocal.{alloc_all, pass_all, free_all, look_at, get, sets, lands_as}
use denote.RattleType.{RattleType, owns}
use denote.Builtin.{RawPtr, usize, i64, u8}
use denote.Exit.{yes}
use denote.Laws.{Typed}
use denote.Param.{layout}
use denote.RawPtr.{Ptr, block_ptr, ptr_val, InBlock, ◌+ₚ◌}
use denote.Signature.{plain, types_at}
use denote.Steps.{heard, nothing, only}
use denote.Struct.Struct.{as_fields}
use denote.Triple.Call.{calls_at}
use denote.Triple.Clauses.{Ended, Clauses, Lasts, lasts}
use denote.Triple.Entry.{alive}
use denote.Triple.Spec.{triple_of}
use denote.Triple.Statement.{Contract}
use denote.Triple.Table.{entered}
use denote.Triple.Walked.{says, Stays, stay_dropped, walk_of, ends_at, walk_Meets}
use Rattle.core.proofs.alloc.Calls.{Goes-blank}
use Rattle.core.specs.contracts.marker.PhantomData as Phantom
use Rattle.std_alloc.specs.Vec.Ownership.{lodged}
use Rattle.std_alloc.specs.contracts.vec.Vec as V
use Rattle.std_alloc.proofs.VecSteps.El.{vec_val, vec_typed}
use Rattle.std_alloc.proofs.VecSteps.Opens.{vec_had}
use Rattle.std_heap.specs.contracts.Global
use Rattle.std_heap.specs.contracts.GlobalAllocator.TheImpl.{ghosts}
use Rattle.sel_bits.specs.contracts.lent.Lent as lent
use Rattle.sel_bits.specs.contracts.two_lists.Carved as carved
use Rattle.sel_bits.specs.contracts.two_lists.bytes_behind as behind
use Rattle.sel_bits.proofs.two_lists.bytes_behind.Met as behind_met
use Rattle.sel_bits.specs.contracts.two_lists.carve as F
use Rattle.sel_bits.specs.contracts.two_lists.carve.Key.{name as #self}
use Rattle.sel_bits.proofs.two_lists.carve.Statement.{statement}
use Rattle.sel_bits.proofs.two_lists.carve.Code as code
use Rattle.sel_bits.proofs.LentSteps.{three, memory_in}
use Rattle.sel_bits.proofs.Carving.{Owned, apart, places, triple, triple_in}
use Rattle.sel_bits.proofs.TwoListSteps.{empty, pair}

abbrev List64 : RattleType
List64 = V.the_row i64 Global.the_row ghosts

pub carve_spec : {M : Type 1} → statement M
unfolding tables_of
carve_spec 𝓤 𝓛 𝓜 𝓡 wired =
    let H = 𝓛.H in let 𝓣 : Tables 𝓤 H = tables_of 𝓤 H 𝓜 (tables 𝓤 H 𝓜 𝓡 𝓡.env) in
    let fn : Fn = code.function in
    let Tr : Ended = F.ended in
    let c : Clauses 𝓤 Tr = F.clauses 𝓛 𝓜.mem 𝓡.returns in
    let hs : Stays Tr.signature.params Tr.kept = (stay_dropped (plain (λ _. List64)) yes, (stay_dropped (plain (λ _. RawPtr)) yes, (stay_dropped (plain (λ _. usize)) yes, (stay_dropped (plain (λ _. usize)) yes, tt)))) in
    let W = walk_of 𝓛 Tr hs c in
    let Behind : Contract 𝓤 = triple_of 𝓛 behind.signature (behind.spec 𝓛 𝓜.mem 𝓡.returns) in
    entered 𝓤 H (triple_of 𝓛 Tr.signature (F.spec 𝓛 𝓜.mem 𝓡.returns)) 𝓣.C 𝓣.Λ #self fn (code.unfolded 𝓤 H 𝓜 𝓡 wired)
    (walk_Meets 𝓛 Tr hs (Goes-blank 𝓛 0 (plain (λ _. List64)) yes (λ κs x f. tt), (Goes-blank 𝓛 0 (plain (λ _. RawPtr)) yes (λ κs x f. tt), (Goes-blank 𝓛 0 (plain (λ _. usize)) yes (λ κs x f. tt), (Goes-blank 𝓛 0 (plain (λ _. usize)) yes (λ κs x f. tt), tt)))) c (WpFn 𝓤 H 𝓣.C 𝓣.Λ fn) (WpFn-mono 𝓤 H 𝓛.laws 𝓣 fn) (λ z.
    let d = z.0.3.0 in let at = z.0.3.1.0 in let len = z.0.3.1.1.0 in let room = z.0.3.1.1.1.0 in
    let toks = alive 𝓛 Tr.signature z.0.0 z.0.1 in
    let Asked = (d.ptr ≡ at) × (d.len ≡ len) × (0 < len) × (len < d.cap) × (room ≡ 8 * (d.cap - len)) in
    qed 𝓛 ((raw toks ⊛ ‵ (owns (types_at Tr.signature.params z.0.0) z.0.3 z.0.4)) ∷ raw (fact 𝓤 Asked) ∷ []) ∵
    move ! (1 ∷ []) $ heard ! Asked (λ asked. split ! $ move ! (1 ∷ []) $ fsplit ! $
    vec_had Owned ! d z.0.4.0 (λ b o hv e is fn' fc fit fa.
    let same_len : d.len ≡ len = asked.1 in let few : 0 < len = asked.2 in let spare : len < d.cap = asked.3 in
    let same_room : 8 * (d.cap - d.len) ≡ room = ap (λ (j : ℕ). 8 * (d.cap - j)) same_len ∙ sym asked.4 in
    let far : ℕ = o + len * 8 in let u : Val = vec_val Owned hv b o d.len d.cap in let good = vec_typed Owned hv b o d.len d.cap fa fn' fc in
    use2 𝓛 (‵ (lodged i64 (block_ptr b o) d.len d.len d.items) ⊛ ‵ (lodged u8 (block_ptr b (o + d.len * 8)) 0 (8 * (d.cap - d.len)) []) ⊛ ‵ (carved.the_own i64 u8 (places 𝓛 d b o hv) (pair u empty ∷ [])))
    (apart 𝓛 d b o hv e (omega arith) (omega arith) fn' fc fit) $ split3 ! $
    rewrite ! 0 (λ (j : ℕ). ‵ (lodged i64 (block_ptr b o) j j d.items)) same_len refl $
    rewrite ! 1 (λ (j : ℕ). ‵ (lodged u8 (block_ptr b (o + j * 8)) 0 (8 * (d.cap - d.len)) [])) same_len refl $
    rewrite ! 1 (λ (j : ℕ). ‵ (lodged u8 (block_ptr b far) 0 j [])) same_room refl $
    -- [the values; the bytes; what joins them; the other arguments; the tokens]
    move ! (3 ∷ []) $ fsplit ! $ feq_l ! (λ at_is. fsplit ! $ fsplit ! $ feq_l ! (λ len_is. flt_l ! (λ fl. fsplit ! $ fsplit ! $ feq_l ! (λ room_is. flt_l ! (λ fr. drop ! $
    let there = at_is ∙ ap (λ (p : Ptr). ptr_val p ∷ []) (sym asked.0 ∙ e) in
    let us : List Val = u ∷ vptr b o ∷ vint w64 len ∷ vint w64 room ∷ [] in
    suffices ! (WpFn 𝓤 H 𝓣.C 𝓣.Λ fn us (W.post z)) (subst (λ (ws : List Val). ent 𝓤 (WpFn 𝓤 H 𝓣.C 𝓣.Λ fn us (W.post z)) (WpFn 𝓤 H 𝓣.C 𝓣.Λ fn ws (W.post z))) (sym (λ i. is i ++ (there i ++ (len_is i ++ (room_is i ++ []))))) (id⊢ 𝓤 (WpFn 𝓤 H 𝓣.C 𝓣.Λ fn us (W.post z)))) $
    enter ! 𝓣.C 𝓣.Λ fn us (W.post z) $ alloc_all ! (λ l. pass_all ! refl (good, ((tt, tt), ((tt, record { fits = fl }), ((tt, record { fits = fr }), tt)))) $
    let Reached = InBlock (block_ptr b o) × (len * 8 < 2 ^ 64) in
    let y : Behind.Ghost = ((z.0.0, z.0.1, tt, (block_ptr b o, (len, tt)), (vptr b o ∷ [], (vint w64 len ∷ [], tt))), tt) in
    use0 𝓛 (raw (fact 𝓤 Reached)) (fact_i 𝓤 Reached (emp 𝓤) (tt, omega arith)) $
    nothing ! $ flt_i ! len (2 ^ 64) fl $ feq_i ! (List Val) (vint w64 len ∷ []) (vint w64 len ∷ []) refl $ fjoin ! $ fjoin ! $
    feq_i ! (List Val) (vptr b o ∷ []) (vptr b o ∷ []) refl $ fjoin ! $ nothing ! $ join ! $ join ! $
    use1 𝓛 (raw (Behind.pre y)) (id⊢ 𝓤 _) $
    calls_at ! (fm_of 𝓤 H 𝓛.laws 𝓣) Behind (behind_met.met 𝓤 𝓛 𝓜 𝓡 (code.calls-sel_bits::two_lists::bytes_behind 𝓡.env wired)) y
    (and_then ! (get ! refl) (and_then ! (get ! refl) (no_more !))) (λ w.
    use1 𝓛 (later (some (λ (r : Ptr). (‵ ftrue ⊛ ‵ (RawPtr.own_val r (w ∷ []))) ⊛ some (λ (ws : Lasts behind.ended z.0.0 y.0.3).
    ‵ (lasts behind.ended z.0.0 y.0.3 ws) ⊛ raw (fact 𝓤 (r ≡ block_ptr b o +ₚ len * 8)))))) (id⊢ 𝓤 _) $
    await ! tt $ pick ! (λ r. split ! $ move ! (1 ∷ []) $ pick ! (λ ws. split ! $ drop ! $ heard ! (r ≡ block_ptr b o +ₚ len * 8) (λ same.
    split ! $ drop ! $ feq_l ! (λ is_r.
    lands_as ! (ap only is_r ∙ ap ptr_val same) refl (tt, tt) $
    sets ! (agg ! (and_then ! (get ! refl) (and_then ! (get ! refl) (and_then ! (get ! refl) (no_more !))))) refl (tt, (tt, (record { fits = fl }, (record { fits = fl }, tt)))) $
    sets ! (agg ! (and_then ! (get ! refl) (and_then ! (lit ! tt) (and_then ! (get ! refl) (no_more !))))) refl (tt, (tt, (record { fits = lit< tt }, (record { fits = fr }, tt)))) $
    sets ! (of_opd ! (get ! refl)) refl good $
    sets ! (agg ! (no_more !)) refl (tt, tt) $
    let inner = as_fields (layout List64 ∷ layout (Phantom.the_row u8) ∷ []) (u ∷ empty ∷ []) (good, ((tt, tt), tt)) in
    sets ! (agg ! (and_then ! (get ! refl) (and_then ! (get ! refl) (no_more !)))) refl inner $
    let front : Val = three (vptr b o) len len in let back : Val = three (vptr b far) 0 room in let rest : Val = pair u empty in
    sets ! (agg ! (and_then ! (get ! refl) (and_then ! (get ! refl) (and_then ! (get ! refl) (no_more !))))) refl
    (as_fields (layout (lent.the_row i64) ∷ layout (lent.the_row u8) ∷ layout (carved.the_row i64 u8) ∷ []) (front ∷ back ∷ rest ∷ [])
    ((tt, (tt, (record { fits = fl }, (record { fits = fl }, tt)))), ((tt, (tt, (record { fits = lit< tt }, (record { fits = fr }, tt)))), (inner, tt)))) $
    returns ! (look_at ! 0 refl) $ free_all ! refl $
    -- [the values; the bytes; what joins them; the tokens]
    let v0 : (lent.the_row i64).Denot = record { at = block_ptr b o; len = len; room = len; items = d.items; counted = (sym same_len ∙ d.ok.0, omega arith); small = omega (arith, d.small) } in
    let v1 : (lent.the_row u8).Denot = record { at = block_ptr b far; len = 0; room = room; items = []; counted = (refl, omega arith); small = omega (arith, fit) } in
    let v2 : (carved.the_row i64 u8).Denot = places 𝓛 d b o hv in
    move ! (2 ∷ []) $ nothing ! $ fpack ! (Typed (carved.the_row i64 u8).mir (rest ∷ [])) (λ _. ftrue) (inner, tt) $ fjoin ! $
    move ! (1 ∷ []) $ memory_in i64 ! b o len len d.items fl fl $ use1 𝓛 (‵ ((lent.the_row i64).own_val v0 (front ∷ []))) (id⊢ 𝓤 _) $
    move ! (2 ∷ []) $ memory_in u8 ! b far 0 room [] (lit< tt) fr $ use1 𝓛 (‵ ((lent.the_row u8).own_val v1 (back ∷ []))) (id⊢ 𝓤 _) $ move ! (1 ∷ 0 ∷ []) $
    triple_in ! (lent.the_row i64) (lent.the_row u8) (carved.the_row i64 u8) v0 v1 v2 front back rest $
    suffices ! _ (ends_at 𝓛 Tr hs c z (triple front back rest) (v0, v1, v2) (tt, (tt, (tt, (tt, tt)))) (tt, (tt, (tt, (tt, tt))))) $
    says ! (refl, refl, (refl, sym same_len, sym same_len, ap (λ (j : ℕ). block_ptr b (o + j * 8)) (sym same_len), sym same_room), refl, refl) $
    nothing ! $ nothing ! $ fjoin ! $ nothing ! $ fjoin ! $ nothing ! $ fjoin ! $ nothing ! $ fjoin ! $ join ! $ move ! (1 ∷ 0 ∷ []) $ join ! $ done !)))))))))))))))
