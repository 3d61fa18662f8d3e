-- `start_of` reads the first word of a slice.
use Rattle.std.proofs.Common.{List, [], ◌∷◌, ◌++◌, length, refl}
use Rattle.sel_ffi.proofs.Walks.{ !, a_type, addr, alloc_all, Args, block_ptr, Clauses, done, drop, Ended, ends_at, enter, entered, feq_i, feq_l, fjoin, fld}
use Rattle.sel_ffi.proofs.Walks.{flt_l, Fn, free_all, from, fsplit, Goes-dropped, hop, inst_fn, keep, layouts, look_at, look_in_at, move, nothing, owns, param}
use Rattle.sel_ffi.proofs.Walks.{pass_all, plain, prop, qed, raw, regoal, returns, says, sets, SliceRefOf, split, SProp, stay_dropped, Stays, stop, sub}
use Rattle.sel_ffi.proofs.Walks.{suffices, Tables, tables, triple_of, types_at, Val, vptr, walk_Meets, walk_of, whole, WpFn, WpFn-mono, yes, ‵, ◌$◌, ◌∵◌, ◌⊛◌}
use contract.Running.{tables_of}
use denote.{Slice.slice_val, Triple.Entry.alive}
use Rattle.sel_ffi.{specs.contracts.showing.start_of.Key.name as #self, proofs.showing.start_of.Statement.statement}
use Rattle.sel_ffi.specs.contracts.showing.start_of as F
use Rattle.sel_ffi.proofs.showing.start_of.Code as code

pub start_of_spec : {M : Type 1} → statement M
unfolding tables_of
start_of_spec 𝓤 𝓛 𝓜 𝓡 wired X LX =
    let H = 𝓛.H in let 𝓣 : Tables 𝓤 H = tables_of 𝓤 H 𝓜 (tables 𝓤 H 𝓜 𝓡 𝓡.env) in
    let args : Args = layouts (a_type ∷ []) (X, tt) in let fn : Fn = inst_fn args code.function in
    let Tr : Ended = F.ended X in let c : Clauses 𝓤 Tr = F.clauses X 𝓛 𝓜.mem 𝓡.returns in
    let hs : Stays Tr.signature.params Tr.kept = (stay_dropped (SliceRefOf (0 ∷ []) tt (plain (λ _. param 0 X)) (λ _. tt)) yes, tt) in
    entered 𝓤 H (triple_of 𝓛 Tr.signature (F.spec X 𝓛 𝓜.mem 𝓡.returns)) 𝓣.C 𝓣.Λ (#self args) fn (code.unfolded 𝓤 H 𝓜 𝓡 wired (X, tt))
    (walk_Meets 𝓛 Tr hs (Goes-dropped 𝓛 2 (SliceRefOf (0 ∷ []) tt (plain (λ _. param 0 X)) (λ _. tt)) yes (λ κs x f. refl), tt) c (WpFn 𝓤 H 𝓣.C 𝓣.Λ fn) (WpFn-mono 𝓤 H 𝓛.laws 𝓣 fn) (λ z.
    let a = z.0.3 in let vss = z.0.4 in let xs = a.0.now in let b = a.0.ref_ptr.0 in let o = a.0.ref_ptr.1 in
    let Post : Val → SProp 𝓤 = (walk_of 𝓛 Tr hs c).post z in
    qed 𝓛 ((raw (alive 𝓛 Tr.signature z.0.0 z.0.1) ⊛ ‵ (owns (types_at Tr.signature.params z.0.0) a vss)) ∷ raw ((c z.0.0 a).requires z.1) ∷ []) ∵
    keep ! (0 ∷ []) $ split ! $ move ! (1 ∷ []) $ fsplit ! $ fsplit ! $ fsplit ! $ feq_l ! (λ is. fsplit ! $ flt_l ! (λ count. flt_l ! (λ size. drop ! $ drop ! $
    regoal ! (λ (us : List Val). prop (WpFn 𝓤 H 𝓣.C 𝓣.Λ fn (us ++ []) Post)) is refl $
    enter ! 𝓣.C 𝓣.Λ fn (slice_val (b, o) (length xs) ∷ []) Post $ alloc_all ! (λ l. pass_all ! refl ((tt, (tt, (record { fits = count }, tt))), tt) $
    sets ! (addr ! (from ! (fld ! refl (hop ! (look_in_at ! 1 (sub ! 0 refl (whole !))) (stop !))))) refl (tt, tt) $
    returns ! (look_at ! 0 refl) $ free_all ! refl $ feq_i ! (List Val) (vptr b o ∷ []) (vptr b o ∷ []) refl $
    suffices ! _ (ends_at 𝓛 Tr hs c z (vptr b o) (block_ptr b o) (tt, tt) (tt, tt)) $ says ! refl $
    nothing ! $ nothing ! $ fjoin ! $ move ! (2 ∷ 0 ∷ 1 ∷ []) $ done !))))))
