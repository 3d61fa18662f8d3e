-- The names that proofs by walks cite, re-exported from one place.
--     turns, turning    the contract of a function that turns one value into another. Assumes `Logic`
--     turned            such a function meets it, if its body turns what the one owns into what the other owns
use Rattle.std.proofs.Common.{◌≡◌, List, [], ◌∷◌, ◌++◌}
pub use Rattle.core.proofs.alloc.Calls.{Al, Goes-blank, handle_tells, token}
pub use Rattle.core.proofs.alloc.Shapes.{after}
pub use Rattle.core.proofs.cell.Inside.{Good}
pub use Rattle.core.proofs.option.Made.{Some-of, none_of}
pub use Rattle.std.proofs.raw_atomic.Walks.{leaves, proved, proved_at}
pub use Rattle.std.specs.Option.{MatchOption}
pub use Rattle.std.specs.contracts.impls.GlobalAllocator.TheImpl.{ghosts}
pub use Rattle.std_alloc.proofs.BoxSteps.Steps.{box_in, box_out}
pub use Rattle.std_alloc.proofs.ResultValues.{and_tt}
pub use Rattle.std_alloc.specs.Box.Ownership.{box_owns}
pub use base.Fml.{Fml, Lft, Share, fbor, fdead, feq, fex, flft, fsep, ftrue, fupd, fwand}
pub use base.Logic.{SProp, emp, ent, fst∗, guard_i, id⊢, never, sep, snd∗, upd_i, via}
pub use contract.BorrowLft.{meet_⊑_left, ◌⊑◌}
pub use contract.Monad.{fact, fact_i, fact_use}
pub use contract.Running.{Running, tables}
pub use denote.Builtin.{RawPtr, SliceRefOf}
pub use denote.Exit.{Exit, Last, hidden, left, no, under, unseen, yes}
pub use denote.Laws.{Is, shows}
pub use denote.Memory.{cell_at, hidden_shr, lone, part_at, shared_of}
pub use denote.Param.{bounded, layout, layouts, param}
pub use denote.Param.Laws.{Laws, param_laws}
pub use denote.RattleType.{RattleType, Valss, owns}
pub use denote.RawPtr.{InBlock, Ptr, Testable, block_ptr, in_a_block, lies_at, null_ptr, ptr_val, tests_null}
pub use denote.Signature.{plain, shr_ref_to, type_at, types_at}
pub use denote.Steps.{heard, looks, nothing, only, peeks, shuts}
pub use denote.Struct.Field.{RawPtr-field}
pub use denote.Struct.Owning.{Owning, row, shape, wholly}
pub use denote.Struct.Struct.{Struct, exits_of, within}
pub use denote.Triple.Call.{calls_at, calls_at_last}
pub use denote.Triple.Clauses.{Clauses, Ended, Lasts, closing, lasts}
pub use denote.Triple.Spec.{Meets, triple_of}
pub use denote.Triple.Statement.{Contract}
pub use denote.Triple.Table.{entered}
pub use denote.Triple.Walked.{Goes-dropped, Stays, ends_at, says, stay_dropped, walk_Meets, walk_of}
pub use lib.Dec.{T}
pub use mir.MapTy.{inst_fn}
pub use mir.Raw.{raw as bare}
pub use mir.Syntax.{Args, Body, Callee, Fn, Lifetime, Sym, Ty, a_type, addr_of, aggregate, assign, block, cond, copy, dcons, deref, dnil}
pub use mir.Syntax.{erased, field, imm, impl, int, local, named, op2, place, ptr_eq, return, rv_opd, seq, tcons, tnil, ttcons, ttnil}
pub use mir.Syntax.{ty_bool, ty_enum, ty_int, ty_ptr, ty_ref, ty_struct, value_local, w64, w8}
pub use mir.Val.{Val, WT, has_ty, of_list, vcons, vnil, vptr, vstruct}
pub use prog.Model.{Model}
pub use prog.Wp.{Closed, Tables, Wp, WpFn, after_seq, at_return}
pub use seplogic.Ra.Ura.{Ura}
pub use sound.WpLaws.{WpFn-mono, fm_of}
pub use types.ByLocal.{alloc_all, env, free_all, get, get_in, lands_as, lands_last, look_at, look_in_at, pass_all, sets, sets_last, through}
pub use types.Kit.{ !, Goal, Item, Seq, Soaks, Step, any_q, assume, at_ret, await, by, done, drop, feq_i, feq_l, fjoin, flt_l, fpack, fpick}
pub use types.Kit.{fsplit, fsplit3, given, join, keep, later, learn, move, now, pick, prop, qed, raw, regoal, rewrite, some, split, split3}
pub use types.Kit.{step, suffices, updating, use0, use1, use2, ‵, ◌$◌, ◌∵◌, ◌⊛◌}
pub use types.Logic.{Logic, sem}
pub use types.Match.{live}
pub use types.Part.{agg, look_in, sub, whole}
pub use types.Run.{addr, and_then, bin, blocks, branches, enter, exec, first, fld, from, hop, lit, load, no_more, of_opd, returns, stop}

abbrev pub turns : RattleType → RattleType → Ended
turns A B = record {
  signature = record { lifetimes = 0; outlives = []; params = plain (λ κs. A) ∷ []; result = plain (λ κs. B) };
  kept = (yes, tt);
}

-- It requires nothing, and ensures a fact on both values.
abbrev pub turning : {M : Type 1} {𝓤 : Ura M} (𝓛 : Logic 𝓤) (A B : RattleType) → (A.Denot → B.Denot → Type 0) → Clauses 𝓤 (turns A B)
turning {M} {𝓤} 𝓛 A B says_of κs a = record {
  ghost = Unit {0};
  requires = λ g. sem 𝓛 ftrue;
  ensures = λ g r e. fact 𝓤 (says_of a.0 r);
}

-- The contract says nothing about the value that is moved.
module _ {M : Type 1} {𝓤 : Ura M} (𝓛 : Logic 𝓤) (𝓜 : Model 𝓤 𝓛.H) (𝓡 : Running 𝓤 𝓛.H 𝓜) (A B : RattleType) (says_of : A.Denot → B.Denot → Type 0) where
  open 𝓛 use {H}

  pub turned : ((d : A.Denot) → Last (A.exit yes) d) → ((d : A.Denot) (f : Last (A.exit yes) d) → left (A.exit yes) d f ≡ ftrue)
      → (fn : Fn) {k : Callee} → Closed 𝓤 H (tables 𝓤 H 𝓜 𝓡 𝓡.env).C (tables 𝓤 H 𝓜 𝓡 𝓡.env).Λ k fn
      → ((a : A.Denot) (vs : List Val) (Post : Val → SProp 𝓤) → ((r : B.Denot) (w : Val) → says_of a r → ent 𝓤 (sem 𝓛 (B.own_val r (w ∷ []))) (Post w))
      → ent 𝓤 (sem 𝓛 (A.own_val a vs)) (WpFn 𝓤 H (tables 𝓤 H 𝓜 𝓡 𝓡.env).C (tables 𝓤 H 𝓜 𝓡 𝓡.env).Λ fn (vs ++ []) Post))
      → Meets 𝓛 (turns A B).signature ((tables 𝓤 H 𝓜 𝓡 𝓡.env).C k) (closing 𝓛 (turns A B) (turning 𝓛 A B says_of))
  turned last silent fn {k} closed body =
      let T = turns A B in let c = turning 𝓛 A B says_of in let hs : Stays T.signature.params T.kept = (stay_dropped (plain (λ _. A)) yes, tt) in
      proved_at 𝓛 T hs c 𝓜 𝓡 (Goes-dropped 𝓛 0 (plain (λ _. A)) yes (λ κs. silent), tt) k fn closed (λ z are.
      qed 𝓛 ((‵ ftrue ⊛ ‵ (owns (types_at T.signature.params z.0.0) z.0.3 z.0.4)) ∷ ‵ ftrue ∷ []) ∵ split ! $ drop ! $ fsplit ! $ keep ! (0 ∷ []) $
      by ! (body z.0.3.0 z.0.4.0 ((walk_of 𝓛 T hs c).post z) (λ r w told. qed 𝓛 (‵ (B.own_val r (w ∷ [])) ∷ []) ∵
      suffices ! _ (ends_at 𝓛 T hs c z w r (last z.0.3.0, tt) (tt, tt)) $ says ! told $ nothing ! $ nothing ! $ fjoin ! $ join ! $ nothing ! $ join ! $ done !)))
