use Rattle.sel_c.proofs.Common.{length-map, type_of, Value, Null, ArrayRef, Column, pick, PickFits, Shape, length_mismatch, ExceedsNone, IsLimitOrMemory, picks_from, depth}
use Rattle.std.proofs.Common.{rules, arith, ◌≡◌, ◌≤◌, ◌<◌, ◌∙◌, All, Bor, ap, sym, subst, map, length, List}
use Rattle.sel_kernels.proofs.Flattening.{as_sources}
use Rattle.sel_gather.specs.Sources.{first_type}
use Rattle.sel_c.proofs.{Depths.first_depth, Alike.alike_columns, Alike.first_same, Alike.of_clones, PickWords.rows_fit, PickWords.rows_had}
use Rattle.sel_c.proofs.Made.{returns-failed, returns-first, returns-made, returns-refused}
use Rattle.sel_c.proofs.calls.several.collect_picks_into.Goals as goal

pub collect_plan-requires-clause-alike : goal.collect_plan-requires-clause-alike
collect_plan-requires-clause-alike c =
    let lent = ap (map (λ (x : Bor Column). x.now)) c.deref-2.ensures.value ∙ c.in-Ok-columns_of.ensures.columns in
    (as_sources _ c.args.arrays.now lent (search rules) (alike_columns c.args.arrays.now (c.are_alike.ensures.0 c.if-not-are_alike.false))).alike

pub collect_plan-requires-clause-formed : goal.collect_plan-requires-clause-formed
collect_plan-requires-clause-formed c =
    let lent = ap (map (λ (x : Bor Column). x.now)) c.deref-2.ensures.value ∙ c.in-Ok-columns_of.ensures.columns in
    (as_sources _ c.args.arrays.now lent (search rules) (alike_columns c.args.arrays.now (c.are_alike.ensures.0 c.if-not-are_alike.false))).formed

pub collect_plan-requires-clause-fits : goal.collect_plan-requires-clause-fits
collect_plan-requires-clause-fits c =
    let lent = ap (map (λ (x : Bor Column). x.now)) c.deref-2.ensures.value ∙ c.in-Ok-columns_of.ensures.columns in
    let sources = as_sources _ c.args.arrays.now lent (search rules) (alike_columns c.args.arrays.now (c.are_alike.ensures.0 c.if-not-are_alike.false)) in
    let picks = picks_from 0 c.args.validity.now c.args.words.now in
    subst (λ (xss : List (List Value)). All (PickFits xss) picks) (sym sources.rows)
    (rows_fit c.args.arrays.now picks (c.deref.ensures.value ∙ c.in-Ok.ensures.lengths) (c.are_in_bounds.ensures.0 c.if-not-are_in_bounds.false))

pub put-requires : goal.put-requires
put-requires c =
    let same = c.in-Ok-collect_plan.ensures.dtype ∙ ap first_type (ap (map (λ (x : Bor Column). x.now)) c.deref-2.ensures.value ∙ c.in-Ok-columns_of.ensures.columns) ∙ sym (first_same c.args.arrays.now) in
    subst (λ (s : Shape). depth s ≤ 128) (sym same) (first_depth (λ (a : ArrayRef). type_of a.column) c.args.arrays.now 128 c.requires.depth)

pub returns-then-is_empty : goal.returns-then-is_empty
returns-then-is_empty c =
    let none : length c.args.arrays.now ≡ 0 = search rules in
    returns-refused length_mismatch c.args.out.now.tree _ _ _ _ _ (omega arith) (λ some. let long = length-map c.args.arrays.now (λ (a : ArrayRef). type_of a.column) in absurd (omega (arith, none, some, long)))

pub returns-then-not-are_alike : goal.returns-then-not-are_alike
returns-then-not-are_alike c =
    let some : 0 < length c.args.arrays.now = search rules in
    let long = length-map c.args.arrays.now (λ (a : ArrayRef). type_of a.column) in
    returns-first _ _ _ _ _ _ _ _ _ (omega (arith, some, long))
    (returns-refused _ _ _ _ _ _ _ (omega arith) (λ alike. let yes = c.are_alike.ensures.1 alike in absurd (cc (yes, c.if-not-are_alike.true))))

pub returns-then-not-are_in_bounds : goal.returns-then-not-are_in_bounds
returns-then-not-are_in_bounds c =
    let some : 0 < length c.args.arrays.now = search rules in
    let long = length-map c.args.arrays.now (λ (a : ArrayRef). type_of a.column) in
    returns-first _ _ _ _ _ _ _ _ _ (omega (arith, some, long)) (returns-first _ _ _ _ _ _ _ _ _ (c.are_alike.ensures.0 c.if-not-are_alike.false)
    (returns-refused _ _ _ _ _ _ _ (omega arith) (λ all.
    let yes = c.are_in_bounds.ensures.1 (rows_had c.args.arrays.now (picks_from 0 c.args.validity.now c.args.words.now)
    (c.deref.ensures.value ∙ c.in-Ok.ensures.lengths) all) in
    absurd (cc (yes, c.if-not-are_in_bounds.true)))))

pub returns-in-Ok-collect_plan : goal.returns-in-Ok-collect_plan
returns-in-Ok-collect_plan c =
    let arrays = c.args.arrays.now in
    let some : 0 < length arrays = search rules in
    let long = length-map arrays (λ (a : ArrayRef). type_of a.column) in
    let same = c.are_alike.ensures.0 c.if-not-are_alike.false in
    let lent = ap (map (λ (x : Bor Column). x.now)) c.deref-2.ensures.value ∙ c.in-Ok-columns_of.ensures.columns in
    let sources = as_sources _ arrays lent some (alike_columns arrays same) in
    let picks = picks_from 0 c.args.validity.now c.args.words.now in
    let fit = rows_fit arrays picks (c.deref.ensures.value ∙ c.in-Ok.ensures.lengths) (c.are_in_bounds.ensures.0 c.if-not-are_in_bounds.false) in
    let within = of_clones ExceedsNone c.deref-2.result.now arrays picks lent sources.rows c.in-Ok-collect_plan.ensures.within in
    returns-first _ _ _ _ _ _ _ _ _ (omega (arith, some, long)) (returns-first _ _ _ _ _ _ _ _ _ same (returns-first _ _ _ _ _ _ _ _ _ fit
    (returns-made _ _ _ _ _ _ _ c.put.ensures.column c.put.ensures.status
    (c.in-Ok-collect_plan.ensures.rows ∙ ap (λ (xs : List (List Value)). pick Null xs picks) sources.rows)
    (c.in-Ok-collect_plan.ensures.dtype ∙ ap first_type lent ∙ sym (first_same arrays)) within)))

pub returns : goal.returns
returns c =
    let arrays = c.args.arrays.now in
    let some : 0 < length arrays = search rules in
    let long = length-map arrays (λ (a : ArrayRef). type_of a.column) in
    let same = c.are_alike.ensures.0 c.if-not-are_alike.false in
    let lent = ap (map (λ (x : Bor Column). x.now)) c.deref-2.ensures.value ∙ c.in-Ok-columns_of.ensures.columns in
    let sources = as_sources _ arrays lent some (alike_columns arrays same) in
    let picks = picks_from 0 c.args.validity.now c.args.words.now in
    let fit = rows_fit arrays picks (c.deref.ensures.value ∙ c.in-Ok.ensures.lengths) (c.are_in_bounds.ensures.0 c.if-not-are_in_bounds.false) in
    let refusal = of_clones (λ past. IsLimitOrMemory past c.in-Err.fault) c.deref-2.result.now arrays picks lent sources.rows c.in-Err.ensures.refusal in
    returns-first _ _ _ _ _ _ _ _ _ (omega (arith, some, long)) (returns-first _ _ _ _ _ _ _ _ _ same (returns-first _ _ _ _ _ _ _ _ _ fit
    (returns-failed _ _ _ _ _ _ c.status_of.ensures.own.0 c.status_of.ensures.number refusal)))
