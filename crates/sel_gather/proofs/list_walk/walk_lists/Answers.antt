use Rattle.sel_gather.proofs.Common.{◌≤◌, ◌∙◌, ◌++◌, ◌∷◌, [], ◌+◌, arith, ap, sym, subst, All, length-append, length, take, err_from_is_err_and, Null}
use Rattle.sel_gather.proofs.Common.{item_ends, map, pos, refl, rules, joined_items, ExceedsRows, pick, PickFits, expand, unrolled, take_all}
use Rattle.sel_runs.proofs.Walks.{picked_run, run_behind, run_within, run_all}
use Rattle.sel_gather.proofs.Walks.{items_behind, counts_behind, ends_behind, joined_first, past_more}
use Rattle.sel_gather.proofs.{Below.refused_more, ItemRuns.rows_of, ItemRuns.below_of}
use Rattle.sel_runs.proofs.Gathers.{left_all}
use Rattle.sel_runs.proofs.RunLists.{length-unrolled, expand-push, length-pick}
use Rattle.sel_gather.proofs.list_walk.walk_lists.Goals as goal

pub push_lists-requires-clause-fits : goal.push_lists-requires-clause-fits
push_lists-requires-clause-fits g c =
    let ps = g.P.Plan.picks c.args.plan.now in
    let left = left_all (PickFits (rows_of c.args.sources.now)) ps (g.P.Plan.picks c.loop-at.rest) c.loop-at.at c.loop-at.invariant.rest c.requires.fits in
    run_all (PickFits (rows_of c.args.sources.now)) (g.P.Plan.picks c.loop-at.rest) _ c.next_run-run.result c.next_run-run.ensures.picks left

pub push_lists-requires-clause-count : goal.push_lists-requires-clause-count
push_lists-requires-clause-count g c =
    sym (length-pick Null (below_of c.args.sources.now) (expand (c.loop-at.below.items ++ c.loop-at.last ∷ []))) ∙ ap length c.loop-at.invariant.items ∙ sym c.loop-at.invariant.count

pub loop-at-preserved : goal.loop-at-preserved
loop-at-preserved g c =
    let xss = rows_of c.args.sources.now in
    let ps = g.P.Plan.picks c.args.plan.now in
    let left = g.P.Plan.picks c.loop-at.rest in
    let run = c.next_run-run.result in
    let before = pick Null xss (take c.loop-at.at ps) in
    let more = pick Null xss (unrolled run) in
    let now = pick Null xss (take (c.loop-at.at + run.len) ps) in
    let is = picked_run ps left _ run c.loop-at.at c.loop-at.invariant.rest c.next_run-run.ensures.picks Null xss in
    let inside = run_within ps left _ run c.loop-at.at c.loop-at.invariant.rest c.next_run-run.ensures.picks (omega (arith, c.loop-at.invariant.within, c.len-len.ensures.len)) in
    record {
      rest = run_behind ps left _ run c.loop-at.at c.loop-at.invariant.rest c.next_run-run.ensures.picks;
      within = omega (arith, inside, c.len-len.ensures.len);
      count = counts_behind 0 now before more c.loop-at.end _ is c.loop-at.invariant.count c.in_ok-end.ensures.end;
      ends = ends_behind now before more c.loop-at.end c.loop-at.ends.items c.push_lists.new.ends.items is c.loop-at.invariant.count c.loop-at.invariant.ends c.in_ok-end.ensures.ends;
      items = c.in_ok-end.ensures.items ∙ ap (λ l. l ++ joined_items 0 more) c.loop-at.invariant.items ∙ sym (items_behind 0 now before more is);
      sound = c.in_ok-end.ensures.sound;
    }

pub returns-in_err-end-clause-refusal : goal.returns-in_err-end-clause-refusal
returns-in_err-end-clause-refusal g c =
    let xss = rows_of c.args.sources.now in
    let ps = g.P.Plan.picks c.args.plan.now in
    let run = c.next_run-run.result in
    let before = pick Null xss (take c.loop-at.at ps) in
    let more = pick Null xss (unrolled run) in
    let now = pick Null xss (take (c.loop-at.at + run.len) ps) in
    let is = picked_run ps (g.P.Plan.picks c.loop-at.rest) _ run c.loop-at.at c.loop-at.invariant.rest c.next_run-run.ensures.picks Null xss in
    let so_far = c.loop-at.end + length (joined_items 0 more) in
    let counted = counts_behind 0 now before more c.loop-at.end so_far is c.loop-at.invariant.count (omega arith) in
    let below : so_far ≤ length (joined_items 0 (pick Null xss ps)) = omega (arith, counted, joined_first 0 xss ps (c.loop-at.at + run.len)) in
    let p = err_from_is_err_and c.from_residual-in_err-end.result c.from_residual-in_err-end.ensures.1 in
    rw (p.1, p.2) (refused_more (ExceedsRows so_far) (ExceedsRows (length (joined_items 0 (pick Null xss ps)))) c.in_err-end.field-0.0 (past_more so_far _ below) c.in_err-end.ensures.refusal)

pub returns-clause-items : goal.returns-clause-items
returns-clause-items g c =
    let ps = g.P.Plan.picks c.args.plan.now in
    let all = take_all c.loop-at.at ps (omega (arith, c.loop-at-test.false, c.len-len.ensures.len)) in
    ap (pick Null (below_of c.args.sources.now)) (c.in_ok-push_run.ensures.picks ∙ sym (expand-push c.loop-at.below.items c.loop-at.last))
    ∙ c.loop-at.invariant.items ∙ ap (λ l. joined_items 0 (pick Null (rows_of c.args.sources.now) l)) all

pub returns-clause-fits : goal.returns-clause-fits
returns-clause-fits g c =
    subst (All (PickFits (below_of c.args.sources.now))) (sym (c.in_ok-push_run.ensures.picks ∙ sym (expand-push c.loop-at.below.items c.loop-at.last))) c.loop-at.invariant.sound

pub returns-clause-count : goal.returns-clause-count
returns-clause-count g c =
    let yss = below_of c.args.sources.now in
    let all = c.loop-at.below.items ++ c.loop-at.last ∷ [] in
    let long = sym (length-pick Null yss (expand all)) ∙ ap length c.loop-at.invariant.items ∙ sym c.loop-at.invariant.count in
    ap length (c.in_ok-push_run.ensures.picks ∙ sym (expand-push c.loop-at.below.items c.loop-at.last)) ∙ long

pub push_run-requires : goal.push_run-requires
push_run-requires g c =
    let yss = below_of c.args.sources.now in
    let all = c.loop-at.below.items ++ c.loop-at.last ∷ [] in
    let long = sym (length-pick Null yss (expand all)) ∙ ap length c.loop-at.invariant.items ∙ sym c.loop-at.invariant.count in
    let both = ap length (expand-push c.loop-at.below.items c.loop-at.last) ∙ length-append (expand c.loop-at.below.items) (unrolled c.loop-at.last) in
    omega (arith, long, both, length-unrolled c.loop-at.last)

pub returns-clause-ends : goal.returns-clause-ends
returns-clause-ends g c =
    let ps = g.P.Plan.picks c.args.plan.now in
    c.loop-at.invariant.ends ∙ ap (λ l. map pos (0 ∷ item_ends 0 (pick Null (rows_of c.args.sources.now) l))) (take_all c.loop-at.at ps (omega (arith, c.loop-at-test.false, c.len-len.ensures.len)))

pub loop-at-init : goal.loop-at-init
loop-at-init g c =
    let yss = below_of c.args.sources.now in
    let none = c.in_ok-below.ensures.items in
    let last = c.nulls_of-last.result in
    record {
      rest = c.again-rest.ensures;
      within = omega arith;
      count = refl;
      ends = c.in_ok-push.ensures.items ∙ ap (λ l. l ++ pos 0 ∷ []) c.in_ok-ends.ensures.items;
      items = ap (λ l. pick Null yss (expand (l ++ last ∷ []))) none ∙ ap (λ r. pick Null yss (expand (r ∷ []))) c.nulls_of-last.ensures;
      sound = search rules;
    }
