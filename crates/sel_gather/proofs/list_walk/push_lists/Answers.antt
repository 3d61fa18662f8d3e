use Rattle.sel_gather.proofs.Common.{◌≡◌, ◌∙◌, ◌++◌, ◌∷◌, [], ◌+◌, ◌<◌, arith, ap, sym, map, pos, w64, length, length-append, take, refl, to_z_pos, Null, All}
use Rattle.sel_gather.proofs.Common.{All-append, err_from_is_err_and, found, map-append, subst, PickFits, joined_items, item_ends, pick, expand, unrolled}
use Rattle.sel_gather.proofs.ItemRuns.{rows_of, below_of, counted_row, joined_part, ends_more, items_more, pushed_fit, all_rows}
use Rattle.sel_runs.proofs.RunLists.{length-pick}
use Rattle.sel_gather.proofs.{ValidLists.valid_count, ValidLists.valid_ends, ValidLists.valid_fit, ValidLists.valid_items}
use Rattle.sel_gather.proofs.list_walk.push_lists.Goals as goal

-- ---- lists of which none is null

pub returns-in_err-end-clause-refusal : goal.returns-in_err-end-clause-refusal
returns-in_err-end-clause-refusal c =
    let count = valid_count c.args.sources.now c.requires.lists c.requires.formed _ c.in-Some.ensures.rising c.args.run c.in-Some.ensures.parts c.in-Some.ensures.inside c.requires.fits in
    let p = err_from_is_err_and c.from_residual.result c.from_residual.ensures.1 in
    rw (p.1, p.2, ← count) c.in_err-end.ensures.refusal

pub returns-in-Some-clause-ends : goal.returns-in-Some-clause-ends
returns-in-Some-clause-ends c =
    c.in_ok-end.ensures.ends ∙ ap (λ l. c.args.ends.now.items ++ map pos l) (valid_ends c.args.sources.now c.requires.lists c.requires.formed _ c.in-Some.ensures.rising c.args.run c.in-Some.ensures.parts c.in-Some.ensures.inside c.requires.fits c.args.start)

pub returns-in-Some-clause-items : goal.returns-in-Some-clause-items
returns-in-Some-clause-items c =
    let yss = below_of c.args.sources.now in
    let old = expand (c.args.below.now.items ++ c.args.last.now ∷ []) in
    ap (pick Null yss) c.in_ok-end.ensures.items ∙ map-append (found Null yss) old _ ∙ ap (λ l. pick Null yss old ++ l) (valid_items c.args.sources.now c.requires.lists c.requires.formed _ c.in-Some.ensures.rising c.args.run c.in-Some.ensures.parts c.in-Some.ensures.inside c.requires.fits)

pub returns-in-Some-clause-sound : goal.returns-in-Some-clause-sound
returns-in-Some-clause-sound c =
    let yss = below_of c.args.sources.now in
    subst (All (PickFits yss)) (sym c.in_ok-end.ensures.items) (All-append (PickFits yss) (expand (c.args.below.now.items ++ c.args.last.now ∷ [])) _ c.requires.sound (valid_fit c.args.sources.now c.requires.lists c.requires.formed _ c.in-Some.ensures.rising c.args.run c.in-Some.ensures.parts c.in-Some.ensures.inside c.requires.fits))

pub returns-in-Some-clause-end : goal.returns-in-Some-clause-end
returns-in-Some-clause-end c = c.in_ok-end.ensures.end ∙ ap (λ n. c.args.start + n) (valid_count c.args.sources.now c.requires.lists c.requires.formed _ c.in-Some.ensures.rising c.args.run c.in-Some.ensures.parts c.in-Some.ensures.inside c.requires.fits)

-- ---- lists one by one

pub put_run-requires : goal.put_run-requires
put_run-requires c =
    let xss = rows_of c.args.sources.now in
    let yss = below_of c.args.sources.now in
    let items = joined_items 0 (take c.loop-i.i (pick Null xss (unrolled c.args.run))) in
    let long = sym (length-pick Null yss (expand (c.loop-i.below.items ++ c.loop-i.last ∷ []))) ∙ ap length c.loop-i.invariant.items ∙ length-append (pick Null yss (expand (c.args.below.now.items ++ c.args.last.now ∷ []))) items in
    omega (arith, long, length-pick Null yss (expand (c.args.below.now.items ++ c.args.last.now ∷ [])), c.requires.count, c.loop-i.invariant.count)

pub loop-i-preserved : goal.loop-i-preserved
loop-i-preserved c =
    let xss = rows_of c.args.sources.now in
    let yss = below_of c.args.sources.now in
    let rows = pick Null xss (unrolled c.args.run) in
    let one = c.run_of_row-one.result in
    let counted = counted_row 0 yss xss c.args.run one c.loop-i.i _ c.loop-i-test.true c.run_of_row-one.ensures.items refl in
    let end = c.loop-i.end + one.len in
    let is : end ≡ c.args.start + length (joined_items 0 (take (c.loop-i.i + 1) rows)) = omega (arith, counted, c.loop-i.invariant.count) in
    let small : end < 9223372036854775808 = omega arith in
    record {
      count = is;
      ends = ends_more xss c.args.run c.loop-i.i c.args.start end c.args.ends.now.items c.loop-i.ends.items c.push.new.self.items _ c.loop-i-test.true is (to_z_pos w64 end small) c.loop-i.invariant.ends c.in_ok-push.ensures.items;
      items = items_more 0 yss xss (c.args.below.now.items ++ c.args.last.now ∷ []) (c.loop-i.below.items ++ c.loop-i.last ∷ []) (c.put_run.new.runs.items ++ c.put_run.new.last ∷ []) c.args.run one c.loop-i.i c.loop-i-test.true c.in_ok-put_run.ensures.picks c.loop-i.invariant.items c.run_of_row-one.ensures.items;
      sound = pushed_fit yss (c.loop-i.below.items ++ c.loop-i.last ∷ []) (c.put_run.new.runs.items ++ c.put_run.new.last ∷ []) one c.in_ok-put_run.ensures.picks c.loop-i.invariant.sound c.run_of_row-one.ensures.fits;
    }

pub returns-clause-ends : goal.returns-clause-ends
returns-clause-ends c =
    c.loop-i.invariant.ends ∙ ap (λ l. c.args.ends.now.items ++ l) (all_rows (λ l. map pos (item_ends c.args.start l)) (rows_of c.args.sources.now) c.args.run c.loop-i.i c.loop-i-test.false)

pub returns-clause-items : goal.returns-clause-items
returns-clause-items c =
    c.loop-i.invariant.items ∙ ap (λ l. pick Null (below_of c.args.sources.now) (expand (c.args.below.now.items ++ c.args.last.now ∷ [])) ++ l) (all_rows (joined_items 0) (rows_of c.args.sources.now) c.args.run c.loop-i.i c.loop-i-test.false)

pub returns-clause-end : goal.returns-clause-end
returns-clause-end c =
    c.loop-i.invariant.count ∙ all_rows (λ l. c.args.start + length (joined_items 0 l)) (rows_of c.args.sources.now) c.args.run c.loop-i.i c.loop-i-test.false

pub returns-then-one-end-clause-refusal : goal.returns-then-one-end-clause-refusal
returns-then-one-end-clause-refusal c =
    let xss = rows_of c.args.sources.now in
    let rows = pick Null xss (unrolled c.args.run) in
    let counted = counted_row 0 (below_of c.args.sources.now) xss c.args.run c.run_of_row-one.result c.loop-i.i _ c.loop-i-test.true c.run_of_row-one.ensures.items refl in
    omega (arith, counted, c.loop-i.invariant.count, joined_part 0 rows (c.loop-i.i + 1), c.if-one-end.true)
