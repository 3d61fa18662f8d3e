use Rattle.sel_gather.proofs.Common.{◌≡◌, ◌++◌, ◌∙◌, ap, sym, arith, subst, map, pos, ℤ, List, OnOk, binary_rows, Null, ends_from, bytes_needed}
use Rattle.sel_gather.proofs.ValidBytes.{nulls_ends, same_ends, source_below, source_inside, source_live, source_picked}
use Rattle.sel_runs.proofs.RunLists.{pick_nulls}
use Rattle.sel_gather.proofs.binary.push_ends.Goals as goal

pub bounds-sources-source : goal.bounds-sources-source
bounds-sources-source c = source_below (λ s. binary_rows s.now) c.args.sources.now c.args.run c.in-Some.source c.in-Some.is c.requires.fits c.if-run-eq0.false

pub push_row_ends-requires : goal.push_row_ends-requires
push_row_ends-requires c =
    let picked = source_picked (λ s. binary_rows s.now) c.args.sources.now c.args.run c.in-Some.source c.in-Some.is c.requires.fits c.if-run-eq0.false c.index-sources-source.result c.index-sources-source.is in
    record {
      inside = source_inside (λ s. binary_rows s.now) c.args.sources.now c.args.run c.in-Some.source c.in-Some.is c.requires.fits c.if-run-eq0.false c.index-sources-source.result c.index-sources-source.is;
      live = source_live (λ s. binary_rows s.now) c.args.sources.now c.args.run c.in-Some.source c.in-Some.is c.requires.fits c.if-run-eq0.false c.index-sources-source.result c.index-sources-source.is c.requires.live;
      room = omega (arith, ap bytes_needed picked, c.requires.room);
    }

pub returns-in-None-clause-ends : goal.returns-in-None-clause-ends
returns-in-None-clause-ends c =
    let none = ap (λ l. map pos (ends_from c.args.before l)) (pick_nulls Null (map (λ s. binary_rows s.now) c.args.sources.now) c.args.run c.in-None.is) ∙ ap (map pos) (nulls_ends c.args.before c.args.run.len) ∙ same_ends c.args.run.len c.args.before in
    subst (λ (l : List ℤ). OnOk c.push_same_ends.result (c.push_same_ends.new.ends.items ≡ c.args.ends.now.items ++ l)) (sym none) c.push_same_ends.ensures.ends

pub returns-in-Some-clause-ends : goal.returns-in-Some-clause-ends
returns-in-Some-clause-ends c =
    let picked = source_picked (λ s. binary_rows s.now) c.args.sources.now c.args.run c.in-Some.source c.in-Some.is c.requires.fits c.if-run-eq0.false c.index-sources-source.result c.index-sources-source.is in
    subst (λ (l : List ℤ). OnOk c.push_row_ends.result (c.push_row_ends.new.ends.items ≡ c.args.ends.now.items ++ l)) (ap (λ l. map pos (ends_from c.args.before l)) (sym picked)) c.push_row_ends.ensures.ends
