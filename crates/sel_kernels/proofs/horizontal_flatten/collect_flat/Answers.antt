use Rattle.sel_kernels.proofs.Common.{rules, ◌≡◌, ◌∙◌, All, Bor, inr, ap, sym, subst, map, length, arith, err_from_is_err_and, rows, Null, ArrayRef, Column, PickFits}
use Rattle.sel_kernels.proofs.Common.{ExceedsRows, exceeded_taken, first_type, refused_more, few_rows_pass, flatten, lanes_of, rows_picks, pick, HasLeft}
use Rattle.sel_gather.proofs.Within.{passes_neither}
use Rattle.sel_kernels.specs.FlattenPicks.{woven_picks}
use Rattle.sel_kernels.proofs.Flattening.{AsSources, as_sources, first_left, flat_length, paired, rows_woven, sizes, woven_fit}
use Rattle.sel_kernels.proofs.horizontal_flatten.collect_flat.Goals.{After-deref}
use Rattle.sel_kernels.proofs.horizontal_flatten.collect_flat.Goals as goal

pub lanes_of_parts-requires-clause-paired : goal.lanes_of_parts-requires-clause-paired
lanes_of_parts-requires-clause-paired c =
    paired c.args.arrays.now c.args.widths.now c.args.height c.args.len c.requires.some c.requires.fit c.requires.high c.requires.len c.requires.few

pub overflow_cast-height : goal.overflow_cast-height
overflow_cast-height c =
    record { fits = omega (arith, (sizes c.args.arrays.now c.args.widths.now c.args.height c.args.len c.requires.some c.requires.fit c.requires.high c.requires.len c.requires.few).1) }

pub of_rows-woven-requires-clause-some : goal.of_rows-woven-requires-clause-some
of_rows-woven-requires-clause-some c =
    (sizes c.args.arrays.now c.args.widths.now c.args.height c.args.len c.requires.some c.requires.fit c.requires.high c.requires.len c.requires.few).2

pub of_rows-woven-requires-clause-left : goal.of_rows-woven-requires-clause-left
of_rows-woven-requires-clause-left c =
    subst (λ lanes. HasLeft lanes c.args.len (rows_picks 0 c.args.height lanes)) (sym (c.as_slice.ensures.value ∙ c.in_ok-lanes.ensures.lanes))
    (first_left c.args.arrays.now c.args.widths.now c.args.height c.args.len c.requires.some c.requires.fit c.requires.high c.requires.len c.requires.few)

columns : (c : After-deref) → map (λ (x : Bor Column). x.now) c.deref.result.now ≡ map (λ (a : ArrayRef). a.column) c.args.arrays.now
columns c = ap (map (λ (x : Bor Column). x.now)) c.deref.ensures.value ∙ c.in_ok-sources.ensures.columns

sources : (c : After-deref) → AsSources c.deref.result.now c.args.arrays.now
sources c = as_sources c.deref.result.now c.args.arrays.now (columns c) c.requires.some c.requires.alike

picks : (c : After-deref) → woven_picks c.of_rows-woven.result ≡ rows_picks 0 c.args.height (lanes_of (map (λ (a : ArrayRef). rows a.column) c.args.arrays.now) c.args.widths.now)
picks c = c.of_rows-woven.ensures ∙ ap (rows_picks 0 c.args.height) (c.as_slice.ensures.value ∙ c.in_ok-lanes.ensures.lanes)

picked : (c : After-deref) → pick Null (map (λ (x : Bor Column). rows x.now) c.deref.result.now) (woven_picks c.of_rows-woven.result)
    ≡ flatten (map (λ (a : ArrayRef). rows a.column) c.args.arrays.now) c.args.widths.now c.args.height
picked c =
    let xss = map (λ (a : ArrayRef). rows a.column) c.args.arrays.now in
    ap (λ l. pick Null l (woven_picks c.of_rows-woven.result)) (sources c).rows ∙ ap (pick Null xss) (picks c) ∙ rows_woven Null xss c.args.widths.now c.args.height c.requires.fit

pub collect_plan-requires-clause-alike : goal.collect_plan-requires-clause-alike
collect_plan-requires-clause-alike c = (sources (goal.at.collect_plan-requires-clause-alike c).After-deref).alike

pub collect_plan-requires-clause-formed : goal.collect_plan-requires-clause-formed
collect_plan-requires-clause-formed c = (sources (goal.at.collect_plan-requires-clause-formed c).After-deref).formed

pub collect_plan-requires-clause-fits : goal.collect_plan-requires-clause-fits
collect_plan-requires-clause-fits c =
    let before = (goal.at.collect_plan-requires-clause-fits c).After-deref in
    let xss = map (λ (a : ArrayRef). rows a.column) c.args.arrays.now in
    subst (λ l. All (PickFits l) (woven_picks c.of_rows-woven.result)) (sym (sources before).rows)
    (subst (All (PickFits xss)) (sym (picks before)) (woven_fit Null xss c.args.widths.now c.args.height c.requires.fit))

pub returns-in_err-column : goal.returns-in_err-column
returns-in_err-column c =
    record {
      rows = search rules;
      dtype = search rules;
      within = search rules;
      refusal =
          let p = err_from_is_err_and c.from_residual-in_err-column.result c.from_residual-in_err-column.ensures.1 in
          let before = (goal.at.returns-in_err-column c).After-deref in
          rw (p.1, p.2) (refused_more _ _ c.in_err-column.field-0.0 (λ limit h. (c.requires.high, inr h)) (rw (columns before, picked before) at c.in_err-column.ensures.refusal));
    }

pub returns : goal.returns
returns c =
    let before = (goal.at.returns c).After-deref in
    record {
      rows = c.in_ok-column.ensures.rows ∙ picked before;
      dtype = c.in_ok-column.ensures.dtype ∙ ap first_type (columns before);
      within =
          let xss = map (λ (a : ArrayRef). rows a.column) c.args.arrays.now in
          let cs = map (λ (a : ArrayRef). a.column) c.args.arrays.now in
          let vs = flatten xss c.args.widths.now c.args.height in
          let long = flat_length c.args.height c.args.height xss c.args.widths.now (omega arith) c.requires.fit in
          let few = few_rows_pass (length vs) (omega (arith, long, c.requires.len, c.requires.few)) in
          λ limit past. passes_neither (ExceedsRows (length vs)) (exceeded_taken (first_type cs) cs vs) few (rw (columns before, picked before) at c.in_ok-column.ensures.within) limit past.1;
      refusal = search rules;
    }
