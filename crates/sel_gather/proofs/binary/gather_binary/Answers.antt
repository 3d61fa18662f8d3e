use Rattle.sel_gather.proofs.Common.{◌∙◌, ap, arith, binary_rows, columns_of, map, rows}
use Rattle.sel_gather.proofs.{ItemRuns.rows_of}
use Rattle.sel_runs.proofs.Mapped.{one_mapped, two_mapped}
use Rattle.sel_gather.proofs.ValidBytes.{binary_collected, shown_fits, shown_live, shown_rows}
use Rattle.sel_gather.proofs.Common.{All, PickFits, cleared, length, length-map, subst, sym}
use Rattle.sel_gather.proofs.ItemPicks.{fits_rows}
use Rattle.sel_gather.proofs.binary.gather_binary.Goals as goal

pub collect_binary-requires-clause-fits : goal.collect_binary-requires-clause-fits
collect_binary-requires-clause-fits g c =
    let cs = c.args.sources.now in
    shown_fits _ (rows_of cs) (one_mapped (λ x. rows x.now) cs c.only-item.result (binary_rows c.binary_of.result.now) (omega (arith, c.in-len1.len_at_least)) (omega (arith, c.in-len1.len_below)) c.only-item.is c.binary_of.ensures) (g.P.Plan.picks c.args.plan.now) (g.P.Plan.picks c.again.result) c.again.ensures c.requires.fits

pub collect_binary-requires-clause-live : goal.collect_binary-requires-clause-live
collect_binary-requires-clause-live g c =
    let cs = c.args.sources.now in
    shown_live _ (rows_of cs) (one_mapped (λ x. rows x.now) cs c.only-item.result (binary_rows c.binary_of.result.now) (omega (arith, c.in-len1.len_at_least)) (omega (arith, c.in-len1.len_below)) c.only-item.is c.binary_of.ensures) (g.P.Plan.picks c.args.plan.now) (g.P.Plan.picks c.again.result) c.again.ensures

pub returns-in-len1 : goal.returns-in-len1
returns-in-len1 g c =
    let cs = c.args.sources.now in
    let same = shown_rows _ (rows_of cs) (one_mapped (λ x. rows x.now) cs c.only-item.result (binary_rows c.binary_of.result.now) (omega (arith, c.in-len1.len_at_least)) (omega (arith, c.in-len1.len_below)) c.only-item.is c.binary_of.ensures) (g.P.Plan.picks c.args.plan.now) (g.P.Plan.picks c.again.result) c.again.ensures in
    let made = c.collect_binary.ensures in
    binary_collected c.collect_binary.result (columns_of cs) _ _ same made.rows made.dtype made.formed made.within made.refusal

pub collect_binary-requires-in-len2-clause-fits : goal.collect_binary-requires-in-len2-clause-fits
collect_binary-requires-in-len2-clause-fits g c =
    let cs = c.args.sources.now in
    shown_fits _ (rows_of cs) (two_mapped (λ x. rows x.now) cs c.one-item.result c.other-item.result (binary_rows c.binary_of-in-len2.result.now) (binary_rows c.binary_of-in-len2-2.result.now) (omega (arith, c.in-len2.len_at_least)) (omega (arith, c.in-len2.len_below)) c.one-item.is c.other-item.is c.binary_of-in-len2.ensures c.binary_of-in-len2-2.ensures) (g.P.Plan.picks c.args.plan.now) (g.P.Plan.picks c.again.result) c.again.ensures c.requires.fits

pub collect_binary-requires-in-len2-clause-live : goal.collect_binary-requires-in-len2-clause-live
collect_binary-requires-in-len2-clause-live g c =
    let cs = c.args.sources.now in
    shown_live _ (rows_of cs) (two_mapped (λ x. rows x.now) cs c.one-item.result c.other-item.result (binary_rows c.binary_of-in-len2.result.now) (binary_rows c.binary_of-in-len2-2.result.now) (omega (arith, c.in-len2.len_at_least)) (omega (arith, c.in-len2.len_below)) c.one-item.is c.other-item.is c.binary_of-in-len2.ensures c.binary_of-in-len2-2.ensures) (g.P.Plan.picks c.args.plan.now) (g.P.Plan.picks c.again.result) c.again.ensures

pub returns-in-len2 : goal.returns-in-len2
returns-in-len2 g c =
    let cs = c.args.sources.now in
    let same = shown_rows _ (rows_of cs) (two_mapped (λ x. rows x.now) cs c.one-item.result c.other-item.result (binary_rows c.binary_of-in-len2.result.now) (binary_rows c.binary_of-in-len2-2.result.now) (omega (arith, c.in-len2.len_at_least)) (omega (arith, c.in-len2.len_below)) c.one-item.is c.other-item.is c.binary_of-in-len2.ensures c.binary_of-in-len2-2.ensures) (g.P.Plan.picks c.args.plan.now) (g.P.Plan.picks c.again.result) c.again.ensures in
    let made = c.collect_binary-in-len2.ensures in
    binary_collected c.collect_binary-in-len2.result (columns_of cs) _ _ same made.rows made.dtype made.formed made.within made.refusal

pub collect_binary-requires-2-clause-fits : goal.collect_binary-requires-2-clause-fits
collect_binary-requires-2-clause-fits g c =
    let cs = c.args.sources.now in
    shown_fits _ (rows_of cs) (ap (map (λ s. binary_rows s.now)) c.deref.ensures.value ∙ c.in_ok-arrays.ensures.rows) (g.P.Plan.picks c.args.plan.now) (g.P.Plan.picks c.again.result) c.again.ensures c.requires.fits

pub collect_binary-requires-2-clause-live : goal.collect_binary-requires-2-clause-live
collect_binary-requires-2-clause-live g c =
    let cs = c.args.sources.now in
    shown_live _ (rows_of cs) (ap (map (λ s. binary_rows s.now)) c.deref.ensures.value ∙ c.in_ok-arrays.ensures.rows) (g.P.Plan.picks c.args.plan.now) (g.P.Plan.picks c.again.result) c.again.ensures

pub returns : goal.returns
returns g c =
    let cs = c.args.sources.now in
    let same = shown_rows _ (rows_of cs) (ap (map (λ s. binary_rows s.now)) c.deref.ensures.value ∙ c.in_ok-arrays.ensures.rows) (g.P.Plan.picks c.args.plan.now) (g.P.Plan.picks c.again.result) c.again.ensures in
    let made = c.collect_binary-2.ensures in
    binary_collected c.collect_binary-2.result (columns_of cs) _ _ same made.rows made.dtype made.formed made.within made.refusal

pub collect_binary-requires-clause-len : goal.collect_binary-requires-clause-len
collect_binary-requires-clause-len g c = length-map (g.P.Plan.picks c.again.result) (cleared (rows_of c.args.sources.now)) ∙ ap length c.again.ensures ∙ sym c.len-len.ensures.len

pub collect_binary-requires-in-len2-clause-len : goal.collect_binary-requires-in-len2-clause-len
collect_binary-requires-in-len2-clause-len g c = length-map (g.P.Plan.picks c.again.result) (cleared (rows_of c.args.sources.now)) ∙ ap length c.again.ensures ∙ sym c.len-len.ensures.len

pub collect_binary-requires-2-clause-len : goal.collect_binary-requires-2-clause-len
collect_binary-requires-2-clause-len g c = length-map (g.P.Plan.picks c.again.result) (cleared (rows_of c.args.sources.now)) ∙ ap length c.again.ensures ∙ sym c.len-len.ensures.len

pub invariant_of-live-clause-fits : goal.invariant_of-live-clause-fits
invariant_of-live-clause-fits g c =
    let xss = rows_of c.args.sources.now in
    fits_rows xss (g.P.Plan.picks c.again.result) (subst (All (PickFits xss)) (sym c.again.ensures) c.requires.fits)
