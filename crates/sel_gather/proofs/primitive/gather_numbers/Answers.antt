use Rattle.sel_gather.proofs.Common.{◌≡◌, length, map, ap, sym, ◌∙◌, arith, option_copied, hidden, number_rows, Value, Number, bits_found}
use Rattle.sel_gather.proofs.{Grown.finished}
use Rattle.sel_runs.proofs.RunLists.{length-pick}
use Rattle.sel_gather.proofs.Hiding.{values_fit, rows_picked}
use Rattle.sel_gather.proofs.primitive.gather_numbers.Goals as goal

pub gather_parts-requires : goal.gather_parts-requires
gather_parts-requires g c =
    let f : g.row.T.Denot → Value = λ x. Number (g.T.NativeType.number x) in
    let ps = g.P.Plan.picks c.args.plan.now in
    values_fit (λ s. s.values.now) (λ s. option_copied s.validity) (λ s. s.covers) f c.LEAST.result c.args.parts.now ps c.requires

pub into_column-requires-clause-few : goal.into_column-requires-clause-few
into_column-requires-clause-few g c =
    let ps = g.P.Plan.picks c.args.plan.now in
    let long = ap length c.in_ok-values-2.ensures.items ∙ ap length c.in_ok-values.ensures.values ∙ length-pick c.LEAST.result (map (λ s. s.values.now) c.args.parts.now) ps in
    omega (arith, long, c.len-len.ensures.len, c.len-len.ensures.few)

pub into_column-requires-clause-covers : goal.into_column-requires-clause-covers
into_column-requires-clause-covers g c =
    let ps = g.P.Plan.picks c.args.plan.now in
    let long : length c.in_ok-values-2.values ≡ length ps = ap length c.in_ok-values-2.ensures.items ∙ ap length c.in_ok-values.ensures.values ∙ length-pick c.LEAST.result (map (λ s. s.values.now) c.args.parts.now) ps in
    λ v there. c.in_ok-values.ensures.covers v there ∙ sym long

pub returns-clause-rows : goal.returns-clause-rows
returns-clause-rows g c =
    let f : g.row.T.Denot → Value = λ x. Number (g.T.NativeType.number x) in
    let ps = g.P.Plan.picks c.args.plan.now in
    let parts = c.args.parts.now in
    let vs = map (λ s. option_copied s.validity) parts in
    let xss = map (λ s. s.values.now) parts in
    let fits = values_fit (λ s. s.values.now) (λ s. option_copied s.validity) (λ s. s.covers) f c.LEAST.result parts ps c.requires in
    let long = ap length c.in_ok-values.ensures.values ∙ length-pick c.LEAST.result xss ps in
    let validity = c.in_ok-values.validity in
    c.into_column.ensures.rows
    ∙ ap (λ xs. number_rows g.T.NativeType.number xs validity) c.in_ok-values-2.ensures.items
    ∙ finished f c.in_ok-values.values.items validity (bits_found vs ps) (length ps) c.in_ok-values.ensures.bits long
    ∙ ap (λ xs. hidden (bits_found vs ps) (map f xs)) c.in_ok-values.ensures.values
    ∙ rows_picked (λ s. s.values.now) (λ s. option_copied s.validity) (λ s. s.covers) f c.LEAST.result parts ps fits
