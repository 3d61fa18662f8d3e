use Rattle.sel_gather.proofs.Common.{◌∙◌, length, ap, arith, rules, flat_map, binview_rows, expand}
use Rattle.sel_gather.proofs.{Collected.refused, Refusals.joined_count, Refusals.refused_at, Refusals.texts_picked, Within.few_buffers_pass}
use Rattle.sel_gather.proofs.copy.collect_utf8view.Goals as goal

pub returns-in_err-bytes : goal.returns-in_err-bytes
returns-in_err-bytes c =
    let count = ap (λ ss. length (flat_map (λ s. s.now.buffers) ss)) c.deref.ensures.value ∙ joined_count (λ s. s.now.buffers) (λ r. r.now) c.in_ok-found.found.items c.args.sources.now c.in_ok-found.ensures.buffers in
    refused _ _ _ _ _ c.from_residual-in_err-bytes.ensures.1 (refused_at _ _ _ count c.in_err-bytes.ensures.refusal)

pub invariant_of-result : goal.invariant_of-result
invariant_of-result c = record { texts = rw (c.in_ok-bytes.ensures.rows, c.deref.ensures.value) (texts_picked (λ s. binview_rows s.now) c.in_ok-found.found.items (expand c.args.runs.now) c.in_ok-found.ensures.texts) }

pub returns : goal.returns
returns c =
    let count = ap (λ ss. length (flat_map (λ s. s.now.buffers) ss)) c.deref.ensures.value ∙ joined_count (λ s. s.now.buffers) (λ r. r.now) c.in_ok-found.found.items c.args.sources.now c.in_ok-found.ensures.buffers in
    let held = ap length c.in_ok-bytes.ensures.buffers in
    record { rows = search rules; dtype = search rules; formed = search rules; within = few_buffers_pass _ (omega (arith, count, held, c.in_ok-bytes.bytes.buffers_fit)); refusal = search rules }
