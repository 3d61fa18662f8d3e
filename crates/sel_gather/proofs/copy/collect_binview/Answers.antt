use Rattle.sel_gather.proofs.Common.{◌∙◌, length, ap, arith, rules, flat_map}
use Rattle.sel_gather.proofs.{Collected.refused, Refusals.joined_count, Refusals.refused_at, Within.few_buffers_pass}
use Rattle.sel_gather.proofs.copy.collect_binview.Goals as goal

pub returns-in_err-array : goal.returns-in_err-array
returns-in_err-array c =
    let count = ap (λ ss. length (flat_map (λ s. s.now.buffers) ss)) c.deref.ensures.value ∙ joined_count (λ s. s.now.buffers) (λ r. r.now) c.in_ok-found.found.items c.args.sources.now c.in_ok-found.ensures.buffers in
    refused _ _ _ _ _ c.from_residual-in_err-array.ensures.1 (refused_at _ _ _ count c.in_err-array.ensures.refusal)

pub returns : goal.returns
returns c =
    let count = ap (λ ss. length (flat_map (λ s. s.now.buffers) ss)) c.deref.ensures.value ∙ joined_count (λ s. s.now.buffers) (λ r. r.now) c.in_ok-found.found.items c.args.sources.now c.in_ok-found.ensures.buffers in
    let held = ap length c.in_ok-array.ensures.buffers in
    record { rows = search rules; dtype = search rules; formed = search rules; within = few_buffers_pass _ (omega (arith, count, held, c.in_ok-array.array.buffers_fit)); refusal = search rules }
