use Rattle.sel_gather.proofs.Common.{length, rows, binview_rows, buffer_count, rules, IfOk-weaker}
use Rattle.sel_gather.proofs.ReadEach.{each_seen}
use Rattle.sel_gather.proofs.typed_arrays.views_of.Goals as goal

pub returns-clause-rows : goal.returns-clause-rows
returns-clause-rows c =
    IfOk-weaker c.read_each.result _ _ (λ found each. each_seen _ (λ s. rows s.now) (λ s. binview_rows s.now) (λ x y k. search rules) c.args.sources.now found.items each) c.read_each.ensures.found

pub returns-clause-buffers : goal.returns-clause-buffers
returns-clause-buffers c =
    IfOk-weaker c.read_each.result _ _ (λ found each. each_seen _ (λ s. buffer_count s.now) (λ s. length s.now.buffers) (λ x y k. search rules) c.args.sources.now found.items each) c.read_each.ensures.found
