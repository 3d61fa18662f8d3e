use Rattle.sel_arrow.specs.Texts.{all_text}
use Rattle.sel_gather.proofs.Common.{IsTrue, length, rows, binview_rows, buffer_count, rules, IfOk-weaker}
use Rattle.sel_gather.proofs.ReadEach.{each_all, each_seen}
use Rattle.sel_gather.proofs.typed_arrays.texts_of.Goals as goal

pub returns-clause-rows : goal.returns-clause-rows
returns-clause-rows c =
    IfOk-weaker c.read_each.result _ _ (λ found each. each_seen _ (λ s. rows s.now) (λ s. binview_rows s.now) (λ x y k. search rules) c.args.sources.now found.items each) c.read_each.ensures.found

pub returns-clause-buffers : goal.returns-clause-buffers
returns-clause-buffers c =
    IfOk-weaker c.read_each.result _ _ (λ found each. each_seen _ (λ s. buffer_count s.now) (λ s. length s.now.buffers) (λ x y k. search rules) c.args.sources.now found.items each) c.read_each.ensures.found

pub returns-clause-texts : goal.returns-clause-texts
returns-clause-texts c =
    IfOk-weaker c.read_each.result _ _ (λ found each. each_all _ (λ s. IsTrue (all_text (binview_rows s.now))) (λ x y k. search rules) c.args.sources.now found.items each) c.read_each.ensures.found
