use Rattle.sel_ternary.proofs.Common.{◌∙◌, ◌++◌, ◌∷◌, [], ap, sym, arith, append_assoc, take}
use Rattle.std.proofs.lemmas.List.{take_more}
use Rattle.sel_ternary.proofs.if_then_else.lanes.push_lanes.Goals as goal

pub loop-i-preserved : goal.loop-i-preserved
loop-i-preserved g c =
    let items = c.args.out.now.items in
    let lanes = c.args.lanes.now in
    let i = c.loop-i.i in
    let x = c.index-lanes-i.result in
    let more = ap (λ y. take i lanes ++ y ∷ []) c.index-lanes-i.is ∙ sym (take_more lanes i x (omega (arith, c.loop-i-test.true, c.requires.many))) in
    record {
      appended = c.push_reserved.ensures.items ∙ ap (λ l. l ++ x ∷ []) c.loop-i.invariant.appended ∙ append_assoc items (take i lanes) (x ∷ []) ∙ ap (λ l. items ++ l) more;
      room = c.push_reserved.ensures.capacity ∙ c.loop-i.invariant.room;
    }
