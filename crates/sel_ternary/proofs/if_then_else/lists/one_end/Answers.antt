use Rattle.sel_ternary.proofs.Common.{◌≡◌, [], ◌∷◌, ap, arith, pos, sym, w64, ◌∙◌, IfOk-weaker}
use Rattle.std.proofs.{Common.to_z, lemmas.Int.to_z_pos}
use Rattle.sel_gather.proofs.JoinedRows.{map_same, same_numbers}
use Rattle.sel_ternary.proofs.if_then_else.lists.one_end.Goals as goal

pub returns-clause-offsets : goal.returns-clause-offsets
returns-clause-offsets c =
    let len = c.args.len in
    let ends = c.push-2.new.self.items in
    let number : to_z w64 len ≡ pos len = to_z_pos w64 len (omega (arith, c.requires)) in
    let items : ends ≡ pos 0 ∷ pos len ∷ [] = rw (c.in_ok-push-2.ensures.items, c.in_ok-push.ensures.items, c.in_ok-ends.ensures.items) (ap (λ z. pos 0 ∷ z ∷ []) number) in
    IfOk-weaker c.of_rising.result _ _ (λ offsets is. same_numbers offsets (0 ∷ len ∷ []) (sym is ∙ map_same ends ∙ items)) c.of_rising.ensures.value
