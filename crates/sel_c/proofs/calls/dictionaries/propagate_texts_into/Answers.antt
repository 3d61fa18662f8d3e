use Rattle.std.proofs.Common.{◌∙◌, ap, arith}
use Rattle.std.proofs.lemmas.Grind.{common_steps}
use Rattle.sel_c.proofs.{Common.primitive_rows, Common.all_within, Limits.returns-low}
use Rattle.sel_c.proofs.calls.dictionaries.propagate_texts_into.Goals as goal

pub returns-then-not-keys_in_bounds : goal.returns-then-not-keys_in_bounds
returns-then-not-keys_in_bounds c =
    let told = c.keys_in_bounds.ensures ∙ ap (λ n. all_within n (primitive_rows c.args.keys.now)) c.len.ensures.len in
    grind (arith, common_steps, told)

pub returns-in-Ok : goal.returns-in-Ok
returns-in-Ok c =
    let told = c.keys_in_bounds.ensures ∙ ap (λ n. all_within n (primitive_rows c.args.keys.now)) c.len.ensures.len in
    grind (arith, common_steps, told, returns-low)
