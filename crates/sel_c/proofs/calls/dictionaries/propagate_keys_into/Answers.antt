use Rattle.std.proofs.Common.{inr, rules}
use Rattle.sel_c.proofs.calls.dictionaries.propagate_keys_into.Goals as goal

pub returns : goal.returns
returns c =
    let told = rw (c.in-Ok-into_array.ensures.rows, c.in-Ok.ensures.rows) at c.propagate_texts_into.ensures in
    record { keys = told.keys; values = told.values; key_dtype = told.key_dtype; value_dtype = told.value_dtype; checks = inr (inr (search rules, told.checks)) }
