use Rattle.sel_kernels.proofs.{Common.◌∙◌, Common.ℕ, Common.ap, Common.replicate, Common.primitive_rows, Common.Null, Takes.taken_nulls}
use Rattle.sel_kernels.proofs.gather.take_nulls.Goals as goal

pub returns : goal.returns
returns c = ap (λ (n : ℕ). replicate n Null) c.len.ensures.len ∙ taken_nulls c.args.values.now.length (primitive_rows c.args.indices.now)
