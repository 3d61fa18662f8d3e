use Rattle.sel_kernels.proofs.Common.{◌∙◌, sym, ap, subst, length, arith, length-map, primitive_rows, length-rows, HoldsBlocks}
use Rattle.sel_kernels.proofs.BlockTakes.{numbers_hold, numbers_count}
use Rattle.sel_kernels.proofs.gather.fixed_size_list.take_leaf.Goals as goal

pub into_column-requires-clause-few : goal.into_column-requires-clause-few
into_column-requires-clause-few g c =
    let numbers = c.args.numbers.now in
    let indices = primitive_rows c.args.indices.now in
    let items = rw c.as_slice.ensures at (c.in_ok-values-2.ensures.items ∙ c.in_ok-values.ensures.items) in
    let count = numbers_count g.T.NativeType.number c.args.size c.unwrap_or-zero.result numbers.values c.in_ok-values-2.values numbers.validity indices c.requires.inside items in
    omega (arith, count, c.requires.few)

pub returns : goal.returns
returns g c =
    let numbers = c.args.numbers.now in
    let indices = primitive_rows c.args.indices.now in
    let items = rw c.as_slice.ensures at (c.in_ok-values-2.ensures.items ∙ c.in_ok-values.ensures.items) in
    let count = numbers_count g.T.NativeType.number c.args.size c.unwrap_or-zero.result numbers.values c.in_ok-values-2.values numbers.validity indices c.requires.inside items in
    let holds = numbers_hold g.T.NativeType.number c.args.size c.unwrap_or-zero.result numbers.values c.in_ok-values-2.values numbers.validity indices c.requires.bare c.requires.inside items in
    record {
      blocks = subst (λ l. HoldsBlocks c.args.size (primitive_rows numbers) indices l) (sym c.into_column.ensures.rows) holds;
      count = sym (length-rows c.into_column.result) ∙ ap length c.into_column.ensures.rows ∙ length-map c.in_ok-values-2.values _ ∙ count;
      dtype = c.into_column.ensures.dtype;
      formed = c.into_column.ensures.formed;
      refusal = tt;
    }
