use Rattle.sel_kernels.proofs.Common.{◌≡◌, ◌*◌, ◌∙◌, inl, inr, refl, sym, ap, subst, length, map, true, err_from_is_err_and, primitive_rows, Bits, masked, blocks}
use Rattle.sel_kernels.proofs.Common.{list_of, rows, row_count, type_of, well_formed, length-blocks, refused_more, finished, pick_of, valid_pick, blocks_within}
use Rattle.sel_kernels.proofs.Common.{of_fixed_size_list, exceeded_blocks, HoldsBlocks, ExceedsRows}
use Rattle.sel_kernels.proofs.BlockTakes.{blocks_taken, past_taken_blocks, whole_has, whole_validity, whole_within}
use Rattle.sel_kernels.proofs.gather.fixed_size_list.take_unchecked.Goals as goal

pub take_level-requires-clause-formed : goal.take_level-requires-clause-formed
take_level-requires-clause-formed c =
    let list = c.in-FixedSizeList in
    ap well_formed c.deref.ensures
    ∙ (whole_has c.args.values.now list.size list.len list.child list.validity (primitive_rows c.args.indices.now) list.is c.requires.formed c.requires.inside).child

pub take_level-requires-clause-inside : goal.take_level-requires-clause-inside
take_level-requires-clause-inside c =
    let list = c.in-FixedSizeList in
    let indices = primitive_rows c.args.indices.now in
    subst (λ (d : _). blocks_within list.size (row_count d) indices ≡ true) (sym c.deref.ensures)
    (whole_within c.args.values.now list.size list.len list.child list.validity indices list.is c.requires.formed c.requires.inside)

pub take_validity-requires : goal.take_validity-requires
take_validity-requires c =
    let list = c.in-FixedSizeList in
    whole_validity c.args.values.now list.size list.len list.child list.validity (primitive_rows c.args.indices.now) list.is c.requires.formed c.requires.inside

pub returns-in_err-count : goal.returns-in_err-count
returns-in_err-count c =
    let list = c.in-FixedSizeList in
    let indices = primitive_rows c.args.indices.now in
    let p = err_from_is_err_and c.from_residual-in_err-count.result c.from_residual-in_err-count.ensures.1 in
    rw (p.1, p.2)
    (record {
      rows = tt;
      dtype = tt;
      refusal = (refused_more _ _ c.in_err-count.field-0.0
          (λ limit h.
          past_taken_blocks c.args.values.now list.size list.len list.child list.validity list.is c.requires.formed indices limit
          (inl (subst (λ n. ExceedsRows (n * list.size) limit) c.len.ensures.len h)))
          c.in_err-count.ensures.refusal);
    })

pub returns-in_err-below : goal.returns-in_err-below
returns-in_err-below c =
    let list = c.in-FixedSizeList in
    let indices = primitive_rows c.args.indices.now in
    let p = err_from_is_err_and c.from_residual-in_err-below.result c.from_residual-in_err-below.ensures.1 in
    let count = c.in_ok-count.ensures.below ∙ ap (λ n. n * list.size) c.len.ensures.len in
    rw (p.1, p.2)
    (record {
      rows = tt;
      dtype = tt;
      refusal = (refused_more _ _ c.in_err-below.field-0.0
          (λ limit h.
          past_taken_blocks c.args.values.now list.size list.len list.child list.validity list.is c.requires.formed indices limit
          (inr (subst (λ (d : _). exceeded_blocks (type_of d) (length indices * list.size) limit) c.deref.ensures (subst (λ n. exceeded_blocks (type_of c.deref.result.now) n limit) count h))))
          c.in_err-below.ensures.refusal);
    })

pub returns : goal.returns
returns c =
    let list = c.in-FixedSizeList in
    let indices = primitive_rows c.args.indices.now in
    let seen = c.in_ok-validity.validity in
    let taken = rows c.in_ok-values.values.value in
    let boxed = subst (λ (v : _). HoldsBlocks list.size (rows c.deref.result.now) indices (rows v)) (sym c.in_ok-values.ensures.ok) c.in_ok-below.ensures.blocks in
    let holds = subst (λ (v : _). HoldsBlocks list.size (rows v) indices taken) c.deref.ensures boxed in
    let valid = map (valid_pick list.validity) (map pick_of indices) in
    let bits : Bits = record { bits = valid; offset = 0 } in
    record {
      rows =
          ap (λ n. masked seen (map list_of (blocks list.size n taken))) c.len-2.ensures.len
          ∙ finished list_of (blocks list.size (length indices) taken) seen valid (length indices) c.in_ok-validity.ensures.bits (length-blocks list.size (length indices) taken)
          ∙ blocks_taken c.args.values.now list.size list.len list.child list.validity list.is c.requires.formed indices c.requires.inside bits refl taken holds;
      dtype = ap (λ s. of_fixed_size_list s list.size) (ap type_of c.in_ok-values.ensures.ok ∙ c.in_ok-below.ensures.dtype ∙ ap type_of c.deref.ensures) ∙ sym (ap type_of list.is);
      refusal = tt;
    }
