use Rattle.sel_kernels.proofs.Common.{◌≡◌, ◌*◌, ◌∙◌, sym, ap, subst, arith, true, primitive_rows, rows, row_count, type_of, well_formed, size_of, blocks_within}
use Rattle.sel_kernels.proofs.Common.{is_bare, HoldsBlocks, mul_assoc, None, refl, of_fixed_size_list}
use Rattle.sel_arrow.proofs.NestedRows.{blocks_formed}
use Rattle.sel_kernels.proofs.BlockTakes.{bare_below, bare_kinds, blocks_are, level_inside, level_taken}
use Rattle.sel_kernels.proofs.gather.fixed_size_list.+take_level.Goals as goal

pub take_level-requires : goal.take_level-requires
take_level-requires t c =
    let list = c.in-FixedSizeList in
    let indices = primitive_rows c.args.indices.now in
    let column = c.args.column.now in
    let formed = ap well_formed c.deref.ensures ∙ (blocks_are column c.args.size list.width list.len c.args.count list.values list.validity indices list.is c.requires.formed).child in
    let bare = ap is_bare c.deref.ensures ∙ (bare_below column c.args.size list.width list.len c.args.count list.values list.validity indices list.is c.requires.bare).1 in
    let inside = subst (λ (d : _). blocks_within (c.args.size * list.width) (row_count d) indices ≡ true) (sym c.deref.ensures)
    (level_inside column c.args.size list.width list.len c.args.count list.values list.validity indices list.is c.requires.formed c.requires.inside) in
    let count = c.in_ok-below-in-FixedSizeList.ensures.below ∙ ap (λ n. n * list.width) c.requires.count ∙ mul_assoc _ c.args.size list.width in
    let smaller = ap (λ (d : _). size_of (type_of d)) c.deref.ensures in
    (omega (arith, c.decreases, smaller, ap (λ (d : _). size_of (type_of d)) list.is), (formed, (bare, (inside, (c.requires.some, (count, c.in_ok-below-in-FixedSizeList.ensures.few))))))

pub returns-in_ok-values-in-FixedSizeList-2 : goal.returns-in_ok-values-in-FixedSizeList-2
returns-in_ok-values-in-FixedSizeList-2 t c =
    let list = c.in-FixedSizeList in
    let indices = primitive_rows c.args.indices.now in
    let taken = rows c.in_ok-values-in-FixedSizeList-2.values.value in
    let boxed = subst (λ (v : _). HoldsBlocks (c.args.size * list.width) (rows c.deref.result.now) indices (rows v)) (sym c.in_ok-values-in-FixedSizeList-2.ensures.ok) c.in_ok-values-in-FixedSizeList.ensures.blocks in
    let here = subst (λ (v : _). HoldsBlocks (c.args.size * list.width) (rows v) indices taken) c.deref.ensures boxed in
    let old = blocks_are c.args.column.now c.args.size list.width list.len c.args.count list.values list.validity indices list.is c.requires.formed in
    let made = c.in_ok-values-in-FixedSizeList.ensures in
    let box = c.in_ok-values-in-FixedSizeList-2 in
    record {
      blocks = level_taken c.args.column.now c.args.size list.width list.len c.args.count list.values list.validity indices list.is c.requires.bare c.requires.inside c.requires.count taken here;
      count = refl;
      dtype = ap (λ s. of_fixed_size_list s list.width) (ap type_of box.ensures.ok ∙ made.dtype ∙ ap type_of c.deref.ensures) ∙ sym (ap type_of list.is);
      formed = blocks_formed list.width c.args.count box.values.value None
          (record { few = c.requires.few; narrow = old.narrow; fills = ap row_count box.ensures.ok ∙ made.count ∙ c.in_ok-below-in-FixedSizeList.ensures.below; covered = λ v there. absurd (cc there); child = ap well_formed box.ensures.ok ∙ made.formed });
      refusal = tt;
    }

pub unreachable-requires : goal.unreachable-requires
unreachable-requires t c =
    let no = c.in_default in
    bare_kinds c.args.column.now c.requires.bare no.not-Int8 no.not-Int16 no.not-Int32 no.not-Int64 no.not-Int128 no.not-UInt8 no.not-UInt16 no.not-UInt32 no.not-UInt64 no.not-UInt128 no.not-FixedSizeList
