use Rattle.std.proofs.Common.{arith, length, sym, ◌<◌, ◌∙◌}
use Rattle.sel_arrow.proofs.ViewRows.{length-view_rows, null_view, valid_view}
use Rattle.sel_text.proofs.cell.of_view.Goals as goal

pub is_valid_at-requires : goal.is_valid_at-requires
is_valid_at-requires c = λ v there.
    let same = c.args.array.now.validity_fits v there in
    let inside : c.args.i < length c.args.array.now.views = rw length-view_rows at c.requires in
    omega (arith, same, inside)

pub returns-then-is_valid_at-clause-value : goal.returns-then-is_valid_at-clause-value
returns-then-is_valid_at-clause-value c =
    let b = c.args.array.now in
    let inside : c.args.i < length b.views = rw length-view_rows at c.requires in
    rw (c.as_slice.ensures, c.as_slice-then-is_valid_at.ensures) (sym (valid_view b.views b.buffers b.validity c.args.i _ (sym c.is_valid_at.ensures ∙ c.if-is_valid_at.true) inside b.validity_fits))

pub returns-else-is_valid_at-clause-value : goal.returns-else-is_valid_at-clause-value
returns-else-is_valid_at-clause-value c =
    let b = c.args.array.now in
    let inside : c.args.i < length b.views = rw length-view_rows at c.requires in
    sym (null_view b.views b.buffers b.validity c.args.i (sym c.is_valid_at.ensures ∙ c.if-is_valid_at.false) inside b.validity_fits)
