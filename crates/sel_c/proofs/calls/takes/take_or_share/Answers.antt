use Rattle.std.proofs.Common.{refl, sym}
use Rattle.sel_c.proofs.Made.{returns-first, returns-made}
use Rattle.sel_c.proofs.calls.takes.take_or_share.Goals as goal

pub returns-then-takes_only_row : goal.returns-then-takes_only_row
returns-then-takes_only_row c =
    let is = rw (c.column.ensures.value) at c.takes_only_row.ensures in
    let yes = c.if-takes_only_row.true in
    returns-first _ _ _ _ _ _ _ _ _ (is.inside yes)
    (returns-made _ _ _ c.args.column.now _ _ _ c.put_again.ensures.column c.put_again.ensures.status (sym (is.rows yes)) refl (is.within yes _))

pub returns : goal.returns
returns c = rw (c.column-2.ensures.value) at c.take_at_into.ensures
