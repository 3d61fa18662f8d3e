use Rattle.std.proofs.Common.{◌≡◌, inr, length, rules}
use Rattle.sel_c.proofs.{Common.primitive_rows, Common.block_column, Common.rows, Entries.get-error, Made.returns-none}
use Rattle.sel_c.proofs.calls.fixed_each.entries_into.Goals as goal

pub returns-in-Err : goal.returns-in-Err
returns-in-Err c =
    let as_many : length (primitive_rows c.args.indices.now) ≡ length (rows (block_column c.args.lists.now)) = search rules in
    let first = get-error c.status_of.result c.args.null_on_oob c.args.lists.now (primitive_rows c.args.indices.now) c.in-Err.fault c.status_of.ensures.number c.in-Err.ensures.refusal in
    returns-none c.status_of.result c.args.out.now.tree _ _ _ _ c.status_of.ensures.own.0 (inr (inr (as_many, first)))
