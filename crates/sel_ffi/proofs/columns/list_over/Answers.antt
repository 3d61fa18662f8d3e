use Rattle.std.proofs.Common.{rules, ◌≡◌, ◌<◌, ℕ, arith, inl, inr, subst}
use Rattle.sel_arrow.specs.Depth.{depth}
use Rattle.sel_arrow.specs.Rows.{row_count}
use Rattle.sel_ffi.proofs.Reported.{same_count}
use Rattle.sel_ffi.specs.Status.{held_count, held_type, HasColumn, ReportsExactly}
use Rattle.sel_ffi.specs.Buffers.{integers_of}
use Rattle.sel_ffi.specs.ColumnsOver.{list_rules_over}
use Rattle.sel_ffi.proofs.columns.list_over.Goals as goal

pub returns-in_default-shared : goal.returns-in_default-shared
returns-in_default-shared c =
    let has : HasColumn c.args.child.now.tree = search rules in
    let shallow : depth (held_type c.args.child.now.tree) < 128 = search rules in
    record {
      rows = search rules;
      dtype = search rules;
      checks = inr (inr (has, inr (inr (shallow, inr (inl (search rules))))));
    }

pub returns-in-Ok-lists_from : goal.returns-in-Ok-lists_from
returns-in-Ok-lists_from c =
    let count : row_count c.in-Ok.copy.column ≡ held_count c.args.child.now.tree = search (rules, same_count) in
    let has : HasColumn c.args.child.now.tree = search rules in
    let shallow : depth (held_type c.args.child.now.tree) < 128 = search rules in
    let status : ReportsExactly c.put.result (list_rules_over (integers_of c.args.offsets.now.buffer) (held_count c.args.child.now.tree) c.args.validity.now.buffer c.args.first) =
    subst (λ (n : ℕ). ReportsExactly c.put.result (list_rules_over (integers_of c.args.offsets.now.buffer) n c.args.validity.now.buffer c.args.first)) count (search rules) in
    record {
      rows = search rules;
      dtype = search rules;
      checks = inr (inr (has, inr (inr (shallow, inr (inr (search rules, inr (inr (search rules, inr status))))))));
    }

pub returns-in-Err : goal.returns-in-Err
returns-in-Err c =
    let count : row_count c.in-Ok.copy.column ≡ held_count c.args.child.now.tree = search (rules, same_count) in
    let has : HasColumn c.args.child.now.tree = search rules in
    let shallow : depth (held_type c.args.child.now.tree) < 128 = search rules in
    let status : ReportsExactly c.status_of_maker.result (list_rules_over (integers_of c.args.offsets.now.buffer) (held_count c.args.child.now.tree) c.args.validity.now.buffer c.args.first) =
    subst (λ (n : ℕ). ReportsExactly c.status_of_maker.result (list_rules_over (integers_of c.args.offsets.now.buffer) n c.args.validity.now.buffer c.args.first)) count (search rules) in
    record {
      rows = search rules;
      dtype = search rules;
      checks = inr (inr (has, inr (inr (shallow, inr (inr (search rules, inr (inr (search rules, inr status))))))));
    }
