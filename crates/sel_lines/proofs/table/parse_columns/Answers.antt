use Rattle.std.proofs.Common.{◌≡◌, All, Bor, List, ℕ, ◌∙◌, Some, arith, ap, sym, subst, IfSome, option_map}
use Rattle.sel_lines.proofs.Common.{map-append, All-push, rows, type_of, of_int64, ArrayRef, column_of, number_of, rows_of_arrays}
use Rattle.sel_lines.proofs.RowLemmas.{rows_step, rows_none}
use Rattle.sel_lines.proofs.table.parse_columns.Goals as goal

pub returns-in-Ok-None-clause-rows : goal.returns-in-Ok-None-clause-rows
returns-in-Ok-None-clause-rows c =
    let none = sym c.in-Ok-None.ensures.rows ∙ ap (option_map (λ (a : ArrayRef). rows a.column)) c.in-Ok-None.field-0-is in
    rows_none (λ (word : Bor (List ℕ)). column_of number_of word.now) c.args.words.now c.loop-word.word-index _ (omega arith) none

pub loop-word-preserved : goal.loop-word-preserved
loop-word-preserved c =
    let is_number = λ (a : ArrayRef). type_of a.column ≡ of_int64 in
    let more = ap rows_of_arrays c.push_reserved.ensures.items ∙ map-append (λ (a : ArrayRef). rows a.column) c.loop-word.columns.items _ in
    let number = subst (λ o. IfSome o is_number) c.in-Ok-Some.field-0-is c.in-Ok-Some.ensures.dtype in
    record {
      read = rows_step (λ (word : Bor (List ℕ)). column_of number_of word.now) c.args.words.now c.loop-word.word-index _ _ _ (omega arith) c.loop-word.invariant.read
          (sym c.in-Ok-Some.ensures.rows ∙ ap (option_map (λ (a : ArrayRef). rows a.column)) c.in-Ok-Some.field-0-is) ∙ ap Some (sym more);
      numbers = subst (All is_number) (sym c.push_reserved.ensures.items) (All-push is_number c.loop-word.columns.items c.in-Ok-Some.column c.loop-word.invariant.numbers number);
      count = omega (arith, c.push_reserved.ensures.len, c.loop-word.invariant.count);
      room = omega (arith, c.push_reserved.ensures.capacity, c.loop-word.invariant.room);
    }
