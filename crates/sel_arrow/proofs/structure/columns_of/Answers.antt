use Rattle.std.proofs.Common.{◌≡◌, ◌∙◌, ap, sym, subst, map, All, List, get_or, map-id}
use Rattle.std.proofs.lemmas.Iterator.Adapters.{YieldsList-from_vec}
use Rattle.std.proofs.lemmas.Iterator.Consumers.{YieldsList-end}
use Rattle.sel_arrow.proofs.Common.{All-map, IsWellFormed, ArrayRef, Column}
use Rattle.sel_arrow.proofs.structure.columns_of.Goals as goal

-- The loop visits all arrays.
all_columns : (columns : List Column) (yielded arrays : List ArrayRef) → columns ≡ map (λ array. array.column) yielded → map (λ array. array) yielded ≡ arrays → columns ≡ map (λ array. array.column) arrays
all_columns columns yielded arrays so_far all = so_far ∙ ap (map (λ (array : ArrayRef). array.column)) (sym (map-id yielded) ∙ all)

formed_columns : (columns : List Column) (arrays : List ArrayRef) → columns ≡ map (λ array. array.column) arrays → All IsWellFormed columns
formed_columns columns arrays is = subst (All IsWellFormed) (sym is) (All-map IsWellFormed (λ (array : ArrayRef). array.column) arrays (λ k d lt. (get_or arrays k d).formed))

pub returns-clause-columns : goal.returns-clause-columns
returns-clause-columns c =
    let gives = c.into_iter-array-iterator.ensures.into_iter_gives in
    let t = YieldsList-end (YieldsList-from_vec c.args.arrays.items gives.0 (gives.1 ∙ c.args.arrays.ok.0)) c.loop-array.yielded c.loop-array.array-iterator c.loop-array.yielded_by c.next.result c.next.new.self c.in-None.is c.next.ensures.steps in
    all_columns c.loop-array.columns.items c.loop-array.yielded c.args.arrays.items c.loop-array.invariant t.0

pub returns-clause-formed : goal.returns-clause-formed
returns-clause-formed c = formed_columns c.loop-array.columns.items c.loop-array.yielded c.loop-array.invariant
