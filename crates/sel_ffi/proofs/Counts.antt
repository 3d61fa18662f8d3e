-- The numbers of rows of shared columns are those of the handles' columns.
use Rattle.std.proofs.Common.{rules, arith, ◌≡◌, List, [], ◌∷◌, length, map, refl}
use Rattle.sel_arrow.specs.Rows.{rows, row_count}
use Rattle.sel_arrow.specs.declared.array_ref.ArrayRef.{ArrayRef}
use Rattle.sel_arrow.proofs.NestedRows.{length-rows}
use Rattle.sel_ffi.specs.Held.{Held}
use Rattle.sel_ffi.specs.Status.{held_count, held_rows}
use Rattle.sel_ffi.specs.declared.column_ref.ColumnRef.{ColumnRef}

count_of : (held : Held) → held_count held ≡ length (held_rows held)
count_of held = search (rules, length-rows)

pub counts_of_rows : (cs : List ArrayRef) (hs : List ColumnRef) → map (λ c. rows c.column) cs ≡ map (λ h. held_rows h.tree) hs → map (λ c. row_count c.column) cs ≡ map (λ h. held_count h.tree) hs
counts_of_rows [] [] same = refl
counts_of_rows (c ∷ cs) (h ∷ hs) same = grind (arith, length-rows, count_of, (counts_of_rows cs hs))
counts_of_rows cs hs same = absurd (cc same)

pub ruleset counts = (counts_of_rows)
