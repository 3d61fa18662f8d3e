-- The numbers of rows of cloned columns are those of the handles' columns.
use Rattle.std.proofs.Common.{rules, arith, ◌≡◌, List, [], ◌∷◌, length, map, refl}
use Rattle.sel_c.proofs.Common.{rows, row_count, ArrayRef, Held, held_count, held_rows}
use Rattle.sel_arrow.proofs.NestedRows.{length-rows}
use Rattle.sel_ffi.specs.declared.handle.Handle.{Handle}

count_of : (held : Held) → held_count held ≡ length (held_rows held)
count_of held = search (rules, length-rows)

pub counts_of_rows : (cs : List ArrayRef) (hs : List Handle) → map (λ c. rows c.column) cs ≡ map (λ h. held_rows h.tree) hs → map (λ c. row_count c.column) cs ≡ map (λ h. held_count h.tree) hs
counts_of_rows [] [] same = refl
counts_of_rows (c ∷ cs) (h ∷ hs) same = grind (arith, length-rows, count_of, (counts_of_rows cs hs))
counts_of_rows cs hs same = absurd (cc same)
