-- The items of the lists of one column, by the start of each list and the ends of all.
use Rattle.std.specs.Prelude.{◌≡◌, ℕ, ◌-◌, ℤ, List, [], ◌∷◌, length, Option, Some, ⊤, Bool, true}
use Rattle.std.specs.Prelude.{not, ◌&&◌, nat_le}
use Rattle.std.specs.Borrow.{Bor}
use Rattle.sel_bits.specs.Limits.{max_rows}
use Rattle.sel_bits.specs.Signs.{is_negative, magnitude}
use Rattle.sel_arrow.specs.declared.column.Column.{Column}
use Rattle.sel_gather.specs.ItemPicks.{item_picks}
use Rattle.sel_runs.specs.Runs.{picks_of}
use Rattle.sel_runs.specs.declared.runs.Run.{Run}

-- The run of the items of each list: it begins at the list's start, and is as long as the list's
-- end is behind the end before, the first of which is `at`.
abbrev pub spans : List ℕ → ℕ → List ℤ → List Run
spans [] at ends = []
spans (start ∷ starts) at [] = []
spans (start ∷ starts) at (end ∷ ends) =
    record { source = Some 0; start = start; len = magnitude end - at }
    ∷ spans starts (magnitude end) ends

-- Whether the ends do not decrease from `at` on, and are at most the limit of rows.
abbrev pub are_ends : ℕ → List ℤ → Bool
are_ends at [] = true
are_ends at (end ∷ ends) =
    not (is_negative end) && nat_le at (magnitude end) && nat_le (magnitude end) max_rows
    && are_ends (magnitude end) ends

-- The items of the list at each row reference are consecutive from the start on.
abbrev pub AreStarts : List (Bor Column) → List (Option (ℕ × ℕ)) → List ℕ → Type 0
AreStarts sources [] [] = ⊤
AreStarts sources [] (start ∷ starts) = ⊥
AreStarts sources (p ∷ ps) [] = ⊥
AreStarts sources (p ∷ ps) (start ∷ starts) =
    (item_picks sources 0 p ≡ picks_of 0 start (length (item_picks sources 0 p)))
    × AreStarts sources ps starts
