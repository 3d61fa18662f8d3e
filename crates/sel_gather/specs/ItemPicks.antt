-- Row references to lists, as row references to their items, for its internal steps.
use Rattle.std.specs.Prelude.{ℕ, ◌+◌, ◌-◌, ◌*◌, ◌<◌, List, [], length, map, replicate, Option}
use Rattle.std.specs.Prelude.{Some, None, slice_index_or, ◌≡◌}
use Rattle.std.specs.Option.{ForSome}
use Rattle.std.specs.Prelude.{if◌then◌else◌}
use Rattle.std.specs.Borrow.{Bor}
use Rattle.std.specs.List.{flat_map}
use Rattle.sel_bits.specs.Validity.{valid_at}
use Rattle.sel_arrow.specs.Value.{Value}
use Rattle.sel_arrow.specs.declared.column.Column.{Column}
use Rattle.sel_arrow.specs.declared.column.Column.TheVariants.{LargeList', FixedSizeList'}
use Rattle.sel_runs.specs.Runs.{picks_of}
use Rattle.sel_runs.specs.declared.runs.Run.{Run}

-- The row reference is none or refers to a row, as `PickFits` says by cases.
abbrev pub IsRow : List (List Value) → Option (ℕ × ℕ) → Type 0
IsRow xss pick = ForSome pick (λ p. p.1 < length (slice_index_or xss p.0 []))

-- The first child row of list i of a column and the number of its items; none if it is null, or if
-- the column has no lists (Arrow columnar format: list layouts).
abbrev pub part_of : Column → ℕ → Option (ℕ × ℕ)
part_of (LargeList' offsets p values validity) i =
    if valid_at validity i
    then Some (
      slice_index_or offsets i 0,
      slice_index_or offsets (i + 1) 0 - slice_index_or offsets i 0,
    )
    else None
part_of (FixedSizeList' size len p values validity) i =
    if valid_at validity i then Some (i * size, size) else None
part_of column i = None

-- The row references to the child rows of a part of source s; `width` times none without a part.
abbrev pub part_picks : ℕ → ℕ → Option (ℕ × ℕ) → List (Option (ℕ × ℕ))
part_picks width s None = replicate width None
part_picks width s (Some part) = picks_of s part.0 part.1

-- The row references to the items of the list that a row reference refers to; `width` times none if
-- it is none or the list is null.
abbrev pub item_picks : List (Bor Column) → ℕ → Option (ℕ × ℕ) → List (Option (ℕ × ℕ))
item_picks sources width None = replicate width None
item_picks sources width (Some p) =
    part_picks width p.0 (slice_index_or (map (λ c. part_of c.now) sources) p.0 (λ i. None) p.1)

-- The row references to the items of all lists.
abbrev pub items_at : List (Bor Column) → ℕ → List (Option (ℕ × ℕ)) → List (Option (ℕ × ℕ))
items_at sources width ps = flat_map (item_picks sources width) ps

-- The lists of the source lie between its offsets, and none is null.
abbrev pub HasOffsets : List (Bor Column) → Option ℕ → List ℕ → Type 0
HasOffsets sources None offsets = ⊥
HasOffsets sources (Some s) offsets =
    (i : ℕ) → slice_index_or (map (λ c. part_of c.now) sources) s (λ i. None) i ≡ Some (
      slice_index_or offsets i 0,
      slice_index_or offsets (i + 1) 0 - slice_index_or offsets i 0,
    )

-- Offset i, moved so that offset `first` becomes `start`.
abbrev pub moved_end : List ℕ → ℕ → ℕ → ℕ → ℕ
moved_end offsets first start i =
    start + (slice_index_or offsets i 0 - slice_index_or offsets first 0)

-- The number of items between the first and the last offset of a run.
abbrev pub item_count : List ℕ → Run → ℕ
item_count offsets run =
    slice_index_or offsets (run.start + run.len) 0 - slice_index_or offsets run.start 0
