-- How parsed fixed-size lists are stored. Internal to the program; the contract of `run` does not
-- depend on these definitions.
use Rattle.std.specs.Prelude.{◌≡◌, ℕ, IsTrue, List, map, pos, length, replicate, Option, None, Some}
use Rattle.std.specs.List.{list_all}
use Rattle.sel_arrow.specs.Masked.{hidden}
use Rattle.sel_arrow.specs.Nested.{list_of}
use Rattle.sel_arrow.specs.Value.{Value, Null, Number, validities}
use Rattle.sel_gather.specs.Children.{joined_items}
use Rattle.sel_lines.specs.declared.blocks.Blocks.{Blocks}
use Rattle.sel_lines.specs.Blocks.{is_block}
use Rattle.sel_lines.specs.ListParts.{AreFew}

-- The list that is stored for a row: the row, or `width` zeros for null.
abbrev pub standing_for : ℕ → Value → Value
standing_for width Null = list_of (replicate width (Number (pos 0)))
standing_for width row = row

-- The parts that store these rows: the items of the stored lists, concatenated, with one flag for
-- each item, and the validity of the rows, each of which is null or has `width` items.
pub record HasBlocks (width : ℕ) (read : List Value) (blocks : Blocks) : Type 0 where
  pub items : hidden blocks.flags.items (map Number blocks.values.items)
      ≡ joined_items width (map (standing_for width) read)
  pub flags : length blocks.flags.items ≡ length blocks.values.items
  pub valid : blocks.validity.items ≡ validities read
  pub all : IsTrue (list_all (is_block width) read)

-- The parts store these rows, or both are none.
abbrev pub IsReadingBlocks : ℕ → Option (List Value) → Option Blocks → Type 0
IsReadingBlocks width rows None = None ≡ rows
IsReadingBlocks width rows (Some blocks) =
    (read : List Value) × (rows ≡ Some read) × HasBlocks width read blocks

-- The parts store rows that a fixed-size list column can have.
abbrev pub AreKeptBlocks : ℕ → Blocks → Type 0
AreKeptBlocks width blocks =
    (read : List Value) × HasBlocks width read blocks
    × AreFew read (joined_items width (map (standing_for width) read))
