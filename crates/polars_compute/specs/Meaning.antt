-- Results that depend only on the type and the rows of a column, not on its layout.
use Rattle.std.specs.Prelude.{◌≡◌, ◌≤◌, ℕ, ℤ, Bool, List, ◌∷◌, ◌++◌, length, Option}
use Rattle.sel_bits.specs.Limits.{max_rows}
use Rattle.sel_arrow.specs.Nested.{list_of}
use Rattle.sel_arrow.specs.Rows.{rows, type_of, IsWellFormed}
use Rattle.sel_arrow.specs.Shape.{Shape}
use Rattle.sel_arrow.specs.Value.{Value, Null}
use Rattle.sel_arrow.specs.declared.column.Column.{Column}
use Rattle.sel_ternary.specs.Choose.{choose, broadcast_true, broadcast_false, broadcast_both}
use Rattle.sel_kernels.specs.Flatten.{flatten}
use Rattle.sel_kernels.specs.Entries.{fixed_get, any_out_of_bounds}
use Rattle.sel_kernels.specs.Lists.{list_get, oob}
use Rattle.sel_kernels.specs.Dictionary.{decode, propagated_keys, rank, valid_values}
use Rattle.sel_kernels.specs.Need.{need, NoneGreater, NoneAbove, ExceedsNone, exceeded_limits}
use Rattle.sel_kernels.specs.Pick.{pick}
use Rattle.sel_kernels.specs.Select.{select, effective_mask}

-- Two columns have the same type and the same rows.
abbrev pub MeansTheSame : Column → Column → Type 0
MeansTheSame c d = (type_of c ≡ type_of d) × (rows c ≡ rows d)

-- The common properties of two such columns: their needs are equal, and each definition gives the
-- same result if one replaces the other among its arguments.
pub record Alike (c d : Column) : Type 0 where
  pub needs : need (type_of c) (rows c) ≡ need (type_of d) (rows d)
  pub selects : (ms : List Bool) → select (rows c) ms ≡ select (rows d) ms
  pub forces : effective_mask (rows c) ≡ effective_mask (rows d)
  pub picks : (before after : List (List Value)) (ps : List (Option (ℕ × ℕ))) →
      pick Null (before ++ rows c ∷ after) ps ≡ pick Null (before ++ rows d ∷ after) ps
  pub chooses : (ms : List Bool) (others : List Value) →
      choose ms (rows c) others ≡ choose ms (rows d) others
  pub chooses_otherwise : (ms : List Bool) (others : List Value) →
      choose ms others (rows c) ≡ choose ms others (rows d)
  pub chooses_one : (ms : List Bool) (other : Value) →
      broadcast_true ms other (rows c) ≡ broadcast_true ms other (rows d)
  pub chooses_or_one : (ms : List Bool) (other : Value) →
      broadcast_false ms (rows c) other ≡ broadcast_false ms (rows d) other
  pub is_one_list : list_of (rows c) ≡ list_of (rows d)
  pub chooses_of_two : (ms : List Bool) (other : Value) →
      broadcast_both ms (list_of (rows c)) other ≡ broadcast_both ms (list_of (rows d)) other
  pub chooses_of_two_otherwise : (ms : List Bool) (other : Value) →
      broadcast_both ms other (list_of (rows c)) ≡ broadcast_both ms other (list_of (rows d))
  pub flattens : (before after : List (List Value)) (ws : List ℕ) (h : ℕ) →
      flatten (before ++ rows c ∷ after) ws h ≡ flatten (before ++ rows d ∷ after) ws h
  pub gets : (index : ℤ) → list_get (rows c) index ≡ list_get (rows d) index
  pub lacks : (index : ℤ) → oob (rows c) index ≡ oob (rows d) index
  pub gets_entries : (width : ℕ) (indices : List Value) →
      fixed_get (rows c) width indices ≡ fixed_get (rows d) width indices
  pub falls_short : (width : ℕ) (indices : List Value) →
      any_out_of_bounds (rows c) width indices ≡ any_out_of_bounds (rows d) width indices
  pub decodes : (values : List Value) → decode (rows c) values ≡ decode (rows d) values
  pub is_decoded : (keys : List Value) → decode keys (rows c) ≡ decode keys (rows d)
  pub ranks : (k : ℕ) → rank (rows c) k ≡ rank (rows d) k
  pub propagates : (values : List Value) →
      propagated_keys (rows c) values ≡ propagated_keys (rows d) values
  pub is_propagated : (keys : List Value) →
      propagated_keys keys (rows c) ≡ propagated_keys keys (rows d)
  pub keeps_valid : valid_values (rows c) ≡ valid_values (rows d)

-- Columns with the same type and the same rows have these properties in common.
abbrev pub EqualMeaning : Type 0
EqualMeaning = (c d : Column) → MeansTheSame c d → Alike c d

-- The rows that a mask selects need no more than all rows.
abbrev pub KeptNeedsNoMore : Type 0
KeptNeedsNoMore =
    (s : Shape) (xs : List Value) (ms : List Bool) → NoneGreater (need s (select xs ms)) (need s xs)

-- The rows of a well-formed column need no more than its limits.
abbrev pub NeedsWithinLimits : Type 0
NeedsWithinLimits = (c : Column) → IsWellFormed c → NoneAbove (need (type_of c) (rows c))

-- As many rows as a column may have exceed a limit exactly if a number that they need is above its
-- limit.
abbrev pub NeedsDecideLimits : Type 0
NeedsDecideLimits = (s : Shape) (xs : List Value) → length xs ≤ max_rows →
    (NoneAbove (need s xs) → ExceedsNone (exceeded_limits s xs))
    × (ExceedsNone (exceeded_limits s xs) → NoneAbove (need s xs))
