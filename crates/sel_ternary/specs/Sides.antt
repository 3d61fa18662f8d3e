-- The true and false values of an if-then-else, and the limits that its result exceeds.
use Rattle.std.specs.Prelude.{List, length}
use Rattle.sel_bits.specs.declared.faults.Limit.{Limit}
use Rattle.sel_arrow.specs.Value.{Value}
pub use Rattle.sel_gather.specs.Need.{IsLimitOrMemory, ExceedsRows, ExceedsNone}

-- The true or the false values: a column, or a scalar that is broadcast (when-then-otherwise).
pub data Side (C S : Type 0) : Type 0 where
  column : C → Side C S
  scalar : S → Side C S

-- The limit of rows, which only an if-then-else of two scalars can exceed; its mask may have more
-- rows than a column can have.
abbrev pub exceeded_flat : {C S : Type 0} → Side C S → Side C S → List Value → Limit → Type 0
exceeded_flat (scalar x) (scalar y) rows limit = ExceedsRows (length rows) limit
exceeded_flat (scalar x) (column d) rows limit = ⊥
exceeded_flat (column c) if_false rows limit = ⊥
