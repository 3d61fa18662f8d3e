-- Views into the data buffers of several columns.
use Rattle.std.specs.Prelude.{ℕ, ◌+◌, ◌<◌, ◌≤◌, List, map, length, take, if◌then◌else◌}
use Rattle.std.specs.List.{flat_map, range_with_len}
use Rattle.sel_bits.specs.Limits.{max_buffers}
use Rattle.sel_bits.specs.declared.faults.Limit.TheVariants.{Buffers as BufferLimit}
use Rattle.sel_bits.specs.declared.faults.PolarsError.{PolarsError}
use Rattle.sel_bits.specs.declared.faults.PolarsError.TheVariants.{OutOfMemory, SizeLimit}
use Rattle.sel_arrow.specs.Views.{is_inline}
use Rattle.sel_arrow.specs.declared.view.View.{View}

-- The view with k added to its buffer index; an inline view is unchanged.
abbrev pub raised : View → ℕ → View
raised view k =
    if is_inline view then view
    else record {
      length = view.length;
      prefix = view.prefix;
      buffer_idx = view.buffer_idx + k;
      offset = view.offset;
    }

-- For each part, the number of entries in the parts before it.
abbrev pub starts_of : {X A : Type 0} → (X → List A) → List X → List ℕ
starts_of part xs = map (λ i. length (flat_map part (take i xs))) (range_with_len 0 (length xs))

-- The error is the limit of data buffers if this number exceeds it, else out of memory.
abbrev pub IsBufferLimitOrMemory : ℕ → PolarsError → Type 0
IsBufferLimitOrMemory count OutOfMemory = count ≤ max_buffers
IsBufferLimitOrMemory count (SizeLimit BufferLimit) = max_buffers < count
IsBufferLimitOrMemory count _ = ⊥
