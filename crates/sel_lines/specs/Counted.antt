-- A reader or a writer that counts its failures, and knows whether it is flushed.
use Rattle.std.specs.Prelude.{ℕ, suc, zero, ◌+◌, ◌-◌, ◌^◌, min, Bool, true, false, List, [], ◌∷◌}
use Rattle.std.specs.Prelude.{if◌then◌else◌, Result, Ok, Err}
use Rattle.sel_lines.specs.declared.counted.Counted.{Counted}

-- The wrapped reader or writer.
abbrev pub inner_of : {T : Type 0} → Counted T → T
inner_of counted = counted.inner

-- The number of failed calls.
abbrev pub failures_of : {T : Type 0} → Counted T → ℕ
failures_of counted = counted.failures

-- Whether there was no write since the last successful flush.
abbrev pub has_flushed : {T : Type 0} → Counted T → Bool
has_flushed counted = counted.is_flushed

-- The count after a call: one more if it failed, at most 2^64 - 1.
abbrev pub counted_up : Bool → ℕ → ℕ
counted_up has_failed count = if has_failed then min (count + 1) (2 ^ 64 - 1) else count

-- Whether a write has failed: it returned an error, or wrote none of some bytes.
abbrev pub has_write_failed : {E : Type 0} → Result ℕ E → List ℕ → Bool
has_write_failed (Err e) bytes = true
has_write_failed (Ok (suc n)) bytes = false
has_write_failed (Ok zero) [] = false
has_write_failed (Ok zero) (b ∷ bytes) = true
