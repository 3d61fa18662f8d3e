-- The texts of errors, and the error for a broken rule.
use Rattle.std.specs.Prelude.{ℕ, ◌≡◌, Bool, List, [], ◌∷◌, ◌++◌, Option, Some, None, codes}
use Rattle.std.specs.Prelude.{if◌then◌else◌}
use Rattle.sel_bits.specs.declared.faults.Limit.{Limit}
use Rattle.sel_bits.specs.declared.faults.Limit.TheVariants.{Rows, Bytes, Buffers, ViewBytes}
use Rattle.sel_bits.specs.declared.faults.PolarsError.{PolarsError}
use Rattle.sel_bits.specs.declared.faults.PolarsError.TheVariants.{OutOfMemory, SizeLimit}
use Rattle.sel_bits.specs.declared.faults.PolarsError.TheVariants.{ComputeError}
use Rattle.sel_bits.specs.declared.faults.Malformed.{Malformed}
use Rattle.sel_bits.specs.declared.faults.MakeError.{MakeError}
use Rattle.sel_bits.specs.declared.faults.MakeError.TheVariants.{Malformed as Broken}
use Rattle.sel_bits.specs.declared.faults.MakeError.TheVariants.{OutOfMemory as WantOfMemory}

-- The text of a limit, as it follows `size limit` in an error message.
abbrev pub limit_text : Limit → List ℕ
limit_text Rows = codes "rows"
limit_text Bytes = codes "bytes"
limit_text Buffers = codes "buffers"
limit_text ViewBytes = codes "view bytes"

-- The text of an error.
abbrev pub error_text : PolarsError → List ℕ
error_text OutOfMemory = codes "out of memory"
error_text (SizeLimit limit) = codes "size limit " ++ limit_text limit
error_text ComputeError = codes "get index is out of bounds"

-- The error is out of memory.
abbrev pub IsOutOfMemory : PolarsError → Type 0
IsOutOfMemory fault = fault ≡ OutOfMemory

-- The first broken rule; each rule is given with whether it is broken.
abbrev pub first_broken : List (Malformed × Bool) → Option Malformed
first_broken [] = None
first_broken (rule ∷ rules) = if rule.1 then Some rule.0 else first_broken rules

-- The error is this broken rule, never out of memory.
abbrev pub IsFault : Option Malformed → MakeError → Type 0
IsFault fault (Broken rule) = fault ≡ Some rule
IsFault fault WantOfMemory = ⊥

-- The error is this broken rule; if no rule is broken, it is out of memory.
abbrev pub IsFaultOrMemory : Option Malformed → MakeError → Type 0
IsFaultOrMemory fault (Broken rule) = fault ≡ Some rule
IsFaultOrMemory fault WantOfMemory = fault ≡ None
