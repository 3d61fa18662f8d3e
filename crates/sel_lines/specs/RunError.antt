-- Errors of a run.
use Rattle.std.specs.Prelude.{Bool, true, false, Result, Ok, Err}
use Rattle.sel_lines.specs.declared.run.RunError.{RunError}
use Rattle.sel_lines.specs.declared.run.RunError.TheVariants.{OutOfMemory, Input, Output}

-- Whether a read failed.
abbrev pub is_input_fault : {A : Type 0} → Result A RunError → Bool
is_input_fault (Ok a) = false
is_input_fault (Err OutOfMemory) = false
is_input_fault (Err Input) = true
is_input_fault (Err Output) = false

-- Whether a write or a flush failed.
abbrev pub is_output_fault : {A : Type 0} → Result A RunError → Bool
is_output_fault (Ok a) = false
is_output_fault (Err OutOfMemory) = false
is_output_fault (Err Input) = false
is_output_fault (Err Output) = true
