-- The messages of errors, and the positions that they report.
use Rattle.std.specs.Prelude.{◌≡◌, ℕ, ◌≤◌, ⊤, true, Some, IsTrue, List, ◌++◌, codes}
use Rattle.std.specs.Fmt.{decimal}
use Rattle.std.specs.List.{list_all}
use Rattle.sel_arrow.specs.Shape.{Shape}
use Rattle.sel_arrow.specs.Value.{Value}
use Rattle.sel_bits.specs.declared.faults.MakeError.{MakeError}
use Rattle.sel_bits.specs.declared.faults.MakeError.TheVariants.{OutOfMemory as MakeMemory}
use Rattle.sel_bits.specs.declared.faults.PolarsError.{PolarsError}
use Rattle.sel_bits.specs.declared.faults.PolarsError.TheVariants.{OutOfMemory as KernelMemory}
use Rattle.sel_text.specs.Fits.{fits}
use Rattle.sel_text.specs.Spelling.{spelled}
use Rattle.sel_text.specs.Texts.{text_of}
use Rattle.sel_text.specs.Notation.{is_row_notation, is_type_notation, IsFirstError}
use Rattle.sel_text.specs.declared.text_error.Fault.{Fault}
use Rattle.sel_text.specs.declared.text_error.Fault.TheVariants.{Limit as LimitFault}
use Rattle.sel_text.specs.declared.text_error.Fault.TheVariants.{OutOfMemory as MemoryFault}
use Rattle.sel_text.specs.declared.text_error.TextError.{TextError}
use Rattle.sel_text.specs.declared.text_error.TextError.TheVariants.{Syntax, «Type», Limit}
use Rattle.sel_text.specs.declared.text_error.TextError.TheVariants.{OutOfMemory}

-- The message of an error.
abbrev pub parse_error_text : TextError → List ℕ
parse_error_text (Syntax at) = codes "syntax at byte " ++ decimal at
parse_error_text («Type» at) = codes "type at byte " ++ decimal at
parse_error_text Limit = codes "size limit"
parse_error_text OutOfMemory = codes "out of memory"

-- A position that is reported is within the text or at its end.
abbrev pub IsOffsetWithin : ℕ → TextError → Type 0
IsOffsetWithin count (Syntax at) = at ≤ count
IsOffsetWithin count («Type» at) = at ≤ count
IsOffsetWithin count error = ⊤

-- An error in row text: a syntax error is reported at its position, and a misfit or a limit only if
-- there is no syntax error.
abbrev pub IsRowTextError : List ℕ → TextError → Type 0
IsRowTextError text (Syntax at) = IsFirstError is_row_notation text at
IsRowTextError text («Type» at) = is_row_notation text ≡ true
IsRowTextError text Limit = is_row_notation text ≡ true
IsRowTextError text OutOfMemory = ⊤

-- An error in the text of a type: a syntax error is reported at its position, and a limit only if
-- there is no syntax error; nothing is a misfit.
abbrev pub IsTypeTextError : List ℕ → TextError → Type 0
IsTypeTextError text (Syntax at) = IsFirstError is_type_notation text at
IsTypeTextError text («Type» at) = ⊥
IsTypeTextError text Limit = is_type_notation text ≡ true
IsTypeTextError text OutOfMemory = ⊤

-- The error is an exceeded limit or out of memory, not an error in the text.
abbrev pub IsLimitOrMemoryError : TextError → Type 0
IsLimitOrMemoryError Limit = ⊤
IsLimitOrMemoryError OutOfMemory = ⊤
IsLimitOrMemoryError error = ⊥

-- The fault for an error of a constructor: `OutOfMemory`, or `Limit` for a broken rule.
abbrev pub make_fault : MakeError → Fault
make_fault MakeMemory = MemoryFault
make_fault error = LimitFault

-- The fault for an error of a kernel: `OutOfMemory`, or `Limit` for any other one.
abbrev pub kernel_fault : PolarsError → Fault
kernel_fault KernelMemory = MemoryFault
kernel_fault error = LimitFault

-- A text is that of some rows that fit the type.
abbrev pub HasFittingRows : Shape → List ℕ → Type 0
HasFittingRows shape text =
    (values : List Value) × IsTrue (list_all (fits shape) values)
    × (spelled text ≡ Some (text_of shape values))
