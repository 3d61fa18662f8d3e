-- What `run` has read and written, for each result.
use Rattle.std.specs.Prelude.{ℕ, ◌≡◌, ◌<◌, ◌⊎◌, List, [], ◌∷◌, ◌++◌, length, Option, None, Some}
use Rattle.std.specs.Prelude.{Result, Ok, Err}
use Rattle.std.specs.Io.{StartsWith}
use Rattle.std.specs.Io.KnownBytes.{Consumes, Appends, IsAtEnd}
use Rattle.sel_lines.specs.declared.run.Done.{Done}
use Rattle.sel_lines.specs.declared.run.Done.TheVariants.{End, BadLine}
use Rattle.sel_lines.specs.declared.run.RunError.{RunError}
use Rattle.sel_lines.specs.declared.run.RunError.TheVariants.{OutOfMemory, Input, Output}
use Rattle.sel_lines.specs.Lines.{lines, whole_lines, but_last, HasNoFeed, longest_line}
use Rattle.sel_lines.specs.Output.{answers, first_bad, output}

-- These lines are good, and the text is their output.
pub record AreAnswered (ls : List (List ℕ)) (text : List ℕ) : Type 0 where
  pub good : first_bad ls ≡ None
  pub written : text ≡ answers ls

-- The bytes that were read end with a line feed, or are all bytes of the input, or their last line
-- exceeds the maximum length.
abbrev pub IsLineRead : List ℕ → Option (List ℕ) → Type 0
IsLineRead read left = ((before : List ℕ) × (read ≡ before ++ 10 ∷ []))
    ⊎ (IsAtEnd left ⊎ ((before last : List ℕ) × (read ≡ before ++ last) × HasNoFeed last
    × (longest_line < length last)))

-- What holds at the end of a run that read and wrote these bytes and left the others, for each
-- result.
abbrev pub Ends : Result Done RunError → List ℕ → List ℕ → Option (List ℕ) → Type 0
Ends (Ok End) read written left = AreAnswered (lines read) written × IsAtEnd left
Ends (Ok (BadLine n)) read written left =
    (first_bad (lines read) ≡ Some n) × (length (lines read) ≡ n) × (written ≡ output read)
    × IsLineRead read left
Ends (Err Input) read written left = AreAnswered (whole_lines read) written
Ends (Err OutOfMemory) read written left =
    AreAnswered (whole_lines read) written ⊎ AreAnswered (but_last (whole_lines read)) written
Ends (Err Output) read written left = StartsWith (output read) written
    × (first_bad (but_last (lines read)) ≡ None)
    × StartsWith written (answers (but_last (lines read)))

-- The bytes that the reader gave and the writer took, for which the run ended with this result.
abbrev pub Runs : Result Done RunError → (before after : Option (List ℕ)) →
    (holds_before holds_after : Option (List ℕ)) → Type 0
Runs result before after holds_before holds_after = (read : List ℕ) × (written : List ℕ)
    × Consumes before after read × Appends holds_before holds_after written
    × Ends result read written after
