-- What a run reads and writes for one line.
use Rattle.std.specs.Prelude.{ℕ, ◌≡◌, ◌==◌, ◌<◌, List, [], ◌∷◌, ◌++◌, length, Option, None, Some}
use Rattle.std.specs.Prelude.{Result, Ok, Err, if◌then◌else◌}
use Rattle.std.specs.Io.{StartsWith}
use Rattle.std.specs.Io.KnownBytes.{Consumes, Appends, IsAtEnd}
use Rattle.sel_lines.specs.declared.reading.LineEnd.{LineEnd}
use Rattle.sel_lines.specs.declared.reading.LineEnd.TheVariants as ending
use Rattle.sel_lines.specs.declared.run.Done.{Done}
use Rattle.sel_lines.specs.declared.run.Done.TheVariants.{End, BadLine}
use Rattle.sel_lines.specs.declared.run.RunError.{RunError}
use Rattle.sel_lines.specs.declared.run.RunError.TheVariants.{OutOfMemory, Input, Output}
use Rattle.sel_lines.specs.Lines.{HasNoFeed, longest_line}
use Rattle.sel_lines.specs.Output.{output_from, first_bad_from}

-- The bytes that were read for a line with this end.
abbrev pub piece : LineEnd → List ℕ → List ℕ
piece ending.Feed line = line ++ 10 ∷ []
piece ending.Input line = line
piece ending.TooLong line = line

-- The lines in these bytes: one, or none at the end of the input.
abbrev pub lines_in : LineEnd → List ℕ → List (List ℕ)
lines_in ending.Feed line = line ∷ []
lines_in ending.Input line = if length line == 0 then [] else line ∷ []
lines_in ending.TooLong line = if length line == 0 then [] else line ∷ []

-- What the end of a line implies: the end of the input, or that the line exceeds the maximum
-- length.
abbrev pub IsReadTo : LineEnd → List ℕ → Option (List ℕ) → Type 0
IsReadTo ending.Feed line left = Unit {0}
IsReadTo ending.Input line left = IsAtEnd left
IsReadTo ending.TooLong line left = longest_line < length line

-- What holds at the end of the step for line n, for each result.
abbrev pub StepEnds : ℕ → Result (Option Done) RunError → LineEnd → List ℕ → List ℕ →
    Option (List ℕ) → Type 0
StepEnds n (Ok None) end line written left =
    (end ≡ ending.Feed) × (first_bad_from n (line ∷ []) ≡ None)
    × (written ≡ output_from n (line ∷ []))
StepEnds n (Ok (Some End)) end line written left = (end ≡ ending.Input) × IsAtEnd left
    × (first_bad_from n (lines_in end line) ≡ None) × (written ≡ output_from n (lines_in end line))
StepEnds n (Ok (Some (BadLine m))) end line written left = (m ≡ n) × IsReadTo end line left
    × (first_bad_from n (lines_in end line) ≡ Some n)
    × (written ≡ output_from n (lines_in end line))
StepEnds n (Err Input) end line written left = (end ≡ ending.Input) × (written ≡ [])
StepEnds n (Err OutOfMemory) end line written left = written ≡ []
StepEnds n (Err Output) end line written left =
    StartsWith (output_from n (lines_in end line)) written

-- What one step read, wrote and left.
pub record Step (n : ℕ) (result : Result (Option Done) RunError)
    (before after holds_before holds_after : Option (List ℕ)) : Type 0 where
  pub end : LineEnd
  pub line : List ℕ
  pub written : List ℕ
  pub no_feed : HasNoFeed line
  pub reads : Consumes before after (piece end line)
  pub writes : Appends holds_before holds_after written
  pub ends : StepEnds n result end line written after
