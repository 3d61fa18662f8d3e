use Rattle.std.specs.Prelude.{ℕ, ◌+◌, List, [], ◌∷◌, ◌++◌, Option, None, Some, if◌then◌else◌, codes}
use Rattle.std.specs.Prelude.{decimal, nat_le}
use Rattle.sel_lines.specs.Commands.{answer_of_line}
use Rattle.sel_lines.specs.Lines.{lines, last_number}

-- The output for line number n; none if the line is bad.
abbrev pub answer_at : ℕ → List ℕ → Option (List ℕ)
answer_at n line = if nat_le n last_number then answer_of_line line else None

-- The message for a bad line n.
abbrev pub bad_line_text : ℕ → List ℕ
bad_line_text n = codes "bad line " ++ decimal n ++ codes "\n"

-- What is written for line n and the lines after it: the message if the line is bad, else its
-- output and what follows.
abbrev pub written_for : ℕ → Option (List ℕ) → List ℕ → List ℕ
written_for n None after = bad_line_text n
written_for n (Some answer) after = answer ++ 10 ∷ after

-- What is written for lines, the first of which has number n: their output up to the first bad
-- line, and the message for that line.
unfoldable pub output_from : ℕ → List (List ℕ) → List ℕ
output_from n [] = []
output_from n (line ∷ more) = written_for n (answer_at n line) (output_from (n + 1) more)

-- The number of a line if it is bad, else another number.
abbrev pub bad_or : ℕ → Option (List ℕ) → Option ℕ → Option ℕ
bad_or n None after = Some n
bad_or n (Some answer) after = after

-- The number of the first bad line, if the first line has number n.
unfoldable pub first_bad_from : ℕ → List (List ℕ) → Option ℕ
first_bad_from n [] = None
first_bad_from n (line ∷ more) = bad_or n (answer_at n line) (first_bad_from (n + 1) more)

-- What is written for these lines.
abbrev pub answers : List (List ℕ) → List ℕ
answers ls = output_from 1 ls

-- The number of the first bad line.
abbrev pub first_bad : List (List ℕ) → Option ℕ
first_bad ls = first_bad_from 1 ls

-- What is written for a text.
abbrev pub output : List ℕ → List ℕ
output text = answers (lines text)
