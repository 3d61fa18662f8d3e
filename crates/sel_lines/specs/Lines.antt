-- The lines of a text.
use Rattle.std.specs.Prelude.{ℕ, ◌≢◌, ◌==◌, List, [], ◌∷◌, length, if◌then◌else◌, All}
use Rattle.std.specs.List.{slice_split}

-- The maximum number of bytes in a line, without its line feed.
abbrev pub longest_line : ℕ
longest_line = 1048576

-- The number of the last line that can be good.
abbrev pub last_number : ℕ
last_number = 4294967295

-- The parts between line feeds; the last one has no line feed.
abbrev pub line_parts : List ℕ → List (List ℕ)
line_parts text = slice_split (λ b. b == 10) text

-- The lines of these parts; the last part is a line if it is not empty.
abbrev pub lines_of_parts : List (List ℕ) → List (List ℕ)
lines_of_parts [] = []
lines_of_parts (x ∷ []) = if length x == 0 then [] else x ∷ []
lines_of_parts (x ∷ y ∷ more) = x ∷ lines_of_parts (y ∷ more)

-- All items but the last.
abbrev pub but_last : {X : Type 0} → List X → List X
but_last [] = []
but_last (x ∷ []) = []
but_last (x ∷ y ∷ more) = x ∷ but_last (y ∷ more)

-- The lines of a text; the last one may have no line feed.
unfoldable pub lines : List ℕ → List (List ℕ)
lines text = lines_of_parts (line_parts text)

-- The lines that end with a line feed.
unfoldable pub whole_lines : List ℕ → List (List ℕ)
whole_lines text = but_last (line_parts text)

-- No byte is a line feed.
abbrev pub HasNoFeed : List ℕ → Type 0
HasNoFeed line = All (λ b. b ≢ 10) line
