-- The words of a line.
use Rattle.std.specs.Prelude.{Option, None, Some}

-- The result of a function of two values; none if one of them is missing.
abbrev pub if_both : {A B C : Type 0} → (A → B → Option C) → Option A → Option B → Option C
if_both f None b = None
if_both f (Some a) None = None
if_both f (Some a) (Some b) = f a b
