-- The contract model of a builder that copies items from one source and counts the copies.
use Rattle.std.specs.Prelude.{◌≡◌, ℕ, ◌+◌, List, ◌++◌, length, take, drop, replicate}

-- The source, the items so far, and the number of copies and fills.
pub record Copying (A : Type 0) : Type 0 where
  pub source : List A
  pub items : List A
  pub copies : ℕ

-- The builder after the `len` items of the source from `at` on are appended.
abbrev pub after_copy : {A : Type 0} → Copying A → ℕ → ℕ → Copying A
after_copy c at len =
    record {
      source = c.source;
      items = c.items ++ take len (drop at c.source);
      copies = c.copies + 1;
    }

-- The builder after `len` copies of one value are appended.
abbrev pub after_fill : {A : Type 0} → Copying A → A → ℕ → Copying A
after_fill c value len =
    record { source = c.source; items = c.items ++ replicate len value; copies = c.copies + 1 }

-- The first list is a prefix of the second.
abbrev pub IsBeginning : {A : Type 0} → List A → List A → Type 0
IsBeginning xs ys = xs ≡ take (length xs) ys
