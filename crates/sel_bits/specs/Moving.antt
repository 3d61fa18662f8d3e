-- The contract model of a word whose bits are moved down.
use Rattle.std.specs.Prelude.{ℕ, ◌+◌, ◌/◌, ◌^◌, bit_and, bit_or}
use Rattle.std.specs.Int.{bit_not, w64}

-- The original word, the word as it is now, and the number of moves.
pub record Moving : Type 0 where
  pub source : ℕ
  pub word : ℕ
  pub moves : ℕ

-- The word with all bits outside the mask cleared.
abbrev pub kept_under : Moving → ℕ → Moving
kept_under moving m =
    record { source = moving.source; word = bit_and moving.word m; moves = moving.moves }

-- The word with the bits under the mask moved down by a number of positions and merged (bitwise or)
-- with the other bits; one move more.
abbrev pub moved_down : Moving → ℕ → ℕ → Moving
moved_down moving under by = record {
  source = moving.source;
  word = bit_or (bit_and moving.word (bit_not w64 under)) (bit_and moving.word under / 2 ^ by);
  moves = moving.moves + 1;
}
