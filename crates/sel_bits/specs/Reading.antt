-- The contract models of bitmap readers that count what they have returned.
use Rattle.std.specs.Prelude.{ℕ, ◌+◌, ◌-◌, ◌*◌, ◌/◌, ◌%◌, min, Bool, List, length, take, drop}
use Rattle.sel_bits.specs.Bits.{Bits}

-- A reader of words: its bitmap, and the number of words returned.
pub record WordReading : Type 0 where
  pub source : Bits
  pub words_read : ℕ

-- The number of bits in the first `words` words; each word ends at a multiple of 64 bits in the
-- shared bytes, or at the last bit.
abbrev pub bits_in : Bits → ℕ → ℕ
bits_in source words = min (length source.bits) (64 * words - source.offset % 64)

-- The number of bits that the reader has returned.
abbrev pub reached : WordReading → ℕ
reached reading = bits_in reading.source reading.words_read

-- The reader after its next word.
abbrev pub after_word : WordReading → WordReading
after_word reading = record { source = reading.source; words_read = reading.words_read + 1 }

-- The reader after `skipped` bits in words of 64 bits.
abbrev pub after_zeros : WordReading → ℕ → WordReading
after_zeros reading skipped = record {
  source = reading.source;
  words_read = reading.words_read + skipped / 64;
}

-- The number of bits in the next word.
abbrev pub next_count : WordReading → ℕ
next_count reading = reached (after_word reading) - reached reading

-- The bits of the next word.
abbrev pub next_bits : WordReading → List Bool
next_bits reading = take (next_count reading) (drop (reached reading) reading.source.bits)

-- A reader of single bits: its bitmap, and the number of times that it has returned a bit.
pub record BitReading : Type 0 where
  pub source : Bits
  pub bits_read : ℕ

-- The reader after one more bit.
abbrev pub after_bit : BitReading → BitReading
after_bit reading = record { source = reading.source; bits_read = reading.bits_read + 1 }

-- A reader of blocks of 56 bits: its bitmap, and the number of blocks returned.
pub record BlockReading : Type 0 where
  pub source : Bits
  pub blocks_read : ℕ

-- The reader after its next block.
abbrev pub after_block : BlockReading → BlockReading
after_block reading = record { source = reading.source; blocks_read = reading.blocks_read + 1 }

-- The bits of the next block: 56, or those left at the end of the bitmap.
abbrev pub block_bits : BlockReading → List Bool
block_bits reading = take 56 (drop (56 * reading.blocks_read) reading.source.bits)
