-- The bytes of the whole words of a list of bits.
use Rattle.std.proofs.Common.{◌≡◌, ℕ, ◌+◌, ◌-◌, ◌*◌, ◌/◌, ◌≤◌, ◌∙◌, ap, arith, List, [], ◌++◌, length, take, drop, Bool}
use Rattle.std.specs.Int.{bytes_low_first}
use Rattle.sel_bits.specs.Bits.{bits_from}
use Rattle.sel_bits.specs.Words.{bits, word_of}
use Rattle.std.proofs.lemmas.List.{take_all}
use Rattle.sel_bits.proofs.{BitLists.bits_from_none, Combining.packed_more, Packs.length_bytes, Packs.word_packed}

-- The bytes have the bits of the first blocks, and the capacity is that of all blocks and a word.
pub record HasBlocks (made : List Bool) (blocks block : ℕ) (bytes : List ℕ) (capacity : ℕ) : Type 0 where
  pub packed : bits_from bytes 0 (8 * length bytes) ≡ take (64 * block) made
  pub len : length bytes ≡ 8 * block
  pub room : 8 * blocks + 8 ≤ capacity

pub no_blocks : (made : List Bool) (blocks : ℕ) (bytes : List ℕ) (capacity : ℕ) → bytes ≡ [] → 8 * blocks + 8 ≤ capacity → HasBlocks made blocks 0 bytes capacity
no_blocks made blocks bytes capacity none room =
    record { packed = ap (λ l. bits_from l 0 (8 * length l)) none ∙ bits_from_none []; len = ap length none; room = room }

-- One more word.
pub one_block : (made : List Bool) (blocks block : ℕ) (bytes new : List ℕ) (before after w : ℕ) → HasBlocks made blocks block bytes before → new ≡ bytes ++ bytes_low_first 0 8 w → after ≡ before
    → take (64 * block) made ++ bits 64 w ≡ take (64 * (block + 1)) made → HasBlocks made blocks (block + 1) new after
one_block made blocks block bytes new before after w was is same next =
    let long : length new ≡ length bytes + 8 = ap length is ∙ length_bytes bytes w in
    let all : 8 * length new ≡ 8 * length bytes + 64 = omega (arith, long) in
    record {
      packed = (λ i. bits_from (is i) 0 (all i)) ∙ word_packed bytes w 64 (omega arith) ∙ ap (λ l. l ++ bits 64 w) was.packed ∙ next;
      len = omega (arith, long, was.len);
      room = omega (arith, same, was.room);
    }

-- The bytes of all blocks and a last word have all bits.
module _ (made : List Bool) (n : ℕ) (bytes new : List ℕ) (w : ℕ) (long : length made ≡ n) (len : length bytes ≡ 8 * (n / 64)) (packed : bits_from bytes 0 (8 * length bytes) ≡ take (64 * (n / 64)) made)
    (is : new ≡ bytes ++ bytes_low_first 0 8 w) where
  with_last : w ≡ word_of (take (n - 64 * (n / 64)) (drop (64 * (n / 64)) made)) → bits_from new 0 n ≡ made
  with_last word =
      let at = 64 * (n / 64) in
      let rest = n - at in
      let all : n ≡ 8 * length bytes + rest = omega (arith, len) in
      let end : at + rest ≡ n = omega arith in
      (λ i. bits_from (is i) 0 (all i))
      ∙ word_packed bytes w rest (omega arith)
      ∙ (λ i. packed i ++ bits rest (word i))
      ∙ packed_more made at rest (omega (arith, long))
      ∙ ap (λ m. take m made) end
      ∙ take_all n made (omega (arith, long))

  pub all_packed : (count : ℕ) → count ≡ n → w ≡ word_of (take (count - 64 * (count / 64)) (drop (64 * (count / 64)) made)) → bits_from new 0 count ≡ made
  all_packed count same word =
      ap (bits_from new 0) same ∙ with_last (word ∙ ap (λ m. word_of (take (m - 64 * (m / 64)) (drop (64 * (m / 64)) made))) same)
