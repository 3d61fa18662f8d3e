-- Compression of a word, four bits at a time.
use Rattle.sel_filter.proofs.Common.{◌≡◌, ℕ, ◌+◌, ◌*◌, ◌/◌, ◌%◌, ◌^◌, ◌<◌, ◌≤◌, List, Bool, ◌++◌, length, get_or, ap, sym, ◌∙◌, arith, length-append}
use Rattle.sel_filter.proofs.Common.{count_ones, shr-shr, bits, word_of, bits_zero, length_bits, bits_split, bit_at_mod, select, compress, NIBBLES}
use Rattle.std.specs.Prelude.{bit_or}
use Rattle.sel_bits.proofs.Packs.{bits_same}
use Rattle.sel_filter.proofs.{Selects.select-append, Selects.few_kept, WordLists.word_joined, FourBits.kept_four, FourBits.entry_is, FourBits.count_is}

-- The bits of v that m keeps, of the n lowest ones.
abbrev pub kept_bits : ℕ → ℕ → ℕ → List Bool
kept_bits v m n = select (bits n v) (bits n m)

pub few_bits : (v m n : ℕ) → length (kept_bits v m n) ≤ n
few_bits v m n = omega (arith, few_kept (bits n v) (bits n m), length_bits n v)

-- The state after i rounds: the rest of both words, the packed word so far, and its number of bits.
pub record IsPacked (v m i values mask packed place : ℕ) : Type 0 where
  pub values-left : values ≡ v / 2 ^ (4 * i)
  pub mask-left : mask ≡ m / 2 ^ (4 * i)
  pub word : packed ≡ word_of (kept_bits v m (4 * i))
  pub count : place ≡ length (kept_bits v m (4 * i))

pub packed_first : (v m : ℕ) → IsPacked v m 0 v m 0 0
packed_first v m = grind (arith, bits_zero)

four_bits : (x : ℕ) → bits 4 (x % 16) ≡ bits 4 x
four_bits x = bits_same 4 (x % 16) x (λ i lt. bit_at_mod x 4 i lt)

module _ (v m i values mask packed place : ℕ) (below : i < 16) (was : IsPacked v m i values mask packed place) where
  abbrev pub four : List Bool
  four = kept_four (values % 16) (mask % 16)

  pub grown : kept_bits v m (4 * (i + 1)) ≡ kept_bits v m (4 * i) ++ four
  grown =
      let e : 4 * (i + 1) ≡ 4 * i + 4 = omega arith in
      ap (kept_bits v m) e
      ∙ (λ j. select (split v values was.values-left j) (split m mask was.mask-left j))
      ∙ select-append (bits (4 * i) v) (bits (4 * i) m) (bits 4 (values % 16)) (bits 4 (mask % 16)) (length_bits (4 * i) v ∙ sym (length_bits (4 * i) m))
    where
      split : (x left : ℕ) → left ≡ x / 2 ^ (4 * i) → bits (4 * i + 4) x ≡ bits (4 * i) x ++ bits 4 (left % 16)
      split x left is = bits_split (4 * i) 4 x ∙ ap (λ l. bits (4 * i) x ++ l) (ap (bits 4) (sym is) ∙ sym (four_bits left))

  pub place_few : place < 64
  place_few = omega (arith, was.count, few_bits v m (4 * i))

  pub packed_next : IsPacked v m (i + 1) (values / 16) (mask / 16) (bit_or packed (get_or NIBBLES (16 * (mask % 16) + values % 16) 0 * 2 ^ place % 2 ^ 64)) (place + count_ones (mask % 16))
  packed_next = grind (arith, left, word_joined, entry_is, few_bits, grown, count_is, length-append)
    where
      left : (x now : ℕ) → now ≡ x / 2 ^ (4 * i) → now / 16 ≡ x / 2 ^ (4 * (i + 1))
      left x now is = let e : 4 * i + 4 ≡ 4 * (i + 1) = omega arith in ap (λ n. n / 16) is ∙ shr-shr x (4 * i) 4 ∙ ap (λ n. x / 2 ^ n) e

-- After 16 rounds no bits are left.
pub packed_last : (v m values mask packed place : ℕ) → IsPacked v m 16 values mask packed place → packed ≡ compress v m
unfolding compress
packed_last v m values mask packed place was = was.word

pub ruleset packing = (packed_last, place_few)
