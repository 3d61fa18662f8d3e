-- The invariant of the loop over the set bits of a word, over plain variables.
use Rattle.sel_filter.proofs.Common.{◌≡◌, ℕ, ◌+◌, ◌-◌, ◌^◌, ◌<◌, ◌∙◌, sym, ap, arith, List, [], ◌∷◌, ◌++◌, length, get_or, drop, Bool, false}
use Rattle.sel_filter.proofs.Common.{append_assoc, bit_and, trailing_zeros, w64, length-drop, and_le_l, bits, length_bits, select, count_true}
use Rattle.std.proofs.lemmas.List.{get_or-drop}
use Rattle.sel_filter.proofs.{Firsts.first_kept, Firsts.first_within, WordLists.bits_of_zero, WordLists.none_more}
use Rattle.sel_filter.proofs.Selects.{count_true_none, length-select}

-- The output and what the remaining marks select are the target.
pub record IsMarking (xs target : List Bool) (reads : ℕ) (out : List Bool) (marks bits_read : ℕ) : Type 0 where
  pub small : marks < 2 ^ length xs
  pub gives : out ++ select xs (bits (length xs) marks) ≡ target
  pub counts : bits_read + count_true (bits (length xs) marks) ≡ reads

module _ (xs target : List Bool) (reads : ℕ) (out : List Bool) (marks bits_read : ℕ) (some : 0 < marks) (fits : marks < 2 ^ 64) (was : IsMarking xs target reads out marks bits_read) where
  abbrev rest : ℕ
  rest = bit_and marks (marks - 1)

  first : select xs (bits (length xs) marks) ≡ get_or xs (trailing_zeros w64 marks) false ∷ select xs (bits (length xs) rest)
  first = first_kept xs false 64 marks some was.small fits

  counted : (m : ℕ) → length (select xs (bits (length xs) m)) ≡ count_true (bits (length xs) m)
  counted m = length-select xs (bits (length xs) m) (sym (length_bits (length xs) m))

  left : count_true (bits (length xs) marks) ≡ 1 + count_true (bits (length xs) rest)
  left = omega (arith, counted marks, counted rest, ap length first)

  pub mark_within : trailing_zeros w64 marks < length xs
  mark_within = first_within (length xs) marks some was.small fits

  -- While a mark is left, there are more reads to come.
  pub mark_room : bits_read < reads
  mark_room = omega (arith, was.counts, left)

  pub marking_next : (bit : Bool) → bit ≡ get_or xs (trailing_zeros w64 marks) false → IsMarking xs target reads (out ++ bit ∷ []) (bit_and marks (marks - 1)) (bits_read + 1)
  marking_next bit read = grind (arith, and_le_l, append_assoc, first, left)

-- Without remaining marks, the output is the target.
pub marking_last : (xs target : List Bool) (reads : ℕ) (out : List Bool) (marks bits_read : ℕ) → marks ≡ 0 → IsMarking xs target reads out marks bits_read → (out ≡ target) × (bits_read ≡ reads)
marking_last xs target reads out marks bits_read none was = grind (arith, bits_of_zero, none_more, count_true_none)

-- The lowest mark is within the list.
pub mark_place : (all target : List Bool) (reads : ℕ) (out : List Bool) (start marks bits_read : ℕ) → 0 < marks → marks < 2 ^ 64
    → IsMarking (drop start all) target reads out marks bits_read → start + trailing_zeros w64 marks < length all
mark_place all target reads out start marks bits_read some fits was =
    omega (arith, mark_within (drop start all) target reads out marks bits_read some fits was, length-drop start all)

pub mark_bit : (all : List Bool) (start t : ℕ) (bit : Bool) → bit ≡ get_or all (start + t) false → bit ≡ get_or (drop start all) t false
mark_bit all start t bit read = read ∙ sym (get_or-drop start all t false)
