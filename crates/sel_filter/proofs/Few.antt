-- Compression of a word, one set bit of the mask at a time.
use Rattle.sel_filter.proofs.Common.{◌≡◌, ℕ, ◌+◌, ◌-◌, ◌*◌, ◌/◌, ◌%◌, ◌^◌, ◌<◌, ◌∙◌, sym, ap, arith, List, [], ◌∷◌, ◌++◌, length, Bool}
use Rattle.sel_filter.proofs.Common.{false, cond, length-append, bit_and, bit_at, trailing_zeros, w64, bit_at-lt, shr_and_one}
use Rattle.sel_filter.proofs.Common.{count_by-le-length, is_set, bits, word_of, compress, select, count_true, cond_of_bit, length_bits}
use Rattle.std.specs.Prelude.{bit_or}
use Rattle.sel_bits.proofs.Packs.{get_bits}
use Rattle.sel_filter.proofs.{Marking.IsMarking, Marking.mark_within, Marking.mark_room, Marking.marking_next, Marking.marking_last, WordLists.word_joined}

-- The state: the bits so far are the word `out`.
pub record IsFew (v m out place marks : ℕ) : Type 0 where
  pub front : List Bool
  pub marking : IsMarking (bits 64 v) (select (bits 64 v) (bits (length (bits 64 v)) m)) (count_true (bits (length (bits 64 v)) m)) front marks place
  pub word : out ≡ word_of front
  pub long : length front ≡ place

pub few_first : (v m : ℕ) → m < 2 ^ 64 → IsFew v m 0 0 m
few_first v m fits = grind (arith, length_bits)

module _ (v m out place marks : ℕ) (some : 0 < marks) (fits : marks < 2 ^ 64) (was : IsFew v m out place marks) where
  pub place_below : place < 64
  place_below =
      let n = length (bits 64 v) in
      omega (arith, mark_room _ _ _ was.front marks place some fits was.marking, count_by-le-length (λ b. b) (bits n m), length_bits n m, length_bits 64 v)

  pub few_next : IsFew v m (bit_or out (bit_and (v / 2 ^ trailing_zeros w64 marks) 1 * 2 ^ place % 2 ^ 64)) (place + 1) (bit_and marks (marks - 1))
  few_next =
      let t = trailing_zeros w64 marks in
      let within : t < 64 = omega (arith, mark_within _ _ _ was.front marks place some fits was.marking, length_bits 64 v) in
      let number : cond (is_set v t) 1 0 ≡ bit_at v t = cond_of_bit (bit_at v t) (bit_at-lt v t) in
      record {
        front = was.front ++ is_set v t ∷ [];
        marking = marking_next _ _ _ was.front marks place some fits was.marking (is_set v t) (sym (get_bits 64 v t false within));
        word = word_joined was.front (is_set v t ∷ []) out place (bit_and (v / 2 ^ t) 1) was.word (sym was.long) (omega (arith, shr_and_one v t, number)) (omega (arith, place_below));
        long = omega (arith, length-append was.front (is_set v t ∷ []), was.long);
      }

pub few_last : (v m out place marks : ℕ) → marks ≡ 0 → IsFew v m out place marks → out ≡ compress v m
unfolding compress
few_last v m out place marks none was =
    was.word ∙ ap word_of ((marking_last _ _ _ was.front marks place none was.marking).0 ∙ ap (λ n. select (bits 64 v) (bits n m)) (length_bits 64 v))

pub ruleset few_steps = (few_first, few_next)
