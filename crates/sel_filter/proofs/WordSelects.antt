-- The bits of a word that another word selects.
use Rattle.sel_filter.proofs.Common.{◌≡◌, ℕ, ◌^◌, ◌<◌, ◌≤◌, ◌∙◌, sym, ap, subst, arith, List, length, replicate, Bool}
use Rattle.sel_filter.proofs.Common.{true, append-nil, count_ones}
use Rattle.sel_filter.proofs.Common.{count_by-le-length, bits, word_of, compress, select, word_of_lt, length_bits}
use Rattle.sel_filter.proofs.Common.{take_all}
use Rattle.std.proofs.lemmas.List.{take-append-le}
use Rattle.sel_filter.proofs.WordLists.{all_set, bits_word_of, count_word, ones_is}
use Rattle.sel_filter.proofs.Selects.{select_front, length-select}

module _ (v m : ℕ) (m_fits : m < 2 ^ 64) where
  pub kept_ones : length (select (bits 64 v) (bits 64 m)) ≡ count_ones m
  kept_ones = length-select (bits 64 v) (bits 64 m) (length_bits 64 v ∙ sym (length_bits 64 m)) ∙ sym (ones_is 64 m m_fits)

  pub few_ones : count_ones m ≤ 64
  few_ones = omega (arith, ones_is 64 m m_fits, count_by-le-length (λ b. b) (bits 64 m), length_bits 64 m)

  pub compress_fits : compress v m < 2 ^ count_ones m
  unfolding compress
  compress_fits = subst (λ k. word_of (select (bits 64 v) (bits 64 m)) < 2 ^ k) kept_ones (word_of_lt (select (bits 64 v) (bits 64 m)))

  pub compress_bits : bits (count_ones m) (compress v m) ≡ select (bits 64 v) (bits 64 m)
  unfolding compress
  compress_bits = grind (arith, kept_ones, bits_word_of, append-nil)

pub full_count : count_ones 18446744073709551615 ≡ 64
full_count = count_word (replicate 64 true)

pub select_full : (v m : ℕ) → m ≡ 18446744073709551615 → select (bits 64 v) (bits 64 m) ≡ bits 64 v
select_full v m full = all_set (bits 64 v) 64 m (length_bits 64 v) (omega (arith, full)) (ap count_ones full ∙ full_count)

-- The words of two lists.
pub words_select : (a b : List Bool) (n : ℕ) → length a ≡ n → length b ≡ n → n ≤ 64 → select (bits 64 (word_of a)) (bits 64 (word_of b)) ≡ select a b
words_select a b n la lb few = grind (arith, bits_word_of, select_front, take-append-le, take_all)

pub ruleset selected_bits = (few_ones, compress_fits, compress_bits, select_full)
