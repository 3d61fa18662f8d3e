-- Compression if the kept bits are all equal.
use Rattle.sel_filter.proofs.Common.{◌≡◌, ℕ, zero, suc, ◌-◌, ◌/◌, ◌^◌, ◌<◌, ◌≤◌, ◌∙◌, sym, refl, ap, arith, List, [], ◌∷◌, replicate, Bool, true, false}
use Rattle.sel_filter.proofs.Common.{bit_and, count_ones, pow-suc, pow_pos, bit_at-zero, count_by-le-length, bits, word_of}
use Rattle.sel_filter.proofs.Common.{compress, select, count_true, length_bits}
use Rattle.std.proofs.lemmas.Nat.Bits.{ones_shr}
use Rattle.std.specs.Int.Bits.{and_self}
use Rattle.sel_filter.proofs.{Rounds.one_standing, Ranks.compress_standing, Selects.count_cons, WordLists.ones_is}

-- No kept bit is set.
pub compress_none : (v m : ℕ) → m < 2 ^ 64 → bit_and v m ≡ 0 → 0 ≡ compress v m
compress_none v m fits none =
    one_standing m 0 6 _ _
    (record { there = λ q set. absurd (omega (arith, bit_at-zero q, set)); back = λ s set. absurd (omega (arith, bit_at-zero s, set)) })
    (rw none at (compress_standing m v fits))

select_self : (ms : List Bool) → select ms ms ≡ replicate (count_true ms) true
select_self [] = refl
select_self (true ∷ ms) = ap (λ l. true ∷ l) (select_self ms) ∙ ap (λ n. replicate n true) more
  where
    more : suc (count_true ms) ≡ count_true (true ∷ ms)
    more = omega (arith, count_cons true ms)
select_self (false ∷ ms) = select_self ms

word_of_ones : (n : ℕ) → word_of (replicate n true) ≡ 2 ^ n - 1
word_of_ones zero = refl
word_of_ones (suc n) = omega (arith, word_of_ones n, pow-suc 2 n, pow_pos n)

-- Each kept bit is set.
pub compress_all : (v m n : ℕ) → m < 2 ^ 64 → n ≡ count_ones m → bit_and v m ≡ m → (2 ^ 64 - 1) / 2 ^ (64 - n) ≡ compress v m
unfolding compress
compress_all v m n fits count all =
    let few : n ≤ 64 = omega (arith, count, ones_is 64 m fits, count_by-le-length (λ b. b) (bits 64 m), length_bits 64 m) in
    let back : 64 - (64 - n) ≡ n = omega arith in
    ones_shr 64 (64 - n) (omega arith)
    ∙ ap (λ k. 2 ^ k - 1) (back ∙ count ∙ ones_is 64 m fits)
    ∙ sym (one_standing m m 6 _ _ (rw all at (compress_standing m v fits)) (rw and_self at (compress_standing m m fits)) ∙ ap word_of (select_self (bits 64 m)) ∙ word_of_ones (count_true (bits 64 m)))

pub ruleset shortcuts = (compress_none, compress_all)
