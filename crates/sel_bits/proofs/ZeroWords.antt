-- Consecutive words without a set bit.
use Rattle.std.proofs.Common.{◌≡◌, ℕ, ◌+◌, ◌*◌, ◌≤◌, ◌∙◌, sym, ap, arith, List, ◌∷◌, ◌++◌, length, take, drop, replicate, Bool, false}
use Rattle.std.proofs.lemmas.List.{replicate-append-replicate, drop-drop}
use Rattle.std.proofs.Math.Seq.{take-add}
use Rattle.sel_bits.specs.Words.{word_of}
use Rattle.sel_bits.proofs.WordsOf.{length_part}

-- If the word of a list has no set bit, each entry is false.
none_true : (l : List Bool) → word_of l ≡ 0 → l ≡ replicate (length l) false
none_true (false ∷ l) zero = ap (λ t. false ∷ t) (none_true l (omega (arith, zero)))
none_true l b0 = grind arith

pub word_more : (l : List Bool) (at words : ℕ) → at + 64 * words + 64 ≤ length l → take (64 * words) (drop at l) ≡ replicate (64 * words) false
    → word_of (take 64 (drop (at + 64 * words) l)) ≡ 0 → take (64 * (words + 1)) (drop at l) ≡ replicate (64 * (words + 1)) false
word_more l at words within so_far zero =
    let n = 64 * words in
    let more : 64 * (words + 1) ≡ n + 64 = omega arith in
    let last : take 64 (drop (at + n) l) ≡ replicate 64 false =
    none_true (take 64 (drop (at + n) l)) zero ∙ ap (λ k. replicate k false) (length_part (at + n) 64 l within) in
    ap (λ k. take k (drop at l)) more
    ∙ take-add n 64 (drop at l)
    ∙ (λ i. so_far i ++ take 64 (drop-drop n at l i))
    ∙ ap (λ t. replicate n false ++ t) last
    ∙ replicate-append-replicate n 64 false
    ∙ ap (λ k. replicate k false) (sym more)
