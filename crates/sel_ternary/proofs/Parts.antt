-- If-then-else with a broadcast value, over parts of lists.
use Rattle.sel_ternary.proofs.Common.{common_steps, ◌≡◌, ℕ, ◌+◌, ◌^◌, ◌<◌, ◌≤◌, ◌∙◌, sym, refl, ap, arith, List, [], ◌∷◌, ◌++◌, length, take, drop, replicate, map, Bool}
use Rattle.sel_ternary.proofs.Common.{true, false, not, w64, take_all, length-map, length-replicate, get_or-replicate, bits, length_bits, get_bits, length_part}
use Rattle.sel_ternary.proofs.Common.{choose, broadcast_true, broadcast_false, broadcast_both}
use Rattle.std.proofs.lemmas.List.{same_lists, take-append-le, get_or-take, get_or-drop, get_or-map}
use Rattle.sel_ternary.proofs.Chosen.{repeated_then, repeated_otherwise, repeated_both}

-- A part of a repeated value is a repeated value.
pub part_of_repeated : {A : Type 0} → (n at k : ℕ) (x : A) → at + k ≤ n → take k (drop at (replicate n x)) ≡ replicate k x
part_of_repeated n at k x le =
    same_lists (take k (drop at (replicate n x))) (replicate k x) (long ∙ sym (length-replicate k x))
    (λ i d lt.
    let low : i < k = omega (arith, lt, long) in
    get_or-take k (drop at (replicate n x)) i d low ∙ get_or-drop at (replicate n x) i d ∙ get_or-replicate n (at + i) x d (omega arith) ∙ sym (get_or-replicate k i x d low))
  where
    long : length (take k (drop at (replicate n x))) ≡ k
    long = length_part at k (replicate n x) (omega (arith, length-replicate n x))

-- If the other list is as long as the mask, a repeated value equals a broadcast value.
pub choice_or_one : {A : Type 0} → (ms : List Bool) (ts : List A) (x : A) (n : ℕ) → n ≡ length ms → choose ms ts (replicate n x) ≡ broadcast_false ms ts x
choice_or_one ms ts x n long = ap (λ k. choose ms ts (replicate k x)) long ∙ sym (repeated_otherwise ms ts x)

pub choice_one : {A : Type 0} → (ms : List Bool) (x : A) (fs : List A) (n : ℕ) → n ≡ length ms → choose ms (replicate n x) fs ≡ broadcast_true ms x fs
choice_one ms x fs n long = ap (λ k. choose ms (replicate k x) fs) long ∙ sym (repeated_then ms x fs)

pub choice_of_two : {A : Type 0} → (ms : List Bool) (x y : A) (n : ℕ) → n ≡ length ms → choose ms (replicate n x) (replicate n y) ≡ broadcast_both ms x y
choice_of_two ms x y n long = ap (λ k. choose ms (replicate k x) (replicate k y)) long ∙ sym (repeated_both ms x y)

pub ruleset broadcasts = (choice_or_one, choice_one, choice_of_two, length-replicate)
