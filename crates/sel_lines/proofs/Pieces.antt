-- The parts of a text are no longer than the text, and at most one more than its bytes.
use Rattle.std.proofs.Common.{rules, ◌≡◌, ◌≤◌, ◌<◌, ℕ, zero, suc, ◌+◌, Bool, List, [], ◌∷◌, length, get_or, map, Bor, refl, arith, ap}
use Rattle.sel_lines.proofs.Common.{All, slice_split, get_or-map, length-map}

-- The bytes of the parts, each with its separator.
abbrev pub weight : List (List ℕ) → ℕ
weight [] = 0
weight (part ∷ parts) = suc (length part) + weight parts

pub split_weight : (p : ℕ → Bool) (text : List ℕ) → weight (slice_split p text) ≡ suc (length text)
split_weight p [] = refl
split_weight p (x ∷ text) = search (rules, (split_weight p text))

pub few_parts : (parts : List (List ℕ)) → length parts ≤ weight parts
few_parts [] = omega arith
few_parts (part ∷ parts) = omega (arith, few_parts parts)

part_weight : (parts : List (List ℕ)) (k : ℕ) (d : List ℕ) → k < length parts → length (get_or parts k d) < weight parts
part_weight [] k d h = absurd (omega arith)
part_weight (part ∷ parts) zero d h = omega arith
part_weight (part ∷ parts) (suc k) d h = omega (arith, part_weight parts k d (omega arith))

pub cut_lengths : (p : ℕ → Bool) (text : List ℕ) (parts : List (Bor (List ℕ))) → map (λ part. part.now) parts ≡ slice_split p text → All (λ part. length part.now ≤ length text) parts
cut_lengths p text parts is = λ k d h.
    let now = λ (part : Bor (List ℕ)). part.now in
    let here = part_weight (map now parts) k d.now (omega (arith, h, length-map parts now)) in
    omega (arith, here, ap weight is, split_weight p text, ap length (get_or-map now parts k d d.now h))

pub cut_count : (p : ℕ → Bool) (text : List ℕ) (parts : List (Bor (List ℕ))) → map (λ part. part.now) parts ≡ slice_split p text → length parts ≤ length text + 1
cut_count p text parts is =
    let now = λ (part : Bor (List ℕ)). part.now in
    omega (arith, length-map parts now, few_parts (map now parts), ap weight is, split_weight p text)
