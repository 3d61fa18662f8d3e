-- Parts of lists that a loop copies entry by entry, and bits that are all true.
use Rattle.sel_runs.proofs.Common.{◌≡◌, ℕ, zero, suc, ◌+◌, ◌-◌, ◌≤◌, ◌<◌, Bool, true, false, List, [], ◌∷◌, ◌++◌, length, take, drop, get_or, replicate, refl}
use Rattle.sel_runs.proofs.Common.{ap, sym, ◌∙◌, arith, append_assoc, cond, count_by, not, take-append-add, take_more, take_all, take-take, get_or-drop}
use Rattle.sel_runs.proofs.Common.{replicate-append-replicate}
use Rattle.std.proofs.{Common.length-drop, lemmas.List.drop_more, lemmas.List.Sums.sum_by-cons}

pub window_more : {A : Type 0} (xs : List A) (a i : ℕ) (d : A) → a + i < length xs → take (i + 1) (drop a xs) ≡ take i (drop a xs) ++ get_or xs (a + i) d ∷ []
window_more xs a i d h =
    let inside : i < length (drop a xs) = simp length-drop (omega arith) in
    take_more (drop a xs) i d inside ∙ ap (λ x. take i (drop a xs) ++ x ∷ []) (get_or-drop a xs i d)

-- An entry that was read, before the entries after it.
pub read_more : {A : Type 0} (xs ys : List A) (i : ℕ) (x : A) → i < length xs → x ≡ get_or xs i x → ys ≡ drop (i + 1) xs → x ∷ ys ≡ drop i xs
read_more xs ys i x lt is rest = (λ k. is k ∷ rest k) ∙ sym (drop_more xs i x lt)

pub repeated_more : {A : Type 0} (old so_far new : List A) (i : ℕ) (x : A) → so_far ≡ old ++ replicate i x → new ≡ so_far ++ x ∷ [] → new ≡ old ++ replicate (i + 1) x
repeated_more old so_far new i x e f =
    f ∙ ap (λ l. l ++ x ∷ []) e ∙ append_assoc old (replicate i x) (x ∷ []) ∙ ap (λ l. old ++ l) (replicate-append-replicate i 1 x)

-- Bits without a false one.
pub all_true : (bits : List Bool) (n : ℕ) → length bits ≡ n → count_by not bits ≡ 0 → replicate n true ≡ bits
all_true [] zero long none = refl
all_true [] (suc n) long none = absurd (omega (arith, long))
all_true (b ∷ bits) zero long none = absurd (omega (arith, long))
all_true (true ∷ bits) (suc n) long none =
    ap (λ l. true ∷ l) (all_true bits n (omega (arith, long)) (omega (arith, none, sum_by-cons (λ b. cond (not b) 1 0) true bits)))
all_true (false ∷ bits) (suc n) long none = absurd (omega (arith, none, sum_by-cons (λ b. cond (not b) 1 0) false bits))

-- A list that is resized to k more entries.
pub resized : {A : Type 0} (xs ys : List A) (m l k : ℕ) (x : A) → ys ≡ take m xs ++ replicate (m - l) x → length xs ≡ l → m ≡ l + k → ys ≡ xs ++ replicate k x
resized xs ys m l k x is long grown =
    let rest : m - l ≡ k = omega arith in
    let all : length xs ≤ m = omega arith in
    rw (is, rest, take_all m xs all) refl

-- The first of the appended entries, after the others are truncated.
pub cut_behind : {A : Type 0} (xs ys zs all : List A) (n len before : ℕ) → all ≡ xs ++ take n ys → zs ≡ take (before + len) all → before ≡ length xs → len ≤ n → zs ≡ xs ++ take len ys
cut_behind xs ys zs all n len before more is long few =
    is ∙ ap (take (before + len)) more ∙ ap (λ k. take (k + len) (xs ++ take n ys)) long ∙ take-append-add xs (take n ys) len ∙ ap (λ l. xs ++ l) (take-take len n ys few)
