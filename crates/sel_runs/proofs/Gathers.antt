-- Gathering rows one row reference at a time.
use Rattle.sel_runs.proofs.Common.{common_steps, All-map, ◌≡◌, ℕ, ◌+◌, ◌*◌, ◌%◌, ◌^◌, ◌≤◌, ◌<◌, All, Bool, true, false, List, [], ◌∷◌, ◌++◌, length, take}
use Rattle.sel_runs.proofs.Common.{drop, map, replicate, get_or, Option, Some, None, zero, suc, refl, ap, sym, subst, ◌∙◌, arith, append_assoc, take-add}
use Rattle.sel_runs.proofs.Common.{length-map, get_or-map, take_more, map_push, map-append, get_or-take, get_or-drop, drop-map, drop-drop, length-drop}
use Rattle.sel_runs.proofs.Common.{All-get_or, All-head, All-tail, All-drop, Bits, bits, word_of, found, pick, bit_found, bits_found, IsPicked}
use Rattle.std.{specs.Int.from_bool, proofs.lemmas.List.length-take}
use Rattle.sel_bits.proofs.{Combining.packed_more, Padded.word_of_lt, Packed.word_of-next, Packed.word_of-few}

-- One more row reference.
pub pick_next : {A : Type 0} (d : A) (xss : List (List A)) (ps : List (Option (ℕ × ℕ))) (k : ℕ) → k < length ps →
    pick d xss (take (k + 1) ps) ≡ pick d xss (take k ps) ++ found d xss (get_or ps k None) ∷ []
pick_next d xss ps k h = ap (pick d xss) (take_more ps k None h) ∙ map_push (found d xss) (take k ps) (get_or ps k None)

-- ---- validities

none_at : (vs : List (Option Bits)) (s : ℕ) → All (λ v. v ≡ None) vs → get_or vs s None ≡ None
none_at [] s h = refl
none_at (v ∷ vs) zero h = All-head (λ x. x ≡ None) v vs h
none_at (v ∷ vs) (suc s) h = none_at vs s (All-tail (λ x. x ≡ None) v vs h)

-- Each row is valid if no source has a validity bitmap and no row reference is none.
pub all_there : (vs : List (Option Bits)) (ps : List (Option (ℕ × ℕ))) → All (λ v. v ≡ None) vs → All IsPicked ps → replicate (length ps) true ≡ bits_found vs ps
all_there vs [] h picked = refl
all_there vs (None ∷ ps) h picked = absurd (All-head IsPicked None ps picked)
all_there vs (Some p ∷ ps) h picked = grind (arith, common_steps, none_at, All-tail, (all_there vs ps h (All-tail IsPicked (Some p) ps picked)))

pub all_none : {S : Type 0} (f : S → Option Bits) (ss : List S) → All (λ s. f s ≡ None) ss → All (λ v. v ≡ None) (map f ss)
all_none f ss h = All-map (λ v. v ≡ None) f ss h

-- ---- an iterator over row references

-- The next row reference, followed by the remaining ones.
pub next_is : (ps rest : List (Option (ℕ × ℕ))) (p : Option (ℕ × ℕ)) (k : ℕ) → drop k ps ≡ p ∷ rest → get_or ps k None ≡ p
next_is ps rest p k e = grind (arith, common_steps, get_or-drop)

pub rest_is : (ps rest : List (Option (ℕ × ℕ))) (p : Option (ℕ × ℕ)) (k : ℕ) → drop k ps ≡ p ∷ rest → rest ≡ drop (k + 1) ps
rest_is ps rest p k e = sym (ap (drop 1) e) ∙ drop-drop 1 k ps

pub next_below : (ps rest : List (Option (ℕ × ℕ))) (p : Option (ℕ × ℕ)) (k : ℕ) → drop k ps ≡ p ∷ rest → k < length ps
next_below ps rest p k e = omega (arith, ap length e, length-drop k ps)

-- A property of all row references is a property of the next one.
pub next_all : (P : Option (ℕ × ℕ) → Type 0) (ps rest : List (Option (ℕ × ℕ))) (p : Option (ℕ × ℕ)) (k : ℕ) → drop k ps ≡ p ∷ rest → All P ps → P p
next_all P ps rest p k e all = subst P (next_is ps rest p k e) (All-get_or P ps k None (next_below ps rest p k e) all)

-- One more value.
pub values_next : {A : Type 0} (d : A) (xss : List (List A)) (ps rest : List (Option (ℕ × ℕ))) (p : Option (ℕ × ℕ)) (k : ℕ) (old new : List A) (x : A) → drop k ps ≡ p ∷ rest →
    old ≡ pick d xss (take k ps) → x ≡ found d xss p → new ≡ old ++ x ∷ [] → new ≡ pick d xss (take (k + 1) ps)
values_next d xss ps rest p k old new x e is there more = grind (arith, common_steps, next_is, pick_next, next_below)

-- One more value, after given ones.
pub values_behind : {A : Type 0} (d : A) (xss : List (List A)) (ps rest : List (Option (ℕ × ℕ))) (p : Option (ℕ × ℕ)) (k : ℕ) (front old new : List A) (x : A) → drop k ps ≡ p ∷ rest →
    old ≡ front ++ pick d xss (take k ps) → x ≡ found d xss p → new ≡ old ++ x ∷ [] → new ≡ front ++ pick d xss (take (k + 1) ps)
values_behind d xss ps rest p k front old new x e is there more =
    let so_far = pick d xss (take k ps) in
    more ∙ ap (λ l. l ++ x ∷ []) is ∙ append_assoc front so_far (x ∷ [])
    ∙ ap (λ l. front ++ l) (values_next d xss ps rest p k so_far (so_far ++ x ∷ []) x e refl there refl)

-- The values at several more row references.
pub values_more : {A : Type 0} (d : A) (xss : List (List A)) (ps left : List (Option (ℕ × ℕ))) (old new : List A) (at count : ℕ) → left ≡ drop at ps → old ≡ pick d xss (take at ps) →
    new ≡ old ++ pick d xss (take count left) → new ≡ pick d xss (take (at + count) ps)
values_more d xss ps left old new at count behind is more = grind (arith, common_steps, map-append, take-add)

there_at : (vs : List (Option Bits)) (ps rest : List (Option (ℕ × ℕ))) (p : Option (ℕ × ℕ)) (count i : ℕ) → drop i ps ≡ p ∷ rest → i < count →
    get_or (take count (bits_found vs ps)) i false ≡ bit_found vs p
there_at vs ps rest p count i e h =
    get_or-take count (bits_found vs ps) i false h ∙ get_or-map (bit_found vs) ps i None false (next_below ps rest p i e) ∙ ap (bit_found vs) (next_is ps rest p i e)

block_length : (vs : List (Option Bits)) (ps : List (Option (ℕ × ℕ))) (count : ℕ) → count ≤ length ps → length (take count (bits_found vs ps)) ≡ count
block_length vs ps count inside = omega (arith, inside, length-map ps (bit_found vs), length-take count (bits_found vs ps))

-- One more row in a word.
pub word_next : (vs : List (Option Bits)) (ps rest : List (Option (ℕ × ℕ))) (p : Option (ℕ × ℕ)) (count i word bit : ℕ) (there : Bool) → drop i ps ≡ p ∷ rest → count ≤ length ps → count ≤ 64 → i < count →
    word ≡ word_of (take i (take count (bits_found vs ps))) → there ≡ bit_found vs p → bit ≡ from_bool there →
    word + bit * 2 ^ i % 2 ^ 64 ≡ word_of (take (i + 1) (take count (bits_found vs ps)))
word_next vs ps rest p count i word bit there at inside short h is e f =
    let long = block_length vs ps count inside in
    word_of-next (take count (bits_found vs ps)) i word bit (omega (arith, long, h)) (omega (arith, long, short)) is (f ∙ ap from_bool (e ∙ sym (there_at vs ps rest p count i at h)))

pub word_few : (vs : List (Option Bits)) (ps : List (Option (ℕ × ℕ))) (count i : ℕ) → count ≤ length ps → count ≤ 64 → i < count → word_of (take (i + 1) (take count (bits_found vs ps))) < 2 ^ 64
word_few vs ps count i inside short h =
    let long = block_length vs ps count inside in
    word_of-few (take count (bits_found vs ps)) (i + 1) (omega (arith, long, h)) (omega (arith, long, short))

pub word_lt : (vs : List (Option Bits)) (ps : List (Option (ℕ × ℕ))) (count word : ℕ) → count ≤ length ps → word ≡ word_of (take count (bits_found vs ps)) → word < 2 ^ count
word_lt vs ps count word inside is =
    omega (arith, is, word_of_lt (take count (bits_found vs ps)), ap (λ n. 2 ^ n) (block_length vs ps count inside))

-- One more word.
pub words_more : (vs : List (Option Bits)) (ps left : List (Option (ℕ × ℕ))) (old new : List Bool) (at count word : ℕ) → left ≡ drop at ps → at + count ≤ length ps → word ≡ word_of (take count (bits_found vs left)) →
    old ≡ take at (bits_found vs ps) → new ≡ old ++ bits count word → new ≡ take (at + count) (bits_found vs ps)
words_more vs ps left old new at count word behind inside is e f =
    let same : bits_found vs left ≡ drop at (bits_found vs ps) = ap (bits_found vs) behind ∙ sym (drop-map (bit_found vs) at ps) in
    f ∙ ap (λ l. l ++ bits count word) e ∙ ap (λ w. take at (bits_found vs ps) ++ bits count w) (is ∙ ap (λ l. word_of (take count l)) same)
    ∙ packed_more (bits_found vs ps) at count (omega (arith, inside, length-map ps (bit_found vs)))

pub left_behind : (ps left rest : List (Option (ℕ × ℕ))) (at count : ℕ) → left ≡ drop at ps → rest ≡ drop count left → rest ≡ drop (at + count) ps
left_behind ps left rest at count e f = f ∙ ap (drop count) e ∙ drop-drop count at ps

pub left_all : (P : Option (ℕ × ℕ) → Type 0) (ps left : List (Option (ℕ × ℕ))) (at : ℕ) → left ≡ drop at ps → All P ps → All P left
left_all P ps left at e all = subst (All P) (sym e) (All-drop P at ps all)

pub left_length : (ps left : List (Option (ℕ × ℕ))) (at : ℕ) → left ≡ drop at ps → at ≤ length ps → at + length left ≡ length ps
left_length ps left at e h = omega (arith, h, ap length e, length-drop at ps)

pub map-replicate : {A B : Type 0} (f : A → B) (n : ℕ) (x : A) → map f (replicate n x) ≡ replicate n (f x)
map-replicate f zero x = refl
map-replicate f (suc n) x = ap (λ l. f x ∷ l) (map-replicate f n x)

pub none_left : {A : Type 0} (xs : List A) → length xs ≡ 0 → xs ≡ []
none_left [] h = refl
none_left (x ∷ xs) h = absurd (omega (arith, h))

-- The row references of one more run.
pub run_more : (old new run left rest ps : List (Option (ℕ × ℕ))) → old ++ left ≡ ps → left ≡ run ++ rest → new ≡ old ++ run → new ++ rest ≡ ps
run_more old new run left rest ps before next is = ap (λ l. l ++ rest) is ∙ append_assoc old run rest ∙ ap (λ l. old ++ l) (sym next) ∙ before
