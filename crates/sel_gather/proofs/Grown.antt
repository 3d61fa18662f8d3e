-- Rows under a validity, to which parts of other rows are appended.
use Rattle.sel_gather.proofs.Common.{common_steps, ◌≡◌, ℕ, zero, suc, ◌+◌, ◌≤◌, Bool, true, false, List, [], ◌∷◌, ◌++◌, length, take, drop, map}
use Rattle.sel_gather.proofs.Common.{replicate, Option, Some, None, refl, ap, sym, ◌∙◌, arith, length-append, map-append, length-map}
use Rattle.sel_gather.proofs.Common.{length-replicate, Bits, Value, Null, hidden, masked, Covers, length-part, part-mapped, pick, part_bits, bits_for}

pub hidden-append : (bs cs : List Bool) (vs ws : List Value) → length bs ≡ length vs → hidden (bs ++ cs) (vs ++ ws) ≡ hidden bs vs ++ hidden cs ws
hidden-append [] cs [] ws h = refl
hidden-append [] cs (v ∷ vs) ws h = absurd (omega (arith, h))
hidden-append (b ∷ bs) cs [] ws h = absurd (omega (arith, h))
hidden-append (b ∷ bs) cs (v ∷ vs) ws h = (λ i. hidden (b ∷ []) (v ∷ []) ++ hidden-append bs cs vs ws (omega (arith, h)) i)

hidden_all : (n : ℕ) (vs : List Value) → length vs ≡ n → hidden (replicate n true) vs ≡ vs
hidden_all zero vs h = refl
hidden_all (suc n) [] h = refl
hidden_all (suc n) (v ∷ vs) h = ap (λ l. v ∷ l) (hidden_all n vs (omega (arith, h)))

hidden_none : (n : ℕ) (vs : List Value) → length vs ≡ n → hidden (replicate n false) vs ≡ replicate n Null
hidden_none zero [] h = refl
hidden_none zero (v ∷ vs) h = absurd (omega (arith, h))
hidden_none (suc n) [] h = absurd (omega (arith, h))
hidden_none (suc n) (v ∷ vs) h = ap (λ l. Null ∷ l) (hidden_none n vs (omega (arith, h)))

-- A part of the values under the part of the validity is the part of the rows.
pub part_hidden : {A : Type 0} (f : A → Value) (xs : List A) (validity : Option Bits) (a n : ℕ) → a + n ≤ length xs →
    hidden (part_bits a n validity) (map f (take n (drop a xs))) ≡ take n (drop a (masked validity (map f xs)))
part_hidden f xs None a n h = hidden_all n (map f (take n (drop a xs))) (length-map (take n (drop a xs)) f ∙ length-part xs a n h) ∙ part-mapped f xs None a n
part_hidden f xs (Some validity) a n h = part-mapped f xs (Some validity) a n

-- The values and the validity after nulls are appended.
pub grown_nulls : {A : Type 0} (f : A → Value) (old new : List A) (x : A) (bits longer : List Bool) (n : ℕ) → length bits ≡ length old →
    new ≡ old ++ replicate n x → longer ≡ bits ++ replicate n false → hidden longer (map f new) ≡ hidden bits (map f old) ++ replicate n Null
grown_nulls f old new x bits longer n long e g = grind (arith, common_steps, map-append, hidden-append, length-map, hidden_none, length-replicate)

-- The number of appended bits.
pub length-part_bits : (a n : ℕ) (validity : Option Bits) (count : ℕ) → Covers validity count → a + n ≤ count → length (part_bits a n validity) ≡ n
length-part_bits a n None count covers h = length-replicate n true
length-part_bits a n (Some validity) count covers h = length-part validity.bits a n (omega (arith, covers validity refl, h))

-- The rows of the finished column.
pub finished : {A : Type 0} (f : A → Value) (xs : List A) (validity : Option Bits) (bits : List Bool) (n : ℕ) → bits_for n validity ≡ bits → length xs ≡ n → masked validity (map f xs) ≡ hidden bits (map f xs)
finished f xs None bits n is long = sym (hidden_all n (map f xs) (length-map xs f ∙ long)) ∙ ap (λ l. hidden l (map f xs)) is
finished f xs (Some validity) bits n is long = ap (λ l. hidden l (map f xs)) is

length-hidden : (bs : List Bool) (vs : List Value) → length (hidden bs vs) ≡ length vs
length-hidden [] vs = refl
length-hidden (b ∷ bs) [] = refl
length-hidden (b ∷ bs) (v ∷ vs) = ap suc (length-hidden bs vs)

-- After a part of a source is appended, there are still as many bits as values.
pub grown_lengths : {A : Type 0} (old new xs : List A) (bits longer : List Bool) (validity : Option Bits) (a n : ℕ) → length bits ≡ length old → a + n ≤ length xs → Covers validity (length xs) →
    new ≡ old ++ take n (drop a xs) → longer ≡ bits ++ part_bits a n validity → length longer ≡ length new
grown_lengths old new xs bits longer validity a n long inside covers e g = grind (arith, common_steps, length-part, length-part_bits, length-append)

-- There are as many bits as rows, and as many as row references.
pub counted : {A : Type 0} (f : A → Value) (xs : List A) (bits : List Bool) (out : List Value) (n : ℕ) → length bits ≡ length xs → hidden bits (map f xs) ≡ out → length out ≡ n → length bits ≡ n
counted f xs bits out n same is long = same ∙ sym (length-map xs f) ∙ sym (length-hidden bits (map f xs)) ∙ ap length is ∙ long

-- Rows that are appended to none.
pub from_none : {A : Type 0} (f : A → Value) (xs : List A) (bits : List Bool) (xss yss : List (List Value)) (ps : List (Option (ℕ × ℕ))) (out : List Value) → xs ≡ [] → bits ≡ [] → xss ≡ yss →
    out ≡ hidden bits (map f xs) ++ pick Null xss ps → out ≡ pick Null yss ps
from_none f xs bits xss yss ps out e g h is = is ∙ rw (e, g, h) refl

-- There are as many of them as row references.
pub made_rows : {A : Type 0} (f : A → Value) (old xs : List A) (none bits : List Bool) (xss : List (List Value)) (ps : List (Option (ℕ × ℕ))) (n : ℕ) → length bits ≡ length xs → old ≡ [] → none ≡ [] → length ps ≡ n →
    hidden bits (map f xs) ≡ hidden none (map f old) ++ pick Null xss ps → (hidden bits (map f xs) ≡ pick Null xss ps) × (length bits ≡ n)
made_rows f old xs none bits xss ps n same e g long is = grind (arith, common_steps, from_none, counted, length-map)
