-- A property of null and of each value is a property of each row.
use Rattle.sel_gather.proofs.Common.{All, ℕ, zero, suc, Bool, true, false, List, [], ◌∷◌, map, Option, Some, None, arith, get_or, Bits, hidden, masked, Value, Null, pick}

-- A property of no rows and of the rows of each source.
pub source_all : {S A : Type 0} (P : List A → Type 0) → P [] → (f : S → List A) (ss : List S) → All (λ s. P (f s)) ss → (i : ℕ) → P (get_or (map f ss) i [])
source_all P none f [] all i = none
source_all P none f (s ∷ ss) all zero = all 0 s (omega arith)
source_all P none f (s ∷ ss) all (suc i) = source_all P none f ss (λ k d h. all (suc k) d (omega (arith, h))) i

module _ (P : Value → Type 0) (none : P Null) where
  pub mapped_all : {A : Type 0} (f : A → Value) → ((x : A) → P (f x)) → (xs : List A) (k : ℕ) → P (get_or (map f xs) k Null)
  mapped_all f each [] k = none
  mapped_all f each (x ∷ xs) zero = each x
  mapped_all f each (x ∷ xs) (suc k) = mapped_all f each xs k

  hidden_all : (bs : List Bool) (vs : List Value) → ((k : ℕ) → P (get_or vs k Null)) → (k : ℕ) → P (get_or (hidden bs vs) k Null)
  hidden_all [] vs all k = all k
  hidden_all (b ∷ bs) [] all k = none
  hidden_all (true ∷ bs) (v ∷ vs) all zero = all 0
  hidden_all (false ∷ bs) (v ∷ vs) all zero = none
  hidden_all (b ∷ bs) (v ∷ vs) all (suc k) = hidden_all bs vs (λ i. all (suc i)) k

  pub masked_all : (validity : Option Bits) (vs : List Value) → ((k : ℕ) → P (get_or vs k Null)) → (k : ℕ) → P (get_or (masked validity vs) k Null)
  masked_all None vs all k = all k
  masked_all (Some validity) vs all k = hidden_all validity.bits vs all k

  -- The rows of each source.
  pub sources_all : {S : Type 0} (f : S → List Value) (ss : List S) → All (λ s. (k : ℕ) → P (get_or (f s) k Null)) ss → (i k : ℕ) → P (get_or (get_or (map f ss) i []) k Null)
  sources_all f ss all i k = source_all (λ vs. (k : ℕ) → P (get_or vs k Null)) (λ k. none) f ss all i k

  -- Gathered rows.
  pub picked_all : (xss : List (List Value)) → ((i k : ℕ) → P (get_or (get_or xss i []) k Null)) → (ps : List (Option (ℕ × ℕ))) (k : ℕ) → P (get_or (pick Null xss ps) k Null)
  picked_all xss all [] k = none
  picked_all xss all (None ∷ ps) zero = none
  picked_all xss all (Some p ∷ ps) zero = all p.0 p.1
  picked_all xss all (p ∷ ps) (suc k) = picked_all xss all ps k
