-- The nesting depth of several types, and lists that loops extend.
use Rattle.std.proofs.Common.{◌≡◌, ◌≤◌, ◌↔◌, IsTrue, true, false, take_all, ℕ, zero, suc, ◌+◌, ◌<◌, List, [], ◌∷◌, ◌++◌, length, take, get_or, map, refl, sym, arith, All, subst}
use Rattle.sel_ffi.proofs.Common.{common_steps, All-more, All-push, depth, deepest, Shape, shapes_of}

-- If no type has more than n levels, neither has the deepest.
all_within : {A : Type 0} (f : A → Shape) (xs : List A) (n : ℕ) → All (λ x. depth (f x) ≤ n) xs → deepest (shapes_of (map f xs)) ≤ n
all_within f [] n all = omega arith
all_within f (x ∷ xs) n all = omega (arith, all zero x (omega arith), all_within f xs n (λ i d low. all (suc i) d (omega (arith, low))))

-- If the deepest type has at most n levels, so has each.
one_within : {A : Type 0} (f : A → Shape) (xs : List A) (n i : ℕ) (d : A) → i < length xs → deepest (shapes_of (map f xs)) ≤ n → depth (f (get_or xs i d)) ≤ n
one_within f [] n i d low deep = absurd (omega (arith, low))
one_within f (x ∷ xs) n zero d low deep = omega (arith, deep)
one_within f (x ∷ xs) n (suc i) d low deep = one_within f xs n i d (omega (arith, low)) (omega (arith, deep))

-- A loop that tests element after element: what it returns at an element that is too deep, and at the end.
module _ {A : Type 0} (f : A → Shape) (xs : List A) (n i : ℕ) where
  pub not_all : (d x : A) → i < length xs → x ≡ get_or xs i d → (depth (f x) ≤ n → ⊥) → IsTrue false ↔ deepest (shapes_of (map f xs)) ≤ n
  not_all d x low at deep = (λ never. absurd cc, λ all. absurd (deep (subst (λ (y : A). depth (f y) ≤ n) (sym at) (one_within f xs n i d low all))))

  pub each : length xs ≤ i → All (λ x. depth (f x) ≤ n) (take i xs) → IsTrue true ↔ deepest (shapes_of (map f xs)) ≤ n
  each end all = (λ yes. all_within f xs n (subst (All (λ (x : A). depth (f x) ≤ n)) (take_all i xs end) all), λ deep. refl)

-- Appending the result for element i extends the results for the first i to the first i + 1.
pub mapped_more : {A B C : Type 0} (f : A → B) (g : C → B) (xs : List A) (i : ℕ) (ts new : List C) (t : C) (h d : A) → i < length xs → new ≡ ts ++ t ∷ [] → h ≡ get_or xs i d → map g ts ≡ map f (take i xs) → g t ≡ f h → map g new ≡ map f (take (i + 1) xs)
mapped_more f g xs i ts new t h d low pushed at same is = grind (arith, common_steps)

-- What holds of the first i and of element i holds of the first i + 1.
pub all_more : {A : Type 0} (P : A → Type 0) (xs : List A) (i : ℕ) (h d : A) → i < length xs → h ≡ get_or xs i d → P h → All P (take i xs) → All P (take (i + 1) xs)
all_more P xs i h d low at this all = All-more P xs i d low all (subst P at this)

-- What holds of each holds of each with one more.
pub all_pushed : {A : Type 0} (P : A → Type 0) (xs new : List A) (x : A) → new ≡ xs ++ x ∷ [] → All P xs → P x → All P new
all_pushed P xs new x pushed all this = subst (All P) (sym pushed) (All-push P xs x all this)
