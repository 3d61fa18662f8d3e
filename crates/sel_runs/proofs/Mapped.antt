-- What a function returns for each source.
use Rattle.sel_runs.proofs.Common.{◌≡◌, ℕ, ◌≤◌, ◌<◌, List, [], ◌∷◌, length, map, get_or, ap, ◌∙◌, arith, sym, get_or-map, length-map}

-- The rows of the source at a position.
pub source_rows : {S A : Type 0} (f : S → List A) (ss : List S) (i : ℕ) (s : S) → i < length (map f ss) → s ≡ get_or ss i s → get_or (map f ss) i [] ≡ f s
source_rows f ss i s h is = get_or-map f ss i s [] (simp length-map at h) ∙ ap f (sym is)

-- What a function returns for each of one or two sources.
pub one_mapped : {A B : Type 0} (f : A → B) (cs : List A) (c : A) (x : B) → 1 ≤ length cs → length cs < 2 → c ≡ get_or cs 0 c → x ≡ f c → x ∷ [] ≡ map f cs
one_mapped f [] c x some one is e = absurd (omega (arith, some))
one_mapped f (y ∷ []) c x some one is e = ap (λ z. z ∷ []) (e ∙ ap f is)
one_mapped f (y ∷ z ∷ cs) c x some one is e = absurd (omega (arith, one))

pub two_mapped : {A B : Type 0} (f : A → B) (cs : List A) (c d : A) (x y : B) → 2 ≤ length cs → length cs < 3 → c ≡ get_or cs 0 c → d ≡ get_or cs 1 d → x ≡ f c → y ≡ f d → x ∷ y ∷ [] ≡ map f cs
two_mapped f [] c d x y some two is other e h = absurd (omega (arith, some))
two_mapped f (a ∷ []) c d x y some two is other e h = absurd (omega (arith, some))
two_mapped f (a ∷ b ∷ []) c d x y some two is other e h = (λ i. (e ∙ ap f is) i ∷ (h ∙ ap f other) i ∷ [])
two_mapped f (a ∷ b ∷ z ∷ cs) c d x y some two is other e h = absurd (omega (arith, two))
