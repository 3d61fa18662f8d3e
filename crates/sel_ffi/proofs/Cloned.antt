-- Invariants of cloning the columns of handles one by one; each handle keeps its column.
use Rattle.std.proofs.Common.{◌≡◌, ℕ, ◌+◌, ◌<◌, ◌≤◌, List, [], ◌∷◌, ◌++◌, length, take, get_or, map, set, All, None, refl, ap, sym, ◌∙◌, subst, arith, take_all}
use Rattle.std.proofs.Math.Seq.{map-set_same}
use lib.ListN.{get_or-map}
use Rattle.sel_ffi.{proofs.Common.length-map, proofs.Common.All-more, proofs.Common.HasColumn, proofs.Common.Handle, proofs.Depths.mapped_more, specs.Held.Held}

-- The handle at i has the same column.
told_at : (hs xs : List Handle) (i : ℕ) (d : Handle) → map (λ h. h.tree) hs ≡ map (λ h. h.tree) xs → (get_or hs i d).tree ≡ (get_or xs i d).tree
told_at hs xs i d same = sym (get_or-map (λ (h : Handle). h.tree) hs i d) ∙ ap (λ l. get_or l i d.tree) same ∙ get_or-map (λ (h : Handle). h.tree) xs i d

-- Handles with the same columns are equally many.
pub same_long : (hs xs : List Handle) → map (λ h. h.tree) hs ≡ map (λ h. h.tree) xs → length hs ≡ length xs
same_long hs xs same = sym (length-map hs (λ (h : Handle). h.tree)) ∙ ap length same ∙ length-map xs (λ (h : Handle). h.tree)

-- Appending the clone of column i extends the clones of the first i to the first i + 1.
pub shared_more : {B C : Type 0} (F : Held → B) (g : C → B) (xs hs : List Handle) (i : ℕ) (ts new : List C) (t : C) (d : Handle) → i < length hs → map (λ h. h.tree) hs ≡ map (λ h. h.tree) xs → new ≡ ts ++ t ∷ [] → map g ts ≡ map (λ h. F h.tree) (take i xs) → g t ≡ F (get_or hs i d).tree → map g new ≡ map (λ h. F h.tree) (take (i + 1) xs)
shared_more F g xs hs i ts new t d low kept pushed same is =
    mapped_more (λ (h : Handle). F h.tree) g xs i ts new t (get_or xs i d) d (omega (arith, low, same_long hs xs kept)) pushed refl same (is ∙ ap F (told_at hs xs i d kept))

-- If handle i has a column beside the first i, the first i + 1 have.
pub full_more : (xs hs : List Handle) (i : ℕ) (d : Handle) → i < length hs → map (λ h. h.tree) hs ≡ map (λ h. h.tree) xs → All (λ h. HasColumn h.tree) (take i xs) → HasColumn (get_or hs i d).tree → All (λ h. HasColumn h.tree) (take (i + 1) xs)
full_more xs hs i d low kept all full = All-more (λ (h : Handle). HasColumn h.tree) xs i d (omega (arith, low, same_long hs xs kept)) all (subst HasColumn (told_at hs xs i d kept) full)

-- If handle i has no column, not all have one.
pub lacks_at : (xs hs : List Handle) (i : ℕ) (d : Handle) → i < length xs → map (λ h. h.tree) hs ≡ map (λ h. h.tree) xs → (get_or hs i d).tree ≡ None → All (λ h. HasColumn h.tree) xs → ⊥
lacks_at xs hs i d low kept none all = subst HasColumn (sym (told_at hs xs i d kept) ∙ none) (all i d low)

-- A handle that is put back with its column keeps the columns.
pub kept_set : (hs xs : List Handle) (i : ℕ) (h d : Handle) → h.tree ≡ (get_or hs i d).tree → map (λ h. h.tree) hs ≡ map (λ h. h.tree) xs → map (λ h. h.tree) (set hs i h) ≡ map (λ h. h.tree) xs
kept_set hs xs i h d same kept = map-set_same (λ (h : Handle). h.tree) hs i h d same ∙ kept

-- If each of the first i has a column and there are no more, each has.
pub all_full : (hs xs : List Handle) (i : ℕ) → map (λ h. h.tree) hs ≡ map (λ h. h.tree) xs → length hs ≤ i → All (λ h. HasColumn h.tree) (take i xs) → All (λ h. HasColumn h.tree) xs
all_full hs xs i kept long full = subst (All (λ (h : Handle). HasColumn h.tree)) (take_all i xs (omega (arith, long, same_long hs xs kept))) full

pub ruleset kept = (kept_set, all_full, lacks_at, same_long)
