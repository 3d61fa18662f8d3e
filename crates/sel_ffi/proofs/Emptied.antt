-- Emptying handles one by one.
use Rattle.std.proofs.Common.{◌≡◌, ℕ, ◌+◌, ◌<◌, ◌≤◌, List, length, take, set, sym, All, None, subst, take_all}
use Rattle.sel_ffi.proofs.Common.{take_more_set, All-push, Handle}

-- If handle i is emptied, the first i + 1 are empty.
pub emptied_more : (hs : List Handle) (i : ℕ) (h : Handle) → i < length hs → h.tree ≡ None → All (λ (x : Handle). x.tree ≡ None) (take i hs) → All (λ (x : Handle). x.tree ≡ None) (take (i + 1) (set hs i h))
emptied_more hs i h low none all = let P = λ (x : Handle). x.tree ≡ None in subst (All P) (sym (take_more_set hs i h low)) (All-push P (take i hs) h all none)

-- If the first i are empty and there are no more, all are.
pub emptied_all : (hs : List Handle) (i : ℕ) → length hs ≤ i → All (λ (x : Handle). x.tree ≡ None) (take i hs) → All (λ (x : Handle). x.tree ≡ None) hs
emptied_all hs i long all = subst (All (λ (x : Handle). x.tree ≡ None)) (take_all i hs long) all
