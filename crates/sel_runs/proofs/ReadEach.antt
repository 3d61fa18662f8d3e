-- The results of a function for each item.
use Rattle.sel_runs.proofs.Common.{◌≡◌, ℕ, ◌+◌, ◌<◌, List, [], ◌∷◌, ◌++◌, length, take, get_or, ap, sym, subst, ◌∙◌, take_more}
use Rattle.std.specs.List.{AllZip}
use Rattle.std.proofs.lemmas.Slice.Zip.{all_zipped_more}

-- One more result.
pub each_more : {S T : Type 0} (R : S → T → Type 0) (xs : List S) (ys new : List T) (i : ℕ) (x : S) (y : T) → i < length xs → x ≡ get_or xs i x → AllZip R (take i xs) ys → R x y → new ≡ ys ++ y ∷ [] → AllZip R (take (i + 1) xs) new
each_more R xs ys new i x y h is each here more =
    let items = take_more xs i x h ∙ ap (λ z. take i xs ++ z ∷ []) (sym is) in
    subst (λ l. AllZip R l new) (sym items) (subst (AllZip R (take i xs ++ x ∷ [])) (sym more) (all_zipped_more R (take i xs) ys x y each here))
