-- The laws of filters, takes and if-then-else.
use Rattle.sel_kernels.proofs.Common.{◌≡◌, ℕ, zero, suc, pos, true, false, List, [], ◌∷◌, map, get_or, Option, Some, None, refl, ap, sym, ◌∙◌, arith}
use Rattle.sel_kernels.proofs.Common.{slice_get, option_and_then, length-map, Value, Null, Number, effective_mask, is_true, kept, found, pick, pick_of}
use Rattle.polars_compute.specs.Laws.{composed, source_pick, SelectedRowsAreTaken, TakesCompose, KeepsThen, KeepsOtherwise}
use Rattle.sel_kernels.proofs.{Common.place_pick, Selects.picked_kept}

-- Entry i of a gather is the entry at row reference i.
picked_at : (d : Value) (xss : List (List Value)) (ps : List (Option (ℕ × ℕ))) (i : ℕ) → get_or (pick d xss ps) i d ≡ found d xss (get_or ps i None)
picked_at d xss (p ∷ ps) (suc i) = picked_at d xss ps i
picked_at d xss ps i = refl

pub takes_compose : TakesCompose Value
takes_compose d xss ps [] = refl
takes_compose d xss ps (Some (zero, i) ∷ qs) = cc (picked_at d xss ps i, takes_compose d xss ps qs)
takes_compose d xss ps (q ∷ qs) = ap (λ l. d ∷ l) (takes_compose d xss ps qs)

-- A selected position as a row reference.
place_at : (places : List ℕ) (i : ℕ) → get_or (map place_pick places) i None ≡ option_and_then place_pick (slice_get places i)
place_at (place ∷ places) (suc i) = place_at places i
place_at places i = refl

sources_of : (places : List ℕ) (indices : List Value) → composed (map place_pick places) (map pick_of indices) ≡ map (source_pick places) indices
sources_of places [] = refl
sources_of places (Number (pos i) ∷ indices) = cc (place_at places i, sources_of places indices)
sources_of places (index ∷ indices) = ap (λ l. None ∷ l) (sources_of places indices)

pub selected_rows : SelectedRowsAreTaken
selected_rows xs mask indices long =
    let ms = effective_mask mask in
    ap (λ l. pick Null (l ∷ []) (map pick_of indices)) (sym (picked_kept Null xs ms (long ∙ sym (length-map mask is_true))))
    ∙ takes_compose Null (xs ∷ []) (map place_pick (kept ms)) (map pick_of indices) ∙ ap (pick Null (xs ∷ [])) (sources_of (kept ms) indices)

pub keeps_then : KeepsThen Value
keeps_then (true ∷ ms) (t ∷ ts) (f ∷ fs) h k = ap (λ l. t ∷ l) (keeps_then ms ts fs (omega arith) (omega arith))
keeps_then (false ∷ ms) (t ∷ ts) (f ∷ fs) h k = keeps_then ms ts fs (omega arith) (omega arith)
keeps_then (m ∷ ms) (t ∷ ts) [] h k = absurd (omega arith)
keeps_then (m ∷ ms) [] fs h k = refl
keeps_then [] (t ∷ ts) fs h k = refl
keeps_then [] [] fs h k = refl

pub keeps_otherwise : KeepsOtherwise Value
keeps_otherwise (true ∷ ms) (t ∷ ts) (f ∷ fs) h k = keeps_otherwise ms ts fs (omega arith) (omega arith)
keeps_otherwise (false ∷ ms) (t ∷ ts) (f ∷ fs) h k = ap (λ l. f ∷ l) (keeps_otherwise ms ts fs (omega arith) (omega arith))
keeps_otherwise (m ∷ ms) (t ∷ ts) [] h k = refl
keeps_otherwise (m ∷ ms) [] fs h k = absurd (omega arith)
keeps_otherwise [] ts (f ∷ fs) h k = refl
keeps_otherwise [] ts [] h k = refl
