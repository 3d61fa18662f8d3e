-- The items of lists, gathered from the children of the sources.
use Rattle.sel_gather.proofs.Common.{◌≡◌, ◌∙◌, ◌*◌, All, Bor, ℕ, List, Option, ap, sym, subst, length, map, true, Result, PolarsError, type_of, IsWellFormed}
use Rattle.sel_gather.proofs.Common.{Shape, of_fixed_size_list, Null, Column, child, is_listing, joined_items, CollectsSome, items_at, pick, PickFits, columns_of}
use Rattle.sel_gather.proofs.{Below.mapped_now, ItemPicks.items_fit, ItemPicks.items_long, ItemPicks.items_picked, ItemRuns.rows_of, Layouts.picked_blocks}
use Rattle.sel_gather.proofs.{Rebuilt.blocks_length, Walks.children_recurse}
use Rattle.sel_runs.proofs.RunLists.{length-pick}

module _ (s : Shape) (cs : List (Bor Column)) (lists : All (λ c. is_listing (type_of c.now) ≡ true) cs) (alike : All (λ c. type_of (child c.now) ≡ s) cs) (formed : All (λ c. IsWellFormed c.now) cs)
    (w : ℕ) (ps qs : List (Option (ℕ × ℕ))) (again : qs ≡ ps) (fits : All (PickFits (rows_of cs)) ps) where
  pub again_fits : All (PickFits (rows_of cs)) qs
  again_fits = subst (All (PickFits (rows_of cs))) (sym again) fits

  pub again_long : length (items_at cs w qs) ≡ length (joined_items w (pick Null (rows_of cs) ps))
  again_long = items_long cs lists formed w qs again_fits ∙ ap (λ l. length (joined_items w (pick Null (rows_of cs) l))) again

  module _ (xs : List (Bor Column)) (found : map (λ x. x.now) xs ≡ map (λ c. child c.now) cs) where
    pub children_alike : All (λ c. type_of c.now ≡ s) xs
    children_alike = (children_recurse s cs xs found lists alike formed).alike

    pub children_fit : All (PickFits (rows_of xs)) (items_at cs w qs)
    children_fit = subst (λ xss. All (PickFits xss) (items_at cs w qs)) (sym (children_recurse s cs xs found lists alike formed).rows) (items_fit cs lists formed w qs again_fits)

    -- The rows of the children are the items.
    pub flat_collected : (r : Result (Option Column) PolarsError) → CollectsSome r s (columns_of xs) (pick Null (rows_of xs) (items_at cs w qs)) →
        CollectsSome r s (map child (columns_of cs)) (joined_items w (pick Null (rows_of cs) ps))
    flat_collected r h =
        let rows_are = ap (λ xss. pick Null xss (items_at cs w qs)) (children_recurse s cs xs found lists alike formed).rows ∙ items_picked cs lists formed w qs again_fits ∙ ap (λ l. joined_items w (pick Null (rows_of cs) l)) again in
        subst (λ columns. CollectsSome r s columns (joined_items w (pick Null (rows_of cs) ps))) (found ∙ mapped_now child cs) (subst (CollectsSome r s (columns_of xs)) rows_are h)

-- ---- fixed-size lists

-- Each has as many items as its type says.
pub blocks_count : (s : Shape) (w : ℕ) (cs : List (Bor Column)) → All (λ c. type_of c.now ≡ of_fixed_size_list s w) cs → All (λ c. IsWellFormed c.now) cs → (ps : List (Option (ℕ × ℕ))) →
    length (joined_items w (pick Null (rows_of cs) ps)) ≡ length ps * w
blocks_count s w cs alike formed ps =
    blocks_length w (pick Null (rows_of cs) ps) (picked_blocks cs s w ps alike formed) ∙ ap (λ n. n * w) (length-pick Null (rows_of cs) ps)
