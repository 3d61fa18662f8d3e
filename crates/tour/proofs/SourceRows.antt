-- Rows that a mask and indices select of several columns, as one gather of each.
use Rattle.std.proofs.Common.{◌≡◌, true, List, [], ◌∷◌, length, refl, ap, ◌∙◌}
use Rattle.std.{specs.Prelude.◌==◌, specs.Prelude.◌&&◌, specs.List.list_all, proofs.lemmas.Bool.Decides.Decides-eqb}
use Rattle.sel_arrow.{specs.Value.Value, specs.Value.Null, proofs.Lists.and_first, proofs.Lists.and_second}
use Rattle.polars_compute.specs.Laws.{SelectedRowsAreTaken}
use Rattle.sel_kernels.specs.{Pick.pick, SelectRows.select_rows_of}
use Rattle.tour.specs.Together.{rows_at, source_picks}

pub rows_together : SelectedRowsAreTaken → (columns : List (List Value)) (mask indices : List Value) → list_all (λ rows. length rows == length mask) columns ≡ true →
    select_rows_of columns mask indices ≡ rows_at (source_picks mask indices) columns
rows_together law [] mask indices each = refl
rows_together law (rows ∷ columns) mask indices each =
    let first = and_first (length rows == length mask) (list_all (λ rows. length rows == length mask) columns) each in
    let others = and_second (length rows == length mask) (list_all (λ rows. length rows == length mask) columns) each in
    ap (λ l. l ∷ select_rows_of columns mask indices) (law rows mask indices ((Decides-eqb _ _).0 first))
    ∙ ap (λ l. pick Null (rows ∷ []) (source_picks mask indices) ∷ l) (rows_together law columns mask indices others)
