-- The positions of rows as row numbers.
use Rattle.sel_gather.proofs.Common.{All, Bor, ℕ, ◌^◌, ◌<◌, List, [], length, get_or, Option, subst, arith, rows, IsWellFormed, Column, length-rows, MayGather}
use Rattle.sel_gather.proofs.Common.{PickFits, IsNear}
use Rattle.sel_gather.proofs.{EachRow.source_all, ItemRuns.rows_of, ListParts.few_rows}

-- The positions of rows are less than 2^32.
pub near_at : (cs : List (Bor Column)) (s i : ℕ) → All (λ c. IsWellFormed c.now) cs → i < length (get_or (rows_of cs) s []) → i < 2 ^ 32
near_at cs s i formed h =
    source_all (λ vs. (i : ℕ) → i < length vs → i < 2 ^ 32) (λ i h. absurd (omega (arith, h))) (λ (c : Bor Column). rows c.now) cs
    (λ k d below i h. omega (arith, h, length-rows (get_or cs k d).now, few_rows (get_or cs k d).now (formed k d below))) s i h

-- Row references to rows of well-formed columns.
pub near_may : (cs : List (Bor Column)) (ps : List (Option (ℕ × ℕ))) (n : ℕ) → MayGather cs ps n → All IsNear ps
near_may cs ps n may k d h p is = near_at cs p.0 p.1 may.formed (subst (PickFits (rows_of cs)) is (may.fits k d h))
