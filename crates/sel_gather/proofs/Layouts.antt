-- Rows of columns with children are null, lists or struct values.
use Rattle.sel_gather.proofs.Common.{is_listing, part_of, sym, child, ◌⊎◌, inl, inr, cases_lt, length-part, valid_at, take, drop, refl, None, Some, Bool, false}
use Rattle.sel_gather.proofs.Common.{if◌then◌else◌, ◌<◌, ◌≤◌, ◌*◌, ◌≡◌, All, Bor, ℕ, suc, true, List, length, map, Option, ap, subst, ◌∙◌, get_or}
use Rattle.sel_gather.proofs.Common.{range_with_len, length-map, list_of, struct_at, pieces, rows, rows_of_each, type_of, types_of_each, well_formed}
use Rattle.sel_gather.proofs.Common.{IsWellFormed, Shape, Shapes, of_large_list, of_fixed_size_list, of_struct, shape_list, Null, Column, Row_of-Column}
use Rattle.sel_gather.proofs.Common.{end_of-Column, more_of-Column, LargeList', FixedSizeList', Struct', pick, get_or_past}
use Rattle.sel_gather.proofs.EachRow.{mapped_all, masked_all, picked_all, sources_all}
use Rattle.sel_gather.proofs.Rebuilt.{IsListed, IsBlock, IsTuple, picked_all}
use Rattle.sel_gather.proofs.{ListParts.IsPart, ListParts.part_is, ItemRuns.rows_of, ItemRuns.listed_values}

-- Rows of list columns.
pub rows_listed : (c : Column) (s : Shape) → type_of c ≡ of_large_list s → (k : ℕ) → IsListed (get_or (rows c) k Null)
rows_listed (LargeList' offsets p values validity) s is k = masked_all IsListed tt validity (map list_of (pieces offsets (rows values))) (mapped_all IsListed tt list_of (λ p. tt) (pieces offsets (rows values))) k
rows_listed c s is k = absurd (cc is)

-- Rows of fixed-size list columns.
part_block : (c : Column) (w k : ℕ) (b : Bool) → IsPart c k (if b then Some (k * w, w) else None) → IsBlock w (get_or (rows c) k Null)
part_block c w k true part = subst (IsBlock w) (sym part.0) (ap length (listed_values (take w (drop (k * w) (rows (child c))))) ∙ length-part (rows (child c)) (k * w) w part.1)
part_block c w k false null = subst (IsBlock w) (sym null) tt

row_block : (c : Column) (w k : ℕ) (b : Bool) → is_listing (type_of c) ≡ true → well_formed c ≡ true → part_of c k ≡ (if b then Some (k * w, w) else None) → IsBlock w (get_or (rows c) k Null)
row_block c w k b lists formed is = by (cases_lt k (length (rows c)))
  where
    by : (k < length (rows c)) ⊎ (length (rows c) ≤ k) → IsBlock w (get_or (rows c) k Null)
    by (inl below) = part_block c w k b (subst (IsPart c k) is (part_is c k lists formed below))
    by (inr past) = subst (IsBlock w) (sym (get_or_past (rows c) k Null past)) tt

pub rows_blocks : (c : Column) (s : Shape) (w : ℕ) → type_of c ≡ of_fixed_size_list s w → well_formed c ≡ true → (k : ℕ) → IsBlock w (get_or (rows c) k Null)
rows_blocks (FixedSizeList' size len p values validity) s w is formed k =
    let same : size ≡ w = cc is in
    subst (λ n. IsBlock n (get_or (rows (FixedSizeList' size len p values validity)) k Null)) same (row_block (FixedSizeList' size len p values validity) size k (valid_at validity k) refl formed refl)
rows_blocks c s w is formed k = absurd (cc is)

-- Rows of struct columns.
count_fields : (n : _) (row : Row_of-Column n) → length (rows_of_each row) ≡ length (shape_list (types_of_each row))
count_fields n end_of-Column = refl
count_fields n (more_of-Column c rest) = ap suc (count_fields _ rest)

pub rows_tuples : (c : Column) (ss : Shapes) → type_of c ≡ of_struct ss → (k : ℕ) → IsTuple (length (shape_list ss)) (get_or (rows c) k Null)
rows_tuples (Struct' len n fields validity) ss is k =
    let same : types_of_each fields ≡ ss = cc is in
    let fs = rows_of_each fields in
    let each : (i : ℕ) → IsTuple (length (shape_list ss)) (struct_at fs i) = λ i.
    ap length (listed_values (map (λ field. get_or field i Null) fs)) ∙ length-map fs (λ field. get_or field i Null) ∙ count_fields _ fields ∙ ap (λ l. length (shape_list l)) same in
    masked_all (IsTuple (length (shape_list ss))) tt validity (map (struct_at fs) (range_with_len 0 len)) (mapped_all (IsTuple (length (shape_list ss))) tt (struct_at fs) each (range_with_len 0 len)) k
rows_tuples c ss is k = absurd (cc is)

-- ---- rows of all sources, and gathered rows

pub picked_lists : (cs : List (Bor Column)) (s : Shape) (ps : List (Option (ℕ × ℕ))) → All (λ c. type_of c.now ≡ of_large_list s) cs → (k : ℕ) → IsListed (get_or (pick Null (rows_of cs) ps) k Null)
picked_lists cs s ps types = picked_all IsListed tt (rows_of cs) (sources_all IsListed tt (λ (c : Bor Column). rows c.now) cs (λ i d h k. rows_listed (get_or cs i d).now s (types i d h) k)) ps

pub picked_blocks : (cs : List (Bor Column)) (s : Shape) (w : ℕ) (ps : List (Option (ℕ × ℕ))) → All (λ c. type_of c.now ≡ of_fixed_size_list s w) cs → All (λ c. IsWellFormed c.now) cs →
    (k : ℕ) → IsBlock w (get_or (pick Null (rows_of cs) ps) k Null)
picked_blocks cs s w ps types formed =
    picked_all (IsBlock w) tt (rows_of cs) (sources_all (IsBlock w) tt (λ (c : Bor Column). rows c.now) cs (λ i d h k. rows_blocks (get_or cs i d).now s w (types i d h) (formed i d h) k)) ps

pub picked_tuples : (cs : List (Bor Column)) (ss : Shapes) (ps : List (Option (ℕ × ℕ))) → All (λ c. type_of c.now ≡ of_struct ss) cs → (k : ℕ) → IsTuple (length (shape_list ss)) (get_or (pick Null (rows_of cs) ps) k Null)
picked_tuples cs ss ps types =
    picked_all (IsTuple (length (shape_list ss))) tt (rows_of cs) (sources_all (IsTuple (length (shape_list ss))) tt (λ (c : Bor Column). rows c.now) cs (λ i d h k. rows_tuples (get_or cs i d).now ss (types i d h) k)) ps
