-- Concatenated binary rows, and the column that is built from them.
use Rattle.sel_gather.proofs.Common.{common_steps, map-id, ◌≡◌, ℕ, suc, ◌+◌, ◌≤◌, ℤ, pos, List, [], ◌∷◌, ◌++◌, length, take, drop, map, Option, refl, ap, sym}
use Rattle.sel_gather.proofs.Common.{◌∙◌, arith, get_or, length-append, append_assoc, if◌then◌else◌, take-append-drop, append-nil, map-append, flat_map-append}
use Rattle.sel_gather.proofs.Common.{Bits, IsOffsets, IsRising, magnitudes, Value, Null, Bytes, validities, is_valid, hidden, pieces, pieces_after, byte_rows}
use Rattle.sel_gather.proofs.Common.{rows_between, last_offset, length-pieces, Run, ends_from, IsBytesRow, bytes_of, joined_bytes, AllBytesRows, GrewBy}
use Rattle.sel_gather.proofs.Common.{bytes_needed, pick, unrolled, bits_for}
use Rattle.sel_bits.specs.Signs.{magnitude}
use Rattle.sel_gather.{specs.declared.binary.Joined.Joined, proofs.Grown.finished}
use Rattle.sel_runs.proofs.RunLists.{length-pick, length-unrolled}
use Rattle.sel_gather.proofs.EachRow.{mapped_all, masked_all, picked_all, sources_all}
use Rattle.sel_gather.proofs.EndsBy.{byte_ends, ends_by-append, ends_by_between, ends_by_last, ends_by_rise, length-bytes_of, pieces_by}

-- ---- the number of rows of a run

pub run_length : {A : Type 0} (d : A) (xss : List (List A)) (r : Run) → length (pick d xss (unrolled r)) ≡ r.len
run_length d xss r = length-pick d xss (unrolled r) ∙ length-unrolled r

-- ---- concatenated rows

pub needed-append : (a b : List Value) → bytes_needed (a ++ b) ≡ bytes_needed a + bytes_needed b
needed-append [] b = omega arith
needed-append (row ∷ a) b = omega (arith, needed-append a b)

-- A prefix of the rows needs at most as many bytes as all rows.
pub needed_part : (rows : List Value) (i : ℕ) → bytes_needed (take i rows) ≤ bytes_needed rows
needed_part rows i =
    let both = needed-append (take i rows) (drop i rows) in
    let whole = ap bytes_needed (take-append-drop i rows) in
    omega (arith, both, whole)

pub length-joined : (rows : List Value) → length (joined_bytes rows) ≡ bytes_needed rows
length-joined [] = refl
length-joined (row ∷ rows) = omega (arith, length-bytes_of row, length-append (bytes_of row) (joined_bytes rows), length-joined rows)

pub ends-append : (start : ℕ) (a b : List Value) → ends_from start (a ++ b) ≡ ends_from start a ++ ends_from (start + bytes_needed a) b
ends-append start a b = rw (byte_ends, byte_ends, byte_ends, ← length-joined a) (ends_by-append bytes_of start a b)

pub grew_length : (rows : List Value) (old new : Joined) → GrewBy rows old new → length new.bytes.items ≡ length old.bytes.items + bytes_needed rows
grew_length rows old new grew = ap length grew.bytes ∙ length-append old.bytes.items (joined_bytes rows) ∙ ap (λ n. length old.bytes.items + n) (length-joined rows)

pub grew_none : (j : Joined) → GrewBy [] j j
grew_none j = record { ends = sym (append-nil j.ends.items); bytes = sym (append-nil j.bytes.items); bits = sym (append-nil j.validity) }

pub grew_more : (a b : List Value) (s t u : Joined) → GrewBy a s t → GrewBy b t u → GrewBy (a ++ b) s u
grew_more a b s t u first second = grind (arith, common_steps, grew_length, append_assoc, map-append, ends-append, flat_map-append)

-- ---- rows that are null or bytes

pub column_bytes : (offsets bytes : List ℕ) (validity : Option Bits) (k : ℕ) → IsBytesRow (get_or (byte_rows offsets bytes validity) k Null)
column_bytes offsets bytes validity k = masked_all IsBytesRow tt validity (map Bytes (pieces offsets bytes)) (mapped_all IsBytesRow tt Bytes (λ p. tt) (pieces offsets bytes)) k

pub picked_bytes : {S : Type 0} (f : S → List Value) → ((s : S) (k : ℕ) → IsBytesRow (get_or (f s) k Null)) → (ss : List S) (ps : List (Option (ℕ × ℕ))) → AllBytesRows (pick Null (map f ss) ps)
picked_bytes f each ss ps k h = picked_all IsBytesRow tt (map f ss) (sources_all IsBytesRow tt f ss (λ i d below. each (get_or ss i d))) ps k

-- ---- the ends of rows

pub rising-ends : (rows : List Value) → IsRising (0 ∷ ends_from 0 rows)
rising-ends rows = rw byte_ends (ends_by_rise bytes_of rows)

-- ---- the column

-- The bytes of the rows under the validity of the rows are the rows.
hidden-again : (rows : List Value) → AllBytesRows rows → hidden (validities rows) (map Bytes (map bytes_of rows)) ≡ rows
hidden-again [] all = refl
hidden-again (row ∷ rows) all =
    let one : (v : Value) → IsBytesRow v → (if is_valid v then Bytes (bytes_of v) else Null) ≡ v =
    λ v. elim v as (λ w. IsBytesRow w → (if is_valid w then Bytes (bytes_of w) else Null) ≡ w) [
      | Null ↦ λ h. refl
      | Bytes bytes ↦ λ h. refl
      | _ ↦ λ h. absurd h
    ]
    in
    cc (one row (all 0 (omega arith)), hidden-again rows (λ k h. all (suc k) (omega arith)))

-- The parts of the column fit together.
pub built_rows : (rows : List Value) → rows_between (0 ∷ ends_from 0 rows) ≡ length rows
built_rows rows = ap (λ l. rows_between (0 ∷ l)) (byte_ends 0 rows) ∙ ends_by_between bytes_of rows

pub built_ends : (rows : List Value) → last_offset (0 ∷ ends_from 0 rows) ≤ length (joined_bytes rows)
built_ends rows = let last = ends_by_last bytes_of rows in rw byte_ends (omega (arith, last))

-- A column that is built from its rows has these rows.
pub rebuilt : (rows : List Value) (validity : Option Bits) (n : ℕ) → AllBytesRows rows → length rows ≡ n → bits_for n validity ≡ validities rows →
    byte_rows (0 ∷ ends_from 0 rows) (joined_bytes rows) validity ≡ rows
rebuilt rows validity n all long valid =
    let parts = pieces (0 ∷ ends_from 0 rows) (joined_bytes rows) in
    let same = ap (λ l. pieces_after 0 l (joined_bytes rows)) (byte_ends 0 rows) ∙ pieces_by bytes_of [] rows in
    finished Bytes parts validity (validities rows) n valid (length-pieces (0 ∷ ends_from 0 rows) (joined_bytes rows) ∙ built_rows rows ∙ long)
    ∙ ap (λ ps. hidden (validities rows) (map Bytes ps)) same ∙ hidden-again rows all

-- ---- numbers that represent the ends

magnitudes_of : {T : Type 0} (number : T → ℤ) → (xs : List T) (ns : List ℕ) → map number xs ≡ map pos ns → magnitudes number xs ≡ ns
magnitudes_of number [] [] e = refl
magnitudes_of number [] (n ∷ ns) e = cc
magnitudes_of number (x ∷ xs) [] e = cc
magnitudes_of number (x ∷ xs) (n ∷ ns) e =
    let here : number x ≡ pos n = cc in
    let rest : map number xs ≡ map pos ns = cc in
    cc (ap magnitude here, magnitudes_of number xs ns rest)

pub same_numbers : (ms ns : List ℕ) → map pos ms ≡ map pos ns → ms ≡ ns
same_numbers ms ns e = sym (magnitudes_of pos ms ms refl) ∙ magnitudes_of pos ms ns e

pub offsets_of : {T : Type 0} (number : T → ℤ) → (xs : List T) (ns : List ℕ) → map number xs ≡ map pos ns → IsRising ns → IsOffsets number xs
offsets_of number xs ns e rises = grind (arith, common_steps, magnitudes_of)

-- Offsets that represent the ends.
pub ends_shown : {T : Type 0} (number : T → ℤ) → (xs : List T) (offsets : List ℕ) (rows : List Value) → map number xs ≡ map pos (0 ∷ ends_from 0 rows) → map number xs ≡ map pos offsets → offsets ≡ 0 ∷ ends_from 0 rows
ends_shown number xs offsets rows e d = same_numbers offsets (0 ∷ ends_from 0 rows) (sym d ∙ e)

pub map_same : (xs : List ℤ) → map (λ (x : ℤ). x) xs ≡ xs
map_same xs = map-id xs

-- ---- rows that are appended to none

pub all_ends : (rows : List Value) (s t : Joined) → s.ends.items ≡ pos 0 ∷ [] → s.bytes.items ≡ [] → GrewBy rows s t → map (λ (x : ℤ). x) t.ends.items ≡ map pos (0 ∷ ends_from 0 rows)
all_ends rows s t e f grew = grind (arith, common_steps, map_same)

pub all_bytes : (rows : List Value) (s t : Joined) → s.bytes.items ≡ [] → GrewBy rows s t → t.bytes.items ≡ joined_bytes rows
all_bytes rows s t f grew = grew.bytes ∙ ap (λ l. l ++ joined_bytes rows) f

pub all_bits : (rows : List Value) (s t : Joined) → s.validity ≡ [] → GrewBy rows s t → t.validity ≡ validities rows
all_bits rows s t f grew = grew.bits ∙ ap (λ l. l ++ validities rows) f
