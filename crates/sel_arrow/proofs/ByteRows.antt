-- Rows of binary with offsets.
use Rattle.std.proofs.lemmas.Grind.{common_steps}
use Rattle.std.proofs.Common.{◌≡◌, ◌≢◌, ℕ, suc, ◌+◌, ◌≤◌, ◌<◌, true, false, List, [], ◌∷◌, length, take, drop, Option, refl, ap, ◌∙◌, arith, get_or, get_or-take, get_or-drop}
use Rattle.sel_arrow.proofs.Common.{slice_range, option_map, max_rows, Bits, IsRising, Covers, valid_at, part_of, IsValidityOf, byte_rows, last_offset, pieces, pieces_after, rows_between, Shape, of_null, Null, Bytes}
use Rattle.sel_arrow.proofs.Rows.{length-mapped, null_mapped, valid_mapped, tells-mapped, part-mapped, length-part, part_covers, part_within}

-- ---- pieces of a list

length-pieces_after : {A : Type 0} (a : ℕ) (offsets : List ℕ) (xs : List A) → length (pieces_after a offsets xs) ≡ length offsets
length-pieces_after a [] xs = refl
length-pieces_after a (b ∷ offsets) xs = ap suc (length-pieces_after b offsets xs)

pub length-pieces : {A : Type 0} (offsets : List ℕ) (xs : List A) → length (pieces offsets xs) ≡ rows_between offsets
length-pieces offsets xs = grind (arith, length-pieces_after)

get_or-pieces_after : {A : Type 0} (a : ℕ) (offsets : List ℕ) (xs : List A) (i : ℕ) → i < length offsets → get_or (pieces_after a offsets xs) i [] ≡ slice_range xs (get_or (a ∷ offsets) i 0) (get_or offsets i 0)
get_or-pieces_after a (b ∷ offsets) xs (suc i) h = get_or-pieces_after b offsets xs i (omega arith)
get_or-pieces_after a offsets xs i h = grind arith

pub get_or-pieces : {A : Type 0} (offsets : List ℕ) (xs : List A) (i : ℕ) → i < rows_between offsets → get_or (pieces offsets xs) i [] ≡ slice_range xs (get_or offsets i 0) (get_or offsets (i + 1) 0)
get_or-pieces offsets xs i h = grind (arith, get_or-pieces_after)

-- The pieces between a part of the offsets are a part of the pieces.
drop-pieces : {A : Type 0} (n : ℕ) (offsets : List ℕ) (xs : List A) → pieces (drop n offsets) xs ≡ drop n (pieces offsets xs)
drop-pieces (suc n) (a ∷ (b ∷ offsets)) xs = drop-pieces n (b ∷ offsets) xs
drop-pieces n offsets xs = grind (arith, common_steps)

take-pieces_after : {A : Type 0} (n a : ℕ) (offsets : List ℕ) (xs : List A) → pieces_after a (take n offsets) xs ≡ take n (pieces_after a offsets xs)
take-pieces_after (suc n) a (b ∷ offsets) xs = ap (λ rest. slice_range xs a b ∷ rest) (take-pieces_after n b offsets xs)
take-pieces_after n a offsets xs = cc

take-pieces : {A : Type 0} (n : ℕ) (offsets : List ℕ) (xs : List A) → pieces (take (n + 1) offsets) xs ≡ take n (pieces offsets xs)
take-pieces n offsets xs = grind (arith, take-pieces_after)

pub part-pieces : {A : Type 0} (offsets : List ℕ) (xs : List A) (off len : ℕ) → pieces (take (len + 1) (drop off offsets)) xs ≡ take len (drop off (pieces offsets xs))
part-pieces offsets xs off len = take-pieces len (drop off offsets) xs ∙ ap (take len) (drop-pieces off offsets xs)

-- ---- binary rows

pub length-byte_rows : (offsets bytes : List ℕ) (validity : Option Bits) → length (byte_rows offsets bytes validity) ≡ rows_between offsets
length-byte_rows offsets bytes validity = length-mapped Bytes (pieces offsets bytes) validity ∙ length-pieces offsets bytes

inside_pieces : (offsets bytes : List ℕ) (i : ℕ) → i < rows_between offsets → i < length (pieces offsets bytes)
inside_pieces offsets bytes i h = rw length-pieces h

pub covers_pieces : {A : Type 0} (offsets : List ℕ) (xs : List A) (validity : Option Bits) → Covers validity (rows_between offsets) → Covers validity (length (pieces offsets xs))
covers_pieces offsets xs validity covers = λ v there. rw length-pieces (covers v there)

pub null_bytes : (offsets bytes : List ℕ) (validity : Option Bits) (i : ℕ) → valid_at validity i ≡ false → i < rows_between offsets → Covers validity (rows_between offsets) → get_or (byte_rows offsets bytes validity) i Null ≡ Null
null_bytes offsets bytes validity i e h covers = grind (arith, common_steps, null_mapped, covers_pieces)

pub valid_bytes : (offsets bytes : List ℕ) (validity : Option Bits) (i : ℕ) → valid_at validity i ≡ true → i < rows_between offsets → Covers validity (rows_between offsets) → get_or (byte_rows offsets bytes validity) i Null ≡ Bytes (slice_range bytes (get_or offsets i 0) (get_or offsets (i + 1) 0))
valid_bytes offsets bytes validity i e h covers =
    valid_mapped Bytes (pieces offsets bytes) validity i [] e (inside_pieces offsets bytes i h) (covers_pieces offsets bytes validity covers)
    ∙ ap Bytes (get_or-pieces offsets bytes i h)

pub tells-bytes : (s : Shape) (offsets bytes : List ℕ) (validity : Option Bits) → s ≢ of_null → Covers validity (rows_between offsets) → IsValidityOf s validity (byte_rows offsets bytes validity)
tells-bytes s offsets bytes validity other covers = tells-mapped Bytes (λ x. refl) s (pieces offsets bytes) validity other (covers_pieces offsets bytes validity covers)

pub part-byte_rows : (offsets bytes : List ℕ) (validity : Option Bits) (off len : ℕ) → byte_rows (take (len + 1) (drop off offsets)) bytes (option_map (part_of off len) validity) ≡ take len (drop off (byte_rows offsets bytes validity))
part-byte_rows offsets bytes validity off len = simp (part-pieces, part-mapped)

pub covers_bytes : (offsets bytes : List ℕ) (old new : Option Bits) → Covers new (length (byte_rows offsets bytes old)) → Covers new (rows_between offsets)
covers_bytes offsets bytes old new covers = λ v there. rw length-byte_rows at (covers v there)

-- ---- offsets of a part

pub part_rising : (offsets : List ℕ) (off len : ℕ) → IsRising offsets → off + len ≤ rows_between offsets → IsRising (take (len + 1) (drop off offsets))
part_rising offsets off len rises h = grind (arith, length-part, get_or-take, get_or-drop)

pub rows_in_part : (offsets : List ℕ) (off len : ℕ) → IsRising offsets → off + len ≤ rows_between offsets → rows_between (take (len + 1) (drop off offsets)) ≡ len
rows_in_part offsets off len rises h = omega (arith, length-part offsets off (len + 1) (omega (arith, rises.some)))

pub part_few : (offsets : List ℕ) (off len : ℕ) → IsRising offsets → off + len ≤ rows_between offsets → rows_between offsets ≤ max_rows → rows_between (take (len + 1) (drop off offsets)) ≤ max_rows
part_few offsets off len rises h few = omega (arith, rows_in_part offsets off len rises h)

pub part_last : (offsets : List ℕ) (off len : ℕ) → IsRising offsets → off + len ≤ rows_between offsets → last_offset (take (len + 1) (drop off offsets)) ≤ last_offset offsets
part_last offsets off len rises h = grind (arith, rows_in_part, get_or-take, get_or-drop)

pub part_ends : (offsets bytes : List ℕ) (off len : ℕ) → IsRising offsets → off + len ≤ rows_between offsets → last_offset offsets ≤ length bytes → last_offset (take (len + 1) (drop off offsets)) ≤ length bytes
part_ends offsets bytes off len rises h ends = omega (arith, part_last offsets off len rises h)

pub part_covered : (offsets : List ℕ) (validity : Option Bits) (off len : ℕ) → IsRising offsets → off + len ≤ rows_between offsets → Covers validity (rows_between offsets) → Covers (option_map (part_of off len) validity) (rows_between (take (len + 1) (drop off offsets)))
part_covered offsets validity off len rises h covers = rw (rows_in_part offsets off len rises h) (part_covers validity (rows_between offsets) off len covers h)

pub ruleset byte_columns = (length-byte_rows, null_bytes, valid_bytes, tells-bytes, part-byte_rows, covers_bytes, part_rising, part_few, part_ends, part_covered, part_within)
