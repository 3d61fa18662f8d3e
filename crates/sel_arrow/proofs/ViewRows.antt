-- Rows of views.
use Rattle.std.proofs.Common.{◌≡◌, ◌≢◌, ℕ, ◌<◌, Bool, true, false, ◌&&◌, List, [], ◌∷◌, length, take, drop, Option, None, is_none, refl, get_or, IsTrue, not, arith}
use Rattle.sel_arrow.proofs.Common.{option_map, Bits, or_else, view_fault, views_fault, Covers, valid_at, part_of, IsValidityOf, Shape, of_null, Null, Bytes}
use Rattle.sel_bits.specs.Faults.{first_broken}
use Rattle.sel_bits.specs.declared.faults.Malformed.{Malformed}
use Rattle.sel_bits.specs.declared.faults.Malformed.TheVariants.{ViewRange, ViewPrefix}
use Rattle.sel_arrow.specs.declared.view.View.{View}
use Rattle.sel_arrow.specs.Views.{all_placed, has_prefix, is_in_range, is_placed, view_bytes, view_rows, view_value}
use Rattle.sel_arrow.proofs.Lists.{all_at, all_part}
use Rattle.sel_arrow.proofs.Rows.{length-mapped, null_mapped, valid_mapped, tells-mapped, part-mapped, length-part, part_covers, part_within}

-- ---- views that break no rule

none_second : (a b : Option Malformed) → or_else a b ≡ None → b ≡ None
none_second a b e = grind arith

tests_placed : (range prefix : Bool) → is_none (first_broken ((ViewRange, not range) ∷ (ViewPrefix, not prefix) ∷ [])) ≡ (range && prefix)
tests_placed range prefix = grind arith

-- A view without a fault is in range and has the right prefix.
pub fault_placed : (buffers : List (List ℕ)) (view : View) → is_none (view_fault buffers view) ≡ is_placed buffers view
fault_placed buffers view = tests_placed (is_in_range buffers view) (has_prefix buffers view)

-- Views that break no rule are well-formed.
pub faultless : (buffers : List (List ℕ)) (views : List View) → views_fault buffers views ≡ None → IsTrue (all_placed buffers views)
faultless buffers [] e = refl
faultless buffers (v ∷ views) e = grind (arith, (faultless buffers views (none_second (view_fault buffers v) (views_fault buffers views) e)))

pub placed_at : (buffers : List (List ℕ)) (views : List View) (i : ℕ) (d : View) → IsTrue (all_placed buffers views) → i < length views → IsTrue (is_placed buffers (get_or views i d))
placed_at buffers views i d placed h = all_at (is_placed buffers) views i d placed h

pub part_placed : (buffers : List (List ℕ)) (views : List View) (off len : ℕ) → IsTrue (all_placed buffers views) → IsTrue (all_placed buffers (take len (drop off views)))
part_placed buffers views off len placed = all_part (is_placed buffers) views off len placed

-- ---- the rows of views

pub length-view_rows : (views : List View) (buffers : List (List ℕ)) (validity : Option Bits) → length (view_rows views buffers validity) ≡ length views
length-view_rows views buffers validity = length-mapped (view_value buffers) views validity

pub null_view : (views : List View) (buffers : List (List ℕ)) (validity : Option Bits) (i : ℕ) → valid_at validity i ≡ false → i < length views → Covers validity (length views) → get_or (view_rows views buffers validity) i Null ≡ Null
null_view views buffers validity i e h covers = null_mapped (view_value buffers) views validity i e h covers

pub valid_view : (views : List View) (buffers : List (List ℕ)) (validity : Option Bits) (i : ℕ) (d : View) → valid_at validity i ≡ true → i < length views → Covers validity (length views) → get_or (view_rows views buffers validity) i Null ≡ Bytes (view_bytes buffers (get_or views i d))
valid_view views buffers validity i d e h covers = valid_mapped (view_value buffers) views validity i d e h covers

pub tells-views : (s : Shape) (views : List View) (buffers : List (List ℕ)) (validity : Option Bits) → s ≢ of_null → Covers validity (length views) → IsValidityOf s validity (view_rows views buffers validity)
tells-views s views buffers validity other covers = tells-mapped (view_value buffers) (λ v. refl) s views validity other covers

pub part-view_rows : (views : List View) (buffers : List (List ℕ)) (validity : Option Bits) (off len : ℕ) → view_rows (take len (drop off views)) buffers (option_map (part_of off len) validity) ≡ take len (drop off (view_rows views buffers validity))
part-view_rows views buffers validity off len = part-mapped (view_value buffers) views validity off len

pub covers_views : (views : List View) (buffers : List (List ℕ)) (old new : Option Bits) → Covers new (length (view_rows views buffers old)) → Covers new (length views)
covers_views views buffers old new covers = λ v there. rw length-view_rows at (covers v there)

pub ruleset placing = (faultless, placed_at, length-view_rows, null_view, valid_view)

pub ruleset view_columns = (faultless, placed_at, part_placed, length-view_rows, null_view, valid_view, tells-views, part-view_rows, covers_views, length-part, part_covers, part_within)
