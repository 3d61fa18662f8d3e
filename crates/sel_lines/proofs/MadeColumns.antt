-- Parsed parts break no rule of the column constructors.
use Rattle.std.proofs.Common.{rules, ◌≡◌, ◌≤◌, ℕ, ◌*◌, Bool, false, List, [], ◌∷◌, length, map, Option, Some, None, arith, refl, ap, sym, ◌∙◌, IsTrue, not, nat_lt, ◌==◌}
use Rattle.sel_lines.proofs.Common.{common_steps, nat_tests, length-map, max_buffers, max_rows, Bits, list_fault, block_fault, views_fault, utf8view_fault, hidden, too_many, Value, is_valid, validities, and_second, joined_items, item_ends}
use Rattle.sel_bits.specs.Faults.{IsFault, IsFaultOrMemory}
use Rattle.sel_bits.specs.declared.faults.MakeError.{MakeError, TheVariants.OutOfMemory as WantOfMemory}
use Rattle.sel_bits.specs.declared.faults.Malformed.{Malformed}
use Rattle.sel_arrow.specs.{Texts.all_text, declared.view.View.View, Pieces.rows_between, Pieces.last_offset}
use Rattle.sel_arrow.specs.Views.{all_placed, is_placed, view_value}
use Rattle.sel_gather.proofs.Rebuilt.{ends_between, ends_last}

-- ---- errors if no rule is broken

pub never_fault : (fault : Option Malformed) (e : MakeError) → fault ≡ None → IsFault fault e → ⊥
never_fault fault e none is = grind (arith, common_steps)

pub memory_alone : (fault : Option Malformed) (e : MakeError) → fault ≡ None → IsFaultOrMemory fault e → e ≡ WantOfMemory
memory_alone fault e none is = grind (arith, common_steps)

-- ---- columns without children

pub few : (n : ℕ) → n ≤ max_rows → too_many n ≡ false
few n le = grind (arith, nat_tests, le)

within : (n last : ℕ) → last ≤ n → nat_lt n last ≡ false
within n last le = grind (arith, nat_tests, le)

alike : (m n : ℕ) → m ≡ n → not (m == n) ≡ false
alike m n e = grind (arith, nat_tests, e)

views_sound : (buffers : List (List ℕ)) (views : List View) → IsTrue (all_placed buffers views) → views_fault buffers views ≡ None
views_sound buffers [] placed = refl
views_sound buffers (v ∷ views) placed = search (rules, (views_sound buffers views (and_second (is_placed buffers v) (all_placed buffers views) placed)))

pub texts_sound : (views : List View) (buffers : List (List ℕ)) (validity : Bits) (flags : List Bool) → length views ≤ max_rows → length buffers ≤ max_buffers → validity.bits ≡ flags → length flags ≡ length views →
    IsTrue (all_placed buffers views) → IsTrue (all_text (hidden flags (map (view_value buffers) views))) → utf8view_fault views buffers (Some validity) ≡ None
texts_sound views buffers validity flags rows few_buffers shown same placed texts = grind (arith, common_steps, few, alike, views_sound)

-- ---- columns with children

pub list_sound : (read : List Value) (offsets : List ℕ) (n : ℕ) (validity : Bits) → offsets ≡ 0 ∷ item_ends 0 read → n ≡ length (joined_items 0 read) → validity.bits ≡ validities read → length read ≤ max_rows →
    list_fault offsets n (Some validity) ≡ None
list_sound read offsets n validity ends count valid le =
    let between : rows_between offsets ≡ length read = ap rows_between ends ∙ ends_between read in
    let last : last_offset offsets ≡ length (joined_items 0 read) = ap last_offset ends ∙ ends_last read in
    let long : length validity.bits ≡ rows_between offsets = ap length valid ∙ length-map read is_valid ∙ sym between in
    rw (few (rows_between offsets) (omega (arith, between, le)), within n (last_offset offsets) (omega (arith, last, count)), alike (length validity.bits) (rows_between offsets) long) refl

pub block_sound : (w len n : ℕ) (validity : Bits) → len ≤ max_rows → w ≤ max_rows → n ≡ len * w → length validity.bits ≡ len → block_fault w len n (Some validity) ≡ None
block_sound w len n validity rows narrow fills long = rw (few len rows, few w narrow, alike n (len * w) fills, alike (length validity.bits) len long) refl
