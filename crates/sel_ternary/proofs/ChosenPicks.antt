-- The row references of an if-then-else, and the rows that they give.
use Rattle.sel_ternary.proofs.Common.{common_steps, ◌≡◌, ℕ, zero, suc, ◌+◌, ◌<◌, Bool, true, false, All, List, [], ◌∷◌, length, get_or, refl, sym, ap, ◌∙◌}
use Rattle.sel_ternary.proofs.Common.{arith, Option, get_or-replicate, rows, Value, Null, pick, chosen_rows, first_row, choose}
use Rattle.sel_ternary.specs.{ChosenPicks.chosen_picks, ChosenPicks.bit_pick, ChosenPicks.place_on, Chosen.SideFits, Chosen.spread_rows}
use Rattle.std.proofs.lemmas.List.Elements.{All-nil, All-cons}
use Rattle.sel_runs.specs.Picks.{PickFits}
use Rattle.sel_runs.specs.Plans.{IsPicked}
use Rattle.sel_ternary.proofs.Chosen.{chosen_spread, length-spread, two_equal}

at : (t f : Bool) (i k : ℕ) (bits : List Bool) (b : Bool) (d : Option (ℕ × ℕ)) → k < length bits → get_or (chosen_picks t f i bits) k d ≡ bit_pick t f (get_or bits k b) (i + k)
at t f i k [] b d below = absurd (omega (arith, below))
at t f i zero (bit ∷ bits) b d below = grind (arith, common_steps)
at t f i (suc k) (bit ∷ bits) b d below = grind (arith, common_steps, (at t f (i + 1) k bits b d (omega (arith, below))))

-- The row reference at a position.
pub chosen_at : (t f : Bool) (k : ℕ) (bits : List Bool) (b : Bool) (d : Option (ℕ × ℕ)) → k < length bits → get_or (chosen_picks t f 0 bits) k d ≡ bit_pick t f (get_or bits k b) k
chosen_at t f k bits b d below =
    let place : 0 + k ≡ k = omega arith in
    at t f 0 k bits b d below ∙ ap (bit_pick t f (get_or bits k b)) place

-- No row reference is null.
pub chosen_picked : (t f : Bool) (i : ℕ) (bits : List Bool) → All IsPicked (chosen_picks t f i bits)
chosen_picked t f i [] = All-nil IsPicked
chosen_picked t f i (b ∷ bits) = All-cons IsPicked (bit_pick t f b i) (chosen_picks t f (i + 1) bits) tt (chosen_picked t f (i + 1) bits)

-- As many row references as bits.
pub chosen_long : (t f : Bool) (i : ℕ) (bits : List Bool) → length (chosen_picks t f i bits) ≡ length bits
chosen_long t f i [] = refl
chosen_long t f i (b ∷ bits) = ap suc (chosen_long t f (i + 1) bits)

-- ---- the rows

-- The row at a position, of a column or of a row that is broadcast.
row_at : (is_column : Bool) (ms : List Bool) (vs : List Value) → SideFits is_column (length vs) (length ms) → (k i : ℕ) → k < length ms → i ≡ k → get_or vs (place_on is_column i) Null ≡ get_or (spread_rows is_column ms vs) k Null
row_at true ms vs fits k i below is = ap (λ n. get_or vs n Null) is
row_at false ms vs fits k i below is = sym (ap (λ l. get_or l k Null) (two_equal ms (first_row vs)) ∙ get_or-replicate (length ms) k (first_row vs) Null below)

picked : (t f : Bool) (i : ℕ) (bits : List Bool) (ts fs xs ys : List Value) → length xs ≡ length bits → length ys ≡ length bits
    → ((k n : ℕ) → k < length bits → n ≡ i + k → get_or ts (place_on t n) Null ≡ get_or xs k Null) → ((k n : ℕ) → k < length bits → n ≡ i + k → get_or fs (place_on f n) Null ≡ get_or ys k Null)
    → pick Null (ts ∷ fs ∷ []) (chosen_picks t f i bits) ≡ choose bits xs ys
picked t f i [] ts fs xs ys p q same other = refl
picked t f i (true ∷ bits) ts fs (x ∷ xs) (y ∷ ys) p q same other =
    (λ j. same 0 i (omega arith) (omega arith) j
    ∷ picked t f (i + 1) bits ts fs xs ys (omega arith) (omega arith) (λ k n below is. same (suc k) n (omega arith) (omega arith)) (λ k n below is. other (suc k) n (omega arith) (omega arith)) j)
picked t f i (false ∷ bits) ts fs (x ∷ xs) (y ∷ ys) p q same other =
    (λ j. other 0 i (omega arith) (omega arith) j
    ∷ picked t f (i + 1) bits ts fs xs ys (omega arith) (omega arith) (λ k n below is. same (suc k) n (omega arith) (omega arith)) (λ k n below is. other (suc k) n (omega arith) (omega arith)) j)
picked t f i bits ts fs xs ys p q same other = absurd (omega arith)

-- The gathered rows are the if-then-else.
pub choice_picked : (t f : Bool) (bits : List Bool) (ts fs : List Value) → SideFits t (length ts) (length bits) → SideFits f (length fs) (length bits) → pick Null (ts ∷ fs ∷ []) (chosen_picks t f 0 bits) ≡ chosen_rows t f bits ts fs
choice_picked t f bits ts fs long other =
    picked t f 0 bits ts fs (spread_rows t bits ts) (spread_rows f bits fs) (length-spread t bits ts long) (length-spread f bits fs other)
    (λ k n below is. row_at t bits ts long k n below (omega arith)) (λ k n below is. row_at f bits fs other k n below (omega arith))
    ∙ sym (chosen_spread t f bits ts fs)

below_side : (column : Bool) (i rows n : ℕ) → SideFits column rows n → i < n → place_on column i < rows
below_side true i rows n long below = omega (arith, long, below)
below_side false i rows n long below = omega (arith, long)

fits : (t f : Bool) (i n : ℕ) (bits : List Bool) (ts fs : List Value) → i + length bits ≡ n → SideFits t (length ts) n → SideFits f (length fs) n → All (PickFits (ts ∷ fs ∷ [])) (chosen_picks t f i bits)
fits t f i n [] ts fs same long other = All-nil (PickFits (ts ∷ fs ∷ []))
fits t f i n (true ∷ bits) ts fs same long other = grind (arith, common_steps, below_side, (fits t f (i + 1) n bits ts fs (omega (arith, same)) long other))
fits t f i n (false ∷ bits) ts fs same long other = grind (arith, common_steps, below_side, (fits t f (i + 1) n bits ts fs (omega (arith, same)) long other))

-- Each row reference is in bounds.
pub choice_fits : (t f : Bool) (bits : List Bool) (ts fs : List Value) → SideFits t (length ts) (length bits) → SideFits f (length fs) (length bits) → All (PickFits (ts ∷ fs ∷ [])) (chosen_picks t f 0 bits)
choice_fits t f bits ts fs long other = fits t f 0 (length bits) bits ts fs (omega arith) long other

pub ruleset picks = (chosen_long, chosen_picked, chosen_at)

pub ruleset choices = (choice_fits, choice_picked)
