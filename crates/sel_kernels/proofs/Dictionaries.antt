-- Keys and values of a dictionary without its null values.
use Rattle.sel_kernels.proofs.Common.{common_steps, ◌≡◌, ℕ, zero, suc, ◌+◌, ◌≤◌, ◌<◌, pos, Bool, true, false, List, [], ◌∷◌, length, map, take, get_or}
use Rattle.sel_kernels.proofs.Common.{Option, Some, None, refl, ap, sym, ◌∙◌, arith, cond, zero-add, if◌then◌else◌, count_by, not, IfNone, range_with_len}
use Rattle.sel_kernels.proofs.Common.{ltb-true, length-map, get_or-map, get_or-map-range_with_len, length-map-range_with_len, sum_by-cons, Bits, count_true}
use Rattle.sel_kernels.proofs.Common.{hidden, masked, number_rows, Covers, Value, Null, Number, is_valid, is_null, validities, and_first, and_second, rank}
use Rattle.sel_kernels.proofs.Common.{valid_values, propagated_keys, found, pick_of, take_rows, is_within, all_within, select, map-range_with_len_more}
use Rattle.sel_kernels.proofs.Common.{take_more}
use Rattle.sel_kernels.{specs.Dictionary.decode, specs.Dictionary.key_of_valid, proofs.Takes.row_under}
use Rattle.sel_filter.proofs.Selects.{count_true-append}
use Rattle.sel_gather.proofs.Rebuilt.{only_null}

-- ---- the number of null rows

abbrev tally : Bool → ℕ
tally b = cond b 1 0

null_more : (v : Value) (vs : List Value) → count_by is_null (v ∷ vs) ≡ tally (is_null v) + count_by is_null vs
null_more v vs = sum_by-cons (λ w. tally (is_null w)) v vs

valid_more : (v : Value) (vs : List Value) → count_by is_valid (v ∷ vs) ≡ tally (is_valid v) + count_by is_valid vs
valid_more v vs = sum_by-cons (λ w. tally (is_valid w)) v vs

-- If none is null, the first is not null.
no_null : (b : Bool) (v : Value) (vs : List Value) → is_valid v ≡ b → count_by is_null (v ∷ vs) ≡ 0 → is_valid v ≡ true
no_null true v vs e h = e
no_null false v vs e h = grind (arith, common_steps, not, null_more)

one_valid : (v : Value) (vs : List Value) → count_by is_null (v ∷ vs) ≡ 0 → tally (is_valid v) ≡ 1
one_valid v vs none = ap (λ b. tally b) (no_null (is_valid v) v vs refl none)

-- The rows that are selected for being valid are not null.
one_kept : (b : Bool) (v : Value) (vs : List Value) → is_valid v ≡ b → count_by is_null (select vs (validities vs)) ≡ 0 → count_by is_null (select (v ∷ vs) (b ∷ validities vs)) ≡ 0
one_kept true v vs e h = grind (arith, common_steps, not, null_more)
one_kept false v vs e h = h

pub none_null : (vs : List Value) → count_by is_null (select vs (validities vs)) ≡ 0
none_null [] = refl
none_null (v ∷ vs) = one_kept (is_valid v) v vs refl (none_null vs)

-- ---- rows without a null need no validity

shown : {A : Type 0} (f : A → Value) → (bs : List Bool) (xs : List A) → count_by is_null (hidden bs (map f xs)) ≡ 0 → hidden bs (map f xs) ≡ map f xs
shown f (true ∷ bs) (x ∷ xs) h =
    ap (λ l. f x ∷ l) (shown f bs xs (let e = null_more (f x) (hidden bs (map f xs)) in omega (arith, e, h)))
shown f (false ∷ bs) (x ∷ xs) h = let e = null_more Null (hidden bs (map f xs)) in absurd (omega (arith, e, h))
shown f bs xs h = refl

pub bare_rows : {A : Type 0} (f : A → Value) → (validity : Option Bits) (xs : List A) → count_by is_null (masked validity (map f xs)) ≡ 0 → map f xs ≡ masked validity (map f xs)
bare_rows f None xs h = refl
bare_rows f (Some validity) xs h = sym (shown f validity.bits xs h)

-- ---- the rows that a validity marks as valid

-- The validities of rows under a validity are its bits.
told_bits : {A : Type 0} (f : A → Value) → ((x : A) → is_valid (f x) ≡ true) → (bs : List Bool) (xs : List A) → length bs ≡ length xs → validities (hidden bs (map f xs)) ≡ bs
told_bits f valid [] [] long = refl
told_bits f valid (true ∷ bs) (x ∷ xs) long = (λ i. valid x i ∷ told_bits f valid bs xs (omega arith) i)
told_bits f valid (false ∷ bs) (x ∷ xs) long = ap (λ l. false ∷ l) (told_bits f valid bs xs (omega arith))
told_bits f valid bs xs long = absurd (omega (arith, long))

pub told_validity : {A : Type 0} (f : A → Value) → ((x : A) → is_valid (f x) ≡ true) → (old : Option Bits) (validity : Bits) (xs : List A) → old ≡ Some validity → Covers old (length xs) →
    validity.bits ≡ validities (masked old (map f xs))
told_validity f valid old validity xs is covers = grind (arith, common_steps, told_bits)

pub if_none : {A : Type 0} (o : Option A) (P : Type 0) → (o ≡ None → P) → IfNone o P
if_none None P h = h refl
if_none (Some x) P h = tt

-- Without a validity no row is null.
pub all_valid : {A : Type 0} (f : A → Value) → ((x : A) → is_valid (f x) ≡ true) → (xs : List A) → count_by is_null (map f xs) ≡ 0
all_valid f valid [] = refl
all_valid f valid (x ∷ xs) = grind (arith, common_steps, not, null_more, (all_valid f valid xs))

-- ---- ranks

pub count_step : (bs : List Bool) (i : ℕ) → i < length bs → count_true (take (i + 1) bs) ≡ count_true (take i bs) + (if get_or bs i false then 1 else 0)
count_step bs i inside = rw (take_more bs i false inside, count_true-append (take i bs)) (by (get_or bs i false))
  where
    by : (b : Bool) → count_true (take i bs) + count_true (b ∷ []) ≡ count_true (take i bs) + (if b then 1 else 0)
    by true = refl
    by false = refl

pub counts_long : (ranks : List ℕ) (bits : List Bool) → ranks ≡ map (λ i. count_true (take i bits)) (range_with_len 0 (length bits)) → length ranks ≡ length bits
counts_long ranks bits counts = ap length counts ∙ length-map-range_with_len (λ i. count_true (take i bits)) 0 (length bits)

-- The number of true bits before a position is the rank: the number of non-null rows before it.
counted_before : (vs : List Value) (k : ℕ) → count_true (take k (validities vs)) ≡ rank vs k
counted_before [] zero = refl
counted_before [] (suc k) = refl
counted_before (v ∷ vs) zero = refl
counted_before (v ∷ vs) (suc k) = grind (arith, common_steps, sum_by-cons, valid_more, (counted_before vs k))

-- ---- the keys of the valid values

module _ (vs : List Value) (ranks : List ℕ) (validity : Bits) (bits : validity.bits ≡ validities vs) (counts : ranks ≡ map (λ i. count_true (take i validity.bits)) (range_with_len 0 (length validity.bits))) where
  long : length ranks ≡ length vs
  long = counts_long ranks validity.bits counts ∙ ap length bits ∙ length-map vs is_valid

  rank_at : (i : ℕ) → i < length vs → get_or ranks i 0 ≡ rank vs i
  rank_at i inside =
      let within : i < length validity.bits = let e = ap length bits ∙ length-map vs is_valid in omega (arith, e, inside) in
      ap (λ l. get_or l i 0) counts ∙ get_or-map-range_with_len (λ k. count_true (take k validity.bits)) 0 (length validity.bits) i i 0 within (zero-add i)
      ∙ ap (λ l. count_true (take i l)) bits ∙ counted_before vs i

  key_at : (i : ℕ) → i < length vs → get_or (number_rows pos ranks (Some validity)) i Null ≡ key_of_valid vs (Number (pos i))
  key_at i inside =
      let bit = ap (λ l. get_or l i false) bits ∙ get_or-map is_valid vs i Null false inside in
      row_under (λ x. Number (pos x)) (Some validity) ranks 0 i (let l = long in omega (arith, l, inside))
      (λ v there. let same : validity ≡ v = cc in ap (λ (b : Bits). length b.bits) (sym same) ∙ sym (counts_long ranks validity.bits counts))
      ∙ (λ j. if bit j then Number (pos (rank_at i inside j)) else Null)

  pub keys_taken : (keys : List Value) → all_within (length vs) keys ≡ true → take_rows (number_rows pos ranks (Some validity)) keys ≡ propagated_keys keys vs
  keys_taken [] within = refl
  keys_taken (Number (pos i) ∷ keys) within = (λ j. key_at i (ltb-true i (length vs) (and_first _ _ within)) j ∷ keys_taken keys (and_second _ _ within) j)
  keys_taken (key ∷ keys) within = ap (λ l. Null ∷ l) (keys_taken keys (and_second (is_within (length vs) key) (all_within (length vs) keys) within))

-- ---- if no value is null, the keys are unchanged

rank_all : (vs : List Value) (k : ℕ) → count_by is_null vs ≡ 0 → k ≤ length vs → rank vs k ≡ k
rank_all [] k none inside = let e : k ≡ 0 = omega (arith, inside) in rw e refl
rank_all (v ∷ vs) zero none inside = refl
rank_all (v ∷ vs) (suc k) none inside =
    let valid = one_valid v vs none in
    let e = rank_all vs k (let n = null_more v vs in omega (arith, n, none)) (omega (arith, inside)) in
    valid_more v (take k vs) ∙ omega (arith, e, valid)

valid_here : (vs : List Value) (k : ℕ) → count_by is_null vs ≡ 0 → k < length vs → is_valid (get_or vs k Null) ≡ true
valid_here [] k none inside = absurd (omega (arith, inside))
valid_here (v ∷ vs) zero none inside = no_null (is_valid v) v vs refl none
valid_here (v ∷ vs) (suc k) none inside = valid_here vs k (let n = null_more v vs in omega (arith, n, none)) (omega (arith, inside))

key_stays : (vs : List Value) (n : ℕ) → count_by is_null vs ≡ 0 → is_within (length vs) (Number (pos n)) ≡ true → key_of_valid vs (Number (pos n)) ≡ Number (pos n)
key_stays vs n none within = grind (arith, common_steps, ltb-true, valid_here, rank_all)

keys_hidden : (vs : List Value) (bs : List Bool) (xs : List ℕ) → count_by is_null vs ≡ 0 → all_within (length vs) (hidden bs (map (λ x. Number (pos x)) xs)) ≡ true →
    hidden bs (map (λ x. Number (pos x)) xs) ≡ propagated_keys (hidden bs (map (λ x. Number (pos x)) xs)) vs
keys_hidden vs [] (x ∷ xs) none within =
    (λ i. sym (key_stays vs x none (and_first _ _ within)) i ∷ keys_hidden vs [] xs none (and_second _ _ within) i)
keys_hidden vs (true ∷ bs) (x ∷ xs) none within =
    (λ i. sym (key_stays vs x none (and_first _ _ within)) i ∷ keys_hidden vs bs xs none (and_second _ _ within) i)
keys_hidden vs (false ∷ bs) (x ∷ xs) none within = ap (λ l. Null ∷ l) (keys_hidden vs bs xs none within)
keys_hidden vs bs xs none within = refl

pub keys_stay : (vs : List Value) (xs : List ℕ) (validity : Option Bits) → count_by is_null vs ≡ 0 → all_within (length vs) (number_rows pos xs validity) ≡ true →
    number_rows pos xs validity ≡ propagated_keys (number_rows pos xs validity) vs
keys_stay vs xs None none within = keys_hidden vs [] xs none within
keys_stay vs xs (Some validity) none within = keys_hidden vs validity.bits xs none within

-- The values are unchanged, too.
pub values_stay : (vs : List Value) → count_by is_null vs ≡ 0 → vs ≡ valid_values vs
values_stay [] none = refl
values_stay (v ∷ vs) none =
    let rest = values_stay vs (let n = null_more v vs in omega (arith, n, none)) in
    ap (λ l. v ∷ l) rest ∙ ap (λ b. select (v ∷ vs) (b ∷ validities vs)) (sym (no_null (is_valid v) v vs refl none))

-- ---- each key refers to the same value as before

-- With one more value at the front.
behind : (b : Bool) (v : Value) (vs : List Value) (k : ℕ) → is_valid v ≡ b → get_or (valid_values vs) (rank vs k) Null ≡ get_or vs k Null →
    get_or (select (v ∷ vs) (b ∷ validities vs)) (rank (v ∷ vs) (suc k)) Null ≡ get_or vs k Null
behind true v vs k e h = grind (arith, common_steps, valid_more)
behind false v vs k e h = grind (arith, common_steps, valid_more, zero-add)

-- A valid value is at its rank among the valid ones.
rank_found : (vs : List Value) (k : ℕ) → k < length vs → is_valid (get_or vs k Null) ≡ true → get_or (valid_values vs) (rank vs k) Null ≡ get_or vs k Null
rank_found [] k inside valid = absurd (omega (arith, inside))
rank_found (v ∷ vs) zero inside valid = ap (λ b. get_or (select (v ∷ vs) (b ∷ validities vs)) 0 Null) valid
rank_found (v ∷ vs) (suc k) inside valid = behind (is_valid v) v vs k refl (rank_found vs k (omega (arith, inside)) valid)

-- The value of a key, before and after.
same_value : (b : Bool) (vs : List Value) (k : ℕ) → k < length vs → is_valid (get_or vs k Null) ≡ b →
    found Null (valid_values vs ∷ []) (pick_of (if b then Number (pos (rank vs k)) else Null)) ≡ get_or vs k Null
same_value true vs k inside valid = rank_found vs k inside valid
same_value false vs k inside valid = sym (only_null (get_or vs k Null) valid)

pub propagation_decodes : (keys values : List Value) → all_within (length values) keys ≡ true → decode (propagated_keys keys values) (valid_values values) ≡ decode keys values
propagation_decodes [] vs within = refl
propagation_decodes (Number (pos k) ∷ keys) vs within =
    let here = same_value (is_valid (get_or vs k Null)) vs k (ltb-true k (length vs) (and_first _ (all_within (length vs) keys) within)) refl in
    (λ i. here i ∷ propagation_decodes keys vs (and_second _ _ within) i)
propagation_decodes (key ∷ keys) vs within = ap (λ l. Null ∷ l) (propagation_decodes keys vs (and_second (is_within (length vs) key) (all_within (length vs) keys) within))

pub ruleset counting = (count_step, map-range_with_len_more)
