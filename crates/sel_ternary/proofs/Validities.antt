-- The rows of an if-then-else under its validity.
use Rattle.sel_ternary.proofs.Common.{common_steps, ◌≡◌, ℕ, zero, suc, ◌∙◌, sym, refl, ap, arith, List, [], ◌∷◌, length, map, replicate, Bool, true, false, not}
use Rattle.sel_ternary.proofs.Common.{Option, Some, None, if◌then◌else◌, length-map, length-replicate, Bits, zip_with, hidden, masked, Covers, Value, Null}
use Rattle.sel_ternary.proofs.Common.{choose, broadcast_true, broadcast_false, broadcast_both, chosen_validity, few_rows_pass}
use Rattle.std.{proofs.Common.◌||◌, specs.Option.option_map}
use Rattle.sel_arrow.proofs.Rows.{length-mapped}
use Rattle.sel_ternary.proofs.{Chosen.length-choose, Chosen.repeated_then, Chosen.repeated_otherwise, Chosen.repeated_both, BitChoices.or_true}

-- The results of bitmap operations if the true or the false values have no validity.
pub or_chosen : (ms fs : List Bool) → length fs ≡ length ms → zip_with (λ x y. x || y) ms fs ≡ choose ms (replicate (length ms) true) fs
or_chosen [] fs p = refl
or_chosen (m ∷ ms) [] p = absurd (omega arith)
or_chosen (true ∷ ms) (f ∷ fs) p = ap (λ l. true ∷ l) (or_chosen ms fs (omega arith))
or_chosen (false ∷ ms) (f ∷ fs) p = ap (λ l. f ∷ l) (or_chosen ms fs (omega arith))

pub or_not_chosen : (ms ts : List Bool) → length ts ≡ length ms → zip_with (λ x y. x || not y) ts ms ≡ choose ms ts (replicate (length ms) true)
or_not_chosen ms ts p = or_true ms ts p ∙ repeated_otherwise ms ts true

pub ruleset validities = (or_chosen, or_not_chosen)

-- ---- rows under a validity

-- The bits are the validity of the if-then-else.
abbrev pub IsChosenValidity : List Bool → Option Bits → Option Bits → Option Bits → Type 0
IsChosenValidity ms vt vf v = option_map (λ (b : Bits). b.bits) v ≡ chosen_validity ms vt vf

hidden_true : (n : ℕ) (vs : List Value) → hidden (replicate n true) vs ≡ vs
hidden_true zero vs = refl
hidden_true (suc n) [] = refl
hidden_true (suc n) (v ∷ vs) = ap (λ l. v ∷ l) (hidden_true n vs)

hidden_choose : (ms bt bf : List Bool) (ts fs : List Value) → length bt ≡ length ms → length bf ≡ length ms → length ts ≡ length ms → length fs ≡ length ms
    → hidden (choose ms bt bf) (choose ms ts fs) ≡ choose ms (hidden bt ts) (hidden bf fs)
hidden_choose [] bt bf ts fs p q r s = refl
hidden_choose (true ∷ ms) (b ∷ bt) (d ∷ bf) (t ∷ ts) (f ∷ fs) p q r s = ap (λ l. (if b then t else Null) ∷ l) (hidden_choose ms bt bf ts fs (omega arith) (omega arith) (omega arith) (omega arith))
hidden_choose (false ∷ ms) (b ∷ bt) (d ∷ bf) (t ∷ ts) (f ∷ fs) p q r s = ap (λ l. (if d then f else Null) ∷ l) (hidden_choose ms bt bf ts fs (omega arith) (omega arith) (omega arith) (omega arith))
hidden_choose ms bt bf ts fs p q r s = absurd (omega arith)

never_some : {A : Type 0} → (x : A) → Some x ≡ None → ⊥
never_some x e = cc

pub no_validity : (n : ℕ) → Covers None n
no_validity n b there = absurd (never_some b (sym there))

-- Rows under the bits of a validity.
abbrev under : Option (List Bool) → List Value → List Value
under None vs = vs
under (Some bs) vs = hidden bs vs

under_bits : (v : Option Bits) (vs : List Value) → masked v vs ≡ under (option_map (λ (b : Bits). b.bits) v) vs
under_bits None vs = refl
under_bits (Some b) vs = refl

-- The if-then-else under its validity equals the if-then-else of the true and false values under
-- theirs.
pub masked_choose : (ms : List Bool) (vt vf v : Option Bits) (ts fs : List Value) → length ts ≡ length ms → length fs ≡ length ms → Covers vt (length ts) → Covers vf (length fs)
    → IsChosenValidity ms vt vf v → masked v (choose ms ts fs) ≡ choose ms (masked vt ts) (masked vf fs)
masked_choose ms vt vf v ts fs p q ct cf is = under_bits v (choose ms ts fs) ∙ ap (λ o. under o (choose ms ts fs)) is ∙ chosen vt vf ct cf
  where
    long : length (replicate (length ms) true) ≡ length ms
    long = length-replicate (length ms) true

    chosen : (vt vf : Option Bits) → Covers vt (length ts) → Covers vf (length fs) → under (chosen_validity ms vt vf) (choose ms ts fs) ≡ choose ms (masked vt ts) (masked vf fs)
    chosen None None ct cf = refl
    chosen None (Some f) ct cf = hidden_choose ms (replicate (length ms) true) f.bits ts fs long (cf f refl ∙ q) p q ∙ ap (λ l. choose ms l (hidden f.bits fs)) (hidden_true (length ms) ts)
    chosen (Some t) None ct cf = hidden_choose ms t.bits (replicate (length ms) true) ts fs (ct t refl ∙ p) long p q ∙ ap (λ l. choose ms (hidden t.bits ts) l) (hidden_true (length ms) fs)
    chosen (Some t) (Some f) ct cf = hidden_choose ms t.bits f.bits ts fs (ct t refl ∙ p) (cf f refl ∙ q) p q

-- This validity is as long as the mask.
pub covers_chosen : (ms : List Bool) (vt vf v : Option Bits) → Covers vt (length ms) → Covers vf (length ms) → IsChosenValidity ms vt vf v → Covers v (length ms)
covers_chosen ms vt vf v ct cf is b there = long vt vf ct cf b.bits (ap (option_map (λ (x : Bits). x.bits)) (sym there) ∙ is)
  where
    all : length (replicate (length ms) true) ≡ length ms
    all = length-replicate (length ms) true

    long : (vt vf : Option Bits) → Covers vt (length ms) → Covers vf (length ms) → (bs : List Bool) → Some bs ≡ chosen_validity ms vt vf → length bs ≡ length ms
    long None None ct cf bs e = absurd (never_some bs e)
    long None (Some f) ct cf bs e = let same : bs ≡ choose ms (replicate (length ms) true) f.bits = cc in ap length same ∙ length-choose ms (replicate (length ms) true) f.bits all (cf f refl)
    long (Some t) None ct cf bs e = let same : bs ≡ choose ms t.bits (replicate (length ms) true) = cc in ap length same ∙ length-choose ms t.bits (replicate (length ms) true) (ct t refl) all
    long (Some t) (Some f) ct cf bs e = let same : bs ≡ choose ms t.bits f.bits = cc in ap length same ∙ length-choose ms t.bits f.bits (ct t refl) (cf f refl)

pub map-choose : {A B : Type 0} → (f : A → B) (ms : List Bool) (ts fs : List A) → map f (choose ms ts fs) ≡ choose ms (map f ts) (map f fs)
map-choose f (true ∷ ms) (t ∷ ts) (d ∷ fs) = ap (λ l. f t ∷ l) (map-choose f ms ts fs)
map-choose f (false ∷ ms) (t ∷ ts) (d ∷ fs) = ap (λ l. f d ∷ l) (map-choose f ms ts fs)
map-choose f ms ts fs = refl

map-replicate : {A B : Type 0} → (n : ℕ) (x : A) (f : A → B) → map f (replicate n x) ≡ replicate n (f x)
map-replicate zero x f = refl
map-replicate (suc n) x f = ap (λ l. f x ∷ l) (map-replicate n x f)

-- The true and false values are as long as the mask if their rows are.
pub side_long : {A : Type 0} → (f : A → Value) (ms : List Bool) (xs : List A) (v : Option Bits) → length (masked v (map f xs)) ≡ length ms → length xs ≡ length ms
side_long f ms xs v long = sym (length-mapped f xs v) ∙ long

-- The validity of an if-then-else of two columns, or of a column and a value, is as long as the mask.
pub two_covered : {A : Type 0} → (f : A → Value) (ms : List Bool) (vt vf v : Option Bits) (ts fs : List A) (b : Bits) → v ≡ Some b → IsChosenValidity ms vt vf v → length (masked vt (map f ts)) ≡ length ms → length (masked vf (map f fs)) ≡ length ms
    → Covers vt (length ts) → Covers vf (length fs) → length b.bits ≡ length ms
two_covered f ms vt vf v ts fs b there valid p q ct cf = covers_chosen ms vt vf v (λ d is. ct d is ∙ side_long f ms ts vt p) (λ d is. cf d is ∙ side_long f ms fs vf q) valid b there

pub true_covered : {A : Type 0} → (f : A → Value) (ms : List Bool) (vt v : Option Bits) (ts : List A) (b : Bits) → v ≡ Some b → IsChosenValidity ms vt None v → length (masked vt (map f ts)) ≡ length ms → Covers vt (length ts) → length b.bits ≡ length ms
true_covered f ms vt v ts b there valid p ct = covers_chosen ms vt None v (λ d is. ct d is ∙ side_long f ms ts vt p) (no_validity (length ms)) valid b there

pub false_covered : {A : Type 0} → (f : A → Value) (ms : List Bool) (vf v : Option Bits) (fs : List A) (b : Bits) → v ≡ Some b → IsChosenValidity ms None vf v → length (masked vf (map f fs)) ≡ length ms → Covers vf (length fs) → length b.bits ≡ length ms
false_covered f ms vf v fs b there valid q cf = covers_chosen ms None vf v (no_validity (length ms)) (λ d is. cf d is ∙ side_long f ms fs vf q) valid b there

-- ---- columns whose rows each depend on one value

module _ {A : Type 0} (f : A → Value) (ms : List Bool) (out : List A) (v : Option Bits) where
  pub rows_choose : (vt vf : Option Bits) (ts fs : List A) → length (masked vt (map f ts)) ≡ length ms → length (masked vf (map f fs)) ≡ length ms → Covers vt (length ts) → Covers vf (length fs) → out ≡ choose ms ts fs → IsChosenValidity ms vt vf v
      → masked v (map f out) ≡ choose ms (masked vt (map f ts)) (masked vf (map f fs))
  rows_choose vt vf ts fs p q ct cf is valid = grind (arith, common_steps, map-choose, masked_choose, length-map, side_long)

  pub rows_choose_one : (vf : Option Bits) (x : A) (y : Value) (fs : List A) → length (masked vf (map f fs)) ≡ length ms → Covers vf (length fs) → out ≡ broadcast_true ms x fs → IsChosenValidity ms None vf v → f x ≡ y
      → masked v (map f out) ≡ broadcast_true ms y (masked vf (map f fs))
  rows_choose_one vf x y fs q cf is valid to =
      rows_choose None vf (replicate (length ms) x) fs (length-map (replicate (length ms) x) f ∙ length-replicate (length ms) x) q (no_validity _) cf (is ∙ repeated_then ms x fs) valid
      ∙ ap (λ l. choose ms l (masked vf (map f fs))) (map-replicate (length ms) x f)
      ∙ sym (repeated_then ms (f x) (masked vf (map f fs)))
      ∙ ap (λ z. broadcast_true ms z (masked vf (map f fs))) to

  pub rows_choose_or_one : (vt : Option Bits) (ts : List A) (x : A) (y : Value) → length (masked vt (map f ts)) ≡ length ms → Covers vt (length ts) → out ≡ broadcast_false ms ts x → IsChosenValidity ms vt None v → f x ≡ y
      → masked v (map f out) ≡ broadcast_false ms (masked vt (map f ts)) y
  rows_choose_or_one vt ts x y p ct is valid to =
      rows_choose vt None ts (replicate (length ms) x) p (length-map (replicate (length ms) x) f ∙ length-replicate (length ms) x) ct (no_validity _) (is ∙ repeated_otherwise ms ts x) valid
      ∙ ap (λ l. choose ms (masked vt (map f ts)) l) (map-replicate (length ms) x f)
      ∙ sym (repeated_otherwise ms (masked vt (map f ts)) (f x))
      ∙ ap (broadcast_false ms (masked vt (map f ts))) to

  pub rows_choose_of_two : (x y : A) (p q : Value) → out ≡ broadcast_both ms x y → f x ≡ p → f y ≡ q → map f out ≡ broadcast_both ms p q
  rows_choose_of_two x y p q is first second = grind (arith, common_steps, repeated_both, map-choose, map-replicate)

-- A validity that is passed by reference is as long as the mask.
pub side_covers : {A : Type 0} → (f : A → Value) (ms : List Bool) (xs : List A) (v lent : Option Bits) → Covers v (length xs) → length (masked v (map f xs)) ≡ length ms → lent ≡ v → Covers lent (length ms)
side_covers f ms xs v lent covers side same b there = covers b (sym same ∙ there) ∙ side_long f ms xs v side

-- The result is as long as the mask, and so is its validity.
pub choice_covers : {A : Type 0} → (ms : List Bool) (vt vf v : Option Bits) (out : List A) → length out ≡ length ms → Covers vt (length ms) → Covers vf (length ms) → IsChosenValidity ms vt vf v → Covers v (length out)
choice_covers ms vt vf v out long ct cf is b there = covers_chosen ms vt vf v ct cf is b there ∙ sym long

pub length-choose_one : {A : Type 0} → (ms : List Bool) (x : A) (fs : List A) → length fs ≡ length ms → length (broadcast_true ms x fs) ≡ length ms
length-choose_one ms x fs q = ap length (repeated_then ms x fs) ∙ length-choose ms (replicate (length ms) x) fs (length-replicate (length ms) x) q

pub length-choose_or_one : {A : Type 0} → (ms : List Bool) (ts : List A) (x : A) → length ts ≡ length ms → length (broadcast_false ms ts x) ≡ length ms
length-choose_or_one ms ts x p = ap length (repeated_otherwise ms ts x) ∙ length-choose ms ts (replicate (length ms) x) p (length-replicate (length ms) x)

pub length-choose_of_two : {A : Type 0} → (ms : List Bool) (x y : A) → length (broadcast_both ms x y) ≡ length ms
length-choose_of_two ms x y = ap length (repeated_both ms x y) ∙ length-choose ms (replicate (length ms) x) (replicate (length ms) y) (length-replicate (length ms) x) (length-replicate (length ms) y)

pub ruleset sides = (length-mapped, length-choose, length-choose_one, length-choose_or_one, length-choose_of_two, few_rows_pass, no_validity)

pub ruleset columns = (sides, rows_choose, rows_choose_one, rows_choose_or_one, rows_choose_of_two, two_covered, true_covered, false_covered)
