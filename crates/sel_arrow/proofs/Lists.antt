-- Predicates on all elements of a list, and on those of a part of it.
use Rattle.std.proofs.Common.{◌≡◌, ℕ, suc, ◌+◌, ◌<◌, Bool, true, false, ◌&&◌, List, [], ◌∷◌, ◌++◌, map, length, take, drop, ap, sym, ◌∙◌, arith, get_or}
use Rattle.std.proofs.lemmas.List.{take-append-drop}
use Rattle.sel_arrow.proofs.Common.{list_all, list_all-append, map_more, take_all, list_all_at, list_all_more}

pub both : (a b : Bool) → a ≡ true → b ≡ true → (a && b) ≡ true
both a b p q = cc

pub and_first : (a b : Bool) → (a && b) ≡ true → a ≡ true
and_first a b e = grind arith

pub and_second : (a b : Bool) → (a && b) ≡ true → b ≡ true
and_second a b e = grind arith

pub false_unless : (b : Bool) → (b ≡ true → ⊥) → b ≡ false
false_unless b h = grind arith

pub all_at : {A : Type 0} (p : A → Bool) → (xs : List A) (i : ℕ) (d : A) → list_all p xs ≡ true → i < length xs → p (get_or xs i d) ≡ true
all_at p (x ∷ xs) (suc i) d e h = all_at p xs i d (and_second (p x) (list_all p xs) e) (omega arith)
all_at p xs i d e h = grind arith

all_split : {A : Type 0} (p : A → Bool) → (n : ℕ) (xs : List A) → list_all p xs ≡ true → (list_all p (take n xs) && list_all p (drop n xs)) ≡ true
all_split p n xs e = sym (list_all-append p (take n xs) (drop n xs)) ∙ ap (list_all p) (take-append-drop n xs) ∙ e

pub all_part : {A : Type 0} (p : A → Bool) → (xs : List A) (off len : ℕ) → list_all p xs ≡ true → list_all p (take len (drop off xs)) ≡ true
all_part p xs off len e =
    let rest = drop off xs in
    and_first (list_all p (take len rest)) (list_all p (drop len rest)) (all_split p len rest (and_second (list_all p (take off xs)) (list_all p rest) (all_split p off xs e)))

-- One more element.
pub all_more : {A : Type 0} (p : A → Bool) → (xs : List A) (i : ℕ) (d : A) → list_all p (take i xs) ≡ true → i < length xs → p (get_or xs i d) ≡ true → list_all p (take (i + 1) xs) ≡ true
all_more p xs i d e h here = list_all_more p xs i d h ∙ both (list_all p (take i xs)) (p (get_or xs i d)) e here

-- All elements.
pub all_of_them : {A : Type 0} (p : A → Bool) → (xs : List A) (n : ℕ) → list_all p (take n xs) ≡ true → n ≡ length xs → list_all p xs ≡ true
all_of_them p xs n e h = sym (ap (list_all p) (take_all n xs (omega arith))) ∙ e

-- An element for which the predicate is false.
pub none_at : {A : Type 0} (p : A → Bool) → (xs : List A) (i : ℕ) (d : A) → i < length xs → p (get_or xs i d) ≡ false → list_all p xs ≡ false
none_at p xs i d h here = list_all_at p xs i d h here

pub ruleset all_lists = (all_at, all_more, all_of_them, none_at)

-- A mapped list, after one more element.
pub push_more : {A B : Type 0} (f : A → B) → (xs : List A) (ys zs : List B) (i : ℕ) (x : A) (y : B) → i < length xs → x ≡ get_or xs i x → y ≡ f x → zs ≡ ys ++ y ∷ [] → ys ≡ map f (take i xs) → zs ≡ map f (take (i + 1) xs)
push_more f xs ys zs i x y below is made pushed before = grind (arith, map_more)
