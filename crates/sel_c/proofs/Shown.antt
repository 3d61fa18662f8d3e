-- Lists that represent the same numbers give the same rows.
use Rattle.std.proofs.lemmas.Simd.{map-map}
use Rattle.std.proofs.Common.{rules, ◌≡◌, ℕ, ℤ, Bool, List, length, map, Option, Result, IfOk, ap, sym, ◌∙◌}
use Rattle.sel_c.proofs.Common.{length-map, Bits, masked, number_rows, Covers, Value, Number, rows, ArrayRef, validity_in}
use Rattle.sel_arrow.proofs.Rows.{length-number_rows}
use Rattle.sel_ffi.{proofs.Shown.shows-numbers, specs.Outputs.Shows, specs.Outputs.numbers}

same-numbers : {A B : Type 0} → (f : A → ℤ) (g : B → ℤ) (xs : List A) (ys : List B) → map f xs ≡ map g ys → map (λ x. Number (f x)) xs ≡ map (λ y. Number (g y)) ys
same-numbers f g xs ys same = sym (map-map Number f xs) ∙ ap (map Number) same ∙ map-map Number g ys

pub same-rows : {A B : Type 0} → (f : A → ℤ) (g : B → ℤ) (xs : List A) (ys : List B) (validity : Option Bits) → map f xs ≡ map g ys → number_rows f xs validity ≡ number_rows g ys validity
same-rows f g xs ys validity same = ap (masked validity) (same-numbers f g xs ys same)

pub same-length : {A B : Type 0} → (f : A → ℤ) (g : B → ℤ) (xs : List A) (ys : List B) → map f xs ≡ map g ys → length xs ≡ length ys
same-length f g xs ys same = sym (length-map xs f) ∙ ap length same ∙ length-map ys g

pub same-shown : {A B : Type 0} → (f : A → ℤ) (g : B → ℤ) (xs : List A) (ys : List B) (rows : List Value) → map f xs ≡ map g ys → Shows (numbers f xs) rows → Shows (numbers g ys) rows
same-shown f g xs ys rows same shows = rw (sym (same-numbers f g xs ys same)) shows

-- The same of a column built with the validity that callers pass.
pub made-of-same : {A B E : Type 0} → (f : A → ℤ) (g : B → ℤ) (xs : List A) (ys : List B) (bytes : List ℕ) (has : Bool) (result : Result ArrayRef E) → map f xs ≡ map g ys
    → IfOk result (λ made. rows made.column ≡ number_rows f xs (validity_in bytes has (length xs)))
    → IfOk result (λ made. rows made.column ≡ number_rows g ys (validity_in bytes has (length ys)))
made-of-same f g xs ys bytes has result same is = search (rules, same-rows, same-length)

-- A list that represents the numbers of a column matches its rows.
pub shown-by : {A B : Type 0} → (f : A → ℤ) (g : B → ℤ) (xs : List A) (ys : List B) (validity : Option Bits) (vs : List Value) → map f xs ≡ map g ys → number_rows f xs validity ≡ vs → Covers validity (length xs) → Shows (numbers g ys) vs
shown-by f g xs ys validity vs same is covers = same-shown f g xs ys vs same (shows-numbers f xs validity vs is covers)

pub ruleset words = (shown-by, length-number_rows)
