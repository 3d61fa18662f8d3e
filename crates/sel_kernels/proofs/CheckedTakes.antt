-- Takes that check their indices a block at a time.
use Rattle.sel_kernels.proofs.Common.{◌≡◌, ◌<◌, ◌+◌, ◌∙◌, ◌++◌, ◌∷◌, ◌&&◌, ℕ, Bool, true, false, List, [], length, map, take, drop, get_or, ap, sym, refl}
use Rattle.sel_kernels.proofs.Common.{all_below, nat_lt, append_assoc, map-append, take-append-drop}
use Rattle.sel_kernels.proofs.Common.{ArrayRef, None, PolarsError, Shape, Some, Value, IsLimitOrMemory, exceeded_limits, rows, rows_pass, type_of}
use Rattle.sel_kernels.specs.CheckedTakes.{TakesIfWithin}
use Rattle.sel_bits.specs.declared.faults.PolarsError.TheVariants.{ComputeError, OutOfMemory, SizeLimit}
use Rattle.sel_arrow.proofs.Lists.{push_more}
use Rattle.std.proofs.Common.{Err, Ok}
use Rattle.std.proofs.lemmas.List.Folds.{list_all-append}

-- A mapped list, after one more element and behind a list from before.
pub push_after : {A B : Type 0} (f : A → B) → (xs : List A) (old ys zs : List B) (i : ℕ) (x : A) (y : B) → i < length xs → x ≡ get_or xs i x → y ≡ f x
    → zs ≡ ys ++ y ∷ [] → ys ≡ old ++ map f (take i xs) → zs ≡ old ++ map f (take (i + 1) xs)
push_after f xs old ys zs i x y below is made pushed before =
    pushed
    ∙ ap (λ l. l ++ y ∷ []) before
    ∙ append_assoc old (map f (take i xs)) (y ∷ [])
    ∙ ap (λ l. old ++ l) (push_more f xs (map f (take i xs)) (map f (take i xs) ++ y ∷ []) i x y below is made refl refl)

-- A mapped list, after the elements of one more block.
pub block_more : {A B : Type 0} (f : A → B) → (rest all : List A) (old new : List B) (m : ℕ) → old ++ map f rest ≡ map f all → new ≡ old ++ map f (take m rest)
    → new ++ map f (drop m rest) ≡ map f all
block_more f rest all old new m before is =
    ap (λ l. l ++ map f (drop m rest)) is
    ∙ append_assoc old (map f (take m rest)) (map f (drop m rest))
    ∙ ap (λ l. old ++ l) (sym (map-append f (take m rest) (drop m rest)) ∙ ap (map f) (take-append-drop m rest))
    ∙ before

below_parted : (n m : ℕ) (places : List ℕ) → all_below n places ≡ (all_below n (take m places) && all_below n (drop m places))
below_parted n m places =
    ap (all_below n) (sym (take-append-drop m places)) ∙ list_all-append (λ place. nat_lt place n) (take m places) (drop m places)

-- If the first positions are in bounds, all are if the others are.
pub below_rest : (n m : ℕ) (places : List ℕ) → all_below n (take m places) ≡ true → all_below n (drop m places) ≡ all_below n places
below_rest n m places first = sym (below_parted n m places ∙ ap (λ b. b && all_below n (drop m places)) first)

-- No column is made if the check fails.
pub none-made : (shape : Shape) (values : List Value) (check : Bool) → check ≡ false → TakesIfWithin (Ok None) shape values check
none-made shape values check fails = record { rows = tt; dtype = tt; limits = tt; within = tt; outside = fails; refusal = tt }

-- A column of these rows is made if the check holds.
pub column-made : (column : ArrayRef) (shape : Shape) (values : List Value) (check : Bool) → rows column.column ≡ values → type_of column.column ≡ shape → check ≡ true
    → TakesIfWithin (Ok (Some column)) shape values check
column-made column shape values check same typed holds =
    record { rows = same; dtype = typed; limits = rows_pass column.column shape values column.formed typed same; within = holds; outside = tt; refusal = tt }

-- An error after the check holds.
pub none-taken : (fault : PolarsError) (shape : Shape) (values : List Value) (check : Bool) → check ≡ true → IsLimitOrMemory (exceeded_limits shape values) fault
    → TakesIfWithin (Err fault) shape values check
none-taken OutOfMemory shape values check holds past = record { rows = tt; dtype = tt; limits = tt; within = tt; outside = tt; refusal = tt }
none-taken (SizeLimit limit) shape values check holds past =
    record { rows = tt; dtype = tt; limits = tt; within = tt; outside = tt; refusal = (holds, past) }
none-taken ComputeError shape values check holds past = absurd past
