use Rattle.sel_c.proofs.Common.{length-map, type_of, ArrayRef}
use Rattle.std.proofs.Common.{ℕ, ◌<◌, ◌∙◌, arith, length, subst, sym}
use Rattle.sel_c.proofs.{Alike.alike_columns, Alike.first_same, Made.returns-failed, Made.returns-first, Made.returns-made, Made.returns-refused}
use Rattle.sel_c.proofs.calls.several.flatten_into.Goals as goal

pub returns-then-not-flatten_is_safe : goal.returns-then-not-flatten_is_safe
returns-then-not-flatten_is_safe c =
    let alike = c.are_alike.ensures.0 c.if-not-are_alike.false in
    returns-first _ _ _ _ _ _ _ _ _ alike (returns-refused _ _ _ _ _ _ _ (omega arith) (λ right.
    let some : 0 < length c.args.arrays.now = subst (λ n. 0 < n) (length-map c.args.arrays.now (λ (a : ArrayRef). type_of a.column)) right.0 in
    let yes = c.flatten_is_safe.ensures.1 (some, alike_columns c.args.arrays.now alike, right.1) in
    absurd (cc (yes, c.if-not-flatten_is_safe.true))))

pub returns-in-Ok : goal.returns-in-Ok
returns-in-Ok c =
    let fits = c.flatten_is_safe.ensures.0 c.if-not-flatten_is_safe.false in
    let some = subst (λ (n : ℕ). 0 < n) (sym (length-map c.args.arrays.now (λ (a : ArrayRef). type_of a.column))) fits.0 in
    returns-first _ _ _ _ _ _ _ _ _ (c.are_alike.ensures.0 c.if-not-are_alike.false) (returns-first _ _ _ _ _ _ _ _ _ (some, fits.2)
    (returns-made _ _ _ _ _ _ _ c.put.ensures.column c.put.ensures.status c.in-Ok.ensures.rows (c.in-Ok.ensures.dtype ∙ sym (first_same c.args.arrays.now))
    (rw (first_same c.args.arrays.now) c.in-Ok.ensures.within)))

pub returns-in-Err : goal.returns-in-Err
returns-in-Err c =
    let fits = c.flatten_is_safe.ensures.0 c.if-not-flatten_is_safe.false in
    let some = subst (λ (n : ℕ). 0 < n) (sym (length-map c.args.arrays.now (λ (a : ArrayRef). type_of a.column))) fits.0 in
    returns-first _ _ _ _ _ _ _ _ _ (c.are_alike.ensures.0 c.if-not-are_alike.false) (returns-first _ _ _ _ _ _ _ _ _ (some, fits.2)
    (returns-failed _ _ _ _ _ _ c.status_of.ensures.own.0 c.status_of.ensures.number (rw (first_same c.args.arrays.now) c.in-Err.ensures.refusal)))
