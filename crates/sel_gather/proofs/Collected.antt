-- What a gather returns.
use Rattle.sel_gather.proofs.Common.{◌≡◌, List, sym, subst, Result, Err, IsErrAnd, err_from_is_err_and, PolarsError, Shape, Value, Column, Collects}
use Rattle.sel_gather.proofs.Common.{◌∙◌, ExceedsNone, IsLimitOrMemory, IsWellFormed, exceeded_taken, rows, type_of}
use Rattle.std.specs.Prelude.{IfErr, IfOk, Ok}
use Rattle.sel_bits.specs.Faults.{IsOutOfMemory}

-- An error of a callee is returned.
pub refused : (result : Result Column PolarsError) (s : Shape) (cs : List Column) (vs : List Value) (fault : PolarsError) → IsErrAnd result (λ e. e ≡ fault) → IsLimitOrMemory (exceeded_taken s cs vs) fault → Collects result s cs vs
refused result s cs vs fault is h =
    let p = err_from_is_err_and result is in
    let err : Collects (Err p.0) s cs vs = record { rows = tt; dtype = tt; formed = tt; within = tt; refusal = subst (IsLimitOrMemory (exceeded_taken s cs vs)) (sym p.2) h } in
    subst (λ r. Collects r s cs vs) (sym p.1) err

-- A column of a type whose rows exceed no limit.
pub plainly : (result : Result Column PolarsError) (s kind : Shape) (cs : List Column) (vs : List Value) → s ≡ kind → ExceedsNone (exceeded_taken kind cs vs) → IfOk result (λ column. rows column ≡ vs) → IfOk result (λ column. type_of column ≡ kind) →
    IfOk result (λ column. IsWellFormed column) → IfErr result IsOutOfMemory → Collects result s cs vs
plainly (Ok c) s kind cs vs is none has dtype formed refusal =
    record { rows = has; dtype = dtype ∙ sym is; formed = formed; within = subst (λ k. ExceedsNone (exceeded_taken k cs vs)) (sym is) none; refusal = tt }
plainly (Err e) s kind cs vs is none has dtype formed refusal =
    record { rows = tt; dtype = tt; formed = tt; within = tt; refusal = subst (IsLimitOrMemory (exceeded_taken s cs vs)) (sym refusal) tt }
