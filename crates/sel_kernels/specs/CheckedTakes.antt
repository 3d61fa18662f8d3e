-- What a take returns that checks its indices.
use Rattle.std.specs.Prelude.{◌≡◌, Bool, false, List, Option, Result, IfErr, IfNone, IfOk, IfSome}
use Rattle.std.specs.Prelude.{IsTrue}
use Rattle.sel_bits.specs.declared.faults.PolarsError.{PolarsError}
use Rattle.sel_arrow.specs.Rows.{rows, type_of}
use Rattle.sel_arrow.specs.Shape.{Shape}
use Rattle.sel_arrow.specs.Value.{Value}
use Rattle.sel_arrow.specs.declared.array_ref.ArrayRef.{ArrayRef}
use Rattle.sel_gather.specs.Need.{ExceedsNone, IsLimitOrMemory, exceeded_limits}

-- A column of this type with these rows, which exceed no limit, if the check holds, and no column
-- if it does not; or an error: out of memory, or, if the check holds, a limit that the rows exceed.
pub record TakesIfWithin (result : Result (Option ArrayRef) PolarsError) (shape : Shape)
    (values : List Value) (check : Bool) : Type 0 where
  pub rows : IfOk result (λ made. IfSome made (λ taken. rows taken.column ≡ values))
  pub dtype : IfOk result (λ made. IfSome made (λ taken. type_of taken.column ≡ shape))
  pub limits : IfOk result (λ made. IfSome made (λ _. ExceedsNone (exceeded_limits shape values)))
  pub within : IfOk result (λ made. IfSome made (λ _. IsTrue check))
  pub outside : IfOk result (λ made. IfNone made (check ≡ false))
  pub refusal : IfErr result
      (IsLimitOrMemory (λ limit. IsTrue check × exceeded_limits shape values limit))
