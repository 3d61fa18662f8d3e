-- The true or the false values of an if-then-else by lanes.
use Rattle.std.specs.Prelude.{List, replicate}
use Rattle.sel_ternary.specs.declared.if_then_else.side.Side.{Side}
use Rattle.sel_ternary.specs.declared.if_then_else.side.Side.TheVariants.{Rows, Scalar}

-- The values, one for each row.
abbrev pub side_values : {A : Type 0} → Side A → List A
side_values (Rows values) = values.now
side_values (Scalar value len) = replicate len value
