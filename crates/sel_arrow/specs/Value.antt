-- The values of rows.
use Rattle.std.specs.Prelude.{ℕ, ℤ, Bool, true, false, List, [], ◌∷◌, map, not}

-- The value of a row: null, a boolean, an integer, bytes, a list of values or a struct value. A
-- string is its bytes. (Arrow columnar format: the logical values of its layouts.).
mutual
  pub data Value : Type 0 where
    Null : Value
    Truth : Bool → Value
    Number : ℤ → Value
    Bytes : List ℕ → Value
    Items : Values → Value
    Tuple : Values → Value

  -- The values of a list or a struct value.
  pub data Values : Type 0 where
    no_values : Values
    next_value : Value → Values → Values

-- A list of values as the values of a list or a struct value.
abbrev pub values_of : List Value → Values
values_of [] = no_values
values_of (v ∷ vs) = next_value v (values_of vs)

-- The values of a list or a struct value as a list.
abbrev pub listed : Values → List Value
listed no_values = []
listed (next_value v vs) = v ∷ listed vs

-- Whether a value is not null.
abbrev pub is_valid : Value → Bool
is_valid Null = false
is_valid _ = true

-- Whether a value is null.
abbrev pub is_null : Value → Bool
is_null v = not (is_valid v)

-- For each value, whether it is not null.
abbrev pub validities : List Value → List Bool
validities vs = map is_valid vs
