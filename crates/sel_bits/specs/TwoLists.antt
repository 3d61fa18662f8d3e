-- Two lists in one block of memory.
use Rattle.std.specs.Prelude.{refl, ℕ, ◌+◌, List}
use Rattle.std.specs.Coded.{Coded, code_by, coded×, coded_ℕ}
use base.Fml.{Fml, fsep, flt}
use denote.RattleType.{RattleType}
use denote.RawPtr.{Ptr, coded_ptr}
use Rattle.std_alloc.specs.Vec.Ownership.{lodged}

-- Where the two lists lie: `len` values at `at`, and room for `room` values at `behind`.
pub record Places : Type 0 where
  pub at : Ptr
  pub len : ℕ
  pub behind : Ptr
  pub room : ℕ

-- They are stored as the tuple of their fields.
abbrev pub places_code : Coded Places
places_code =
    code_by (Ptr × (ℕ × (Ptr × ℕ))) (coded× coded_ptr (coded× coded_ℕ (coded× coded_ptr coded_ℕ))) (λ p. (p.at, (p.len, (p.behind, p.room))))
    (λ t. record { at = t.0; len = t.1.0; behind = t.1.1.0; room = t.1.1.1 }) (λ _. refl)

-- The memory of both lists: the values xs, and the k values ys behind them, for which there is room.
abbrev pub both_owned : (R S : RattleType) → Places → List R.Denot → ℕ → List S.Denot → Fml
both_owned R S p xs k ys = fsep (lodged R p.at p.len p.len xs) (fsep (flt k (p.room + 1)) (lodged S p.behind k p.room ys))
