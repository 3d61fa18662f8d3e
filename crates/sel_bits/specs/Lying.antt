-- Where two lent lists lie.
use Rattle.std.specs.Prelude.{◌≡◌}
use Rattle.sel_bits.specs.TwoLists.{Places}
use Rattle.sel_bits.specs.declared.lent.Lent.{Lent}

-- The two lists lie at these places, the first without spare capacity.
abbrev pub LiesAt : {X Y : Type 0} → Places → Lent X → Lent Y → Type 0
LiesAt p front back =
    (front.at ≡ p.at) × (front.len ≡ p.len) × (front.room ≡ p.len) × (back.at ≡ p.behind) × (back.room ≡ p.room)
