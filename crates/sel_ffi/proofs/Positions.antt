-- Offsets as natural numbers.
use Rattle.std.proofs.Common.{◌≡◌, ℕ, ℤ, List, map, map-id, ap, sym, ◌∙◌, pos}
use Rattle.std.proofs.lemmas.Simd.{map-map}
use Rattle.sel_bits.specs.Signs.{magnitude}
use Rattle.sel_ffi.specs.Inputs.{positions}

pub positions-shown : (xs : List ℤ) (ns : List ℕ) → map (λ x. x) xs ≡ map pos ns → ns ≡ positions xs
positions-shown xs ns same = sym (ap (map magnitude) (sym (map-id xs) ∙ same) ∙ map-map magnitude pos ns ∙ map-id ns)

pub ruleset shown = (positions-shown)
