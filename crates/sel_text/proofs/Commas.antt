-- Parts followed by commas, as they are parsed.
use Rattle.std.proofs.Common.{arith, ◌≡◌, ◌≢◌, ℕ, List, [], ◌∷◌, ◌++◌, refl, sym, ◌∙◌, append_assoc, append-nil}
use Rattle.sel_text.proofs.Common.{common_steps, flat_map, join_with_byte, flat_map-append}

-- The parts from the second on, each after a comma, then the closing bracket and a rest.
abbrev pub after : ℕ → List (List ℕ) → List ℕ → List ℕ
after close [] r = close ∷ r
after close (x ∷ xs) r = 44 ∷ x ++ after close xs r

-- All parts, separated by commas, then the closing bracket and a rest.
abbrev pub inside : ℕ → List (List ℕ) → List ℕ → List ℕ
inside close [] r = close ∷ r
inside close (x ∷ xs) r = x ++ after close xs r

joined_after : (close : ℕ) (x : List ℕ) (xs : List (List ℕ)) (r : List ℕ) → (join_with_byte 44 (x ∷ xs) ++ close ∷ []) ++ r ≡ x ++ after close xs r
joined_after close x [] r = append_assoc x (close ∷ []) r
joined_after close x (y ∷ xs) r = grind (arith, common_steps, (joined_after close y xs r))

pub joined_inside : (close : ℕ) (xs : List (List ℕ)) (r : List ℕ) → (join_with_byte 44 xs ++ close ∷ []) ++ r ≡ inside close xs r
joined_inside close xs r = grind (arith, common_steps, joined_after)

-- A closing bracket or a comma follows each part.
pub bracket_or_comma : (close : ℕ) (texts : List (List ℕ)) (next more : List ℕ) → next ≡ after close texts more → ((end : List ℕ) → next ≢ close ∷ end) → ((rest : List ℕ) → next ≢ 44 ∷ rest) → ⊥
bracket_or_comma close [] next more is no_bracket no_comma = no_bracket _ is
bracket_or_comma close (x ∷ texts) next more is no_bracket no_comma = no_comma _ is

-- Each part, followed by a comma.
abbrev pub commas : List (List ℕ) → List ℕ
commas parts = flat_map (λ part. part ++ 44 ∷ []) parts

-- With one more part, these are the parts separated by commas.
pub joined : (parts : List (List ℕ)) (part : List ℕ) → join_with_byte 44 (parts ++ part ∷ []) ≡ commas parts ++ part
joined [] part = refl
joined (x ∷ []) part = sym (append_assoc (x ++ 44 ∷ []) [] part ∙ append_assoc x (44 ∷ []) part)
joined (x ∷ y ∷ parts) part = grind (arith, common_steps, (joined (y ∷ parts) part))

-- One more part, followed by a comma.
pub comma_more : (parts more : List (List ℕ)) (part all rest behind : List ℕ) → more ≡ parts ++ part ∷ [] → all ≡ commas parts ++ rest → rest ≡ part ++ (44 ∷ behind) → all ≡ commas more ++ behind
comma_more parts more part all rest behind grown before here = grind (arith, common_steps, flat_map-append, append-nil)

-- The last part, followed by the closing bracket.
pub comma_last : (first close : ℕ) (parts more : List (List ℕ)) (part all rest behind : List ℕ) → more ≡ parts ++ part ∷ [] → all ≡ commas parts ++ rest → rest ≡ part ++ (close ∷ behind) →
    first ∷ all ≡ (first ∷ join_with_byte 44 more ++ close ∷ []) ++ behind
comma_last first close parts more part all rest behind grown before here = grind (arith, common_steps, joined)
