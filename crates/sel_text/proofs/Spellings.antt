-- The canonical spelling of a text, byte by byte.
use Rattle.std.proofs.Common.{arith, ◌≡◌, ℕ, ◌+◌, ◌<◌, ◌≤◌, List, [], ◌∷◌, ◌++◌, length, drop, take, ◌-◌, get_or, ap, refl, sym, ◌∙◌, Some, None, subst, add-one, suc, Option, option_map}
use Rattle.sel_text.proofs.Common.{append-nil, byte_spelled, common_steps, drop_all, drop_more, option_and_then, take_rest, next_place, spelled, spelled_from, Place}

-- The spelling of the whole text is the bytes so far, followed by the spelling of the rest.
abbrev pub Spells : List ℕ → List ℕ → Place → ℕ → ℕ → Type 0
Spells text bytes place skipped i = option_map (λ more. bytes ++ more) (spelled_from place skipped (drop i text)) ≡ spelled text

pub begins : (text : List ℕ) (o : Option (List ℕ)) → option_map (λ more. [] ++ more) o ≡ o
begins text None = refl
begins text (Some x) = refl

pub appended : (a b : List ℕ) (o : Option (List ℕ)) → option_map (λ more. (a ++ b) ++ more) o ≡ option_map (λ more. a ++ more) (option_map (λ more. b ++ more) o)
appended a b o = grind (arith, common_steps)

-- No token continues so.
pub fails_of : (text source bytes : List ℕ) (place : Place) (i byte : ℕ) (rest : List ℕ) (skipped : ℕ) → source ≡ text → i < length source → byte ≡ get_or source i 0 → rest ≡ take (length source - (i + 1)) (drop (i + 1) source) → skipped ≡ 0 →
    None ≡ next_place place byte rest → Spells text bytes place skipped i → spelled text ≡ None
fails_of text source bytes place i byte rest skipped same inside first others none told is = grind (arith, common_steps, take_rest, drop_more)

-- One more byte that begins a token or belongs to one.
pub one_of : (text source bytes grown : List ℕ) (place next : Place) (i byte : ℕ) (rest : List ℕ) (count skipped : ℕ) → source ≡ text → i < length source → byte ≡ get_or source i 0 → rest ≡ take (length source - (i + 1)) (drop (i + 1) source) → skipped ≡ 0 →
    Some (next, count) ≡ next_place place byte rest → grown ≡ bytes ++ byte_spelled place byte rest → Spells text bytes place skipped i → Spells text grown next count (i + 1)
one_of text source bytes grown place next i byte rest count skipped same inside first others none told grows is =
    let behind : rest ≡ drop (i + 1) text = others ∙ take_rest source (i + 1) ∙ ap (drop (i + 1)) same in
    let here : drop i text ≡ byte ∷ rest = ap (drop i) (sym same) ∙ drop_more source i 0 inside ∙ ap (λ x. x ∷ drop (i + 1) source) (sym first) ∙ ap (λ l. byte ∷ l) (ap (drop (i + 1)) same ∙ sym behind) in
    let step = ap (option_and_then (λ (next : Place × ℕ). option_map (λ more. byte_spelled place byte rest ++ more) (spelled_from next.0 next.1 rest))) told in
    ap (λ l. option_map (λ more. l ++ more) (spelled_from next count (drop (i + 1) text))) grows ∙ appended bytes (byte_spelled place byte rest) (spelled_from next count (drop (i + 1) text))
    ∙ ap (λ l. option_map (λ more. bytes ++ more) (option_map (λ more. byte_spelled place byte rest ++ more) (spelled_from next count l))) (sym behind)
    ∙ ap (option_map (λ more. bytes ++ more)) (step ∙ ap (spelled_from place 0) (sym here)) ∙ ap (λ n. option_map (λ more. bytes ++ more) (spelled_from place n (drop i text))) (sym none) ∙ is

-- At the end of the text.
pub all_of : (text source bytes : List ℕ) (place : Place) (skipped i : ℕ) → source ≡ text → length source ≤ i → Spells text bytes place skipped i → spelled text ≡ Some bytes
all_of text source bytes place skipped i same past is =
    let none : drop i text ≡ [] = ap (drop i) (sym same) ∙ drop_all i source past in
    sym is ∙ ap (λ l. option_map (λ more. bytes ++ more) (spelled_from place skipped l)) none ∙ ap Some (append-nil bytes)

-- A byte of an escape is passed.
pub passed_of : (text source bytes : List ℕ) (place : Place) (skipped left i : ℕ) → source ≡ text → i < length source → skipped ≡ left + 1 → Spells text bytes place skipped i → Spells text bytes place left (i + 1)
passed_of text source bytes place skipped left i same inside more is =
    ap (λ rest. option_map (λ more. bytes ++ more) (spelled_from place (suc left) rest)) (sym (drop_more text i 0 (rw (← same) inside))) ∙ subst (λ n. Spells text bytes place n i) (more ∙ add-one left) is
