-- Types with the same text are equal.
use Rattle.std.proofs.Common.{◌≡◌, ℕ, ◌<◌, true, List, [], ◌∷◌, ◌++◌, drop, get_or, refl, ap, sym, ◌∙◌, arith, lit<, append_assoc, ◌^◌, codes, Some, unwrap_or}
use Rattle.sel_text.proofs.Common.{decimal, Shape, Shapes, no_shapes, next_shape, of_large_list, of_fixed_size_list, of_struct, and_first, and_second, angled}
use Rattle.sel_text.proofs.Common.{type_text, type_texts, spelled, widths_written, all_widths_written}
use Rattle.sel_text.{specs.Laws.TextDeterminesType, proofs.TypesTold.plain_told, proofs.TypesTold.blocks_told, proofs.TypesTold.tuples_told}
use Rattle.sel_text.proofs.{Commas.after, Ends.numbers_told, Fields.behind_bracket, Fields.block_narrow, Fields.no_types}

-- ---- texts that begin with a type

lists_told : (s : Shape) (text more : List ℕ) → codes "list" ++ text ≡ type_text s ++ more → (child : Shape) × (s ≡ of_large_list child) × (text ≡ 60 ∷ (type_text child ++ (62 ∷ more)))
lists_told (of_large_list c) text more is = (c, refl, ap (drop 4) is ∙ ap (λ l. 60 ∷ l) (append_assoc (type_text c) (62 ∷ []) more))
lists_told s text more is = let first = ap (λ l. get_or l 0 0) is in absurd (omega (arith, first))

wider : (n : ℕ) → n < 2 ^ 64 → n < 2 ^ 128
wider n small = let more : 2 ^ 64 < 2 ^ 128 = lit< tt in omega (arith, small, more)

-- Texts of types that each follow a comma are those of only these types.
abbrev TellsLeft : Shapes → Type 0
TellsLeft ss = (ts : Shapes) (more rest : List ℕ) → all_widths_written ss ≡ true → all_widths_written ts ≡ true → after 62 (type_texts ss) more ≡ after 62 (type_texts ts) rest → (ss ≡ ts) × (more ≡ rest)

-- Types in angle brackets.
parts_told : (ss : Shapes) → TellsLeft ss → (ts : Shapes) (more rest : List ℕ) → all_widths_written ss ≡ true → all_widths_written ts ≡ true → angled (type_texts ss) ++ more ≡ angled (type_texts ts) ++ rest → (ss ≡ ts) × (more ≡ rest)
parts_told no_shapes left ts more rest narrow narrow_others is = let none = no_types ts more rest is in (sym none.0, none.1)
parts_told (next_shape s ss) left no_shapes more rest narrow narrow_others is = let none = no_types (next_shape s ss) rest more (sym is) in (none.0, sym none.1)
parts_told (next_shape s ss) left (next_shape t ts) more rest narrow narrow_others is =
    let one = behind_bracket s ss (drop 1 (angled (type_texts (next_shape s ss)) ++ more)) more refl in
    let other = behind_bracket t ts (drop 1 (angled (type_texts (next_shape s ss)) ++ more)) rest is in
    left (next_shape t ts) more rest narrow narrow_others (ap (λ l. 44 ∷ l) (sym one ∙ other))

mutual
  -- A text that begins with the text of a type begins with that of no other type.
  tells : (s t : Shape) (more rest : List ℕ) → widths_written s ≡ true → widths_written t ≡ true → type_text s ++ more ≡ type_text t ++ rest → (s ≡ t) × (more ≡ rest)
  tells (of_large_list c) t more rest narrow narrow_other is =
      let start : codes "list" ++ (60 ∷ (type_text c ++ (62 ∷ more))) ≡ type_text t ++ rest = ap (λ l. codes "list" ++ (60 ∷ l)) (sym (append_assoc (type_text c) (62 ∷ []) more)) ∙ is in
      let other = lists_told t (60 ∷ (type_text c ++ (62 ∷ more))) rest start in
      let child = tells c other.0 (62 ∷ more) (62 ∷ rest) narrow (ap widths_written (sym other.1) ∙ narrow_other) (ap (drop 1) other.2) in
      (ap of_large_list child.0 ∙ sym other.1, ap (drop 1) child.1)
  tells (of_fixed_size_list c n) t more rest narrow narrow_other is =
      let behind : List ℕ = 44 ∷ (type_text c ++ (62 ∷ more)) in
      let parts = append_assoc (decimal n ++ (44 ∷ type_text c)) (62 ∷ []) more ∙ append_assoc (decimal n) (44 ∷ type_text c) (62 ∷ more) in
      let start : codes "fixed" ++ (60 ∷ (decimal n ++ behind)) ≡ type_text t ++ rest = ap (λ l. codes "fixed" ++ (60 ∷ l)) (sym parts) ∙ is in
      let other = blocks_told t (60 ∷ (decimal n ++ behind)) rest start in
      let own = block_narrow c n narrow in
      let theirs = block_narrow other.0 other.1 (ap widths_written (sym other.2) ∙ narrow_other) in
      let sizes = numbers_told n other.1 (decimal n ++ behind) behind (44 ∷ (type_text other.0 ++ (62 ∷ rest))) (wider n own.0) (wider other.1 theirs.0) (omega arith) (omega arith) refl (ap (drop 1) other.3) in
      let child = tells c other.0 (62 ∷ more) (62 ∷ rest) own.1 theirs.1 (ap (drop 1) sizes.1) in
      (ap (of_fixed_size_list c) sizes.0 ∙ ap (λ x. of_fixed_size_list x other.1) child.0 ∙ sym other.2, ap (drop 1) child.1)
  tells (of_struct ss) t more rest narrow narrow_other is =
      let other = tuples_told t (angled (type_texts ss) ++ more) rest is in
      let parts = parts_told ss (tells_left ss) other.0 more rest narrow (ap widths_written (sym other.1) ∙ narrow_other) other.2 in
      (ap of_struct parts.0 ∙ sym other.1, parts.1)
  tells s t more rest narrow narrow_other is = plain_told s t (type_text s ++ more) more rest refl refl is

  tells_left : (ss : Shapes) → TellsLeft ss
  tells_left no_shapes no_shapes more rest narrow narrow_others is = (refl, ap (drop 1) is)
  tells_left (next_shape s ss) (next_shape t ts) more rest narrow narrow_others is =
      let first = tells s t (after 62 (type_texts ss) more) (after 62 (type_texts ts) rest) (and_first _ _ narrow) (and_first _ _ narrow_others) (ap (drop 1) is) in
      let others = tells_left ss ts more rest (and_second _ _ narrow) (and_second _ _ narrow_others) first.1 in
      (ap (λ x. next_shape x ss) first.0 ∙ ap (next_shape t) others.0, others.1)
  tells_left ss ts more rest narrow narrow_others is = let first = ap (λ l. get_or l 0 0) is in absurd (omega (arith, first))

-- Types whose list sizes have 64 bits are equal if their texts are equal.
pub one_type : TextDeterminesType
one_type s t narrow narrow_other same = (tells s t [] [] narrow narrow_other (ap (λ l. l ++ []) same)).0

-- The same where both are the canonical spelling of a text.
pub one_spelled : (text : List ℕ) (s t : Shape) → widths_written s ≡ true → widths_written t ≡ true → spelled text ≡ Some (type_text s) → spelled text ≡ Some (type_text t) → s ≡ t
one_spelled text s t narrow narrow_other is other = one_type s t narrow narrow_other (ap (λ o. unwrap_or o []) (sym is ∙ other))
