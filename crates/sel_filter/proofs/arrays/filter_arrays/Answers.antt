use Rattle.sel_filter.proofs.Common.{◌≡◌, List, ◌∙◌, ◌*◌, ◌++◌, [], take, refl, ap, sym, arith, flat_map, take_rest, select}
use Rattle.std.proofs.Common.{rules}
use Rattle.std.proofs.lemmas.List.Concat.{flat_map-append}
use Rattle.sel_filter.proofs.Dense.{last_fits, last_kept, long_block, part_kept}
use Rattle.sel_filter.proofs.arrays.filter_arrays.Goals as goal

-- The items of the arrays.
abbrev joined : {A : Type 0} → List (List A) → List A
joined xss = flat_map (λ array. array) xss

-- More arrays, after those so far.
joined_more : {A : Type 0} (front part whole : List (List A)) (old new : List A) → old ≡ joined front → new ≡ old ++ joined part → front ++ part ≡ whole → new ≡ joined whole
joined_more front part whole old new was appended is = appended ∙ ap (λ l. l ++ joined part) was ∙ sym (flat_map-append (λ array. array) front part) ∙ ap joined is

pub append_arrays-requires-2 : goal.append_arrays-requires-2
append_arrays-requires-2 g c =
    let mask = c.as_slice-shift in
    let fits = last_fits c.args.arrays.now _ mask.result.0.now mask.result.1 mask.result.2 (mask.ensures.len ∙ sym c.requires.lengths) mask.ensures.bits c.first_word-word.result (rw take_rest at c.first_word-word.ensures) in
    (search rules, (search rules, (fits, search rules)))

pub loop-block-preserved : goal.loop-block-preserved
loop-block-preserved g c =
    let arrays = c.args.arrays.now in
    let mask = c.as_slice-shift in
    let long = mask.ensures.len ∙ sym c.requires.lengths in
    let b = c.loop-block.block in
    let word = c.whole_word-word in
    let wide = long_block arrays _ mask.result.0.now mask.result.1 mask.result.2 long mask.ensures.bits (8 * b) (64 * b) 64 word.result (omega arith) (omega arith) word.ensures in
    joined_more (select (take (64 * b) arrays) (take (64 * b) c.args.mask.now.bits)) _ _ c.loop-block.kept.items c.append_arrays.new.out.items c.loop-block.invariant c.in_ok-append_arrays.ensures.appended
    (part_kept arrays _ mask.result.0.now mask.result.1 mask.result.2 long mask.ensures.bits (8 * b) (64 * b) 64 word.result (omega arith) (omega arith) word.ensures [] _ _ _ _ (omega arith) wide refl refl)

pub returns-clause-items : goal.returns-clause-items
returns-clause-items g c =
    let mask = c.as_slice-shift in
    let b = c.loop-block.block in
    joined_more (select (take (64 * b) c.args.arrays.now) (take (64 * b) c.args.mask.now.bits)) _ _ c.loop-block.kept.items c.append_arrays-2.new.out.items c.loop-block.invariant c.in_ok-append_arrays-2.ensures.appended
    (last_kept c.args.arrays.now _ mask.result.0.now mask.result.1 mask.result.2 (mask.ensures.len ∙ sym c.requires.lengths) mask.ensures.bits c.first_word-word.result (rw take_rest at c.first_word-word.ensures) [] _ _ b (omega arith) refl refl)
