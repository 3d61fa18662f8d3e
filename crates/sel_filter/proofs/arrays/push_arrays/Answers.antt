use Rattle.sel_filter.proofs.Common.{◌≡◌, ◌+◌, ◌-◌, ◌*◌, ◌∷◌, [], ◌++◌, ◌∙◌, ap, sym, length, refl, arith, append-nil, append_assoc, bit_and, flat_map}
use Rattle.sel_filter.proofs.Common.{ℕ, List, ◌<◌, ◌≤◌, ◌^◌, and_le_l, bits, select}
use Rattle.std.proofs.Common.{add-one}
use Rattle.std.proofs.Math.Nat.{suc-mul}
use Rattle.sel_filter.proofs.{Dense.few_left, Dense.few_step, WordLists.none_more}
use Rattle.sel_filter.proofs.arrays.push_arrays.Goals as goal

-- The items of one array fewer are left.
fewer : {A : Type 0} → (block : List A) (rest N : ℕ) → 0 < rest → rest < 2 ^ length block → length block ≤ 64
    → length (select block (bits (length block) rest)) * N ≡ length (select block (bits (length block) (bit_and rest (rest - 1)))) * N + N
fewer block rest N some fits few = ap (λ n. n * N) (sym (few_left block rest some fits few) ∙ add-one _) ∙ suc-mul _ N

pub push_array-requires : goal.push_array-requires
push_array-requires g c = grind (arith, fewer)

pub loop-rest-preserved : goal.loop-rest-preserved
loop-rest-preserved g c =
    let block = c.args.block.now in
    let rest = c.loop-rest.rest in
    let x = c.index-block-rest.result in
    let out = c.loop-rest.kept.items in
    let left = select block (bits (length block) (bit_and rest (rest - 1))) in
    let next : x ∷ left ≡ select block (bits (length block) rest) = few_step block [] _ rest x (omega arith) c.loop-rest.invariant.fits c.requires.block c.index-block-rest.is refl in
    record {
      fits = omega (arith, and_le_l rest (rest - 1), c.loop-rest.invariant.fits);
      room = omega (arith, c.loop-rest.invariant.room, fewer block rest g.row.N (omega arith) c.loop-rest.invariant.fits c.requires.block, c.push_array.ensures.capacity, c.push_array.ensures.len);
      kept =
          ap (λ l. l ++ flat_map (λ array. array) left) c.push_array.ensures.appended
          ∙ append_assoc out x (flat_map (λ array. array) left)
          ∙ ap (λ l. out ++ flat_map (λ array. array) l) next
          ∙ c.loop-rest.invariant.kept;
    }

pub returns : goal.returns
returns g c =
    let block = c.args.block.now in
    let none = none_more block [] (length block) c.loop-rest.rest (omega arith) in
    record { appended = sym (append-nil c.loop-rest.kept.items) ∙ ap (λ l. c.loop-rest.kept.items ++ flat_map (λ array. array) l) none ∙ c.loop-rest.invariant.kept }
