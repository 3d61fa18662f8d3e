use Rattle.sel_kernels.proofs.Common.{◌≡◌, ◌∙◌, ◌<◌, All, List, [], ◌∷◌, length, map, get_or, sym, ap, subst, refl, arith, take_all, type_of, ArrayRef, first_type}
use Rattle.std.proofs.lemmas.List.Elements.{All-more}
use Rattle.sel_kernels.proofs.horizontal_flatten.are_of_one_type.Goals as goal

-- The type of the first column.
first_kind : (arrays : List ArrayRef) (first : ArrayRef) → 0 < length arrays → first ≡ get_or arrays 0 first → type_of first.column ≡ first_type (map (λ a. a.column) arrays)
first_kind [] first some is = absurd (omega (arith, some))
first_kind (a ∷ arrays) first some is = ap (λ (x : ArrayRef). type_of x.column) is

pub returns-then-not-same_dtype : goal.returns-then-not-same_dtype
returns-then-not-same_dtype c =
    let kind = λ (a : ArrayRef). type_of a.column in (
      λ never. absurd cc,
      λ all.
          let first = ap kind c.index-arrays-0.is ∙ all 0 c.index-arrays-0.result c.requires in
          let here = ap kind c.array-item.is ∙ all c.loop-array.array-index c.array-item.result c.loop-array-test.true in
          let yes = c.same_dtype.ensures.1 (here ∙ sym first) in
          absurd (cc (yes, c.if-not-same_dtype.true)),
    )

pub loop-array-preserved : goal.loop-array-preserved
loop-array-preserved c =
    let same = c.same_dtype.ensures.0 c.if-not-same_dtype.false in
    All-more (λ (a : ArrayRef). type_of a.column ≡ type_of c.index-arrays-0.result.column) c.args.arrays.now c.loop-array.array-index c.array-item.result c.loop-array-test.true c.loop-array.invariant
    (subst (λ (a : ArrayRef). type_of a.column ≡ type_of c.index-arrays-0.result.column) c.array-item.is same)

pub returns : goal.returns
returns c =
    let all = subst (All (λ (a : ArrayRef). type_of a.column ≡ type_of c.index-arrays-0.result.column)) (take_all c.loop-array.array-index c.args.arrays.now c.loop-array-test.false) c.loop-array.invariant in
    let first = first_kind c.args.arrays.now c.index-arrays-0.result c.requires c.index-arrays-0.is in
    (λ yes k d below. all k d below ∙ first, λ alike. refl)
