use Rattle.std.proofs.Common.{◌≡◌, ◌∙◌, All, sym, subst, refl, take_all}
use Rattle.sel_c.proofs.{Common.All-more, Common.type_of, Common.ArrayRef, Alike.alike_types, Alike.first_type_is, Alike.not_alike}
use Rattle.sel_c.proofs.calls.several.are_alike.Goals as goal

pub returns-then-not-same_dtype : goal.returns-then-not-same_dtype
returns-then-not-same_dtype c =
    let first = first_type_is c.args.arrays.now c.in-Some.first.now c.in-Some.ensures.value in (
      λ never. absurd cc,
      λ all. absurd (not_alike c.args.arrays.now c.loop-array.array-index c.array-item.result c.array-item.result c.loop-array-test.true c.array-item.is
          (λ same. let yes = c.same_dtype.ensures.1 (same ∙ sym first) in absurd (cc (yes, c.if-not-same_dtype.true))) all),
    )

pub loop-array-preserved : goal.loop-array-preserved
loop-array-preserved c =
    let same = c.same_dtype.ensures.0 c.if-not-same_dtype.false in
    All-more (λ (a : ArrayRef). type_of a.column ≡ type_of c.in-Some.first.now.column) c.args.arrays.now c.loop-array.array-index c.array-item.result c.loop-array-test.true c.loop-array.invariant
    (subst (λ (a : ArrayRef). type_of a.column ≡ type_of c.in-Some.first.now.column) c.array-item.is same)

pub returns : goal.returns
returns c =
    let all = subst (All (λ (a : ArrayRef). type_of a.column ≡ type_of c.in-Some.first.now.column)) (take_all c.loop-array.array-index c.args.arrays.now c.loop-array-test.false) c.loop-array.invariant in
    let first = first_type_is c.args.arrays.now c.in-Some.first.now c.in-Some.ensures.value in
    (λ yes. alike_types c.args.arrays.now (λ k d below. all k d below ∙ first), λ alike. refl)
