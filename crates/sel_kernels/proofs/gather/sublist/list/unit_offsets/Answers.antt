use Rattle.sel_kernels.proofs.Common.{◌≡◌, ◌<◌, ◌+◌, ℤ, pos, ◌++◌, ◌∷◌, [], ◌∙◌, map, ap, sym, arith, w64, to_z, range_with_len, ints, IfOk-weaker}
use Rattle.sel_kernels.proofs.Common.{offsets_of, same_numbers}
use Rattle.sel_gather.proofs.JoinedRows.{map_same}
use Rattle.sel_kernels.proofs.Elements.{counts_rise, more_numbers}
use Rattle.sel_kernels.proofs.gather.sublist.list.unit_offsets.Goals as goal

pub loop-offset-preserved : goal.loop-offset-preserved
loop-offset-preserved c =
    let k = c.loop-offset.offset in
    let small : k < 4294967296 = omega (arith, c.loop-offset-test.true, c.requires) in
    let shown : to_z w64 k ≡ pos k = omega (arith, ints) in (
      c.push_reserved.ensures.items ∙ ap (λ z. c.loop-offset.offsets.items ++ z ∷ []) shown ∙ ap (λ l. l ++ pos k ∷ []) c.loop-offset.invariant.0 ∙ more_numbers k,
      c.push_reserved.ensures.capacity ∙ c.loop-offset.invariant.1,
    )

pub of_rising-requires : goal.of_rising-requires
of_rising-requires c =
    let all : c.loop-offset.offset ≡ c.args.len + 1 = omega (arith, c.loop-offset-test.false, c.loop-offset.auto.offset-end) in
    let items = c.loop-offset.invariant.0 ∙ ap (λ n. map pos (range_with_len 0 n)) all in
    offsets_of (λ (z : ℤ). z) c.loop-offset.offsets.items (range_with_len 0 (c.args.len + 1)) (map_same c.loop-offset.offsets.items ∙ items) (counts_rise c.args.len)

pub returns-clause-value : goal.returns-clause-value
returns-clause-value c =
    let all : c.loop-offset.offset ≡ c.args.len + 1 = omega (arith, c.loop-offset-test.false, c.loop-offset.auto.offset-end) in
    let items = map_same c.loop-offset.offsets.items ∙ c.loop-offset.invariant.0 ∙ ap (λ n. map pos (range_with_len 0 n)) all in
    IfOk-weaker c.of_rising.result _ _ (λ offsets made. same_numbers offsets (range_with_len 0 (c.args.len + 1)) (sym made ∙ items)) c.of_rising.ensures.value
