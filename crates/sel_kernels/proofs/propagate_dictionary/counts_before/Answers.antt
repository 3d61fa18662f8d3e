use Rattle.sel_kernels.proofs.Common.{ℕ, ◌<◌, ◌∙◌, ◌++◌, ◌∷◌, [], ◌+◌, ap, sym, arith, map, take, length, zero-add, if◌then◌else◌, range_with_len}
use Rattle.sel_kernels.proofs.Common.{map-range_with_len_more, count_true}
use Rattle.sel_kernels.proofs.Dictionaries.{count_step}
use Rattle.sel_kernels.proofs.propagate_dictionary.counts_before.Goals as goal

pub loop-i-preserved : goal.loop-i-preserved
loop-i-preserved c =
    let bits = c.args.bits.now.bits in
    let i = c.loop-i.i in
    let count : ℕ → ℕ = λ k. count_true (take k bits) in
    let inside : i < length bits = omega (arith, c.loop-i-test.true, c.len-i-end.ensures) in (
      c.in_ok-push.ensures.items ∙ ap (λ l. l ++ c.loop-i.count ∷ []) c.loop-i.invariant.0 ∙ ap (λ n. map count (range_with_len 0 i) ++ n ∷ []) c.loop-i.invariant.1
          ∙ sym (map-range_with_len_more count 0 i i (zero-add i)),
      c.counted-count.ensures ∙ ap (λ n. n + (if c.get_bit.result then 1 else 0)) c.loop-i.invariant.1 ∙ ap (λ b. count i + (if b then 1 else 0)) c.get_bit.ensures ∙ sym (count_step bits i inside),
    )
