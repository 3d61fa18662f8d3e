use Rattle.std.proofs.lemmas.Grind.{common_steps}
use Rattle.std.proofs.Common.{◌≡◌, ◌+◌, ◌-◌, ◌<◌, ◌∙◌, sym, ap, length, map, not, take, drop, arith}
use Rattle.std.specs.Int.{w64, trailing_zeros as lowest_place}
use Rattle.std.proofs.lemmas.List.{length-map, drop-map}
use Rattle.sel_bits.specs.Bits.{leading_zeros, leading_ones}
use Rattle.sel_bits.specs.Words.{word_of}
use Rattle.sel_bits.proofs.{Combining.of_not, Zeros.lowest_set, Zeros.leading_rest}
use Rattle.sel_bits.proofs.bitmap.Bitmap.ones_from.Goals as goal

found : (c : goal.Then-word-ne0)
    → (c.loop-at.at + lowest_place w64 c.word_by-word.result < length c.args.self.now.bits) × (leading_ones (drop c.args.start c.args.self.now.bits) ≡ c.loop-at.at - c.args.start + lowest_place w64 c.word_by-word.result)
found c =
    let bits = c.args.self.now.bits in
    let is = c.word_by-word.ensures ∙ ap (λ l. word_of (take c.min-len.result (drop c.loop-at.at l))) (of_not bits) in
    let both = lowest_set (map not bits) c.loop-at.at c.min-len.result c.word_by-word.result is (omega (arith, length-map bits not)) c.if-word-ne0.true (omega arith)
    c.args.start c.loop-at.invariant.after c.loop-at.invariant.ones in
    (omega (arith, both.0, length-map bits not), ap leading_zeros (sym (drop-map not c.args.start bits)) ∙ both.1)

pub overflow_add-result : goal.overflow_add-result
overflow_add-result c = record { fits = omega (arith, found c) }

pub returns-then-word-ne0-clause-count : goal.returns-then-word-ne0-clause-count
returns-then-word-ne0-clause-count c = sym (found c).1

pub returns-then-word-ne0-clause-within : goal.returns-then-word-ne0-clause-within
returns-then-word-ne0-clause-within c = omega (arith, found c)

pub returns-clause-count : goal.returns-clause-count
returns-clause-count c = grind (arith, common_steps, drop-map, leading_rest)
