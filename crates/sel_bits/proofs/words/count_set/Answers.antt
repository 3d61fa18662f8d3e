use Rattle.std.proofs.Common.{◌≡◌, ◌+◌, ◌*◌, ◌/◌, ◌%◌, ◌∙◌, ap, take, drop, arith}
use Rattle.std.specs.Prelude.{count_ones}
use Rattle.std.proofs.lemmas.List.{length-take, take_all, take_rest}
use Rattle.std.proofs.lemmas.List.Sums.{count_by-le-length}
use Rattle.sel_bits.specs.Bits.{bits_from, count_true}
use Rattle.sel_bits.specs.Words.{word_of}
use Rattle.sel_bits.proofs.{BitLists.length_bits_from, Loads.block_counted}
use Rattle.sel_bits.proofs.words.count_set.Goals as goal

next : (c : goal.After-whole_word) → c.loop-block.count + count_ones c.whole_word.result ≡ count_true (take (64 * (c.loop-block.block + 1)) (bits_from c.args.bytes.now c.args.shift c.args.len))
next c =
    let e : 64 * c.loop-block.block + 64 ≡ 64 * (c.loop-block.block + 1) = omega arith in
    block_counted c.args.bytes.now c.args.shift c.args.len c.loop-block.block 64 c.whole_word.result c.loop-block.count (omega arith) c.whole_word.ensures c.loop-block.invariant
    ∙ ap (λ n. count_true (take n (bits_from c.args.bytes.now c.args.shift c.args.len))) e

pub overflow_add-count : goal.overflow_add-count
overflow_add-count c = grind (arith, next, count_by-le-length, length-take)

pub loop-block-preserved : goal.loop-block-preserved
loop-block-preserved c = next c

last : (c : goal.After-first_word) → c.loop-block.count + count_ones c.first_word.result ≡ count_true (bits_from c.args.bytes.now c.args.shift c.args.len)
last c =
    let xs = bits_from c.args.bytes.now c.args.shift c.args.len in
    let at : c.args.len / 64 * 8 ≡ 8 * c.loop-block.block = omega arith in
    let made : c.first_word.result ≡ word_of (bits_from (drop (8 * c.loop-block.block) c.args.bytes.now) c.args.shift (c.args.len % 64)) = rw (take_rest, at) at c.first_word.ensures in
    block_counted c.args.bytes.now c.args.shift c.args.len c.loop-block.block (c.args.len % 64) c.first_word.result c.loop-block.count (omega arith) made c.loop-block.invariant
    ∙ ap (λ l. count_true l) (take_all (64 * c.loop-block.block + c.args.len % 64) xs (omega (arith, length_bits_from c.args.bytes.now c.args.shift c.args.len)))

pub overflow_add-result : goal.overflow_add-result
overflow_add-result c = grind (arith, last, count_by-le-length, length_bits_from)

pub returns : goal.returns
returns c = last c
