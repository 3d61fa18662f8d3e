use Rattle.std.proofs.Common.{◌≡◌, ◌+◌, ◌*◌, ◌/◌, ◌≤◌, ◌∙◌, ◌++◌, ap, sym, subst, ℕ, List, length, take, drop, arith, Bool}
use Rattle.std.proofs.Math.Nat.{mod-eq_of_lt}
use Rattle.sel_bits.specs.Bits.{bits_from, zip_three}
use Rattle.sel_bits.specs.Words.{bits, word_of}
use Rattle.std.specs.Vec.{vec_capacity}
use Rattle.sel_bits.proofs.{Combining.length-zip_three, Combining.masked_made, Combining.packed_more, Loads.block_word, WholeWords.HasBlocks, WholeWords.no_blocks, WholeWords.one_block}
use Rattle.sel_bits.proofs.operations.whole_words_by.Goals as goal

-- The word of a block of a bitmap's bits, by its bytes.
read : (bits : List Bool) (bytes : List ℕ) (shift len block word : ℕ) → bits ≡ bits_from bytes shift len → 64 * block + 64 ≤ len
    → word ≡ word_of (bits_from (drop (8 * block) bytes) shift 64) → word ≡ word_of (take 64 (drop (64 * block) bits))
read bits bytes shift len block word is within made =
    made ∙ block_word bytes shift len block 64 within ∙ ap (λ l. word_of (take 64 (drop (64 * block) l))) (sym is)

pub loop-block-init : goal.loop-block-init
loop-block-init g c =
    let made = zip_three g.R.BitRule.on_bits c.args.x.now.bits c.args.y.now.bits c.args.z.now.bits in
    subst (λ n. HasBlocks made (n / 64) 0 c.in_ok-bytes.bytes.items (vec_capacity c.in_ok-bytes.bytes)) c.as_slice-x_shift.ensures.len
    (no_blocks made _ _ _ c.in_ok-bytes.ensures.items c.in_ok-bytes.ensures.capacity)

pub loop-block-preserved : goal.loop-block-preserved
loop-block-preserved g c =
    let xs = c.args.x.now.bits in
    let ys = c.args.y.now.bits in
    let zs = c.args.z.now.bits in
    let made = zip_three g.R.BitRule.on_bits xs ys zs in
    let long = length-zip_three g.R.BitRule.on_bits xs ys zs c.requires.second c.requires.third in
    let block = c.loop-block.block in
    let within : 64 * block + 64 ≤ length xs = omega arith in
    let next : 64 * block + 64 ≡ 64 * (block + 1) = omega arith in
    let word =
    sym (mod-eq_of_lt (omega arith))
    ∙ masked_made g.R.BitRule.on_bits xs ys zs (64 * block) 64
    c.whole_word-x_word.result c.whole_word-y_word.result c.whole_word-z_word.result c.on_words.result
    c.requires.second c.requires.third within (omega arith)
    (read xs c.as_slice-x_shift.result.0.now c.as_slice-x_shift.result.1 c.as_slice-x_shift.result.2 block c.whole_word-x_word.result
    c.as_slice-x_shift.ensures.bits (omega arith) c.whole_word-x_word.ensures)
    (read ys c.as_slice-y_shift.result.0.now c.as_slice-y_shift.result.1 c.as_slice-y_shift.result.2 block c.whole_word-y_word.result
    c.as_slice-y_shift.ensures.bits (omega arith) c.whole_word-y_word.ensures)
    (read zs c.as_slice-z_shift.result.0.now c.as_slice-z_shift.result.1 c.as_slice-z_shift.result.2 block c.whole_word-z_word.result
    c.as_slice-z_shift.ensures.bits (omega arith) c.whole_word-z_word.ensures)
    c.on_words.ensures in
    let more = ap (λ w. take (64 * block) made ++ bits 64 w) word ∙ packed_more made (64 * block) 64 (omega (arith, long)) ∙ ap (λ n. take n made) next in
    one_block made (length xs / 64) block c.loop-block.bytes.items c.push_word.new.out.items (vec_capacity c.loop-block.bytes) (vec_capacity c.push_word.new.out) c.on_words.result
    c.loop-block.invariant c.push_word.ensures.items c.push_word.ensures.capacity more
