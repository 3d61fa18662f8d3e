use Rattle.sel_filter.proofs.Common.{◌≡◌, ◌*◌, ◌/◌, ◌%◌, refl, drop, arith, take_rest, bits, bits_from, word_of}
use Rattle.std.proofs.lemmas.Result.{on_ok_weaker}
use Rattle.sel_filter.proofs.{WordFiltering.word_more, WordFiltering.words_all, WordLists.none_more}
use Rattle.sel_filter.proofs.boolean.append_words.Goals as goal

pub loop-block-preserved-then-marks-eq0 : goal.loop-block-preserved-then-marks-eq0
loop-block-preserved-then-marks-eq0 c =
    let vb = c.args.value_bytes.now in
    let s = c.args.shift in
    let b = c.loop-block.block in
    let word = word_of (bits_from (drop (8 * b) vb) s 64) in
    word_more vb c.args.mask_bytes.now s 0 c.args.len b 64 (omega arith) (omega arith) word c.whole_word-marks.result refl c.whole_word-marks.ensures
    c.args.kept.now c.loop-block.kept c.loop-block.kept _ c.loop-block.invariant (none_more (bits 64 word) c.loop-block.kept 64 _ c.if-marks-eq0.true) (omega arith)

pub loop-block-preserved : goal.loop-block-preserved
loop-block-preserved c =
    word_more c.args.value_bytes.now c.args.mask_bytes.now c.args.shift 0 c.args.len c.loop-block.block 64 (omega arith) (omega arith) c.whole_word.result c.whole_word-marks.result c.whole_word.ensures c.whole_word-marks.ensures
    c.args.kept.now c.loop-block.kept c.append_kept.new.kept _ c.loop-block.invariant c.in_ok-append_kept.ensures.appended (omega arith)

pub returns-clause-appended : goal.returns-clause-appended
returns-clause-appended c =
    let vb = c.args.value_bytes.now in
    let mb = c.args.mask_bytes.now in
    let s = c.args.shift in
    let n = c.args.len in
    let b = c.loop-block.block in
    let at : n / 64 * 8 ≡ 8 * b = omega arith in
    let marks : c.first_word-marks.result ≡ word_of (bits_from (drop (8 * b) mb) 0 (n % 64)) = rw (take_rest, at) at c.first_word-marks.ensures in
    let word : c.first_word-word.result ≡ word_of (bits_from (drop (8 * b) vb) s (n % 64)) = rw (take_rest, at) at c.first_word-word.ensures in
    on_ok_weaker c.append_kept-2.result
    (λ appended. words_all vb mb s 0 n c.args.kept.now c.append_kept-2.new.kept
    (word_more vb mb s 0 n b (n % 64) (omega arith) (omega arith) c.first_word-word.result c.first_word-marks.result word marks c.args.kept.now c.loop-block.kept c.append_kept-2.new.kept n c.loop-block.invariant appended (omega arith)))
    c.append_kept-2.ensures.appended
