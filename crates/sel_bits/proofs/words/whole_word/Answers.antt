use Rattle.std.proofs.Common.{drop, arith}
use Rattle.std.proofs.lemmas.List.{get_or-drop}
use Rattle.sel_bits.proofs.Loads.{unshifted_word, shifted_word, is_load}
use Rattle.sel_bits.proofs.words.whole_word.Goals as goal

pub returns-then-shift-eq0 : goal.returns-then-shift-eq0
returns-then-shift-eq0 c =
    unshifted_word (drop c.args.at c.args.bytes.now) c.args.shift c.load_eight-low.result (is_load c.args.bytes.now c.args.at c.load_eight-low.result (λ j. (c.type_inv.bytes j).fits) c.load_eight-low.ensures)
    c.load_eight-low.type_inv c.if-shift-eq0.true

pub returns : goal.returns
returns c = grind (arith, shifted_word, is_load, get_or-drop)
