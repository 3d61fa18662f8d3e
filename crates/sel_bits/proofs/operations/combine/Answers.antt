use Rattle.std.proofs.Common.{◌≡◌, subst, IfOk}
use Rattle.sel_bits.specs.Bits.{unsliced, zip_three}
use Rattle.sel_bits.proofs.{Combining.length-zip_three, WholeWords.all_packed}
use Rattle.sel_bits.proofs.operations.combine.Goals as goal

pub returns-clause-value : goal.returns-clause-value
returns-clause-value g c =
    let made = zip_three g.R.BitRule.on_bits c.args.x.now.bits c.args.y.now.bits c.args.z.now.bits in
    let long = length-zip_three g.R.BitRule.on_bits c.args.x.now.bits c.args.y.now.bits c.args.z.now.bits c.requires.second c.requires.third in
    subst (λ l. IfOk c.from_u8_vec.result (λ bitmap. bitmap ≡ unsliced l))
    (all_packed made _ _ _ _ long c.in_ok-bytes.ensures.len c.in_ok-bytes.ensures.packed c.push_word.ensures.items c.len-count.result c.len-count.ensures c.word_by.ensures)
    c.from_u8_vec.ensures.value
