use Rattle.sel_ternary.proofs.Common.{◌≡◌, ◌∙◌, ◌&&◌, List, ap, length, sym, Bits, zip_with, hidden, masked, Value, IfOk-weaker}
use Rattle.std.specs.Option.{option_copied}
use Rattle.sel_bits.specs.Bits.{unsliced}
use Rattle.sel_ternary.proofs.WordKernels.{hidden_twice, length-zip_and}
use Rattle.sel_ternary.proofs.if_then_else.word_kernels.narrowed_validity.Goals as goal

pub returns-in-Some-clause-rows : goal.returns-in-Some-clause-rows
returns-in-Some-clause-rows c =
    let own = c.in-Some.bits.now.bits in
    let keep = c.args.keep.now.bits in
    let given = ap option_copied c.in-Some.is in
    let long = c.requires c.in-Some.bits.now given in
    IfOk-weaker c.and.result (λ (b : Bits). b ≡ unsliced (zip_with (λ x y. x && y) own keep)) (λ (b : Bits). (rows : List Value) → hidden b.bits rows ≡ hidden keep (masked (option_copied c.args.validity) rows))
    (λ b is rows. ap (λ (x : Bits). hidden x.bits rows) is ∙ hidden_twice own keep rows long ∙ ap (λ v. hidden keep (masked v rows)) (sym given)) c.and.ensures.value

pub returns-in-Some-clause-len : goal.returns-in-Some-clause-len
returns-in-Some-clause-len c =
    let own = c.in-Some.bits.now.bits in
    let keep = c.args.keep.now.bits in
    let long = c.requires c.in-Some.bits.now (ap option_copied c.in-Some.is) in
    IfOk-weaker c.and.result (λ (b : Bits). b ≡ unsliced (zip_with (λ x y. x && y) own keep)) (λ (b : Bits). length b.bits ≡ length keep)
    (λ b is. ap (λ (x : Bits). length x.bits) is ∙ length-zip_and own keep long) c.and.ensures.value
