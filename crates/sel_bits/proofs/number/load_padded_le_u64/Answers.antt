use Rattle.std.proofs.Common.{◌≡◌, take, ap, ◌∙◌, sym, arith}
use Rattle.std.specs.Int.{from_le_bytes, bit_at, w64}
use Rattle.std.proofs.lemmas.List.{append-nil}
use Rattle.sel_bits.specs.Words.{padded_word}
use Rattle.sel_bits.proofs.Padded.{padded_of, bit_at_padded}
use Rattle.sel_bits.proofs.number.load_padded_le_u64.Goals as goal

is_padded : (c : goal.After-from_le_bytes) → c.from_le_bytes.result ≡ padded_word c.args.bytes.now
is_padded c =
    let made : c.from_le_bytes.result ≡ from_le_bytes w64 c.in-Some.eight.now = c.from_le_bytes.ensures in
    made
    ∙ ap (λ front. from_le_bytes w64 front) (c.in-Some.ensures.cases.0 ∙ sym (append-nil (take 8 c.args.bytes.now)))
    ∙ padded_of c.args.bytes.now 8 (omega (arith, c.in-Some.ensures.cases.2))

pub returns-in-Some-clause-value : goal.returns-in-Some-clause-value
returns-in-Some-clause-value c = is_padded c

pub returns-in-Some-clause-bits : goal.returns-in-Some-clause-bits
returns-in-Some-clause-bits c = λ i lt. ap (λ w. bit_at w i) (is_padded c) ∙ bit_at_padded c.args.bytes.now (λ j. (c.type_inv.bytes j).fits) i lt
