use Rattle.std.proofs.Common.{◌≡◌, ◌<◌, ◌^◌, ap, sym, ◌∙◌, ◌++◌, arith}
use Rattle.sel_text.proofs.{Common.decimal, Common.digits_value, Decimals.printed_back, Ends.digits_told, Ends.numbers_told}
use Rattle.sel_text.proofs.read_type.read_size.Goals as goal

pub returns-in-Ok : goal.returns-in-Ok
returns-in-Ok c =
    let read = c.in_ok-digits.ensures in
    let size : c.in-Ok.size ≡ digits_value 10 c.in_ok-digits.digits.now = c.in-Ok.ensures.1 ∙ c.in-Some.ensures in
    let small : digits_value 10 c.in_ok-digits.digits.now < 2 ^ 64 = omega (arith, c.in-Ok.ensures.0, c.in-Some.ensures) in
    let text : c.args.bytes.now ≡ decimal c.in-Ok.size ++ c.in_ok-digits.rest.now = read.parts ∙ ap (λ l. l ++ c.in_ok-digits.rest.now) (sym (ap decimal size ∙ printed_back _ read.digits read.some read.zero small)) in
    record { text = text; whole = λ n more few end is. numbers_told c.in-Ok.size n _ _ more (omega (arith, size, small)) (omega (arith, few)) read.end end text is }

-- Digits of a number that exceeds 64 bits are not those of a lesser number.
pub returns-in_default-clause-whole : goal.returns-in_default-clause-whole
returns-in_default-clause-whole c = λ n more few end is.
    let read = c.in_ok-digits.ensures in
    let value = (digits_told n c.args.bytes.now _ _ more (omega (arith, few)) read.parts read.digits read.end end is).0 in
    omega (arith, value, few, c.in_default.ensures)

pub returns-in-Err-clause-whole : goal.returns-in-Err-clause-whole
returns-in-Err-clause-whole c = λ n more few end is.
    let read = c.in_ok-digits.ensures in
    let value = (digits_told n c.args.bytes.now _ _ more (omega (arith, few)) read.parts read.digits read.end end is).0 in
    omega (arith, value, few, c.in-Some.ensures, c.in-Err.ensures)
