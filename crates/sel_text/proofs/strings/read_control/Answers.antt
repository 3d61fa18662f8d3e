use Rattle.std.proofs.Common.{arith}
use Rattle.sel_text.proofs.Quotes.{control_told}
use Rattle.sel_text.proofs.strings.read_control.Goals as goal

pub returns-in-8-to-10-clause-whole : goal.returns-in-8-to-10-clause-whole
returns-in-8-to-10-clause-whole c = λ byte more is.
    let told = control_told byte c.args.bytes.now more is in
    let low = told.low in
    let read = c.in-Ok.ensures.whole byte more (omega (arith, low)) told.text in
    omega (arith, read.0, told.n8, told.n9, told.n10, c.in-8-to-10)

pub returns-in-12-to-13-clause-whole : goal.returns-in-12-to-13-clause-whole
returns-in-12-to-13-clause-whole c = λ byte more is.
    let told = control_told byte c.args.bytes.now more is in
    let low = told.low in
    let read = c.in-Ok.ensures.whole byte more (omega (arith, low)) told.text in
    omega (arith, read.0, told.n12, told.n13, c.in-12-to-13)

pub returns-in-32-to-255-clause-whole : goal.returns-in-32-to-255-clause-whole
returns-in-32-to-255-clause-whole c = λ byte more is.
    let told = control_told byte c.args.bytes.now more is in
    let low = told.low in
    let read = c.in-Ok.ensures.whole byte more (omega (arith, low)) told.text in
    omega (arith, read.0, low, c.in-32-to-255)

pub returns-in_default-clause-whole : goal.returns-in_default-clause-whole
returns-in_default-clause-whole c = λ byte more is.
    let told = control_told byte c.args.bytes.now more is in
    let low = told.low in
    c.in-Ok.ensures.whole byte more (omega (arith, low)) told.text
