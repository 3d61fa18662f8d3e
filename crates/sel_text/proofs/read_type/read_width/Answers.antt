use Rattle.std.proofs.Common.{ap, arith, drop, sym, ◌∙◌}
use Rattle.sel_text.proofs.read_type.read_width.Goals as goal

pub returns-in-Ok-expect-clause-whole : goal.returns-in-Ok-expect-clause-whole
returns-in-Ok-expect-clause-whole c = λ size more few is.
    let start = ap (drop 1) (sym c.in-Ok.ensures.rest ∙ is) in
    let read = c.in-Ok-read_size.ensures.whole size _ few (omega arith) start in
    (read.0, ap (drop 1) (sym c.in-Ok-expect.ensures.rest ∙ read.1))
