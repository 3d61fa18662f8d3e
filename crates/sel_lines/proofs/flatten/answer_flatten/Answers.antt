use Rattle.std.proofs.Common.{◌∙◌, Some, None, ap, sym, map, option_map}
use Rattle.sel_lines.proofs.{Common.IfOk-weaker, Common.read_part, Flattened.words_read}
use Rattle.sel_lines.proofs.flatten.answer_flatten.Goals as goal

pub returns-in_default-2 : goal.returns-in_default-2
returns-in_default-2 c =
    let none = sym (ap (option_map (λ parts. map read_part parts.items)) c.in_default-2.is) ∙ c.in_ok-parts.ensures in
    let height = sym c.in-Some-parse_size.is ∙ c.parse_size.ensures in
    let split = c.in-Some.ensures.cases.0 in
    words_read c.args.words.now c.in-Some.words.now c.in-Some.height.now c.in-Some-parse_size.height None (cc) height none

pub returns : goal.returns
returns c =
    let parts = sym (ap (option_map (λ parts. map read_part parts.items)) c.in-Some-2.is) ∙ c.in_ok-parts.ensures in
    let height = sym c.in-Some-parse_size.is ∙ c.parse_size.ensures in
    let split = c.in-Some.ensures.cases.0 in
    IfOk-weaker c.answer_parts.result _ _ (λ answer made. made ∙ words_read c.args.words.now c.in-Some.words.now c.in-Some.height.now c.in-Some-parse_size.height (Some (map read_part c.in-Some-2.parts.items)) (cc) height parts) c.answer_parts.ensures
