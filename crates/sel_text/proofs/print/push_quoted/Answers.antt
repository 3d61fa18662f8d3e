use Rattle.std.proofs.Common.{◌∙◌, ◌++◌, sym, ap, lit<, string_bytes, map-id}
use Rattle.std.proofs.lemmas.{Iterator.YieldsList-from_chars, Iterator.Consumers.YieldsList-end, Str.IsUtf8-from_is_utf8}
use Rattle.sel_text.proofs.Escapes.{letters_more, letters_end}
use Rattle.sel_text.proofs.print.push_quoted.Goals as goal

pub unreachable-requires : goal.unreachable-requires
unreachable-requires c = c.in_default.ensures.cases.0 (IsUtf8-from_is_utf8 _ c.requires)

pub loop-letter-preserved : goal.loop-letter-preserved
loop-letter-preserved c = letters_more _ _ _ _ c.in-Some.letter c.loop-letter.invariant c.in_ok-push_escaped.ensures

pub returns : goal.returns
returns c =
    let same = c.in-Ok.ensures.cases.0 in
    let utf8 = c.in-Ok.ensures.cases.1 in
    let all = YieldsList-end (YieldsList-from_chars c.args.bytes.now utf8 (cc (same, c.chars-letter-items.ensures.rest, c.into_iter-letter-iterator.ensures.into_iter_gives))) c.loop-letter.yielded _ c.loop-letter.yielded_by _ _ c.in-None.is c.next.ensures.steps in
    letters_end _ _ _ c.loop-letter.yielded c.args.bytes.now c.loop-letter.invariant (c.in_ok-push-2.ensures.bytes ∙ ap (λ r. string_bytes c.loop-letter.text ++ r) (c.in_ok-push-2.ensures.ascii (lit< tt)))
    (sym (map-id c.loop-letter.yielded) ∙ all.0) utf8
