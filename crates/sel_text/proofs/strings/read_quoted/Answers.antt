use Rattle.std.proofs.Common.{true, sym, subst}
use Rattle.sel_text.specs.Texts.{escaped}
use Rattle.sel_text.proofs.{Decoded.unquoted, Quotes.IsLeft, Quotes.all_left, Quotes.none_left, Quotes.has_next, Quotes.one_read, Quotes.no_test}
use Rattle.sel_text.proofs.strings.read_quoted.Goals as goal

pub loop-end-init : goal.loop-end-init
loop-end-init c = λ value more is.
    subst (λ read. IsLeft escaped (λ byte. true) value read c.args.bytes.now more) (sym c.new-value.ensures.items) (all_left escaped (λ byte. true) value _ more (no_test value) is)

pub returns-in-Some : goal.returns-in-Some
returns-in-Some c = record {
  whole = λ value more is. none_left escaped (λ byte. true) value _ _ more _ unquoted (c.loop-end.invariant value more is) c.in-Some.ensures;
}

pub returns-in-Err : goal.returns-in-Err
returns-in-Err c = record {
  whole = λ value more is.
      let has = has_next escaped (λ byte. true) value _ _ more (c.loop-end.invariant value more is) c.in_default.ensures in
      c.in-Err.ensures.whole has.byte _ has.text;
}

pub loop-end-preserved : goal.loop-end-preserved
loop-end-preserved c = λ value more is.
    let has = has_next escaped (λ byte. true) value _ _ more (c.loop-end.invariant value more is) c.in_default.ensures in
    one_read escaped (λ byte. true) value _ _ _ _ more _ has c.in_ok-push.ensures.items (c.in-Ok.ensures.whole has.byte _ has.text)
