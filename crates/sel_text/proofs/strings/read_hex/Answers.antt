use Rattle.sel_text.proofs.{Common.nat_lt, Common.hex_byte, Quotes.none_left, Quotes.has_next, Quotes.one_read, Quotes.hex_unquoted, Quotes.below_256}
use Rattle.sel_text.proofs.strings.read_hex.Goals as goal

pub returns-in-Some : goal.returns-in-Some
returns-in-Some c = record {
  whole = λ value more small is. none_left hex_byte (λ byte. nat_lt byte 256) value _ _ more _ hex_unquoted (c.loop-end.invariant value more small is) c.in-Some.ensures;
}

pub returns-in-Err : goal.returns-in-Err
returns-in-Err c = record {
  whole = λ value more small is.
      let has = has_next hex_byte (λ byte. nat_lt byte 256) value _ _ more (c.loop-end.invariant value more small is) c.in_default.ensures in
      c.in-Err.ensures.whole has.byte _ (below_256 _ has.fits) has.text;
}

pub loop-end-preserved : goal.loop-end-preserved
loop-end-preserved c = λ value more small is.
    let has = has_next hex_byte (λ byte. nat_lt byte 256) value _ _ more (c.loop-end.invariant value more small is) c.in_default.ensures in
    one_read hex_byte (λ byte. nat_lt byte 256) value _ _ _ _ more _ has c.in_ok-push.ensures.items (c.in-Ok.ensures.whole has.byte _ (below_256 _ has.fits) has.text)
