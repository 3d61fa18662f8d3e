use Rattle.std.proofs.Common.{inr, refl, arith, sym, ◌∙◌, ◌≡◌, ◌-◌, ◌+◌}
use Rattle.sel_text.proofs.Spellings.{all_of, one_of, passed_of, fails_of}
use Rattle.sel_text.proofs.spelling.spelling.Goals as goal

pub returns-in_default-next-clause-refused : goal.returns-in_default-next-clause-refused
returns-in_default-next-clause-refused c =
    inr (fails_of _ _ c.loop-i.spelling.items c.loop-i.place c.loop-i.i _ _ c.loop-i.skipped c.as_bytes-bytes.ensures.value c.loop-i-test.true refl refl (omega (arith, c.if-skipped-gt0.false)) c.in_default-next.ensures c.loop-i.invariant)

pub loop-i-preserved-then-skipped-gt0 : goal.loop-i-preserved-then-skipped-gt0
loop-i-preserved-then-skipped-gt0 c =
    let more : c.loop-i.skipped ≡ (c.loop-i.skipped - 1) + 1 = omega (arith, c.if-skipped-gt0.true) in
    passed_of _ _ _ _ _ _ _ c.as_bytes-bytes.ensures.value c.loop-i-test.true more c.loop-i.invariant

pub loop-i-preserved : goal.loop-i-preserved
loop-i-preserved c =
    one_of _ _ c.loop-i.spelling.items c.push.new.spelling.items c.loop-i.place c.in-Some.next c.loop-i.i _ _ c.in-Some.count c.loop-i.skipped c.as_bytes-bytes.ensures.value c.loop-i-test.true refl refl (omega (arith, c.if-skipped-gt0.false))
    (sym c.in-Some.is ∙ c.next.ensures) c.in-Ok-push.ensures c.loop-i.invariant

pub returns-clause-spelled : goal.returns-clause-spelled
returns-clause-spelled c = all_of _ _ c.loop-i.spelling.items c.loop-i.place c.loop-i.skipped c.loop-i.i c.as_bytes-bytes.ensures.value (omega (arith, c.loop-i-test.false)) c.loop-i.invariant
