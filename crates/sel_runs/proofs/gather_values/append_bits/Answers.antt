use Rattle.std.proofs.Common.{append_assoc, refl}
use Rattle.sel_bits.specs.Words.{bits}
use Rattle.sel_runs.proofs.Common.{◌≤◌, ◌+◌, length, map, arith, option_copied, HasBit}
use Rattle.sel_runs.proofs.Gathers.{word_lt, words_more, left_all, left_length, left_behind}
use Rattle.sel_runs.proofs.Common.{◌∙◌, ◌++◌, ap, take, bit_found, bits_found, length-map, take_all}
use Rattle.sel_runs.proofs.gather_values.append_bits.Goals as goal

pub word_of_picks-requires-clause-fits : goal.word_of_picks-requires-clause-fits
word_of_picks-requires-clause-fits g c =
    left_all (HasBit (map option_copied c.args.maps.now)) (g.P.Plan.picks c.args.plan.now) _ c.loop-at.at c.loop-at.invariant.rest c.requires

pub word_of_picks-requires-clause-inside : goal.word_of_picks-requires-clause-inside
word_of_picks-requires-clause-inside g c =
    let left = left_length (g.P.Plan.picks c.args.plan.now) (g.P.Plan.picks c.loop-at.rest) c.loop-at.at c.loop-at.invariant.rest (omega (arith, c.len-len.ensures.len, c.loop-at.invariant.within)) in
    omega (arith, left, c.len-len.ensures.len, c.min-count.ensures)

pub append_word-requires-clause-fits : goal.append_word-requires-clause-fits
append_word-requires-clause-fits g c =
    let vs = map option_copied c.args.maps.now in
    let left = left_length (g.P.Plan.picks c.args.plan.now) (g.P.Plan.picks c.loop-at.rest) c.loop-at.at c.loop-at.invariant.rest (omega (arith, c.len-len.ensures.len, c.loop-at.invariant.within)) in
    word_lt vs (g.P.Plan.picks c.loop-at.rest) c.min-count.result c.word_of_picks.result (omega (arith, left, c.len-len.ensures.len, c.min-count.ensures)) c.word_of_picks.ensures.word

pub loop-at-preserved : goal.loop-at-preserved
loop-at-preserved g c =
    let vs = map option_copied c.args.maps.now in
    let ps = g.P.Plan.picks c.args.plan.now in
    let before = g.S.BitSink.so_far c.args.sink.now in
    let done = take c.loop-at.at (bits_found vs ps) in
    let more = bits c.min-count.result c.word_of_picks.result in
    let inside : c.loop-at.at + c.min-count.result ≤ length ps = omega (arith, c.len-len.ensures.len, c.min-count.ensures, c.loop-at-test.true) in
    record {
      bits = c.in_ok-append_word.ensures.appended ∙ ap (λ l. l ++ more) c.loop-at.invariant.bits ∙ append_assoc before done more
          ∙ ap (λ l. before ++ l) (words_more vs ps (g.P.Plan.picks c.loop-at.rest) done (done ++ more) c.loop-at.at c.min-count.result c.word_of_picks.result c.loop-at.invariant.rest inside c.word_of_picks.ensures.word refl refl);
      beside = c.in_ok-append_word.ensures.beside ∙ c.loop-at.invariant.beside;
      rest = left_behind ps (g.P.Plan.picks c.loop-at.rest) _ c.loop-at.at c.min-count.result c.loop-at.invariant.rest c.word_of_picks.ensures.rest;
      within = omega (arith, c.min-count.ensures, c.loop-at-test.true);
    }

pub returns-clause-bits : goal.returns-clause-bits
returns-clause-bits g c =
    c.loop-at.invariant.bits ∙ ap (λ l. g.S.BitSink.so_far c.args.sink.now ++ l) (take_all c.loop-at.at (bits_found (map option_copied c.args.maps.now) (g.P.Plan.picks c.args.plan.now)) (omega (arith, c.loop-at-test.false, c.len-len.ensures.len, length-map (g.P.Plan.picks c.args.plan.now) (bit_found (map option_copied c.args.maps.now)))))
