use Rattle.sel_runs.proofs.Common.{◌≤◌, ◌+◌, length, map, arith, option_copied, PickFits}
use Rattle.sel_runs.proofs.Gathers.{word_lt, words_more, values_more, left_all, left_length, left_behind}
use Rattle.sel_runs.proofs.BitPicks.{bits_fit}
use Rattle.sel_runs.proofs.Common.{◌∙◌, ap, bit_found, bits_found, length-map, pick, take_all}
use Rattle.sel_runs.proofs.gather_values.gather_hidden.Goals as goal

pub copy_validity-requires : goal.copy_validity-requires
copy_validity-requires g c = bits_fit (λ s. s.values.now) (λ s. option_copied s.validity) (λ s. s.covers) c.args.parts.now (g.P.Plan.picks c.args.plan.now) c.requires

pub push_word-word-requires-clause-fits : goal.push_word-word-requires-clause-fits
push_word-word-requires-clause-fits g c =
    left_all (PickFits (map (λ s. s.values.now) c.args.parts.now)) (g.P.Plan.picks c.args.plan.now) _ c.loop-at.at c.loop-at.invariant.rest c.requires

pub push_word-word-requires-clause-inside : goal.push_word-word-requires-clause-inside
push_word-word-requires-clause-inside g c =
    let left = left_length (g.P.Plan.picks c.args.plan.now) (g.P.Plan.picks c.loop-at.rest) c.loop-at.at c.loop-at.invariant.rest (omega (arith, c.len-len.ensures.len, c.loop-at.invariant.within)) in
    omega (arith, left, c.len-len.ensures.len, c.min-count.ensures)

pub push_word-word-requires-clause-room : goal.push_word-word-requires-clause-room
push_word-word-requires-clause-room g c = omega (arith, c.loop-at.invariant.count, c.loop-at.invariant.room, c.min-count.ensures, c.loop-at-test.true)

pub append-requires-clause-fits : goal.append-requires-clause-fits
append-requires-clause-fits g c =
    let vs = map (λ s. option_copied s.validity) c.args.parts.now in
    let left = left_length (g.P.Plan.picks c.args.plan.now) (g.P.Plan.picks c.loop-at.rest) c.loop-at.at c.loop-at.invariant.rest (omega (arith, c.len-len.ensures.len, c.loop-at.invariant.within)) in
    word_lt vs (g.P.Plan.picks c.loop-at.rest) c.min-count.result c.push_word-word.result (omega (arith, left, c.len-len.ensures.len, c.min-count.ensures)) c.push_word-word.ensures.word

pub loop-at-preserved : goal.loop-at-preserved
loop-at-preserved g c =
    let vs = map (λ s. option_copied s.validity) c.args.parts.now in
    let xss = map (λ s. s.values.now) c.args.parts.now in
    let ps = g.P.Plan.picks c.args.plan.now in
    let inside : c.loop-at.at + c.min-count.result ≤ length ps = omega (arith, c.len-len.ensures.len, c.min-count.ensures, c.loop-at-test.true) in
    record {
      values = values_more c.args.zero xss ps (g.P.Plan.picks c.loop-at.rest) c.loop-at.values.items c.push_word-word.new.values.items c.loop-at.at c.min-count.result c.loop-at.invariant.rest c.loop-at.invariant.values c.push_word-word.ensures.values;
      bits = words_more vs ps (g.P.Plan.picks c.loop-at.rest) c.loop-at.bits c.append.new.self c.loop-at.at c.min-count.result c.push_word-word.result c.loop-at.invariant.rest inside c.push_word-word.ensures.word c.loop-at.invariant.bits c.in_ok-append.ensures.appended;
      rest = left_behind ps (g.P.Plan.picks c.loop-at.rest) _ c.loop-at.at c.min-count.result c.loop-at.invariant.rest c.push_word-word.ensures.rest;
      count = omega (arith, c.push_word-word.ensures.len, c.loop-at.invariant.count);
      room = omega (arith, c.push_word-word.ensures.capacity, c.loop-at.invariant.room);
      within = omega (arith, c.min-count.ensures, c.loop-at-test.true);
    }

pub returns-clause-values : goal.returns-clause-values
returns-clause-values g c = c.loop-at.invariant.values ∙ ap (pick c.args.zero (map (λ s. s.values.now) c.args.parts.now)) (take_all c.loop-at.at (g.P.Plan.picks c.args.plan.now) (omega (arith, c.loop-at-test.false, c.len-len.ensures.len)))

pub returns-clause-bits : goal.returns-clause-bits
returns-clause-bits g c = c.loop-at.invariant.bits ∙ (take_all c.loop-at.at (bits_found (map (λ s. option_copied s.validity) c.args.parts.now) (g.P.Plan.picks c.args.plan.now)) (omega (arith, c.loop-at-test.false, c.len-len.ensures.len, length-map (g.P.Plan.picks c.args.plan.now) (bit_found (map (λ s. option_copied s.validity) c.args.parts.now)))))
