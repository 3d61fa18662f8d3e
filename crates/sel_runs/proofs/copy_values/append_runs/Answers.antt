use Rattle.std.proofs.Common.{append_assoc}
use Rattle.sel_runs.proofs.Common.{◌∙◌, ◌++◌, arith, ap, sym, map, take, option_copied, map-append, take_all, HasBit, bit_found, bits_found, unrolled}
use Rattle.sel_runs.proofs.Walks.{run_behind, run_within, run_all, taken_run}
use Rattle.sel_runs.proofs.Gathers.{left_all}
use Rattle.sel_runs.proofs.copy_values.append_runs.Goals as goal

pub push_bits-requires-clause-fits : goal.push_bits-requires-clause-fits
push_bits-requires-clause-fits g c =
    let has = HasBit (map option_copied c.args.maps.now) in
    let left = left_all has (g.P.Plan.picks c.args.plan.now) (g.P.Plan.picks c.loop-at.rest) c.loop-at.at c.loop-at.invariant.rest c.requires in
    run_all has (g.P.Plan.picks c.loop-at.rest) _ c.next_run-run.result c.next_run-run.ensures.picks left

pub loop-at-preserved : goal.loop-at-preserved
loop-at-preserved g c =
    let ps = g.P.Plan.picks c.args.plan.now in
    let left = g.P.Plan.picks c.loop-at.rest in
    let run = c.next_run-run.result in
    let vs = map option_copied c.args.maps.now in
    let before = g.S.BitSink.so_far c.args.sink.now in
    let done = bits_found vs (take c.loop-at.at ps) in
    let inside = run_within ps left _ run c.loop-at.at c.loop-at.invariant.rest c.next_run-run.ensures.picks (omega (arith, c.loop-at.invariant.within, c.len-len.ensures.len)) in
    let taken = taken_run ps left _ run c.loop-at.at c.loop-at.invariant.rest c.next_run-run.ensures.picks in
    record {
      rest = run_behind ps left _ run c.loop-at.at c.loop-at.invariant.rest c.next_run-run.ensures.picks;
      within = omega (arith, inside, c.len-len.ensures.len);
      bits = c.in_ok-push_bits.ensures.bits ∙ ap (λ l. l ++ bits_found vs (unrolled run)) c.loop-at.invariant.bits ∙ append_assoc before done (bits_found vs (unrolled run))
          ∙ ap (λ l. before ++ l) (sym (ap (bits_found vs) taken ∙ map-append (bit_found vs) (take c.loop-at.at ps) (unrolled run)));
      beside = c.in_ok-push_bits.ensures.beside ∙ c.loop-at.invariant.beside;
    }

pub returns-clause-bits : goal.returns-clause-bits
returns-clause-bits g c =
    let ps = g.P.Plan.picks c.args.plan.now in
    c.loop-at.invariant.bits ∙ ap (λ l. g.S.BitSink.so_far c.args.sink.now ++ bits_found (map option_copied c.args.maps.now) l) (take_all c.loop-at.at ps (omega (arith, c.loop-at-test.false, c.len-len.ensures.len)))
