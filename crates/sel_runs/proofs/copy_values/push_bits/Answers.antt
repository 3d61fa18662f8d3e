use Rattle.sel_runs.proofs.Common.{◌∙◌, ◌++◌, ◌+◌, ◌≤◌, ◌<◌, ap, sym, map, subst, length, arith, None, ForSome, option_copied, get_or-map, length-map}
use Rattle.sel_runs.proofs.Common.{on_ok_weaker, part_bits}
use Rattle.sel_runs.proofs.PlanRuns.{null_found, run_there, run_found}
use Rattle.sel_runs.proofs.copy_values.push_bits.Goals as goal

pub bounds-maps-source : goal.bounds-maps-source
bounds-maps-source g c =
    let there = run_there (map option_copied c.args.maps.now) c.args.run c.in-Some.source c.in-Some.is c.requires.some c.requires.fits in
    omega (arith, there.0, length-map c.args.maps.now option_copied)

pub push_validity-requires : goal.push_validity-requires
push_validity-requires g c =
    let run = c.args.run in
    let there = run_there (map option_copied c.args.maps.now) run c.in-Some.source c.in-Some.is c.requires.some c.requires.fits in
    let inside : c.in-Some.source < length c.args.maps.now = omega (arith, there.0, length-map c.args.maps.now option_copied) in
    let map_at = get_or-map option_copied c.args.maps.now c.in-Some.source c.index-maps-source.result None inside ∙ ap option_copied (sym c.index-maps-source.is) in
    subst (λ v. ForSome v (λ b. run.start + run.len ≤ length b.bits)) map_at there.1

pub returns-in-None-clause-bits : goal.returns-in-None-clause-bits
returns-in-None-clause-bits g c = on_ok_weaker c.append_copies.result (λ e. e ∙ ap (λ l. g.S.BitSink.so_far c.args.sink.now ++ l) (null_found (map option_copied c.args.maps.now) c.args.run c.in-None.is)) c.append_copies.ensures.appended

pub returns-in-Some-clause-bits : goal.returns-in-Some-clause-bits
returns-in-Some-clause-bits g c =
    let run = c.args.run in
    let vs = map option_copied c.args.maps.now in
    let there = run_there vs run c.in-Some.source c.in-Some.is c.requires.some c.requires.fits in
    let inside : c.in-Some.source < length c.args.maps.now = omega (arith, there.0, length-map c.args.maps.now option_copied) in
    let map_at = get_or-map option_copied c.args.maps.now c.in-Some.source c.index-maps-source.result None inside ∙ ap option_copied (sym c.index-maps-source.is) in
    let found = run_found vs run c.in-Some.source c.in-Some.is c.requires.some c.requires.fits in
    on_ok_weaker c.push_validity.result (λ e. e ∙ ap (λ l. g.S.BitSink.so_far c.args.sink.now ++ l) (ap (part_bits run.start run.len) (sym map_at) ∙ found)) c.push_validity.ensures.bits
