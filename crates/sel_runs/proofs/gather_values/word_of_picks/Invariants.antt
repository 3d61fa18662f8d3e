use Rattle.sel_runs.proofs.Common.{◌≡◌, take, drop, map, option_copied, word_of, bits_found}
use Rattle.sel_runs.proofs.gather_values.word_of_picks.Given as goal

abbrev pub invariant-loop-i : goal.invariant-loop-i
invariant-loop-i g l = record {
  word : l.word ≡ word_of (take l.i (take l.count (bits_found (map option_copied l.maps) (g.P.Plan.picks l.initial.plan))));
  rest : g.P.Plan.picks l.plan ≡ drop l.i (g.P.Plan.picks l.initial.plan);
}
