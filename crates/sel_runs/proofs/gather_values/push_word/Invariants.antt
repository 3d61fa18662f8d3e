use Rattle.sel_runs.proofs.Common.{◌≡◌, ◌+◌, ◌++◌, take, drop, map, vec_len, vec_capacity, option_copied, word_of, pick, bits_found}
use Rattle.sel_runs.proofs.gather_values.push_word.Given as goal

abbrev pub invariant-loop-i : goal.invariant-loop-i
invariant-loop-i g l = record {
  values : l.values.items ≡ l.initial.values.items ++ pick l.zero (map (λ s. s.values.now) l.parts) (take l.i (g.P.Plan.picks l.initial.plan));
  word : l.word ≡ word_of (take l.i (take l.count (bits_found (map (λ s. option_copied s.validity) l.parts) (g.P.Plan.picks l.initial.plan))));
  rest : g.P.Plan.picks l.plan ≡ drop l.i (g.P.Plan.picks l.initial.plan);
  len : vec_len l.values ≡ vec_len l.initial.values + l.i;
  capacity : vec_capacity l.values ≡ vec_capacity l.initial.values;
}
