use Rattle.sel_runs.proofs.Common.{◌++◌, ◌∷◌, [], ◌∙◌, ap, sym, arith, append_assoc, length-append, length, append-nil, expand, unrolled}
use Rattle.sel_runs.proofs.RunLists.{expand-push, length-unrolled, none_unrolled}
use Rattle.sel_runs.proofs.runs.put_run.Goals as goal

-- An empty run adds nothing.
pub returns-then-run-eq0-clause-picks : goal.returns-then-run-eq0-clause-picks
returns-then-run-eq0-clause-picks c =
    let before = expand (c.args.runs.now.items ++ c.args.last.now ∷ []) in
    sym (append-nil before) ∙ ap (λ l. before ++ l) (sym (none_unrolled c.args.run c.if-run-eq0.true))

pub returns-then-last-eq0-clause-picks : goal.returns-then-last-eq0-clause-picks
returns-then-last-eq0-clause-picks c =
    let runs = c.args.runs.now.items in
    let none = expand-push runs c.args.last.now ∙ ap (λ l. expand runs ++ l) (none_unrolled c.args.last.now c.if-last-eq0.true) ∙ append-nil (expand runs) in
    expand-push runs c.args.run ∙ ap (λ l. l ++ unrolled c.args.run) (sym none)

pub joined-requires : goal.joined-requires
joined-requires c =
    let runs = c.args.runs.now.items in
    let both = ap length (expand-push runs c.args.last.now) ∙ length-append (expand runs) (unrolled c.args.last.now) in
    omega (arith, both, length-unrolled c.args.last.now, c.requires)

pub returns-in-Some-clause-picks : goal.returns-in-Some-clause-picks
returns-in-Some-clause-picks c =
    let runs = c.args.runs.now.items in
    expand-push runs c.in-Some.both ∙ ap (λ l. expand runs ++ l) c.in-Some.ensures ∙ sym (append_assoc (expand runs) (unrolled c.args.last.now) (unrolled c.args.run))
    ∙ ap (λ l. l ++ unrolled c.args.run) (sym (expand-push runs c.args.last.now))

pub returns-clause-picks : goal.returns-clause-picks
returns-clause-picks c =
    let runs = c.args.runs.now.items ++ c.args.last.now ∷ [] in
    ap (λ l. expand (l ++ c.args.run ∷ [])) c.in_ok-push.ensures.items ∙ expand-push runs c.args.run
