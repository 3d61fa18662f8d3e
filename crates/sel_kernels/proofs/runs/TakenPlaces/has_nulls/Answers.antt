use Rattle.sel_kernels.proofs.Common.{All, map, pos, sym, subst, number_rows, IsPicked, pick_of}
use Rattle.sel_kernels.proofs.Selects.{all_picked}
use Rattle.sel_kernels.proofs.runs.TakenPlaces.has_nulls.Goals as goal

pub returns-in-None : goal.returns-in-None
returns-in-None c = λ none.
    let indices = c.args.self.now.indices.now in
    subst (λ v. All IsPicked (map pick_of (number_rows pos indices.values v))) (sym c.in-None.is) (all_picked indices.values)
