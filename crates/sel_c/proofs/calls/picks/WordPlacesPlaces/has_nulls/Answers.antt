use Rattle.std.proofs.Common.{◌∙◌, All, sym, subst}
use Rattle.sel_runs.specs.Plans.{IsPicked}
use Rattle.sel_c.{specs.Several.picks_from, proofs.PickWords.is_gone, proofs.PickWords.words_picked}
use Rattle.sel_c.proofs.calls.picks.WordPlacesPlaces.has_nulls.Goals as goal

pub returns : goal.returns
returns c =
    let p = c.args.self.now in
    λ whole. subst (λ v. All IsPicked (picks_from 0 v p.words.now)) (sym (is_gone p.validity.now (sym c.is_some.ensures ∙ whole))) (words_picked 0 p.words.now)
