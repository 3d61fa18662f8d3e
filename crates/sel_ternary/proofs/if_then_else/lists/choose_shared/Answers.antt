use Rattle.sel_ternary.proofs.Common.{rules, ◌∙◌, ap, err_from_is_err_and}
use Rattle.sel_ternary.proofs.if_then_else.lists.choose_shared.Goals as goal

pub from_any-requires : goal.from_any-requires
from_any-requires g c = ap g.L.Lists.is_kind c.in_ok-chosen.ensures.dtype ∙ c.requires.kind

pub returns : goal.returns
returns g c = record {
  rows = c.from_any.ensures.rows ∙ c.in_ok-chosen.ensures.rows;
  dtype = c.from_any.ensures.dtype ∙ c.in_ok-chosen.ensures.dtype;
  within = c.in_ok-chosen.ensures.within;
  refusal = search rules;
}

pub returns-in_err-chosen : goal.returns-in_err-chosen
returns-in_err-chosen g c =
    let p = err_from_is_err_and c.from_residual.result c.from_residual.ensures.1 in
    record {
      rows = search rules;
      dtype = search rules;
      within = search rules;
      refusal = rw (p.1, p.2) c.in_err-chosen.ensures.refusal;
    }
