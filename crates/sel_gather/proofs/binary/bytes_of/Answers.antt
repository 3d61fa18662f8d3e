use Rattle.sel_gather.proofs.{Common.◌∙◌, Common.ap, Common.sym, Common.map, Common.binary_rows, Common.Null, Common.joined_bytes}
use Rattle.sel_runs.proofs.RunLists.{pick_nulls}
use Rattle.sel_gather.proofs.ValidBytes.{nulls_bytes, source_below, source_inside, source_live, source_picked}
use Rattle.sel_gather.proofs.binary.bytes_of.Goals as goal

pub bounds-sources-source : goal.bounds-sources-source
bounds-sources-source c = source_below (λ s. binary_rows s.now) c.args.sources.now c.args.run c.in-Some.source c.in-Some.is c.requires.fits c.if-run-eq0.false

pub part_of-requires : goal.part_of-requires
part_of-requires c = record {
  inside = source_inside (λ s. binary_rows s.now) c.args.sources.now c.args.run c.in-Some.source c.in-Some.is c.requires.fits c.if-run-eq0.false c.index-sources-source.result c.index-sources-source.is;
  live = source_live (λ s. binary_rows s.now) c.args.sources.now c.args.run c.in-Some.source c.in-Some.is c.requires.fits c.if-run-eq0.false c.index-sources-source.result c.index-sources-source.is c.requires.live;
}

pub returns-in-None : goal.returns-in-None
returns-in-None c =
    let none = ap joined_bytes (pick_nulls Null (map (λ s. binary_rows s.now) c.args.sources.now) c.args.run c.in-None.is) ∙ nulls_bytes c.args.run.len in
    sym none

pub returns-in-Some : goal.returns-in-Some
returns-in-Some c =
    c.part_of.ensures
    ∙ ap joined_bytes (sym (source_picked (λ s. binary_rows s.now) c.args.sources.now c.args.run c.in-Some.source c.in-Some.is c.requires.fits c.if-run-eq0.false c.index-sources-source.result c.index-sources-source.is))
