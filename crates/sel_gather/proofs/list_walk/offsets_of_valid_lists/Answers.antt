use Rattle.sel_gather.proofs.{Common.arith, ItemRuns.source_there}
use Rattle.sel_gather.proofs.ValidLists.{valid_few, valid_inside, valid_parts, valid_rising}
use Rattle.sel_gather.proofs.list_walk.offsets_of_valid_lists.Goals as goal

pub bounds-sources-source : goal.bounds-sources-source
bounds-sources-source c = source_there c.args.sources.now c.args.run _ 0 c.in-Some.is c.requires.fits (omega (arith, c.if-run-eq0.false))

pub returns-in-None-clause-parts : goal.returns-in-None-clause-parts
returns-in-None-clause-parts c = valid_parts c.args.sources.now c.requires.formed c.args.run c.requires.fits (omega (arith, c.if-run-eq0.false)) _ c.in-Some.is c.index-sources-source.result c.index-sources-source.is _ _ _ c.in-LargeList.is c.in-None.is

pub returns-in-None-clause-inside : goal.returns-in-None-clause-inside
returns-in-None-clause-inside c = valid_inside c.args.sources.now c.requires.formed c.args.run c.requires.fits (omega (arith, c.if-run-eq0.false)) _ c.in-Some.is c.index-sources-source.result c.index-sources-source.is _ _ _ c.in-LargeList.is c.in-None.is

pub returns-in-None-clause-few : goal.returns-in-None-clause-few
returns-in-None-clause-few c = valid_few c.args.sources.now c.requires.formed c.args.run c.requires.fits (omega (arith, c.if-run-eq0.false)) _ c.in-Some.is c.index-sources-source.result c.index-sources-source.is _ _ _ c.in-LargeList.is c.in-None.is

pub returns-in-None-clause-rising : goal.returns-in-None-clause-rising
returns-in-None-clause-rising c = valid_rising c.args.sources.now c.requires.formed c.args.run c.requires.fits (omega (arith, c.if-run-eq0.false)) _ c.in-Some.is c.index-sources-source.result c.index-sources-source.is _ _ _ c.in-LargeList.is c.in-None.is
