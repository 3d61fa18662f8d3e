use Rattle.sel_gather.proofs.Common.{flat_map}
use Rattle.sel_gather.proofs.view.collect_views.Given as goal

abbrev pub ghosts-collect_few : goal.ghosts-collect_few
ghosts-collect_few a = record { buffers = flat_map (λ s. s.now.buffers) a.sources.now }
