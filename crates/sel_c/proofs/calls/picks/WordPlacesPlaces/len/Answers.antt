use Rattle.std.proofs.Common.{sym}
use Rattle.sel_c.proofs.PickWords.{picks_long}
use Rattle.sel_c.proofs.calls.picks.WordPlacesPlaces.len.Goals as goal

pub returns-clause-len : goal.returns-clause-len
returns-clause-len c = let p = c.args.self.now in sym (picks_long 0 p.validity.now p.words.now)
