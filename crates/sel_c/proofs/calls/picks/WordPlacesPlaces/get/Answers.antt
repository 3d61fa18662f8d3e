use Rattle.std.proofs.Common.{◌<◌, ◌∙◌, ap, arith, length, None, sym}
use Rattle.sel_c.proofs.{Common.valid_at, Common.pick_in, PickWords.covered, PickWords.picks_at, PickWords.picks_long}
use Rattle.sel_c.proofs.calls.picks.WordPlacesPlaces.get.Goals as goal

pub words_at-requires : goal.words_at-requires
words_at-requires c = let p = c.args.self.now in omega (arith, c.requires, picks_long 0 p.validity.now p.words.now)

pub is_valid_at-requires : goal.is_valid_at-requires
is_valid_at-requires c =
    let p = c.args.self.now in
    covered p.validity.now (length p.words.now) c.args.k p.covers (omega (arith, c.requires, picks_long 0 p.validity.now p.words.now))

pub returns : goal.returns
returns c =
    let p = c.args.self.now in
    let inside : c.args.k < length p.words.now = omega (arith, c.requires, picks_long 0 p.validity.now p.words.now) in
    c.pick_of.ensures ∙ ap (pick_in c.words_at.result) c.is_valid_at.ensures ∙ ap (λ w. pick_in w (valid_at p.validity.now c.args.k)) c.words_at.ensures
    ∙ sym (picks_at c.args.k p.validity.now p.words.now c.words_at.result None inside)
