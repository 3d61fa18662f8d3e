use Rattle.std.proofs.Common.{◌<◌, All, arith, length, None, refl, subst, sym, take_all}
use Rattle.sel_c.proofs.Common.{All-more, HasRow, picks_from}
use Rattle.sel_c.proofs.calls.picks.are_in_bounds.Goals as goal

pub returns-then-not-has_row : goal.returns-then-not-has_row
returns-then-not-has_row c =
    let p = c.args.places.now in
    let picks = picks_from 0 p.validity.now p.words.now in
    let inside : c.loop-k.k < length picks = omega (arith, c.loop-k-test.true, c.len-k-end.ensures.len) in (
      λ never. absurd cc,
      λ all.
          let yes = c.has_row.ensures.1 (subst (HasRow c.args.lengths.now) (sym c.get.ensures) (all c.loop-k.k None inside)) in
          absurd (cc (yes, c.if-not-has_row.true)),
    )

pub loop-k-preserved : goal.loop-k-preserved
loop-k-preserved c =
    All-more (HasRow c.args.lengths.now) _ _ None (omega (arith, c.loop-k-test.true, c.len-k-end.ensures.len)) c.loop-k.invariant
    (subst (HasRow c.args.lengths.now) c.get.ensures (c.has_row.ensures.0 c.if-not-has_row.false))

pub returns : goal.returns
returns c =
    let p = c.args.places.now in
    let all = take_all c.loop-k.k (picks_from 0 p.validity.now p.words.now) (omega (arith, c.loop-k-test.false, c.len-k-end.ensures.len)) in
    (λ yes. subst (All (HasRow c.args.lengths.now)) all c.loop-k.invariant, λ every. refl)
