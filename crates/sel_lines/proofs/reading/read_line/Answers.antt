use Rattle.std.proofs.{Common.rules, Common.◌++◌, Common.◌∷◌, Common.[], lemmas.Result.err_from_is_err_and, KnownBytes.Consumes-trans}
use Rattle.sel_lines.proofs.ReadPieces.{no_feed_push}
use Rattle.sel_lines.proofs.reading.read_line.Goals as goal

-- The byte was read before the push failed.
pub returns-in_err-push-in-Some-clause-err : goal.returns-in_err-push-in-Some-clause-err
returns-in_err-push-in-Some-clause-err g c =
    let p = err_from_is_err_and c.from_residual-in_err-push-in-Some.result c.from_residual-in_err-push-in-Some.ensures.1 in
    rw p.1 (
      c.loop.line.items ++ (c.in-Some.byte ∷ []),
      no_feed_push _ _ c.loop.invariant.no_feed (λ e. search rules),
      Consumes-trans _ _ _ _ _ c.loop.invariant.read (rw c.in-Some.is at c.in_ok-read_byte.ensures.ok),
    )

pub returns-in_err-push-in-Some-clause-fault : goal.returns-in_err-push-in-Some-clause-fault
returns-in_err-push-in-Some-clause-fault g c =
    let p = err_from_is_err_and c.from_residual-in_err-push-in-Some.result c.from_residual-in_err-push-in-Some.ensures.1 in
    rw (p.1, p.2) (λ e. cc)
