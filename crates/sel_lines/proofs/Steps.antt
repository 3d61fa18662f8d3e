-- One line of a run.
use Rattle.std.proofs.Common.{◌≡◌, ◌≢◌, ℕ, List, ◌∙◌, Option, None, Err, arith, rules, refl, ap, subst, take, length}
use Rattle.std.specs.{Io.KnownBytes.Appends, Io.KnownBytes.Consumes, Io.KnownBytes.IsAtEnd}
use Rattle.std.proofs.{lemmas.Grind.common_steps}
use Rattle.sel_lines.specs.{Output.first_bad_from, Output.output_from, Step.Step, Step.lines_in, Step.piece, Step.IsReadTo, declared.reading.LineEnd.LineEnd}
use Rattle.sel_lines.specs.declared.run.RunError.{RunError, TheVariants.OutOfMemory, TheVariants.Input, TheVariants.Output}
use Rattle.sel_lines.{specs.Lines.HasNoFeed, proofs.Answered.too_long}
use Rattle.sel_lines.specs.declared.reading.LineEnd.TheVariants as ending

-- A line that could not be read to its end.
pub failed_step : (n : ℕ) (e : RunError) (rest : List ℕ) (before after holds : Option (List ℕ)) → e ≢ Output → HasNoFeed rest → Consumes before after rest
    → Step n (Err e) before after holds holds
failed_step n OutOfMemory rest before after holds fault plain reads = search rules
failed_step n Input rest before after holds fault plain reads = search rules
failed_step n Output rest before after holds fault plain reads = absurd (fault refl)

-- A good line without a line feed is the last of the input.
pub last_line : (n : ℕ) (end : LineEnd) (line : List ℕ) (left : Option (List ℕ)) → IsReadTo end line left → end ≢ ending.Feed → first_bad_from n (lines_in end line) ≡ None
    → (end ≡ ending.Input) × IsAtEnd left
unfolding first_bad_from
last_line n end line left read other good = grind (arith, common_steps, too_long)

-- A line that was read and whose output, this text, was not written to its end.
module _ (n : ℕ) (end : LineEnd) (line : List ℕ) (before after holds : Option (List ℕ)) (read : HasNoFeed line × Consumes before after (piece end line) × IsReadTo end line after)
    (shown text : List ℕ) (same : shown ≡ line) (is : text ≡ output_from n (lines_in end shown)) (held : Option (List ℕ)) where
  step : (written : List ℕ) → Appends holds held written → take (length written) text ≡ written → Step n (Err Output) before after holds held
  step written writes begins =
      let starts = subst (λ l. take (length written) l ≡ written) (is ∙ ap (λ l. output_from n (lines_in end l)) same) begins in
      record { end = end; line = line; written = written; no_feed = read.0; reads = read.1; writes = writes; ends = starts }

  pub stopped : (sent : ℕ) → Appends holds held (take sent text) → Step n (Err Output) before after holds held
  stopped sent writes = step (take sent text) writes (grind (arith, common_steps))

  pub unflushed : Appends holds held text → Step n (Err Output) before after holds held
  unflushed writes = step text writes (grind (arith, common_steps))
