-- A run so far, and one more line.
use Rattle.std.proofs.Common.{◌≡◌, ℕ, ◌+◌, ◌≤◌, ◌<◌, Bool, true, false, cond, List, [], ◌∷◌, ◌++◌, length, Option, Some, None, Result, Ok, Err, arith, rules, refl, ap, sym, ◌∙◌, append_assoc, append-nil, length-append, inl, inr, ◌⊎◌}
use Rattle.std.specs.{Prelude.◌==◌, Io.StartsWith, Io.KnownBytes.Consumes, Io.KnownBytes.Appends}
use Rattle.std.proofs.KnownBytes.{Appends-trans, Appends-nil, Consumes-trans, Consumes-nil}
use Rattle.std.proofs.lemmas.List.Splits.{slice_split_none, slice_split_at, length-slice_split}
use Rattle.std.proofs.{lemmas.Grind.common_steps, lemmas.Bool.Decides.nat_tests, lemmas.Bool.ne_eqb, lemmas.List.Elements.All-nil, Math.Seq.take-append_seam}
use Rattle.sel_bits.specs.Limits.{max_rows}
use Rattle.sel_lines.specs.Output.{answers, first_bad, first_bad_from, output_from}
use Rattle.sel_lines.specs.{Run.AreAnswered, Run.Runs, Run.IsLineRead, Step.Step, Step.piece, Step.lines_in, Step.IsReadTo, declared.reading.LineEnd.LineEnd}
use Rattle.sel_lines.specs.declared.run.{Done.Done, Done.TheVariants.End, Done.TheVariants.BadLine, RunError.RunError}
use Rattle.sel_lines.specs.declared.run.RunError.TheVariants.{OutOfMemory, Input, Output}
use Rattle.sel_lines.specs.{Lines.HasNoFeed, Lines.line_parts, Lines.lines_of_parts, Lines.but_last, Lines.lines, Lines.whole_lines}
use Rattle.sel_lines.specs.declared.reading.LineEnd.TheVariants as ending

-- ---- the lines of a text

cons_lines : (x : List ℕ) (ps : List (List ℕ)) → 0 < length ps → lines_of_parts (x ∷ ps) ≡ x ∷ lines_of_parts ps
cons_lines x [] some = absurd (omega arith)
cons_lines x (p ∷ ps) some = refl

cons_but_last : {X : Type 0} (x : X) (ps : List X) → 0 < length ps → but_last (x ∷ ps) ≡ x ∷ but_last ps
cons_but_last x [] some = absurd (omega arith)
cons_but_last x (p ∷ ps) some = refl

parts_fed : (line rest : List ℕ) → HasNoFeed line → line_parts (line ++ (10 ∷ rest)) ≡ line ∷ line_parts rest
parts_fed line rest plain = slice_split_at (λ b. b == 10) line 10 rest (λ k d lt. ne_eqb _ 10 (plain k d lt)) refl

parts_plain : (line : List ℕ) → HasNoFeed line → line_parts line ≡ line ∷ []
parts_plain line plain = slice_split_none (λ b. b == 10) line (λ k d lt. ne_eqb _ 10 (plain k d lt))

lines_fed : (line rest : List ℕ) → HasNoFeed line → lines (line ++ (10 ∷ rest)) ≡ line ∷ lines rest
unfolding lines
lines_fed line rest plain = ap lines_of_parts (parts_fed line rest plain) ∙ cons_lines line (line_parts rest)
    (omega (arith, length-slice_split (λ b. b == 10) rest))

whole_fed : (line rest : List ℕ) → HasNoFeed line → whole_lines (line ++ (10 ∷ rest)) ≡ line ∷ whole_lines rest
unfolding whole_lines
whole_fed line rest plain = ap but_last (parts_fed line rest plain) ∙ cons_but_last line (line_parts rest)
    (omega (arith, length-slice_split (λ b. b == 10) rest))

lines_plain : (line : List ℕ) → HasNoFeed line → lines line ≡ cond (length line == 0) [] (line ∷ [])
unfolding lines
lines_plain line plain = ap lines_of_parts (parts_plain line plain)

whole_plain : (line : List ℕ) → HasNoFeed line → whole_lines line ≡ []
unfolding whole_lines
whole_plain line plain = ap but_last (parts_plain line plain)

lines_piece : (end : LineEnd) (line : List ℕ) → HasNoFeed line → lines (piece end line) ≡ lines_in end line
lines_piece ending.Feed line plain = lines_fed line [] plain ∙ ap (λ ls. line ∷ ls) (lines_plain [] (All-nil _))
lines_piece end line plain = lines_plain line plain

-- ---- what is written for lines, and the first bad line

bad_of_append : (n : ℕ) (xs ys : List (List ℕ)) → first_bad_from n xs ≡ None → first_bad_from n (xs ++ ys) ≡ first_bad_from (n + length xs) ys
unfolding first_bad_from
bad_of_append n [] ys good = ap (λ k. first_bad_from k ys) (omega arith)
bad_of_append n (x ∷ xs) ys good = grind (arith, common_steps, (bad_of_append (n + 1) xs ys))

output_of_append : (n : ℕ) (xs ys : List (List ℕ)) → first_bad_from n xs ≡ None → output_from n (xs ++ ys) ≡ output_from n xs ++ output_from (n + length xs) ys
unfolding first_bad_from output_from
output_of_append n [] ys good = ap (λ k. output_from k ys) (omega arith)
output_of_append n (x ∷ xs) ys good = grind (arith, common_steps, (output_of_append (n + 1) xs ys))

good_front : (n : ℕ) (xs ys : List (List ℕ)) → first_bad_from n (xs ++ ys) ≡ None → first_bad_from n xs ≡ None
unfolding first_bad_from
good_front n [] ys good = refl
good_front n (x ∷ xs) ys good = grind (arith, common_steps, (good_front (n + 1) xs ys))

pub good_number : (n : ℕ) (line : List ℕ) → first_bad_from n (line ∷ []) ≡ None → n ≤ max_rows
unfolding first_bad_from
good_number n line good = grind (arith, common_steps, nat_tests)

-- ---- a run so far

pub record SoFar (n : ℕ) (before after holds_before holds_after : Option (List ℕ)) : Type 0 where
  pub past : List ℕ
  pub written : List ℕ
  pub done : List (List ℕ)
  pub reads : Consumes before after past
  pub writes : Appends holds_before holds_after written
  pub count : 1 + length done ≡ n
  pub good : first_bad done ≡ None
  pub answered : written ≡ answers done
  pub lines_of : (rest : List ℕ) → lines (past ++ rest) ≡ done ++ lines rest
  pub whole_of : (rest : List ℕ) → whole_lines (past ++ rest) ≡ done ++ whole_lines rest

pub at_start : (before holds : Option (List ℕ)) → SoFar 1 before before holds holds
unfolding first_bad_from output_from
at_start before holds = record {
  past = [];
  written = [];
  done = [];
  reads = Consumes-nil before;
  writes = Appends-nil holds;
  count = refl;
  good = refl;
  answered = refl;
  lines_of = λ rest. refl;
  whole_of = λ rest. refl;
}

line_read : (past : List ℕ) (end : LineEnd) (line : List ℕ) (left : Option (List ℕ)) → HasNoFeed line → IsReadTo end line left → IsLineRead (past ++ piece end line) left
line_read past ending.Feed line left plain read = inl (past ++ line, sym (append_assoc past line (10 ∷ [])))
line_read past ending.Input line left plain read = inr (inl read)
line_read past ending.TooLong line left plain read = inr (inr (past, line, refl, plain, read))

one_bad : (n : ℕ) (end : LineEnd) (line : List ℕ) → first_bad_from n (lines_in end line) ≡ Some n → length (lines_in end line) ≡ 1
unfolding first_bad_from
one_bad n end line bad = grind (arith, common_steps)

but_last_push : {X : Type 0} (xs : List X) (x : X) → but_last (xs ++ (x ∷ [])) ≡ xs
but_last_push [] x = refl
but_last_push (y ∷ []) x = refl
but_last_push (y ∷ z ∷ zs) x = ap (λ r. y ∷ r) (but_last_push (z ∷ zs) x)

last_off : {X : Type 0} (xs : List X) → (rest : List X) × (xs ≡ but_last xs ++ rest)
last_off [] = ([], refl)
last_off (x ∷ []) = (x ∷ [], refl)
last_off (x ∷ y ∷ more) = let r = last_off (y ∷ more) in (r.0, ap (λ l. x ∷ l) r.1)

front_if : (done : List (List ℕ)) (b : Bool) (line : List ℕ) → (rest : List (List ℕ)) × (done ≡ but_last (done ++ cond b [] (line ∷ [])) ++ rest)
front_if done true line = let r = last_off done in (r.0, r.1 ∙ ap (λ l. but_last l ++ r.0) (sym (append-nil done)))
front_if done false line = ([], sym (append-nil (but_last (done ++ (line ∷ []))) ∙ but_last_push done line))

-- All lines but the last are among those that have output.
front_of : (done : List (List ℕ)) (end : LineEnd) (line : List ℕ) → (rest : List (List ℕ)) × (done ≡ but_last (done ++ lines_in end line) ++ rest)
front_of done ending.Feed line = front_if done false line
front_of done end line = front_if done (length line == 0) line

more_begins : (front w x : List ℕ) → StartsWith x w → StartsWith (front ++ x) (front ++ w)
more_begins [] w x begins = begins
more_begins (c ∷ front) w x begins = ap (λ l. c ∷ l) (more_begins front w x begins)

-- The output for a prefix of good lines is a prefix of their output.
front_written : (front rest : List (List ℕ)) (written more : List ℕ) → first_bad (front ++ rest) ≡ None → written ≡ answers (front ++ rest) → StartsWith (written ++ more) (answers front)
front_written front rest written more good is = grind (arith, output_of_append, good_front, append_assoc, take-append_seam)

-- ---- a run so far, and its last step

module _ {n : ℕ} {r0 r1 w0 w1 : Option (List ℕ)} (so : SoFar n r0 r1 w0 w1) where
  bad_total : (ls : List (List ℕ)) → first_bad (so.done ++ ls) ≡ first_bad_from n ls
  bad_total ls = bad_of_append 1 so.done ls so.good ∙ ap (λ k. first_bad_from k ls) so.count

  output_total : (ls : List (List ℕ)) → answers (so.done ++ ls) ≡ so.written ++ output_from n ls
  output_total ls = rw (so.answered) (output_of_append 1 so.done ls so.good ∙ ap (λ k. output_from 1 so.done ++ output_from k ls) so.count)

  -- Lines that have their output, if no more is written.
  when_answered : (ls : List (List ℕ)) (more : List ℕ) → ls ≡ so.done → more ≡ [] → AreAnswered ls (so.written ++ more)
  when_answered ls more is none = rw (is, none, append-nil) (record { good = so.good; written = so.answered })

  unfed : (line : List ℕ) → HasNoFeed line → whole_lines (so.past ++ line) ≡ so.done
  unfed line plain = rw (so.whole_of line, whole_plain line plain, append-nil) refl

  no_memory : (end : LineEnd) (line more : List ℕ) → HasNoFeed line → more ≡ []
      → AreAnswered (whole_lines (so.past ++ piece end line)) (so.written ++ more) ⊎ AreAnswered (but_last (whole_lines (so.past ++ piece end line)))
      (so.written ++ more)
  no_memory ending.Feed line more plain none = search (rules, when_answered, whole_fed, whole_plain, but_last_push)
  no_memory end line more plain none = inl (when_answered _ more (unfed line plain) none)

  module _ {result : Result (Option Done) RunError} {r2 w2 : Option (List ℕ)} (step : Step n result r1 r2 w1 w2) where
    abbrev read : List ℕ
    read = so.past ++ piece step.end step.line

    abbrev last : List (List ℕ)
    last = lines_in step.end step.line

    reads : Consumes r0 r2 read
    reads = Consumes-trans r0 r1 r2 so.past (piece step.end step.line) so.reads step.reads

    writes : Appends w0 w2 (so.written ++ step.written)
    writes = Appends-trans w0 w1 w2 so.written step.written so.writes step.writes

    lines_total : lines read ≡ so.done ++ last
    lines_total = so.lines_of (piece step.end step.line) ∙ ap (λ l. so.done ++ l) (lines_piece step.end step.line step.no_feed)

  pub advance : {r2 w2 : Option (List ℕ)} → Step n (Ok None) r1 r2 w1 w2 → SoFar (n + 1) r0 r2 w0 w2
  advance step = record {
    past = read step;
    written = so.written ++ step.written;
    done = so.done ++ (step.line ∷ []);
    reads = reads step;
    writes = writes step;
    count = let c = so.count in omega (arith, length-append so.done (step.line ∷ []));
    good = bad_total (step.line ∷ []) ∙ step.ends.1;
    answered = ap (λ r. so.written ++ r) step.ends.2 ∙ sym (output_total (step.line ∷ []));
    lines_of = λ rest. rw (append_assoc so.past (piece step.end step.line) rest, so.lines_of (piece step.end step.line ++ rest), step.ends.0)
        (rw (append_assoc step.line (10 ∷ []) rest, lines_fed step.line rest step.no_feed, append_assoc so.done (step.line ∷ []) (lines rest)) refl);
    whole_of = λ rest. rw (append_assoc so.past (piece step.end step.line) rest, so.whole_of (piece step.end step.line ++ rest), step.ends.0)
        (rw (append_assoc step.line (10 ∷ []) rest, whole_fed step.line rest step.no_feed, append_assoc so.done (step.line ∷ []) (whole_lines rest)) refl);
  }

  pub finish : {r2 w2 : Option (List ℕ)} (done : Done) → Step n (Ok (Some done)) r1 r2 w1 w2 → Runs (Ok done) r0 r2 w0 w2
  finish End step =
      let answered = ap (λ r. so.written ++ r) step.ends.3 ∙ sym (output_total (last step)) in
      (read step, so.written ++ step.written, reads step, writes step, (rw (lines_total step) (record { good = bad_total (last step) ∙ step.ends.2; written = answered }), step.ends.1))
  finish (BadLine m) step = (
    read step,
    so.written ++ step.written,
    reads step,
    writes step,
    (
      rw (lines_total step) (bad_total (last step) ∙ step.ends.2 ∙ ap Some (sym step.ends.0)),
      omega (arith, ap length (lines_total step), length-append so.done (last step), one_bad n step.end step.line step.ends.2, so.count, step.ends.0),
      rw (lines_total step, output_total (last step)) (ap (λ r. so.written ++ r) step.ends.3),
      line_read so.past step.end step.line _ step.no_feed step.ends.1,
    ),
  )

  pub give_up : {r2 w2 : Option (List ℕ)} (e : RunError) → Step n (Err e) r1 r2 w1 w2 → Runs (Err e) r0 r2 w0 w2
  give_up Input step =
      let ended = when_answered _ step.written (ap (λ e. whole_lines (so.past ++ piece e step.line)) step.ends.0 ∙ unfed step.line step.no_feed) step.ends.1 in
      (read step, so.written ++ step.written, reads step, writes step, ended)
  give_up OutOfMemory step =
      (read step, so.written ++ step.written, reads step, writes step, no_memory step.end step.line step.written step.no_feed step.ends)
  give_up Output step =
      let f = front_of so.done step.end step.line in
      let front = but_last (so.done ++ last step) in
      let good : first_bad (front ++ f.0) ≡ None = ap first_bad (sym f.1) ∙ so.good in
      let begun = more_begins so.written step.written (output_from n (last step)) step.ends in
      let told = front_written front f.0 so.written step.written good (so.answered ∙ ap answers f.1) in
      (read step, so.written ++ step.written, reads step, writes step, rw (lines_total step) (rw (output_total (last step)) begun, good_front 1 front f.0 good, told))
