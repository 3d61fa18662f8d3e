-- The output for a line, by the checks in the code.
use Rattle.std.proofs.lemmas.Grind.{common_steps}
use Rattle.std.proofs.Common.{rules, ◌≡◌, ℕ, ◌≤◌, ◌<◌, Bool, true, cond, List, length, Option, None, arith, sym, Decides, IsUtf8, ◌==◌, ◌&&◌, nat_le, leb-true, le-leb}
use Rattle.sel_lines.{proofs.Common.slice_split, proofs.Common.Decides-and, specs.Commands.answer_of_words, specs.Commands.answer_of_line}
use Rattle.std.{specs.Str.is_utf8, proofs.lemmas.Str.IsUtf8-from_is_utf8, proofs.lemmas.Str.is_utf8-from_IsUtf8, proofs.lemmas.Bool.cond-true}

pub none_unless : {A : Type 0} (b : Bool) (x : Option A) → (b ≡ true → ⊥) → None ≡ cond b x None
none_unless b x never = grind (arith, common_steps)

is_short_text : (line : List ℕ) → Decides (nat_le (length line) 1048576 && is_utf8 line) ((length line ≤ 1048576) × IsUtf8 line)
is_short_text line = Decides-and _ _ (leb-true (length line) 1048576, le-leb (length line) 1048576) (IsUtf8-from_is_utf8 line, is_utf8-from_IsUtf8 line)

pub too_long : (line : List ℕ) → 1048576 < length line → None ≡ answer_of_line line
unfolding answer_of_line
too_long line long = search (rules, is_short_text)

pub no_text : (line : List ℕ) → (IsUtf8 line → ⊥) → None ≡ answer_of_line line
unfolding answer_of_line
no_text line bad = search (rules, is_short_text)

pub of_text : (line : List ℕ) → length line ≤ 1048576 → IsUtf8 line → answer_of_words (slice_split (λ b. b == 32) line) ≡ answer_of_line line
unfolding answer_of_line
of_text line short text = sym (cond-true _ _ _ ((is_short_text line).1 (short, text)))
