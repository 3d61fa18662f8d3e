-- A text is in the notation if its canonical spelling is: white space between tokens makes no
-- difference, and neither do escapes.
use Rattle.std.proofs.Common.{true≢false, ◌≡◌, ◌≤◌, ◌<◌, ℕ, Bool, true, false, List, [], ◌∷◌, ◌++◌, length, length-drop, drop, refl, ap, sym, ◌∙◌, arith, Some, None, subst, inl, inr, ◌⊎◌, option_and_then, encode_utf8, Option, suc, zero, option_map, not}
use Rattle.sel_text.proofs.Common.{common_steps, flat_map, list_all, nat_tests, Shape, after_byte, changed, goes_on, innermost, is_end, is_last, is_some_and, is_row_notation, is_type_notation, kept, after_name_byte, after_word_byte, is_between, escape_at, escape_spelled, is_mark, is_space, spelled, spelled_from, Value as RowValue, fits, escaped, text_of, type_text, widths_written, Bracket, Change, Keep, Next, Place, Between, Gap, Prefix, PlaceWord, InString, InHex, TypeWordSoFar, Lis, Within, Text, Escape, WordSoFar, N}
use lib.Utf8.{scalar}
use Rattle.sel_text.specs.Spelling.{place_after_space}
use Rattle.sel_text.proofs.Spellings.{begins}
use Rattle.sel_text.proofs.EscapeNotation.{escape_read}
use Rattle.sel_text.proofs.RowNotation.{no_digit, rows_in_notation}
use Rattle.sel_text.proofs.StringNotation.{letter_leads, starts, Starts}
use Rattle.sel_text.proofs.TypeNotation.{step_to, type_in_notation}
use Rattle.sel_text.specs.declared.notation.Next.TheVariants.{Rows, Name, SizeDigit, SizeComma, After, Negative, Digit, HexQuote, Word, TypeWord, Quoted}
use Rattle.sel_text.proofs.Following.{is_spaced, is_character, is_in_string, may_follow, every, placed, is_changed, leads, all_lead, stays}

-- ---- the canonical spelling, byte by byte

-- Whether a byte is outside of strings and of bytes in hexadecimal.
abbrev is_outside : Place → Bool
is_outside InString = false
is_outside InHex = false
is_outside place = true

-- White space is no part of the spelling.
unspaced : (place : Place) (byte : ℕ) (rest bytes : List ℕ) → is_outside place ≡ true → is_space byte ≡ true → spelled_from place 0 (byte ∷ rest) ≡ Some bytes → spelled_from (place_after_space place) 0 rest ≡ Some bytes
unspaced Between byte rest bytes outside space is = sym (begins [] (spelled_from Between 0 rest)) ∙ rw space at is
unspaced place byte rest bytes outside space is = first_of (cc, grind (arith, space, is, begins))

from_front : (front : List ℕ) (o : Option (List ℕ)) (bytes : List ℕ) → option_map (λ more. front ++ more) o ≡ Some bytes → (more : List ℕ) × (o ≡ Some more) × (bytes ≡ front ++ more)
from_front front o bytes is = grind (arith, common_steps)

-- After a word and white space there is nothing more, or a mark.
abbrev pub Ended : List ℕ → Type 0
Ended bytes = (bytes ≡ []) ⊎ ((mark : ℕ) × (more : List ℕ) × (is_mark mark ≡ true) × (bytes ≡ mark ∷ more))

gap_ended : (text bytes : List ℕ) → spelled_from Gap 0 text ≡ Some bytes → Ended bytes
gap_ended [] bytes is = inl cc
gap_ended (byte ∷ rest) bytes is = go (gap_ended rest) (is_space byte) (is_mark byte) refl refl
  where
    go : ((bytes : List ℕ) → spelled_from Gap 0 rest ≡ Some bytes → Ended bytes) → (s m : Bool) → is_space byte ≡ s → is_mark byte ≡ m → Ended bytes
    go later true m space mark = later bytes (unspaced Gap byte rest bytes refl space is)
    go later false true space mark = let split = from_front (byte ∷ []) (spelled_from Between 0 rest) bytes (rw (space, mark) at is) in inr (byte, split.0, mark, split.2)
    go later false false space mark = let none : None ≡ Some bytes = rw (space, mark) at is in absurd cc

unfinished : (next : Next) (brackets : List Bracket) → is_last next ≡ false → is_end next brackets ≡ false
unfinished next brackets last = grind (arith, common_steps)

-- A token that no mark ends is not ended.
dead : (next : Next) (brackets : List Bracket) (bytes : List ℕ) → is_last next ≡ false → ((top : Option Bracket) (mark : ℕ) → is_mark mark ≡ true → after_byte next top mark ≡ None) → Ended bytes → goes_on next brackets bytes ≡ true → ⊥
dead next brackets bytes last none ends on = grind (arith, common_steps, unfinished)

-- A number that a mark or the end follows is ended.
ended : (next behind : Next) (brackets : List Bracket) (bytes : List ℕ) → is_last next ≡ false → ((top : Option Bracket) (mark : ℕ) → is_mark mark ≡ true → after_byte next top mark ≡ after_byte behind top mark) → Ended bytes →
    goes_on next brackets bytes ≡ true → goes_on behind brackets bytes ≡ true
ended next behind brackets bytes last same ends on = grind (arith, common_steps, unfinished)

word_dead : (word : WordSoFar) (mark : ℕ) → is_mark mark ≡ true → after_word_byte word mark ≡ None
word_dead N mark is = grind (arith, nat_tests, is)
word_dead word mark is = grind (arith, nat_tests, is)

name_dead : (word : TypeWordSoFar) (mark : ℕ) → is_mark mark ≡ true → after_name_byte word mark ≡ None
name_dead Lis mark is = grind (arith, nat_tests, is)
name_dead word mark is = grind (arith, nat_tests, is)

-- ---- the same text, spelled in another way

abbrev pub Respelled : List ℕ → Type 0
Respelled text = (place : Place) (next : Next) (brackets : List Bracket) (bytes : List ℕ) → may_follow place next ≡ true → spelled_from place 0 text ≡ Some bytes →
    goes_on next brackets bytes ≡ true → goes_on next brackets text ≡ true

-- A byte that is spelled as it is.
abbrev put : ℕ → List ℕ → Place × ℕ → Option (List ℕ)
put byte rest next = option_map (λ more. (byte ∷ []) ++ more) (spelled_from next.0 next.1 rest)

kept_step : (place : Place) (byte : ℕ) (rest bytes : List ℕ) → is_changed place byte ≡ false → spelled_from place 0 (byte ∷ rest) ≡ Some bytes → put byte rest (placed place byte, 0) ≡ Some bytes
kept_step InHex byte rest bytes other is = is
kept_step place byte rest bytes other is = grind (arith, other, is)

keep : (place : Place) (byte : ℕ) (rest : List ℕ) → Respelled rest → (next : Next) (brackets : List Bracket) (bytes : List ℕ) → may_follow place next ≡ true → is_changed place byte ≡ false →
    spelled_from place 0 (byte ∷ rest) ≡ Some bytes → goes_on next brackets bytes ≡ true → goes_on next brackets (byte ∷ rest) ≡ true
keep place byte rest later next brackets bytes may other is on =
    let split = from_front (byte ∷ []) (spelled_from (placed place byte) 0 rest) bytes (kept_step place byte rest bytes other is) in
    go split.0 split.1 (after_byte next (innermost brackets) byte) refl (subst (λ bs. goes_on next brackets bs ≡ true) split.2 on) (all_lead place next (innermost brackets) byte may other)
  where
    go : (more : List ℕ) → spelled_from (placed place byte) 0 rest ≡ Some more → (step : Option (Next × Change)) → after_byte next (innermost brackets) byte ≡ step →
        is_some_and (λ (step : Next × Change). goes_on step.0 (changed step.1 brackets) more) step ≡ true → every (leads place byte) step ≡ true → goes_on next brackets (byte ∷ rest) ≡ true
    go more told None is so_far leads_to = absurd cc
    go more told (Some step) is so_far leads_to = step_to next step.0 step.1 brackets byte rest is ∙ later (placed place byte) step.0 (changed step.1 brackets) more leads_to told so_far

space_no_digit : (byte : ℕ) → is_space byte ≡ true → is_between byte 48 57 ≡ false
space_no_digit byte space = grind (arith, nat_tests, space)

-- White space after a token that is not ended by its last byte.
gap : (place : Place) (byte : ℕ) (rest : List ℕ) → Respelled rest → (next : Next) (brackets : List Bracket) (bytes : List ℕ) → is_outside place ≡ true → may_follow place next ≡ true → is_space byte ≡ true → is_spaced next ≡ false →
    spelled_from Gap 0 rest ≡ Some bytes → goes_on next brackets bytes ≡ true → goes_on next brackets (byte ∷ rest) ≡ true
gap PlaceWord byte rest later SizeDigit brackets bytes outside may space not is on =
    step_to SizeDigit SizeComma Keep brackets byte rest (rw (space_no_digit byte space, space) refl)
    ∙ later Gap SizeComma brackets bytes refl is (ended SizeDigit SizeComma brackets bytes refl (λ top mark is_token. rw (no_digit mark is_token) refl) (gap_ended rest bytes is) on)
gap PlaceWord byte rest later Digit brackets bytes outside may space not is on =
    step_to Digit After Keep brackets byte rest (rw (space_no_digit byte space, space) refl)
    ∙ later Gap After brackets bytes refl is (ended Digit After brackets bytes refl (λ top mark is_token. rw (no_digit mark is_token) refl) (gap_ended rest bytes is) on)
gap PlaceWord byte rest later Negative brackets bytes outside may space not is on = absurd (dead Negative brackets bytes refl (λ top mark is_token. grind (arith, nat_tests, is_token)) (gap_ended rest bytes is) on)
gap PlaceWord byte rest later (Word word) brackets bytes outside may space not is on = absurd (dead (Word word) brackets bytes refl (λ top mark is_token. ap kept (word_dead word mark is_token)) (gap_ended rest bytes is) on)
gap PlaceWord byte rest later (TypeWord word) brackets bytes outside may space not is on = absurd (dead (TypeWord word) brackets bytes refl (λ top mark is_token. ap kept (name_dead word mark is_token)) (gap_ended rest bytes is) on)
gap Prefix byte rest later HexQuote brackets bytes outside may space not is on = absurd (dead HexQuote brackets bytes refl (λ top mark is_token. grind (arith, nat_tests, is_token)) (gap_ended rest bytes is) on)
gap place byte rest later next brackets bytes outside may space not is on = absurd cc

spaced_may : (place : Place) (next : Next) → is_spaced next ≡ true → may_follow (place_after_space place) next ≡ true
spaced_may place next may = grind (arith, common_steps)

gap_is : (place : Place) (next : Next) → may_follow place next ≡ true → is_spaced next ≡ false → place_after_space place ≡ Gap
gap_is place next may not = grind (arith, common_steps)

-- White space outside of strings.
spaced_step : (place : Place) (byte : ℕ) (rest : List ℕ) → Respelled rest → (next : Next) (brackets : List Bracket) (bytes : List ℕ) → is_outside place ≡ true → may_follow place next ≡ true → is_space byte ≡ true →
    spelled_from place 0 (byte ∷ rest) ≡ Some bytes → goes_on next brackets bytes ≡ true → goes_on next brackets (byte ∷ rest) ≡ true
spaced_step place byte rest later next brackets bytes outside may space is on = go (is_spaced next) refl
  where
    told : spelled_from (place_after_space place) 0 rest ≡ Some bytes
    told = unspaced place byte rest bytes outside space is

    go : (b : Bool) → is_spaced next ≡ b → goes_on next brackets (byte ∷ rest) ≡ true
    go true spaced = step_to next next Keep brackets byte rest (stays next (innermost brackets) byte spaced space) ∙ later (place_after_space place) next brackets bytes (spaced_may place next spaced) told on
    go false not = gap place byte rest later next brackets bytes outside may space not (subst (λ place. spelled_from place 0 rest ≡ Some bytes) (gap_is place next may not) told) on

skip : (place : Place) (n : ℕ) (rest : List ℕ) → spelled_from place n rest ≡ spelled_from place 0 (drop n rest)
skip place zero rest = refl
skip place (suc n) [] = refl
skip place (suc n) (byte ∷ rest) = skip place n rest

-- Inside of a character there is no escape.
no_start : (within : Within) (first : ℕ) → (first < 128) ⊎ (192 ≤ first) → is_character within ≡ true → (top : Option Bracket) → (within ≡ Text) ⊎ (after_byte (Quoted within) top first ≡ None)
no_start within first apart may top = grind (arith, nat_tests)

escaped_read : (rest : List ℕ) → ((k : ℕ) → Respelled (drop k rest)) → (within : Within) (brackets : List Bracket) (bytes : List ℕ) → is_character within ≡ true → (c n : ℕ) → ◌≡◌ {A = Option (ℕ × ℕ)} (escape_at rest) (Some (c, n)) →
    option_map (λ more. flat_map escaped (encode_utf8 c) ++ more) (spelled_from InString n rest) ≡ Some bytes → goes_on (Quoted within) brackets bytes ≡ true → goes_on (Quoted within) brackets (92 ∷ rest) ≡ true
escaped_read rest later within brackets bytes may c n escape is on =
    let split = from_front (flat_map escaped (encode_utf8 c)) (spelled_from InString n rest) bytes is in
    let whole = escape_read rest c n escape in
    let start = starts c whole.0 in
    go split.0 (sym (skip InString n rest) ∙ split.1) (subst (λ bs. goes_on (Quoted within) brackets bs ≡ true) split.2 on) whole.0 (whole.1 brackets) start (no_start within start.0 start.3 may (innermost brackets))
  where
    go : (more : List ℕ) → spelled_from InString 0 (drop n rest) ≡ Some more → goes_on (Quoted within) brackets (flat_map escaped (encode_utf8 c) ++ more) ≡ true → scalar c ≡ true →
        goes_on (Quoted Escape) brackets rest ≡ goes_on (Quoted Text) brackets (drop n rest) → (start : Starts (flat_map escaped (encode_utf8 c))) → (within ≡ Text) ⊎ (after_byte (Quoted within) (innermost brackets) start.0 ≡ None) →
        goes_on (Quoted within) brackets (92 ∷ rest) ≡ true
    go more told so_far character leads_to start (inl text) =
        let before : goes_on (Quoted Text) brackets more ≡ true = sym (letter_leads c character brackets more) ∙ subst (λ w. goes_on (Quoted w) brackets (flat_map escaped (encode_utf8 c) ++ more) ≡ true) text so_far in
        subst (λ w. goes_on (Quoted w) brackets (92 ∷ rest) ≡ true) (sym text) (leads_to ∙ later n InString (Quoted Text) brackets more refl told before)
    go more told so_far character leads_to start (inr none) =
        let stops : goes_on (Quoted within) brackets (flat_map escaped (encode_utf8 c) ++ more) ≡ false =
        ap (λ text. goes_on (Quoted within) brackets (text ++ more)) start.2 ∙ ap (is_some_and (λ (step : Next × Change). goes_on step.0 (changed step.1 brackets) (start.1 ++ more))) none in
        absurd (true≢false (sym so_far ∙ stops))

escape_step : (rest : List ℕ) → ((k : ℕ) → Respelled (drop k rest)) → (next : Next) (brackets : List Bracket) (bytes : List ℕ) → is_in_string next ≡ true → spelled_from InString 0 (92 ∷ rest) ≡ Some bytes →
    goes_on next brackets bytes ≡ true → goes_on next brackets (92 ∷ rest) ≡ true
escape_step rest later (Quoted within) brackets bytes may is on = go (escape_at rest) refl is
  where
    go : (o : Option (ℕ × ℕ)) → escape_at rest ≡ o →
        option_and_then (λ (next : Place × ℕ). option_map (λ more. escape_spelled o ++ more) (spelled_from next.0 next.1 rest)) (option_map {U = Place × ℕ} (λ (escape : ℕ × ℕ). (InString, escape.1)) o) ≡ Some bytes → goes_on (Quoted within) brackets (92 ∷ rest) ≡ true
    go None escape is = absurd cc
    go (Some e) escape is = escaped_read rest later within brackets bytes may e.0 e.1 escape is on
escape_step rest later next brackets bytes may is on = absurd cc

-- ---- the whole text

changed_step : (place : Place) (byte : ℕ) (rest : List ℕ) → ((k : ℕ) → Respelled (drop k rest)) → (next : Next) (brackets : List Bracket) (bytes : List ℕ) → may_follow place next ≡ true → is_changed place byte ≡ true →
    spelled_from place 0 (byte ∷ rest) ≡ Some bytes → goes_on next brackets bytes ≡ true → goes_on next brackets (byte ∷ rest) ≡ true
changed_step InString byte rest later next brackets bytes may backslash is on = grind (arith, nat_tests, escape_step)
changed_step InHex byte rest later next brackets bytes may never is on = absurd cc
changed_step place byte rest later next brackets bytes may space is on = spaced_step place byte rest (later 0) next brackets bytes refl may space is on

step : (byte : ℕ) (rest : List ℕ) → ((k : ℕ) → Respelled (drop k rest)) → Respelled (byte ∷ rest)
step byte rest later place next brackets bytes may is on = go (is_changed place byte) refl
  where
    go : (b : Bool) → is_changed place byte ≡ b → goes_on next brackets (byte ∷ rest) ≡ true
    go true differs = changed_step place byte rest later next brackets bytes may differs is on
    go false same = keep place byte rest (later 0) next brackets bytes may same is on

bounded : (most : ℕ) (text : List ℕ) → length text ≤ most → Respelled text
bounded most [] few place next brackets bytes may is on = grind (arith, nat_tests)
bounded zero (byte ∷ rest) few place next brackets bytes may is on = absurd (omega (arith, few))
bounded (suc most) (byte ∷ rest) few place next brackets bytes may is on =
    step byte rest (λ k. bounded most (drop k rest) (rw length-drop (omega (arith, few)))) place next brackets bytes may is on

pub respelled : (text : List ℕ) → Respelled text
respelled text = bounded (length text) text (omega arith)

-- A text whose canonical spelling is that of a type is in the notation.
pub type_respelled : (text : List ℕ) (s : Shape) → widths_written s ≡ true → spelled text ≡ Some (type_text s) → is_type_notation text ≡ true
type_respelled text s written is = respelled text Between Name [] (type_text s) refl is (type_in_notation s written)

-- A text whose canonical spelling is that of rows is in the notation.
pub rows_respelled : (text : List ℕ) (s : Shape) (vs : List RowValue) → list_all (fits s) vs ≡ true → spelled text ≡ Some (text_of s vs) → is_row_notation text ≡ true
rows_respelled text s vs fit is = respelled text Between Rows [] (text_of s vs) refl is (rows_in_notation s vs fit)
